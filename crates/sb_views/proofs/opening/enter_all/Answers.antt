use Rattle.std.proofs.Common.{rules, ◌∙◌}
use Rattle.sb_types.specs.Runs.{newer_entries}
use Rattle.sb_views.proofs.Beginning.{entering-begins, entering-goes_on, entering-ends, entered-last}
use Rattle.sb_views.proofs.opening.enter_all.Goals as goal

pub loop-entry-init : goal.loop-entry-init
loop-entry-init c =
    entering-begins c.args.owner.now c.args.view.now (newer_entries 0 c.args.table.now.entries) c.into_iter-entry-iterator.result
    (c.into_iter-entry-iterator.ensures.into_iter_gives ∙ c.shared_after-entry-items.ensures.entries)

pub loop-entry-preserved : goal.loop-entry-preserved
loop-entry-preserved c = search (rules, entering-goes_on c.args.owner.now c.args.view.now (newer_entries 0 c.args.table.now.entries) c.loop-entry.view)

pub returns-clause-entered : goal.returns-clause-entered
returns-clause-entered c = search (rules, entering-ends c.args.owner.now c.args.view.now (newer_entries 0 c.args.table.now.entries) c.loop-entry.view)

pub returns-clause-last : goal.returns-clause-last
returns-clause-last c = search (rules, entered-last c.args.owner.now c.args.view.now (newer_entries 0 c.args.table.now.entries) c.loop-entry.view)
