use Rattle.std.proofs.Common.{rules, ◌∙◌}
use Rattle.sb_types.specs.Runs.{newer_entries}
use Rattle.sb_directory.proofs.Noting.{telling-begins, telling-goes_on, telling-ends}
use Rattle.sb_directory.proofs.notes.push_notes_above.Goals as goal

pub loop-entry-init : goal.loop-entry-init
loop-entry-init c =
    telling-begins c.args.owner.now c.args.hub.now (newer_entries c.args.version c.args.table.now.entries) c.into_iter-entry-iterator.result
    (c.into_iter-entry-iterator.ensures.into_iter_gives ∙ c.after-entry-items.ensures.entries)

pub loop-entry-preserved : goal.loop-entry-preserved
loop-entry-preserved c = search (rules, telling-goes_on c.args.owner.now c.args.hub.now (newer_entries c.args.version c.args.table.now.entries) c.loop-entry.hub)

pub returns : goal.returns
returns c = search (rules, telling-ends c.args.owner.now c.args.hub.now (newer_entries c.args.version c.args.table.now.entries) c.loop-entry.hub)
