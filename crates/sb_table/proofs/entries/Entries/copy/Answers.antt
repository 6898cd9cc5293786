use Rattle.std.proofs.Common.{rules, ◌∙◌}
use Rattle.sb_table.proofs.Copying.{copying-begins, copying-goes_on, copying-ends, later, has_room}
use Rattle.sb_table.proofs.entries.Entries.copy.Goals as goal

pub loop-entry-init : goal.loop-entry-init
loop-entry-init c =
    copying-begins c.args.self.now c.new-copy.result c.into_iter-entry-iterator.result c.shared_after-entry-items.ensures.table c.new-copy.ensures.nothing
    (c.into_iter-entry-iterator.ensures.into_iter_gives ∙ c.shared_after-entry-items.ensures.entries)

pub push_shared-requires : goal.push_shared-requires
push_shared-requires c = search (rules, later c.args.self.now c.loop-entry.copy)

pub loop-entry-preserved : goal.loop-entry-preserved
loop-entry-preserved c = search (rules, copying-goes_on c.args.self.now c.loop-entry.copy)

pub returns-in_err-push_shared-clause-copy : goal.returns-in_err-push_shared-clause-copy
returns-in_err-push_shared-clause-copy c = search (rules, has_room c.args.self.now c.loop-entry.copy)

pub returns-clause-copy : goal.returns-clause-copy
returns-clause-copy c = search (rules, copying-ends c.args.self.now c.loop-entry.copy)
