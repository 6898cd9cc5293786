use Rattle.std.proofs.Common.{◌<◌, sym, subst}
use Rattle.sb_table.specs.Plain.{IsPlainTable, is_full_for}
use Rattle.sb_table.proofs.Keeping.{had_room, kept-pushed, plain-pushed}
use Rattle.sb_table.proofs.table.Table.push_shared.Goals as goal

pub invariant_of-self : goal.invariant_of-self
invariant_of-self c =
    let later : c.self.inside.upto < c.args.entry.now.version = rw (← c.self.view_is) at c.requires in
    let room = had_room c.push_shared_later.result (is_full_for c.args.entry.now.key c.self.inside.entries.entries) c.push_shared_later.ensures.answer in
    kept-pushed c.push_shared_later.result c.self.inside.entries c.push_shared_later.new.entries c.args.entry.now c.self.inside.upto c.self.inside.floor c.push_shared_later.new.upto
    c.push_shared_later.ensures.ok c.push_shared_later.ensures.err c.self.invariant later room

pub returns-clause-table : goal.returns-clause-table
returns-clause-table c = invariant_of-self c

pub returns-clause-plain : goal.returns-clause-plain
returns-clause-plain c plain =
    let later : c.self.inside.upto < c.args.entry.now.version = rw (← c.self.view_is) at c.requires in
    let room = had_room c.push_shared_later.result (is_full_for c.args.entry.now.key c.self.inside.entries.entries) c.push_shared_later.ensures.answer in
    plain-pushed c.push_shared_later.result c.self.inside.entries c.push_shared_later.new.entries c.args.entry.now c.self.inside.upto c.self.inside.floor c.push_shared_later.new.upto
    c.push_shared_later.ensures.ok c.push_shared_later.ensures.err (subst IsPlainTable (sym c.self.view_is) plain) later room
