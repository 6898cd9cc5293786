use Rattle.std.proofs.Common.{◌<◌}
use Rattle.sb_table.specs.Plain.{is_full_for}
use Rattle.sb_table.proofs.Keeping.{had_room, kept-stage_pushed}
use Rattle.sb_table.proofs.stage.Stage.push_shared.Goals as goal

pub invariant_of-self : goal.invariant_of-self
invariant_of-self c =
    let later : c.self.inside.progress < c.args.entry.now.version = rw (← c.self.view_is) at c.requires in
    let room = had_room c.push_shared_later.result (is_full_for c.args.entry.now.key c.self.inside.entries.entries) c.push_shared_later.ensures.answer in
    kept-stage_pushed c.push_shared_later.result c.self.inside.entries c.push_shared_later.new.entries c.args.entry.now c.self.inside.progress c.self.inside.floor c.push_shared_later.new.upto
    c.push_shared_later.ensures.ok c.push_shared_later.ensures.err c.self.invariant later room

pub returns-clause-stage : goal.returns-clause-stage
returns-clause-stage c = invariant_of-self c
