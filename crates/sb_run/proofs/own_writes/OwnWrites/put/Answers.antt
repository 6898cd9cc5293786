use Rattle.std.proofs.Common.{refl, ap, ◌∙◌}
use Rattle.sb_types.specs.Records.{Entry}
use Rattle.sb_run.proofs.Handing.{taken_from, turned_from, handed_on, event_called, known_later}
use Rattle.sb_run.proofs.own_writes.OwnWrites.put.Goals as goal

pub returns-in-Ok-clause-stored : goal.returns-in-Ok-clause-stored
returns-in-Ok-clause-stored g c =
    let kept = c.in_ok-committed.committed in
    let is = c.in-Ok.ensures in
    record {
      committed = kept;
      puts = rw c.hand_in.ensures.log at c.in_ok-committed.ensures.puts;
      version = is.version;
      passes = (
        c.keep.ensures.owed ∙ c.in_ok-hand_in.ensures.owed,
        taken_from g.S.NodeTag.opening c.args.seat.now c.hand_in.new.seat kept c.in-Ok.receipt c.take_own.new.seat c.hand_in.ensures.later (is.event, is.shown),
      );
    }

pub returns-in-Err-clause-stored : goal.returns-in-Err-clause-stored
returns-in-Err-clause-stored g c =
    let kept = c.in_ok-committed.committed in
    let is = c.in-Err.ensures in
    record {
      committed = kept;
      puts = rw c.hand_in.ensures.log at c.in_ok-committed.ensures.puts;
      version = c.version-version.ensures.version ∙ ap (λ (e : Entry). e.version) c.entry.ensures.entry;
      passes = (
        refl,
        turned_from g.S.NodeTag.opening c.args.seat.now c.hand_in.new.seat kept c.in-Err.fault c.take_own.new.seat c.hand_in.ensures.later (is.begins, is.refused),
      );
    }

pub returns-in-Err-clause-later : goal.returns-in-Err-clause-later
returns-in-Err-clause-later g c =
    known_later c.args.seat.now c.hand_in.new.seat c.take_own.new.seat c.hand_in.ensures.later c.in-Err.ensures.begins c.in-Err.ensures.seat

pub returns-in-Ok-clause-handed : goal.returns-in-Ok-clause-handed
returns-in-Ok-clause-handed g c =
    handed_on g.S.NodeTag.opening c.args.seat.now c.args.self.now.owed c.hand_in.new.seat c.take_own.new.seat (event_called _ _ c.hand_in.new.seat c.take_own.new.seat c.in-Ok.ensures.event)
    c.in_ok-hand_in.ensures.handed

pub returns-in-Err-clause-handed : goal.returns-in-Err-clause-handed
returns-in-Err-clause-handed g c =
    handed_on g.S.NodeTag.opening c.args.seat.now c.args.self.now.owed c.hand_in.new.seat c.take_own.new.seat c.in-Err.ensures.begins.last_call c.in_ok-hand_in.ensures.handed
