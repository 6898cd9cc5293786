use Rattle.std.proofs.Common.{◌≡◌, None, sym}
use Rattle.sb_views.specs.Histories.{node_after}
use Rattle.sb_views.proofs.Prefixes.{prefix_self}
use Rattle.sb_directory.specs.Handling.{later-on, later-same}
use Rattle.sb_run.proofs.Handing.{handed_from, event_called, event_later, known_later}
use Rattle.sb_run.proofs.own_writes.OwnWrites.hand_in.Goals.{in-Some-owed+in_ok-take_own, in_default-owed}
use Rattle.sb_run.proofs.own_writes.OwnWrites.hand_in.Goals as goal

pub returns-clause-free : goal.returns-clause-free
returns-clause-free g c =
    let asked = c.conflict.new.seat in
    let none : (node_after g.S.NodeTag.opening asked.last_call).conflict ≡ None = sym c.in_default.ensures.answer in
    elim c.match-self.branch [
      | in-Some-owed+in_ok-take_own w ↦
          rw w.seat-is (asked.last_call, c.in_default.ensures.begins, event_called _ _ asked w.take_own.new.seat w.in_ok-take_own.ensures.event, none)
      | in_default-owed w ↦ rw w.seat-is (asked.last_call, c.in_default.ensures.begins, prefix_self asked.last_call, none)
    ]

pub returns-clause-later : goal.returns-clause-later
returns-clause-later g c =
    let before = c.args.seat.now in
    let asked = c.conflict.new.seat in
    let later = known_later before before asked (later-same before) c.in_default.ensures.begins c.in_default.ensures.seat in
    elim c.match-self.branch [
      | in-Some-owed+in_ok-take_own w ↦
          let is = w.in_ok-take_own.ensures in
          rw w.seat-is (later-on before asked w.take_own.new.seat later (event_later _ _ asked w.take_own.new.seat is.grows is.event is.count))
      | in_default-owed w ↦ rw w.seat-is later
    ]

pub returns-clause-handed : goal.returns-clause-handed
returns-clause-handed g c =
    let opening = g.S.NodeTag.opening in
    let before = c.args.seat.now in
    let asked = c.conflict.new.seat in
    let later = known_later before before asked (later-same before) c.in_default.ensures.begins c.in_default.ensures.seat in
    elim c.match-self.branch [
      | in-Some-owed+in_ok-take_own w ↦
          rw w.seat-is (rw w.in-Some-owed.is (handed_from opening w.in-Some-owed.committed before asked w.take_own.new.seat later w.in_ok-take_own.ensures.event))
      | in_default-owed w ↦ rw w.seat-is (rw w.in_default-owed.is tt)
    ]
