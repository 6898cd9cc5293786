use Rattle.std.proofs.Common.{◌≡◌, ℕ, ◌+◌, List, ap, subst, ◌∙◌}
use Rattle.std.specs.Vec.Iter.{into_iter_items}
use Rattle.sb_views.specs.declared.event.Event.{Event}
use Rattle.sb_directory.specs.Seats.{Seat, Begins}
use Rattle.sb_directory.proofs.Sharing.{IsJoining, joining_goes_on}
use Rattle.sb_directory.proofs.shares.join_all.Goals as goal

pub loop-seat-preserved : goal.loop-seat-preserved
loop-seat-preserved g c =
    let history = c.args.history.now in
    let all = c.args.seats.items in
    let parts = c.loop-seat.all.parts in
    let amount = c.loop-seat.all.amount in
    let same : c.loop-seat.history ≡ history = c.loop-seat.invariant.0 in
    let left = subst (λ (rest : List Seat). IsJoining history all parts amount rest) c.in-Some.ensures.steps.0 c.loop-seat.invariant.1 in
    let begins : Begins history c.in-Some.seat = subst (λ (h : List Event). Begins h c.in-Some.seat) same c.call_at.ensures.begins in (
      c.call_at.ensures.history ∙ same,
      joining_goes_on history all parts amount c.in-Some.seat (into_iter_items c.next.new.self) c.merge.new.self.parts c.merge.new.self.amount left begins
          (c.merge.ensures.parts ∙ ap (λ (n : ℕ). parts + n) c.into_share.ensures.parts) (c.merge.ensures.amount ∙ ap (λ (n : ℕ). amount + n) (c.into_share.ensures.amount ∙ ap (λ (s : Seat). s.events) c.call_at.ensures.last_call)),
    )
