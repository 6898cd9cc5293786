use Rattle.std.proofs.Common.{◌≡◌, ℕ, List, [], ◌∷◌, ◌++◌, ap, subst, ◌∙◌}
use Rattle.std.specs.Vec.Iter.{into_iter_items}
use Rattle.sb_views.specs.declared.event.Event.{Event}
use Rattle.sb_directory.specs.Seats.{Seat, new_seat}
use Rattle.sb_directory.proofs.Sharing.{IsSeating, seating_goes_on}
use Rattle.sb_directory.proofs.shares.seat_all.Goals as goal

pub loop-reader-preserved : goal.loop-reader-preserved
loop-reader-preserved g c =
    let all = c.args.readers.items in
    let parts = c.args.rest.now.parts in
    let most = c.loop-reader.rest.parts in
    let amount = c.loop-reader.rest.amount in
    let seats = c.loop-reader.seats.items in
    let seen = c.in-Some.reader in
    let left = subst (λ (rest : List (List Event)). IsSeating all parts most amount seats rest) c.in-Some.ensures.steps.0 c.loop-reader.invariant in
    let seat : c.new.result ≡ new_seat seen = c.new.ensures ∙ ap (λ (n : ℕ). record { seen = seen; knowledge = seen; last_call = seen; events = n }) c.split_off-share.ensures.amount in
    seating_goes_on all parts most amount seats seen (into_iter_items c.next.new.self) c.split_off-share.new.self.parts c.split_off-share.new.self.amount c.push.new.self.items
    left c.split_off-share.ensures.parts_left c.split_off-share.ensures.amount_left (c.in_ok-push.ensures.items ∙ ap (λ (s : Seat). seats ++ s ∷ []) seat)
