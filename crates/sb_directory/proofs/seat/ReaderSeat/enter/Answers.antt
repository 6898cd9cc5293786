use Rattle.std.proofs.Common.{List, ap, subst}
use mathlib.Core.List.{IsPrefix}
use Rattle.sb_views.specs.declared.event.Event.{Event}
use Rattle.sb_views.proofs.Prefixes.{prefix_trans}
use Rattle.sb_directory.specs.Seats.{Seat}
use Rattle.sb_directory.proofs.seat.ReaderSeat.enter.Goals as goal

pub returns-then-is_prefix_of : goal.returns-then-is_prefix_of
returns-then-is_prefix_of g c =
    let inside = c.self.inside in
    let same = c.self.view_is in
    let seen = prefix_trans inside.seen inside.reader c.in-Ok.entered c.self.invariant.1 c.in-Ok.ensures in
    let known = subst (λ (events : List Event). IsPrefix inside.knowledge events) c.seen.ensures c.if-is_prefix_of.ensures in (
      subst (λ (seat : Seat). IsPrefix seat.seen c.in-Ok.entered) same seen,
      ap (λ (seat : Seat). seat.last_call) same,
      ap (λ (seat : Seat). seat.events) same,
      subst (λ (seat : Seat). IsPrefix seat.knowledge c.in-Ok.entered) same known,
      ap (λ (seat : Seat). seat.knowledge) same,
    )
