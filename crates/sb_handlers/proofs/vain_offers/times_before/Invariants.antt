use Rattle.std.proofs.Common.{◌≡◌, drop}
use Rattle.sb_handlers.specs.Deferring.{times_before}
use Rattle.sb_handlers.proofs.vain_offers.times_before.Given as goal

-- those that were looked at are of other owners
abbrev pub invariant-loop-offer : goal.invariant-loop-offer
invariant-loop-offer l = times_before (drop l.offer-index l.offers) l.owner ≡ times_before l.offers l.owner
