use Rattle.std.proofs.Common.{◌≡◌, drop}
use Rattle.sb_handlers.specs.Deferring.{least_from, least_times}
use Rattle.sb_handlers.proofs.vain_offers.least_times.Given as goal

-- from the least of those that were looked at, the rest gives what all gives
abbrev pub invariant-loop-offer : goal.invariant-loop-offer
invariant-loop-offer l = least_from l.least (drop l.offer-index l.offers) l.theirs ≡ least_times l.offers l.theirs
