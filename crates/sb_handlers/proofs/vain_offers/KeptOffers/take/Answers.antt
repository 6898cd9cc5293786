use Rattle.std.proofs.Common.{rules, refl}
use Rattle.sb_handlers.proofs.vain_offers.KeptOffers.take.Goals as goal

pub returns-clause-taken : goal.returns-clause-taken
returns-clause-taken c = (c.in_ok-place.place, c.remove-offers.result, search rules, search rules, refl)
