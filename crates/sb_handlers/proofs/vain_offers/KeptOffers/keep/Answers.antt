use Rattle.std.proofs.Common.{rules, sym, subst}
use Rattle.sb_handlers.specs.KeptOffers.{AreFew}
use Rattle.sb_handlers.proofs.KeptOffers.{youngest_are_few}
use Rattle.sb_handlers.proofs.vain_offers.KeptOffers.keep.Goals as goal

pub invariant_of-self : goal.invariant_of-self
invariant_of-self c = record { bounded = subst AreFew (sym c.forget_oldest.ensures) (youngest_are_few c.insert.new.self.items) }
