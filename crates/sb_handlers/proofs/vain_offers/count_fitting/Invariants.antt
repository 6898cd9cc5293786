use Rattle.std.proofs.Common.{◌≡◌, ◌++◌, take, drop}
use Rattle.sb_handlers.specs.KeptOffers.{fitting}
use Rattle.sb_handlers.proofs.vain_offers.count_fitting.Given as goal

abbrev pub invariant-loop-one : goal.invariant-loop-one
invariant-loop-one l =
    (l.count ≡ l.one-index) × (fitting l.room l.kept ≡ take l.one-index l.kept ++ fitting l.left (drop l.one-index l.kept))
