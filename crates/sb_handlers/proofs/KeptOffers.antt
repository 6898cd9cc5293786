-- What is kept of many askers is no more than a node keeps.
use Rattle.std.proofs.Common.{◌≡◌, ◌≤◌, ◌+◌, ◌-◌, ℕ, Bool, true, false, nat_le, if◌then◌else◌, refl, sym, subst, List, [], ◌∷◌, take, length, rules, arith}
use Rattle.std.proofs.lemmas.Bool.Decides.{nat_tests}
use Rattle.std.proofs.lemmas.Grind.{common_steps}
use Rattle.std.proofs.lemmas.List.Sums.{sum_by-cons}
use Rattle.std.specs.Prelude.{sum_by}
use Rattle.sb_types.specs.declared.limits.TheConstants.{OWNERS_MOST}
use Rattle.sb_handlers.specs.declared.vain_offers.AskerOffers.{AskerOffers}
use Rattle.sb_handlers.specs.declared.vain_offers.TheConstants.{OFFERS_MOST}
use Rattle.sb_handlers.specs.KeptOffers.{offer_count, fitting, youngest, AreFew}

fitting_is_short : (room : ℕ) (kept : List AskerOffers) → length (fitting room kept) ≤ length kept
fitting_is_short room [] = search rules
fitting_is_short room (a ∷ os) = grind (arith, nat_tests, fitting_is_short (room - offer_count a) os)

sums_up : (room first rest : ℕ) → nat_le first room ≡ true → rest ≤ room - first → first + rest ≤ room
sums_up room first rest has_room few = grind (arith, nat_tests, has_room, few)

few_with : (b : Bool) (room : ℕ) (a : AskerOffers) (rest : List AskerOffers) → nat_le (offer_count a) room ≡ b → sum_by offer_count rest ≤ room - offer_count a
    → sum_by offer_count (if b then a ∷ rest else []) ≤ room
few_with true room a rest has_room few =
    subst (λ sum. sum ≤ room) (sym (sum_by-cons offer_count a rest)) (sums_up room (offer_count a) (sum_by offer_count rest) has_room few)
few_with false room a rest none few = search rules

fitting_is_few : (room : ℕ) (kept : List AskerOffers) → sum_by offer_count (fitting room kept) ≤ room
fitting_is_few room [] = search rules
fitting_is_few room (a ∷ os) =
    few_with (nat_le (offer_count a) room) room a (fitting (room - offer_count a) os) refl (fitting_is_few (room - offer_count a) os)

taken_is_short : (most : ℕ) (kept : List AskerOffers) → length (take most kept) ≤ most
taken_is_short most kept = grind (arith, common_steps)

pub youngest_are_few : (kept : List AskerOffers) → AreFew (youngest kept)
youngest_are_few kept =
    let short : length (youngest kept) ≤ OWNERS_MOST = grind (arith, fitting_is_short OFFERS_MOST (take OWNERS_MOST kept), taken_is_short OWNERS_MOST kept) in
    (short, fitting_is_few OFFERS_MOST (take OWNERS_MOST kept))
