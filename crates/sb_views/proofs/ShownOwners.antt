-- Owners that are held above version 0, one by one.
use Rattle.std.proofs.Common.{◌≡◌, ℕ, ◌≤◌, ◌<◌, ◌^◌, true, false, List, [], ◌∷◌, filter, length, nat_lt, arith}
use Rattle.std.proofs.lemmas.Bool.{cond-true, cond-false}
use Rattle.sb_views.specs.NodeViews.{OwnerView, shown_owners}

pub first_unshown : (p : List ℕ × OwnerView) (ps : List (List ℕ × OwnerView)) → nat_lt 0 p.1.upto ≡ false → shown_owners (p ∷ ps) ≡ shown_owners ps
first_unshown p ps none = cond-false (nat_lt 0 p.1.upto) (p ∷ shown_owners ps) (shown_owners ps) none

pub first_shown : (p : List ℕ × OwnerView) (ps : List (List ℕ × OwnerView)) → nat_lt 0 p.1.upto ≡ true → shown_owners (p ∷ ps) ≡ p ∷ shown_owners ps
first_shown p ps some = cond-true (nat_lt 0 p.1.upto) (p ∷ shown_owners ps) (shown_owners ps) some

no_more : (ps : List (List ℕ × OwnerView)) → length (shown_owners ps) ≤ length ps
no_more [] = omega arith
no_more (p ∷ ps) = grind (arith, no_more ps)

pub few_shown : (ps : List (List ℕ × OwnerView)) → length ps < 2 ^ 63 → length (shown_owners ps) < 2 ^ 63
few_shown ps few = omega (arith, few, no_more ps)
