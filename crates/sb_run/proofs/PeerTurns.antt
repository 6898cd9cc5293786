-- In how many turns each peer has its own.
use Rattle.std.proofs.Common.{◌≡◌, ℕ, zero, suc, ◌+◌, ◌-◌, ◌<◌, ◌≤◌, ◌⊎◌, inl, inr, refl, ap, ap₂, ◌∙◌, arith}
use Rattle.std.proofs.lemmas.Bool.{lt-ltb, le-ltb, cond-true, cond-false, cases_lt}
use Rattle.sb_run.specs.Turns.{turn_of, turn_after}

turn_is : (count turn : ℕ) → turn < count → turn_of count turn ≡ turn
turn_is count turn less = cond-true _ _ _ (lt-ltb turn count less)

turn_past : (count turn : ℕ) → count ≤ turn → turn_of count turn ≡ 0
turn_past count turn past = cond-false _ _ _ (le-ltb turn count past)

-- until the last, one comes after the other
up_to : (count turn more : ℕ) → turn + more < count → turn_after count turn more ≡ turn + more
up_to count turn zero less = turn_is count turn (omega (arith, less)) ∙ omega arith
up_to count turn (suc more) less =
    ap (λ (t : ℕ). turn_after count (t + 1) more) (turn_is count turn (omega (arith, less)))
    ∙ up_to count (turn + 1) more (omega (arith, less))
    ∙ omega arith

-- after the last comes the first
from_end : (count turn index : ℕ) → count ≤ turn → index < count → turn_after count turn index ≡ index
from_end count turn zero past less = turn_past count turn past
from_end count turn (suc index) past less =
    ap (λ (t : ℕ). turn_after count (t + 1) index) (turn_past count turn past) ∙ up_to count 1 index (omega (arith, less)) ∙ omega arith

-- so many come after the one whose turn it is, and then the first
around : (left count turn index more : ℕ) → turn + suc left ≡ count → index < count → more ≡ left + index → turn_after count turn (suc more) ≡ index
around zero count turn index more all less is =
    let same : more ≡ index = omega (arith, is) in
    ap (λ (t : ℕ). turn_after count (t + 1) more) (turn_is count turn (omega (arith, all)))
    ∙ ap (λ (m : ℕ). turn_after count (turn + 1) m) same
    ∙ from_end count (turn + 1) index (omega (arith, all)) less
around (suc left) count turn index more all less is =
    let behind : more ≡ suc (left + index) = omega (arith, is) in
    ap (λ (t : ℕ). turn_after count (t + 1) more) (turn_is count turn (omega (arith, all)))
    ∙ ap (λ (m : ℕ). turn_after count (turn + 1) m) behind
    ∙ around left count (turn + 1) index (left + index) (omega (arith, all)) less refl

-- each has its turn within as many turns as there are
by_cases : (count turn index : ℕ) → index < count → (index < turn) ⊎ (turn ≤ index) → (turn < count) ⊎ (count ≤ turn)
    → (more : ℕ) × (more < count) × (turn_after count turn more ≡ index)
by_cases count turn index less (inl before) (inl inside) =
    (suc ((count - turn - 1) + index), omega arith, around (count - turn - 1) count turn index ((count - turn - 1) + index) (omega arith) less refl)
by_cases count turn index less (inl before) (inr past) = (index, less, from_end count turn index past less)
by_cases count turn index less (inr here) second = (index - turn, omega arith, up_to count turn (index - turn) (omega arith) ∙ omega arith)

pub within_all : (count turn index : ℕ) → index < count → (more : ℕ) × (more < count) × (turn_after count turn more ≡ index)
within_all count turn index less = by_cases count turn index less (cases_lt index turn) (cases_lt turn count)
