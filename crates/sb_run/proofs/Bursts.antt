-- The peers of a burst, one after another.
use Rattle.std.proofs.Common.{◌≡◌, ℕ, ◌+◌, ◌≤◌, List, ◌∷◌, length, Option, Some, None, IfSome, refl, sym, subst, arith}
use Rattle.sb_run.specs.declared.schedule.Delivery.{Delivery}
use Rattle.sb_run.specs.Deliveries.{Changes, ExpectInTurn, with_news}

-- one more peer is due, or none is left
pub expects_on : (first old new : List Delivery) (count : ℕ) (next : Option ℕ)
    → ((dialed : List ℕ) × (length dialed ≤ count) × ExpectInTurn dialed first old)
    → (next ≡ None → new ≡ old) → IfSome next (λ index. Changes index with_news old new)
    → (dialed : List ℕ) × (length dialed ≤ count + 1) × ExpectInTurn dialed first new
expects_on first old new count None (dialed, few, before) same some =
    (dialed, omega arith, subst (λ (now : List Delivery). ExpectInTurn dialed first now) (sym (same refl)) before)
expects_on first old new count (Some index) (dialed, few, before) same some = (index ∷ dialed, omega arith, (old, before, some))
