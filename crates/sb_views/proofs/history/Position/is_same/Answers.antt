use Rattle.std.proofs.Common.{eq-eqb, ◌≢◌, ◌≡◌, ◌==◌, Bool, true, false, MatchBool, ap, sym, subst, arith, length, List, refl}
use Rattle.std.proofs.lemmas.Bool.Decides.{nat_tests}
use mathlib.Core.List.{IsPrefix}
use Rattle.sb_views.specs.declared.event.Event.{Event}
use Rattle.sb_views.proofs.Prefixes.{prefix_shorter, prefix_whole}
use Rattle.sb_views.proofs.history.Position.is_same.Goals as goal

same_length : (xs ys both : List Event) → IsPrefix xs both → IsPrefix ys both → (b : Bool) → (length xs == length ys) ≡ b
    → MatchBool b (ys ≡ xs) (ys ≢ xs)
same_length xs ys both p q true e =
    let here : length xs ≡ length ys = grind (arith, nat_tests) in
    sym (prefix_whole xs ys (prefix_shorter xs ys both p q (omega arith)) (omega arith))
same_length xs ys both p q false e =
    λ same. (
    let long = ap length same in
    let lengths = eq-eqb (length xs) (length ys) (sym long) in
    absurd (cc)
    )

pub returns : goal.returns
returns c =
    let both = c.learn.new.self.log in
    let this : IsPrefix c.self.inside.seen.log both = subst (λ (l : List Event). IsPrefix l both) (ap (λ s. s.log) c.again-both.ensures) c.learn.ensures.2 in
    rw (← c.self.view_is, ← c.other.view_is, c.self.invariant, c.other.invariant) (same_length c.self.inside.seen.log c.other.inside.seen.log both this c.learn.ensures.3 _ refl)
