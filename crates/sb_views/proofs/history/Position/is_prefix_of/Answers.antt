use Rattle.std.proofs.Common.{◌≡◌, ◌<◌, Bool, true, false, nat_le, leb-true, leb-false, MatchBool, ap, subst, arith, length, List, refl}
use mathlib.Core.List.{IsPrefix}
use Rattle.sb_views.specs.declared.event.Event.{Event}
use Rattle.sb_views.specs.Histories.{IsLonger}
use Rattle.sb_views.proofs.Prefixes.{prefix_shorter}
use Rattle.sb_views.proofs.history.Position.is_prefix_of.Goals as goal

one_begins : (xs ys both : List Event) → IsPrefix xs both → IsPrefix ys both → (b : Bool) → nat_le (length xs) (length ys) ≡ b
    → MatchBool b (IsPrefix xs ys) (IsLonger ys xs)
one_begins xs ys both p q true e = prefix_shorter xs ys both p q (leb-true (length xs) (length ys) e)
one_begins xs ys both p q false e =
    let lt : length ys < length xs = leb-false (length xs) (length ys) e in
    (prefix_shorter ys xs both q p (omega (arith, lt)), lt)

pub returns : goal.returns
returns c =
    let both = c.learn.new.self.log in
    let this : IsPrefix c.self.inside.seen.log both = subst (λ (l : List Event). IsPrefix l both) (ap (λ s. s.log) c.again-both.ensures) c.learn.ensures.2 in
    rw (← c.self.view_is, ← c.other.view_is, c.self.invariant, c.other.invariant) (one_begins c.self.inside.seen.log c.other.inside.seen.log both this c.learn.ensures.3 _ refl)
