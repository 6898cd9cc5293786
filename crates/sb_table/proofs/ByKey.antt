-- A filter that nothing passes.
use Rattle.std.proofs.Common.{◌≡◌, Bool, false, inl, inr, List, [], ◌∷◌, filter, refl, arith}
use Rattle.sb_types.specs.Records.{Entry}
use Rattle.sb_types.specs.Runs.{Stands}

pub none_left : (p : Entry → Bool) (es : List Entry) → ((x : Entry) → Stands es x → p x ≡ false) → filter p es ≡ []
none_left p [] none = refl
none_left p (x ∷ xs) none =
    let first = none x (inl refl) in
    let others = none_left p xs (λ y stands. none y (inr stands)) in
    grind arith
