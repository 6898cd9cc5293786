-- The owners of a list, each once, in ascending order of their names.
use Rattle.std.proofs.Common.{◌≡◌, ℕ, List, [], ◌∷◌, filter, ◌⊎◌, inl, inr, ⊎_elim, refl, subst, ◌∙◌, Ordering, Less, Equal, Greater, nat_eq}
use Rattle.std.specs.Prelude.{fold}
use Rattle.std.specs.Ordering.{match_ordering}
use Rattle.std.specs.Cmp.Lexicographic.{pointwise}
use Rattle.std.proofs.lemmas.Bool.{cond-false, false_from_ne_true}
use Rattle.sb_types.specs.Runs.{Stands}
use Rattle.sb_types.proofs.Standing.{kept}
use Rattle.sb_types.proofs.Texts.{same_text, text_same}
use Rattle.sb_budget.specs.Cut.{with_name}
use Rattle.sb_budget.proofs.PlaceLemmas.{text_cmp, same_from_Equal}

-- ---- which names there are

name_there : (name : List ℕ) (ns : List (List ℕ)) → Stands (with_name name ns) name
name_there name [] = inl refl
name_there name (n ∷ ns) = go (text_cmp n name) refl (name_there name ns)
  where
    go : (r : Ordering) → text_cmp n name ≡ r → Stands (with_name name ns) name → Stands (match_ordering r (n ∷ with_name name ns) (n ∷ ns) (name ∷ n ∷ ns)) name
    go Less e rest = inr rest
    go Equal e rest = inl (same_from_Equal n name e)
    go Greater e rest = inl refl

names_stay : (name : List ℕ) (ns : List (List ℕ)) (m : List ℕ) → Stands ns m → Stands (with_name name ns) m
names_stay name [] m s = absurd s
names_stay name (n ∷ ns) m s = go (text_cmp n name) s (names_stay name ns m)
  where
    go : (r : Ordering) → Stands (n ∷ ns) m → (Stands ns m → Stands (with_name name ns) m) → Stands (match_ordering r (n ∷ with_name name ns) (n ∷ ns) (name ∷ n ∷ ns)) m
    go Less (inl p) rest = inl p
    go Less (inr s) rest = inr (rest s)
    go Equal s rest = s
    go Greater s rest = inr s

no_other_name : (name : List ℕ) (ns : List (List ℕ)) (m : List ℕ) → Stands (with_name name ns) m → (name ≡ m) ⊎ Stands ns m
no_other_name name [] m (inl p) = inl p
no_other_name name [] m (inr s) = absurd s
no_other_name name (n ∷ ns) m s = go (text_cmp n name) s (no_other_name name ns m)
  where
    go : (r : Ordering) → Stands (match_ordering r (n ∷ with_name name ns) (n ∷ ns) (name ∷ n ∷ ns)) m → (Stands (with_name name ns) m → (name ≡ m) ⊎ Stands ns m) → (name ≡ m) ⊎ Stands (n ∷ ns) m
    go Less (inl p) rest = inr (inl p)
    go Less (inr s) rest = ⊎_elim inl (λ t. inr (inr t)) (rest s)
    go Equal s rest = inr s
    go Greater (inl p) rest = inl p
    go Greater (inr s) rest = inr s

-- the owners of a list of things, each with its owner
module _ {X : Type 0} (owner_of : X → List ℕ) where
  abbrev names_from : List (List ℕ) → List X → List (List ℕ)
  names_from ns xs = fold (λ names x. with_name (owner_of x) names) ns xs

  abbrev pub those_of : List ℕ → List X → List X
  those_of owner xs = filter (λ x. pointwise nat_eq (owner_of x) owner) xs

  all_stay : (ns : List (List ℕ)) (xs : List X) (m : List ℕ) → Stands ns m → Stands (names_from ns xs) m
  all_stay ns [] m s = s
  all_stay ns (x ∷ xs) m s = all_stay (with_name (owner_of x) ns) xs m (names_stay (owner_of x) ns m s)

  pub each_named : (ns : List (List ℕ)) (xs : List X) (x : X) → Stands xs x → Stands (names_from ns xs) (owner_of x)
  each_named ns [] y s = absurd s
  each_named ns (x ∷ xs) y (inl p) = all_stay (with_name (owner_of x) ns) xs (owner_of y) (subst (λ (z : X). Stands (with_name (owner_of x) ns) (owner_of z)) p (name_there (owner_of x) ns))
  each_named ns (x ∷ xs) y (inr s) = each_named (with_name (owner_of x) ns) xs y s

  named_by : (ns : List (List ℕ)) (xs : List X) (m : List ℕ) → Stands (names_from ns xs) m → Stands ns m ⊎ ((x : X) × Stands xs x × (owner_of x ≡ m))
  named_by ns [] m s = inl s
  named_by ns (x ∷ xs) m s =
      ⊎_elim (λ t. ⊎_elim (λ p. inr (x, inl refl, p)) inl (no_other_name (owner_of x) ns m t))
      (λ t. inr (t.0, inr t.1, t.2))
      (named_by (with_name (owner_of x) ns) xs m s)

  none_of : (owner : List ℕ) (xs : List X) → ((x : X) → Stands xs x → owner_of x ≡ owner → ⊥) → those_of owner xs ≡ []
  none_of owner [] no_such = refl
  none_of owner (x ∷ xs) no_such =
      cond-false _ _ _ (false_from_ne_true _ (λ t. no_such x (inl refl) (same_text (owner_of x) owner t)))
      ∙ none_of owner xs (λ y s. no_such y (inr s))

  pub some_of : (owner : List ℕ) (xs : List X) (x : X) → Stands xs x → owner_of x ≡ owner → Stands (those_of owner xs) x
  some_of owner xs x s same = kept (λ y. pointwise nat_eq (owner_of y) owner) xs x s (text_same (owner_of x) owner same)

  -- an owner that is not named has nothing
  pub unnamed_none : (xs : List X) (owner : List ℕ) → (Stands (names_from [] xs) owner → ⊥) → those_of owner xs ≡ []
  unnamed_none xs owner unnamed = none_of owner xs (λ x s same. unnamed (subst (Stands (names_from [] xs)) same (each_named [] xs x s)))

  -- a named owner has something
  pub named_some : (xs : List X) (owner : List ℕ) → Stands (names_from [] xs) owner → (x : X) × Stands (those_of owner xs) x
  named_some xs owner s = ⊎_elim (λ none. absurd none) (λ t. (t.0, some_of owner xs t.0 t.1 t.2)) (named_by [] xs owner s)
