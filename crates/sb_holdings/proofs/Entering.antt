-- To enter entries one by one is to enter them at once.
use Rattle.std.proofs.Common.{◌≡◌, Bool, true, false, cond, not, ◌&&◌, ◌||◌, List, [], ◌∷◌, ◌++◌, filter, refl, sym, ap, ap₂, ◌∙◌, nat_eq, append_assoc, append-nil}
use Rattle.std.proofs.lemmas.Bool.{and_parts, not-true}
use Rattle.std.proofs.lemmas.List.Elements.{filter-append, filter_agree}
use Rattle.std.specs.Cmp.Lexicographic.{pointwise}
use Rattle.sb_types.specs.Records.{Entry}
use Rattle.sb_types.specs.Runs.{has_key, are_distinct, entries_without_keys, entries_after}
use Rattle.sb_holdings.specs.Entering.{entries_after_each}

module _ {X : Type 0} (p q : X → Bool) where
  sifted : (b : Bool) (x : X) (xs : List X) → filter p (cond b (x ∷ xs) xs) ≡ cond (b && p x) (x ∷ filter p xs) (filter p xs)
  sifted true x xs = refl
  sifted false x xs = refl

  pub filter-filter : (xs : List X) → filter p (filter q xs) ≡ filter (λ x. q x && p x) xs
  filter-filter [] = refl
  filter-filter (x ∷ xs) = sifted (q x) x (filter q xs) ∙ ap (λ r. cond (q x && p x) (x ∷ r) r) (filter-filter xs)

neither : (a b : Bool) → (not (a || false) && not b) ≡ not (a || b)
neither true b = refl
neither false b = refl

without_more : (e : Entry) (es entries : List Entry) → entries_without_keys es (entries_without_keys (e ∷ []) entries) ≡ entries_without_keys (e ∷ es) entries
without_more e es entries =
    filter-filter (λ x. not (has_key x.key es)) (λ x. not (has_key x.key (e ∷ []))) entries
    ∙ filter_agree (λ x. not (has_key x.key (e ∷ [])) && not (has_key x.key es)) (λ x. not (has_key x.key (e ∷ es))) (λ x. neither (pointwise nat_eq e.key x.key) (has_key x.key es)) entries

pub without_none : (entries : List Entry) → entries_without_keys [] entries ≡ entries
without_none [] = refl
without_none (x ∷ xs) = ap (λ r. x ∷ r) (without_none xs)

pub one_by_one : (entries others : List Entry) → are_distinct others ≡ true → entries_after_each entries others ≡ entries_after entries others
one_by_one entries [] d = sym (append-nil _ ∙ without_none entries)
one_by_one entries (e ∷ es) d =
    let apart : has_key e.key es ≡ false = not-true _ (and_parts _ _ d).0 in
    let alone : entries_without_keys es (e ∷ []) ≡ e ∷ [] = ap (λ b. cond (not b) (e ∷ []) []) apart in
    one_by_one (entries_after entries (e ∷ [])) es (and_parts _ _ d).1
    ∙ ap (λ r. r ++ es) (filter-append (λ x. not (has_key x.key es)) (entries_without_keys (e ∷ []) entries) (e ∷ []) ∙ ap₂ (λ a b. a ++ b) (without_more e es entries) alone)
    ∙ append_assoc (entries_without_keys (e ∷ es) entries) (e ∷ []) es
