-- What is reached from a start on is all that begins so.
use Rattle.std.proofs.Common.{◌≡◌, ℕ, Bool, true, false, List, [], ◌∷◌, map, filter, nat_eq, Some, refl, sym, ap, ◌∙◌}
use Rattle.std.proofs.lemmas.Bool.{false≢true}
use Rattle.std.proofs.lemmas.Cmp.{nat_list_cmp_total, tied_itself}
use Rattle.std.specs.List.{AllByRecursion, starts_with}
use Rattle.std.specs.List.Sorted.{IsStrictlySortedBy}
use Rattle.std.specs.Map.{keys_of}
use Rattle.std.specs.Ordering.{is_lt, is_le}
use Rattle.std.specs.declared.cmp.Ordering.TheVariants.{Less}
use Rattle.sb_types.specs.Value.{Value}
use Rattle.sb_types.proofs.Texts.{text_lt-back, starts-behind, starts-between}
use Rattle.sb_views.specs.LiveRows.{LiveRow, row_at, live_rows_under, is_behind}
use Rattle.sb_views.proofs.ByText.{by_text, Ascend}

module _ (owner prefix : List ℕ) where
  abbrev begins : List ℕ × (Value × ℕ) → Bool
  begins p = starts_with nat_eq p.0 prefix

  none-case : (key : List ℕ) → is_le (by_text prefix key) ≡ true → starts_with nat_eq key prefix ≡ false
      → (p : List ℕ × (Value × ℕ)) (ps : List (List ℕ × (Value × ℕ))) → by_text key p.0 ≡ Less → filter begins ps ≡ []
      → (b : Bool) → begins p ≡ b → filter begins (p ∷ ps) ≡ []
  none-case key from not p ps later rest true is =
      absurd (false≢true (sym not ∙ starts-between prefix key p.0 from (text_lt-back key p.0 (ap is_lt later)) is))
  none-case key from not p ps later rest false is = rw is rest

  -- behind a key that does not begin so, none does
  none-later : (key : List ℕ) → is_le (by_text prefix key) ≡ true → starts_with nat_eq key prefix ≡ false
      → (ps : List (List ℕ × (Value × ℕ))) → AllByRecursion (λ k. by_text key k ≡ Less) (keys_of ps) → filter begins ps ≡ []
  none-later key from not [] behind = refl
  none-later key from not (p ∷ ps) behind = none-case key from not p ps behind.0 (none-later key from not ps behind.1) (begins p) refl

  module _ (test : List ℕ → Bool) (from : (key : List ℕ) → test key ≡ is_le (by_text prefix key)) where
    reached-case : (p : List ℕ × (Value × ℕ)) (ps : List (List ℕ × (Value × ℕ))) → AllByRecursion (λ k. by_text p.0 k ≡ Less) (keys_of ps)
        → live_rows_under owner prefix (filter (λ q. test q.0) ps) ≡ map (row_at owner) (filter begins ps)
        → (t b : Bool) → test p.0 ≡ t → begins p ≡ b
        → live_rows_under owner prefix (filter (λ q. test q.0) (p ∷ ps)) ≡ map (row_at owner) (filter begins (p ∷ ps))
    reached-case p ps behind rest true true is starts = rw (is, starts) (ap (λ (rows : List LiveRow). row_at owner p ∷ rows) rest)
    reached-case p ps behind rest true false is starts =
        rw (is, starts) (ap (map (row_at owner)) (sym (none-later p.0 (sym (from p.0) ∙ is) starts ps behind)))
    reached-case p ps behind rest false true is starts =
        let least : is_le (by_text prefix p.0) ≡ true = starts-behind p.0 prefix starts in
        absurd (false≢true (sym is ∙ from p.0 ∙ least))
    reached-case p ps behind rest false false is starts = rw (is, starts) rest

    pub reached-filter : (es : List (List ℕ × (Value × ℕ))) → Ascend es → live_rows_under owner prefix (filter (λ q. test q.0) es) ≡ map (row_at owner) (filter begins es)
    unfolding IsStrictlySortedBy
    reached-filter [] up = refl
    reached-filter (p ∷ ps) up = reached-case p ps up.0 (reached-filter ps up.1) (test p.0) (begins p) refl refl

  module _ (key : List ℕ) (test : List ℕ → Bool) (from : (k : List ℕ) → test k ≡ true → is_le (by_text prefix k) ≡ true)
      (behind : (k : List ℕ) → starts_with nat_eq k prefix ≡ true → test k ≡ is_lt (by_text key k)) where
    abbrev left : List (List ℕ × (Value × ℕ)) → List LiveRow
    left es = filter (λ row. is_behind (Some (owner, key)) row) (map (row_at owner) (filter begins es))

    -- of the owner itself those stand behind the place that stand behind its key
    own-behind : (p : List ℕ × (Value × ℕ)) → is_behind (Some (owner, key)) (row_at owner p) ≡ is_lt (by_text key p.0)
    own-behind p = rw (tied_itself nat_list_cmp_total owner) refl

    behind-case : (p : List ℕ × (Value × ℕ)) (ps : List (List ℕ × (Value × ℕ))) → AllByRecursion (λ k. by_text p.0 k ≡ Less) (keys_of ps)
        → live_rows_under owner prefix (filter (λ q. test q.0) ps) ≡ left ps
        → (t b : Bool) → test p.0 ≡ t → begins p ≡ b
        → live_rows_under owner prefix (filter (λ q. test q.0) (p ∷ ps)) ≡ left (p ∷ ps)
    behind-case p ps later rest true true is starts =
        let stands : is_behind (Some (owner, key)) (row_at owner p) ≡ true = own-behind p ∙ sym (behind p.0 starts) ∙ is in
        rw (is, starts, stands) (ap (λ (rows : List LiveRow). row_at owner p ∷ rows) rest)
    behind-case p ps later rest true false is starts =
        rw (is, starts) (ap (λ (qs : List (List ℕ × (Value × ℕ))). filter (λ row. is_behind (Some (owner, key)) row) (map (row_at owner) qs)) (sym (none-later p.0 (from p.0 is) starts ps later)))
    behind-case p ps later rest false true is starts =
        let passed : is_behind (Some (owner, key)) (row_at owner p) ≡ false = own-behind p ∙ sym (behind p.0 starts) ∙ is in
        rw (is, starts, passed) rest
    behind-case p ps later rest false false is starts = rw (is, starts) rest

    -- what is reached from a start behind the key is all that begins so and stands behind it
    pub reached-behind : (es : List (List ℕ × (Value × ℕ))) → Ascend es → live_rows_under owner prefix (filter (λ q. test q.0) es) ≡ left es
    unfolding IsStrictlySortedBy
    reached-behind [] up = refl
    reached-behind (p ∷ ps) up = behind-case p ps up.0 (reached-behind ps up.1) (test p.0) (begins p) refl refl
