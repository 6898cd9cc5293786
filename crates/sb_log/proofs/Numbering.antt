-- That no rowid stands twice, row by row.
use Rattle.std.proofs.Common.{◌≡◌, ◌≤◌, ◌<◌, ◌+◌, ℕ, zero, suc, ℤ, Bool, true, false, not, cond, ◌||◌, true≢false, List, [], ◌∷◌, ◌++◌, length, get_or, take, filter, refl, sym, ap, subst, ◌∙◌, arith, int_cmp, is_eq}
use Rattle.std.specs.List.{list_any}
use Rattle.std.proofs.lemmas.List.{take_more}
use Rattle.std.proofs.lemmas.List.Filters.{length-filter_more}
use Rattle.std.proofs.lemmas.List.Folds.{list_any-append}
use Rattle.sqlite_value.specs.declared.value.Value.{Value}
use Rattle.sqlite_value.specs.declared.value.Value.TheVariants.{Int}
use Rattle.sqlite_value.specs.Order.{Row, value_cmp}
use Rattle.sqlite_value.proofs.OrderLemmas.{value_cmp-Int}
use Rattle.sqlite_trees.specs.Tree.{rowid, has_rowid}
use Rattle.sqlite_trees.specs.View.{is_int}
use Rattle.sqlite_rules.specs.Lists.{Has}
use Rattle.sqlite_rules.proofs.ListLemmas.{all_has, has_at, has_kept, some_has}
use Rattle.sb_log.specs.Rows.{AreNumbered, AreNumberedApart}
use Rattle.sb_log.proofs.Entering.{none_filtered}
use Rattle.sb_log.proofs.Updating.{int_same, rowid_is}

or_none : (x : Bool) → (x || false) ≡ x
or_none true = refl
or_none false = refl

either : (a b : Bool) → cond b true a ≡ (a || b)
either true true = refl
either true false = refl
either false true = refl
either false false = refl

has_some : (rows : List Row) (r : Row) → Has rows r → 1 ≤ length rows
has_some [] r h = absurd h
has_some (x ∷ rows) r h = omega arith

some_filtered : (p : Row → Bool) (rows : List Row) → list_any p rows ≡ true → 1 ≤ length (filter p rows)
some_filtered p rows some = let found = some_has p rows some in has_some (filter p rows) found.0 (has_kept p rows found.0 found.1 found.2)

fewer_taken : (p : Row → Bool) (n : ℕ) (rows : List Row) → length (filter p (take n rows)) ≤ length (filter p rows)
fewer_taken p zero rows = omega arith
fewer_taken p (suc n) [] = omega arith
fewer_taken p (suc n) (r ∷ rows) =
    let later = fewer_taken p n rows in
    elim (p r) as (λ b. length (cond b (r ∷ filter p (take n rows)) (filter p (take n rows))) ≤ length (cond b (r ∷ filter p rows) (filter p rows))) [ true ↦ omega (arith, later) | false ↦ later ]

pub was_there : (b x : Bool) → b ≡ not x → b ≡ false → x ≡ true
was_there b true is off = refl
was_there b false is off = absurd (true≢false (sym is ∙ off))

pub was_missing : (b x : Bool) → b ≡ not x → b ≡ true → x ≡ false
was_missing b true is on = absurd (true≢false (sym on ∙ is))
was_missing b false is on = refl

-- the rowids that were seen are those of the first rows, of which none stands twice
abbrev pub AreSeen : (ℤ → Bool) → List Row → Type 0
AreSeen seen rows = ((n : ℤ) → seen n ≡ list_any (has_rowid n) rows) × AreNumberedApart rows

module _ (rows : List Row) (at : ℕ) (row : Row) (low : at < length rows) (is : row ≡ get_or rows at row) where
  count : (p : Row → Bool) → length (filter p (take (at + 1) rows)) ≡ length (filter p (take at rows)) + cond (p row) 1 0
  count p = subst (λ (r : Row). length (filter p (take (at + 1) rows)) ≡ length (filter p (take at rows)) + cond (p r) 1 0) (sym is) (length-filter_more p rows at row low)

  any : (p : Row → Bool) → list_any p (take (at + 1) rows) ≡ (list_any p (take at rows) || p row)
  any p =
      ap (list_any p) (take_more rows at row low ∙ ap (λ (r : Row). take at rows ++ r ∷ []) (sym is))
      ∙ list_any-append p (take at rows) (row ∷ []) ∙ ap (λ (b : Bool). list_any p (take at rows) || b) (or_none (p row))

  -- a row that is no integer is not numbered
  pub unnumbered : is_int (rowid row) ≡ false → AreNumbered rows → ⊥
  unnumbered other numbered = absurd (true≢false (sym (all_has _ rows row numbered (has_at rows at row low is)) ∙ other))

  module _ (k : ℤ) (id : rowid row ≡ Int k) where
    has_is : (n : ℤ) → has_rowid n row ≡ is_eq (int_cmp k n)
    has_is n = ap (λ (v : Value). is_eq (value_cmp v (Int n))) id ∙ ap is_eq (value_cmp-Int k n)

    one_number : (n : ℤ) → has_rowid n row ≡ true → k ≡ n
    one_number n has = let same : ◌≡◌ {A = Value} (Int k) (Int n) = sym id ∙ rowid_is row n (ap is_int id) has in cc

    module _ (seen : ℤ → Bool) (are : AreSeen seen (take at rows)) where
      -- where it was missing
      pub one_seen_more : (seen' : ℤ → Bool) → seen k ≡ false → ((n : ℤ) → seen' n ≡ cond (is_eq (int_cmp k n)) true (seen n)) → AreSeen seen' (take (at + 1) rows)
      one_seen_more seen' missing adds = (
        λ n. adds n ∙ (λ i. cond (sym (has_is n) i) true (are.0 n i)) ∙ either (list_any (has_rowid n) (take at rows)) (has_rowid n row) ∙ sym (any (has_rowid n)),
        λ n. go n (has_rowid n row) refl,
      )
        where
          go : (n : ℤ) (b : Bool) → has_rowid n row ≡ b → length (filter (has_rowid n) (take (at + 1) rows)) ≤ 1
          go n true has =
              let none : list_any (has_rowid n) (take at rows) ≡ false = subst (λ (m : ℤ). list_any (has_rowid m) (take at rows) ≡ false) (one_number n has) (sym (are.0 k) ∙ missing) in
              omega (arith, count (has_rowid n), ap {B = ℕ} (λ (b : Bool). cond b 1 0) has, none_filtered (has_rowid n) (take at rows) none)
          go n false has = omega (arith, count (has_rowid n), ap {B = ℕ} (λ (b : Bool). cond b 1 0) has, are.1 n)

      -- where it was not
      pub seen_twice : seen k ≡ true → AreNumberedApart rows → ⊥
      seen_twice there once =
          let some = some_filtered (has_rowid k) (take at rows) (sym (are.0 k) ∙ there) in
          let here : has_rowid k row ≡ true = has_is k ∙ int_same k in
          absurd (omega (arith, some, once k, fewer_taken (has_rowid k) (at + 1) rows, count (has_rowid k), ap {B = ℕ} (λ (b : Bool). cond b 1 0) here))

-- the first rows are all
pub whole_apart : (rows : List Row) (at : ℕ) → length rows ≤ at → AreNumberedApart (take at rows) → AreNumberedApart rows
whole_apart rows at all once = subst AreNumberedApart (take_all rows at all) once
  where
    take_all : (rows : List Row) (at : ℕ) → length rows ≤ at → take at rows ≡ rows
    take_all [] zero all = refl
    take_all [] (suc at) all = refl
    take_all (r ∷ rows) zero all = absurd (omega arith)
    take_all (r ∷ rows) (suc at) all = ap (λ (l : List Row). r ∷ l) (take_all rows at (omega arith))
