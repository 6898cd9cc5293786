-- What the upsert makes of the row that has the key, where each rowid is an integer.
use Rattle.std.proofs.Common.{◌≡◌, inl, inr, ℤ, ◌≤◌, Bool, true, false, cond, not, ◌&&◌, true≢false, List, [], ◌∷◌, ◌++◌, length, map, drop, filter, flat_map, Some, refl, sym, ap, subst, subst₂, ◌∙◌, arith, int_cmp, is_eq, IsPermutation}
use Rattle.std.proofs.lemmas.List.{length-map}
use Rattle.std.specs.List.{AllByRecursion, list_all}
use Rattle.std.proofs.lemmas.Bool.{and_parts}
use Rattle.std.proofs.lemmas.Bool.Decides.{nat_tests}
use Rattle.std.proofs.lemmas.Int.{ints}
use Rattle.std.proofs.lemmas.List.Elements.{All-from_recursion, recursion_from_All}
use Rattle.std.proofs.lemmas.List.Sorted.{IsPermutation-map, All-permutation, length_permutation}
use Rattle.sqlite_value.specs.declared.value.Value.{Value}
use Rattle.sqlite_value.specs.declared.value.Value.TheVariants.{Null, Int, Real, Text, Blob}
use Rattle.sqlite_value.specs.declared.keys.Collation.TheVariants.{Binary}
use Rattle.sqlite_value.specs.Order.{Row, column, value_cmp}
use Rattle.sqlite_value.proofs.OrderLemmas.{value_cmp-Int}
use Rattle.sqlite_trees.specs.Tree.{Trees, rowid, has_rowid, put_row}
use Rattle.sqlite_trees.specs.View.{is_int}
use Rattle.sqlite_sql.specs.declared.ops.BinaryOp.TheVariants.{Compare}
use Rattle.sqlite_sql.specs.declared.ops.CompareOp.TheVariants.{Eq}
use Rattle.sqlite_sql.specs.Ops.{binary, from_truth, is_true}
use Rattle.sqlite_sql.specs.Term.{holds}
use Rattle.sqlite_sql.specs.Query.{IsAnswer, Output, output}
use Rattle.sqlite_sql.specs.Program.{overlay}
use Rattle.sqlite_schema.specs.declared.schema.Kind.TheVariants.{Integer}
use Rattle.sqlite_rules.specs.declared.error.Rowids.TheVariants.{Given}
use Rattle.sqlite_rules.specs.Cast.{cast, cast_row}
use Rattle.sqlite_rules.specs.Edit.{numbered, is_taken, are_fresh}
use Rattle.sqlite_rules.specs.Lists.{Has}
use Rattle.sqlite_rules.proofs.ListLemmas.{some_from, has_kept}
use Rattle.sqlite_rules.proofs.TableLemmas.{has_put, int_is}
use Rattle.sqlite_rules.proofs.PlaceLemmas.{given}
use Rattle.sb_log.specs.Form.{writes_table}
use Rattle.sb_log.specs.Rows.{AreNumbered}
use Rattle.sqlite.proofs.Callers.{one_permutation}
use Rattle.sb_log.proofs.Upserting.{cast_int}
use Rattle.sb_log.proofs.Texts.{update_query}

shown_truth : (b : Bool) → is_true (from_truth (Some b)) ≡ b
shown_truth true = refl
shown_truth false = refl

same_int : (v : Value) (n : ℤ) → is_int v ≡ true → is_true (binary (Compare Eq Binary) v (Int n)) ≡ is_eq (value_cmp v (Int n))
unfolding binary
same_int Null n h = absurd (true≢false (sym h))
same_int (Int m) n h = shown_truth (is_eq (value_cmp (Int m) (Int n)))
same_int (Real x) n h = absurd (true≢false (sym h))
same_int (Text t) n h = absurd (true≢false (sym h))
same_int (Blob t) n h = absurd (true≢false (sym h))

and_true : (b : Bool) → (b && true) ≡ b
and_true true = refl
and_true false = refl

int_tie : (m n : ℤ) → is_eq (int_cmp m n) ≡ true → m ≡ n
int_tie m n h = grind (arith, ints, nat_tests)

pub rowid_is : (r : Row) (n : ℤ) → is_int (rowid r) ≡ true → has_rowid n r ≡ true → rowid r ≡ Int n
rowid_is r n int has =
    let same = int_is (rowid r) int in
    same ∙ ap Int (int_tie _ n (ap is_eq (sym (value_cmp-Int _ n)) ∙ ap (λ (v : Value). is_eq (value_cmp v (Int n))) (sym same) ∙ has))

abbrev keyed_at : ℤ → List Row → List Row
keyed_at n rows = filter (has_rowid n) rows

all_at : (n : ℤ) (rows : List Row) → AreNumbered rows → AllByRecursion (λ r. rowid r ≡ Int n) (keyed_at n rows)
all_at n [] all = tt
all_at n (r ∷ rows) all = go (has_rowid n r) refl (all_at n rows all.1)
  where
    go : (b : Bool) → has_rowid n r ≡ b → AllByRecursion (λ r. rowid r ≡ Int n) (keyed_at n rows) → AllByRecursion (λ r. rowid r ≡ Int n) (cond b (r ∷ keyed_at n rows) (keyed_at n rows))
    go true has later = (rowid_is r n all.0 has, later)
    go false has later = later

pub only_one : (xs : List Row) (x : Row) → length xs ≤ 1 → Has xs x → xs ≡ x ∷ []
only_one [] x few h = absurd h
only_one (y ∷ []) x few (inl same) = ap (λ (z : Row). z ∷ []) (sym same)
only_one (y ∷ []) x few (inr later) = absurd later
only_one (y ∷ z ∷ more) x few h = absurd (omega arith)

pub int_same : (n : ℤ) → is_eq (int_cmp n n) ≡ true
int_same n = grind (arith, ints, nat_tests)

-- of rows with one rowid at most one goes in
one_fresh : (n : ℤ) (left news : List Row) → AllByRecursion (λ r. rowid r ≡ Int n) news → are_fresh left news ≡ true → length news ≤ 1
one_fresh n left [] all fresh = omega arith
one_fresh n left (x ∷ []) all fresh = omega arith
one_fresh n left (x ∷ y ∷ more) all fresh =
    let later = and_parts _ _ (and_parts _ _ fresh).1 in
    let tie : is_eq (value_cmp (rowid x) (rowid y)) ≡ true = rw (all.0, all.1.0, value_cmp-Int n n) (int_same n) in
    let taken : is_taken (put_row x left) y ≡ true = some_from (λ r. is_eq (value_cmp (rowid r) (rowid y))) (put_row x left) x (has_put x left) tie in
    absurd (true≢false (sym later.0 ∙ ap not taken))

module _ (a b c d e : Value) where
  -- the parameters of the update: those of the statement, the rowid that is met, and the row that would be inserted
  abbrev pub given_row : Value → Value → Row
  given_row id fresh = a ∷ b ∷ c ∷ d ∷ e ∷ id ∷ fresh ∷ a ∷ b ∷ c ∷ d ∷ e ∷ []

  abbrev pub out : Row → Row
  out r = column r 0 ∷ column r 0 ∷ column r 1 ∷ b ∷ c ∷ d ∷ e ∷ []

  abbrev env : Value → Value → Row → List Row
  env id fresh r = given_row id fresh ∷ r ∷ []

  abbrev tested : Value → Value → List Row → List (List Row)
  tested id fresh rows = flat_map (λ (r : Row). cond (list_all (holds (env id fresh r)) update_query.filter) (env id fresh r ∷ []) []) rows

  matched : (n : ℤ) (fresh : Value) (rows : List Row) → AreNumbered rows → tested (Int n) fresh rows ≡ map (env (Int n) fresh) (keyed_at n rows)
  matched n fresh [] all = refl
  matched n fresh (r ∷ rows) all =
      let test : list_all (holds (env (Int n) fresh r)) update_query.filter ≡ has_rowid n r = and_true _ ∙ same_int (rowid r) n all.0 in
      subst (λ (x : Bool). (cond x (env (Int n) fresh r ∷ []) [] ++ tested (Int n) fresh rows) ≡ map (env (Int n) fresh) (keyed_at n (r ∷ rows))) (sym test) (go (has_rowid n r) (matched n fresh rows all.1))
    where
      go : (x : Bool) → tested (Int n) fresh rows ≡ map (env (Int n) fresh) (keyed_at n rows)
          → (cond x (env (Int n) fresh r ∷ []) [] ++ tested (Int n) fresh rows) ≡ map (env (Int n) fresh) (cond x (r ∷ keyed_at n rows) (keyed_at n rows))
      go true later = ap (λ (l : List (List Row)). env (Int n) fresh r ∷ l) later
      go false later = later

  outs : (n : ℤ) (fresh : Value) (rows : List Row) → map (λ (o : Output). o.1) (map (output update_query) (map (env (Int n) fresh) rows)) ≡ map out rows
  outs n fresh [] = refl
  outs n fresh (r ∷ rows) = ap (λ (l : List Row). out r ∷ l) (outs n fresh rows)

  -- the rows that the update finds are those of the rowid
  pub found_are : (n : ℤ) (fresh : Value) (db : Trees) (found : List Row) → AreNumbered (db 1) → IsAnswer update_query (overlay db []) (given_row (Int n) fresh) found
      → IsPermutation (map out (keyed_at n (db 1))) found
  found_are n fresh db found keyed answer =
      let staged = answer.grouped ∙ matched n fresh (db 1) keyed in
      let shown : map (λ (o : Output). o.1) answer.kept ≡ map out (keyed_at n (db 1)) =
      ap (map (λ (o : Output). o.1)) (answer.distinct ∙ ap (map (output update_query)) staged) ∙ outs n fresh (keyed_at n (db 1)) in
      subst₂ IsPermutation shown (sym answer.shown) (IsPermutation-map (λ (o : Output). o.1) answer.kept answer.ordered answer.same)

  abbrev pub new_of : Row → Row
  new_of s = cast_row writes_table (drop 1 s)

  outs_at : (n : ℤ) (rows : List Row) → AllByRecursion (λ r. rowid r ≡ Int n) rows → AllByRecursion (λ s. column (drop 1 s) 0 ≡ Int n) (map out rows)
  outs_at n [] all = tt
  outs_at n (r ∷ rows) all = (all.0, outs_at n rows all.1)

  news_at : (n : ℤ) (found : List Row) → AllByRecursion (λ s. column (drop 1 s) 0 ≡ Int n) found → AllByRecursion (λ r. rowid r ≡ Int n) (map new_of found)
  news_at n [] all = tt
  news_at n (s ∷ found) all = (ap (cast Integer) all.0 ∙ cast_int n, news_at n found all.1)

  -- one row has the rowid, and it is the one that is found
  pub one_found : (n : ℤ) (rows left found : List Row) (r : Row) → AreNumbered rows → Has rows r → rowid r ≡ Int n → IsPermutation (map out (keyed_at n rows)) found
      → are_fresh left (numbered Given left (map new_of found)) ≡ true → (keyed_at n rows ≡ r ∷ []) × (found ≡ out r ∷ [])
  one_found n rows left found r keyed here id same fresh =
      let all = recursion_from_All (λ s. column (drop 1 s) 0 ≡ Int n) found (All-permutation (λ s. column (drop 1 s) 0 ≡ Int n) (map out (keyed_at n rows)) found same
      (All-from_recursion (λ s. column (drop 1 s) 0 ≡ Int n) (map out (keyed_at n rows)) (outs_at n (keyed_at n rows) (all_at n rows keyed)))) in
      let few = one_fresh n left (map new_of found) (news_at n found all) (ap (are_fresh left) (sym (given left (map new_of found))) ∙ fresh) in
      let has : has_rowid n r ≡ true = rw (id, value_cmp-Int n n) (int_same n) in
      let one = only_one (keyed_at n rows) r (omega (arith, few, length-map found new_of, length_permutation _ _ same, length-map (keyed_at n rows) out)) (has_kept (has_rowid n) rows r here has) in
      (one, one_permutation (out r) found (subst (λ (l : List Row). IsPermutation (map out l) found) one same))
