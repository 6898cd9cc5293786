-- Lists by name, seen as finite maps.
use Rattle.std.proofs.Common.{◌≡◌, ℕ, Bool, true, false, cond, ◌&&◌, List, [], ◌∷◌, Option, Some, refl, sym, ap, subst, ◌∙◌, T}
use Rattle.std.proofs.lemmas.Cmp.{nat_list_cmp_total}
use Rattle.std.specs.FinMap.Entries.{below_all}
use Rattle.std.specs.List.{AllByRecursion}
use Rattle.std.specs.List.Sorted.{IsStrictlySortedBy}
use Rattle.std.specs.Map.{keys_of, lookup}
use Rattle.std.specs.BTreeMap.{is_at}
use Rattle.std.specs.Ordering.{is_lt, eq_by_cmp}
use Rattle.std.specs.Cmp.{eq_by_cmp_equiv}
use Rattle.std.specs.declared.cmp.Ordering.{Ordering}
use Rattle.std.specs.declared.cmp.Ordering.TheVariants.{Less, Equal, Greater}
use Rattle.std.specs.FinMap.{FinMap, get, insert, empty, entries, entries_sorted, find, is_sorted, from_sorted, get-from_sorted, get-insert, get-empty, same_map, slice_cmp-IsAntisymmetric, nat_cmp-IsAntisymmetric}
use Rattle.sb_budget.proofs.PlaceLemmas.{text_cmp}

both : (a b : Bool) → T a → T b → T (a && b)
both true b p q = q
both false b p q = p

first_of : (a b : Bool) → T (a && b) → T a
first_of true b p = tt
first_of false b p = p

second_of : (a b : Bool) → T (a && b) → T b
second_of true b p = p
second_of false b p = absurd p

less_of : (r : Ordering) → T (is_lt r) → r ≡ Less
less_of Less p = refl
less_of Equal p = absurd p
less_of Greater p = absurd p

module _ {X : Type 0} where
  abbrev pub Ascend : List (List ℕ × X) → Type 0
  Ascend es = IsStrictlySortedBy text_cmp (keys_of es)

  -- the value found under a name
  abbrev pub found : List (List ℕ × X) → List ℕ → Option X
  found es q = lookup (is_at (text_cmp q)) es

  below : (q : List ℕ) (es : List (List ℕ × X)) → AllByRecursion (λ y. text_cmp q y ≡ Less) (keys_of es) → T (below_all text_cmp q es)
  below q [] all = tt
  below q (p ∷ ps) all = both _ _ (subst (λ (r : Ordering). T (is_lt r)) (sym all.0) tt) (below q ps all.1)

  pub sorted : (es : List (List ℕ × X)) → Ascend es → T (is_sorted text_cmp es)
  unfolding IsStrictlySortedBy
  sorted [] up = tt
  sorted (p ∷ ps) up = both _ _ (below p.0 ps up.0) (sorted ps up.1)

  behind : (q : List ℕ) (es : List (List ℕ × X)) → T (below_all text_cmp q es) → AllByRecursion (λ y. text_cmp q y ≡ Less) (keys_of es)
  behind q [] t = tt
  behind q (p ∷ ps) t =
      (less_of _ (first_of (is_lt (text_cmp q p.0)) (below_all text_cmp q ps) t), behind q ps (second_of (is_lt (text_cmp q p.0)) (below_all text_cmp q ps) t))

  rising : (es : List (List ℕ × X)) → T (is_sorted text_cmp es) → Ascend es
  unfolding IsStrictlySortedBy
  rising [] t = tt
  rising (p ∷ ps) t = (behind p.0 ps (first_of (below_all text_cmp p.0 ps) (is_sorted text_cmp ps) t), rising ps (second_of (below_all text_cmp p.0 ps) (is_sorted text_cmp ps) t))

  -- the names of a map ascend
  pub entries_ascend : (m : FinMap text_cmp X) → Ascend (entries m)
  entries_ascend m = rising (entries m) (entries_sorted m)

  find-found : (q : List ℕ) (es : List (List ℕ × X)) → find text_cmp q es ≡ found es q
  find-found q [] = refl
  find-found q (p ∷ ps) = ap (cond (eq_by_cmp text_cmp q p.0) (Some p.1)) (find-found q ps)

  pub get-found : (es : List (List ℕ × X)) → Ascend es → (q : List ℕ) → get (from_sorted {R = text_cmp} es) q ≡ found es q
  get-found es up q = get-from_sorted text_cmp es q (sorted es up) ∙ find-found q es

  same : (m n : FinMap text_cmp X) → ((q : List ℕ) → get m q ≡ get n q) → m ≡ n
  same = same_map nat_list_cmp_total (slice_cmp-IsAntisymmetric nat_cmp-IsAntisymmetric)

  -- with a value put at a name
  pub with_inserted : (old new : List (List ℕ × X)) (k : List ℕ) (v : X) → Ascend old → Ascend new
      → ((q : List ℕ) → found new q ≡ cond (is_at (text_cmp k) q) (Some v) (found old q)) → from_sorted {R = text_cmp} new ≡ insert (from_sorted {R = text_cmp} old) k v
  with_inserted old new k v up up_new is =
      same _ _ (λ q. get-found new up_new q ∙ is q
      ∙ ap (λ (b : Bool). cond b (Some v) (found old q)) ((eq_by_cmp_equiv nat_list_cmp_total).symm k q)
      ∙ ap (cond (eq_by_cmp text_cmp q k) (Some v)) (sym (get-found old up q))
      ∙ sym (get-insert nat_list_cmp_total (from_sorted {R = text_cmp} old) k v q))

  pub from_nothing : (es : List (List ℕ × X)) → es ≡ [] → Ascend es → from_sorted {R = text_cmp} es ≡ empty
  from_nothing es none up = same _ _ (λ q. get-found es up q ∙ ap (λ l. found l q) none ∙ sym (get-empty text_cmp q))
