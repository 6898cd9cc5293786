-- Maps by text, seen as finite maps.
use Rattle.std.proofs.Common.{◌≡◌, ℕ, Bool, true, false, cond, ◌&&◌, List, [], ◌∷◌, Option, Some, None, refl, sym, ap, subst, ◌∙◌, T}
use Rattle.std.proofs.lemmas.Cmp.{nat_list_cmp_total}
use Rattle.std.specs.FinMap.Entries.{below_all}
use Rattle.std.specs.List.{AllByRecursion}
use Rattle.std.specs.List.Sorted.{IsStrictlySortedBy}
use Rattle.std.specs.Map.{keys_of, lookup}
use Rattle.std.specs.BTreeMap.{is_at}
use Rattle.std.specs.Ordering.{nat_cmp, is_lt, eq_by_cmp}
use Rattle.std.specs.Cmp.{eq_by_cmp_equiv}
use Rattle.std.specs.declared.cmp.Ordering.{Ordering}
use Rattle.std.specs.declared.cmp.Ordering.TheVariants.{Less}
use Rattle.std.specs.Cmp.Lexicographic.{slice_cmp}
use Rattle.std.specs.FinMap.{FinMap, get, insert, remove, empty, find, is_sorted, from_sorted, get-from_sorted, get-insert, get-remove, get-empty, same_map, slice_cmp-IsAntisymmetric, nat_cmp-IsAntisymmetric}

abbrev pub by_text : List ℕ → List ℕ → Ordering
by_text = slice_cmp nat_cmp

both : (a b : Bool) → T a → T b → T (a && b)
both true b p q = q
both false b p q = p

module _ {X : Type 0} where
  abbrev pub Ascend : List (List ℕ × X) → Type 0
  Ascend es = IsStrictlySortedBy by_text (keys_of es)

  -- the value found under a text
  abbrev pub found : List (List ℕ × X) → List ℕ → Option X
  found es q = lookup (is_at (by_text q)) es

  below : (q : List ℕ) (es : List (List ℕ × X)) → AllByRecursion (λ y. by_text q y ≡ Less) (keys_of es) → T (below_all by_text q es)
  below q [] all = tt
  below q (p ∷ ps) all = both _ _ (subst (λ (r : Ordering). T (is_lt r)) (sym all.0) tt) (below q ps all.1)

  pub sorted : (es : List (List ℕ × X)) → Ascend es → T (is_sorted by_text es)
  unfolding IsStrictlySortedBy
  sorted [] up = tt
  sorted (p ∷ ps) up = both _ _ (below p.0 ps up.0) (sorted ps up.1)

  find-found : (q : List ℕ) (es : List (List ℕ × X)) → find by_text q es ≡ found es q
  find-found q [] = refl
  find-found q (p ∷ ps) = ap (cond (eq_by_cmp by_text q p.0) (Some p.1)) (find-found q ps)

  pub get-found : (es : List (List ℕ × X)) → Ascend es → (q : List ℕ) → get (from_sorted {R = by_text} es) q ≡ found es q
  get-found es up q = get-from_sorted by_text es q (sorted es up) ∙ find-found q es

  same : (m n : FinMap by_text X) → ((q : List ℕ) → get m q ≡ get n q) → m ≡ n
  same = same_map nat_list_cmp_total (slice_cmp-IsAntisymmetric nat_cmp-IsAntisymmetric)

  -- with a value put at a key
  pub with_inserted : (old new : List (List ℕ × X)) (k : List ℕ) (v : X) → Ascend old → Ascend new
      → ((q : List ℕ) → found new q ≡ cond (is_at (by_text k) q) (Some v) (found old q)) → from_sorted {R = by_text} new ≡ insert (from_sorted {R = by_text} old) k v
  with_inserted old new k v up up_new is =
      same _ _ (λ q. get-found new up_new q ∙ is q
      ∙ ap (λ (b : Bool). cond b (Some v) (found old q)) ((eq_by_cmp_equiv nat_list_cmp_total).symm k q)
      ∙ ap (cond (eq_by_cmp by_text q k) (Some v)) (sym (get-found old up q))
      ∙ sym (get-insert nat_list_cmp_total (from_sorted {R = by_text} old) k v q))

  -- with a key taken out
  pub with_removed : (old new : List (List ℕ × X)) (k : List ℕ) → Ascend old → Ascend new
      → ((q : List ℕ) → found new q ≡ cond (is_at (by_text k) q) None (found old q)) → from_sorted {R = by_text} new ≡ remove (from_sorted {R = by_text} old) k
  with_removed old new k up up_new is =
      same _ _ (λ q. get-found new up_new q ∙ is q
      ∙ ap (λ (b : Bool). cond b None (found old q)) ((eq_by_cmp_equiv nat_list_cmp_total).symm k q)
      ∙ ap (cond (eq_by_cmp by_text q k) None) (sym (get-found old up q))
      ∙ sym (get-remove nat_list_cmp_total (from_sorted {R = by_text} old) k q))

  pub from_nothing : (es : List (List ℕ × X)) → es ≡ [] → Ascend es → from_sorted {R = by_text} es ≡ empty
  from_nothing es none up = same _ _ (λ q. get-found es up q ∙ ap (λ l. found l q) none ∙ sym (get-empty by_text q))
