-- Which rows a merge of two ascending listings tells.
use Rattle.std.proofs.Common.{◌≡◌, Bool, true, false, cond, not, ◌&&◌, ◌||◌, List, [], ◌∷◌, ◌++◌, map, filter, refl, sym, ap, ap₂, ◌∙◌}
use Rattle.std.proofs.lemmas.Bool.{or_from, or_left, and_left, and_right, and_from, not_from_true, not_from_false, cond-true, cond-false}
use Rattle.std.proofs.lemmas.Cmp.{nat_list_cmp_total, on_total, then_total}
use Rattle.std.specs.Cmp.{IsTotalOrder}
use Rattle.std.specs.List.{list_any, AllByRecursion}
use Rattle.std.specs.Ordering.{is_eq, ordering_reverse, match_ordering}
use Rattle.std.specs.declared.cmp.Ordering.{Ordering}
use Rattle.std.specs.declared.cmp.Ordering.TheVariants.{Less, Equal, Greater}
use Rattle.sb_codec.specs.Records.{Row}
use Rattle.sb_listing.specs.Changes.{RowChange, Set, Gone, place_order, is_same, is_at, is_new, is_gone, AreAscending, changes_at, changes_past_row, changes_between, set_rows, gone_rows}

order : IsTotalOrder place_order
order = then_total (on_total (λ (r : Row). r.owner) nat_list_cmp_total) (on_total (λ (r : Row). r.key) nat_list_cmp_total)

abbrev Before : Row → Row → Type 0
Before x y = place_order x y ≡ Less

abbrev is_kept : Row → Row → Bool
is_kept x y = is_at x y && is_same x y

abbrev has_row : Row → List Row → Bool
has_row y xs = list_any (λ x. is_kept x y) xs

forth : (x y : Row) → place_order x y ≡ Greater → Before y x
forth x y greater = order.antisymm y x ∙ ap ordering_reverse greater

apart : (x y : Row) → Before x y → is_at x y ≡ false
apart x y before = ap is_eq before

apart-back : (x y : Row) → Before x y → is_at y x ≡ false
apart-back x y before = ap is_eq (order.antisymm y x ∙ ap ordering_reverse before)

weaker : (P Q : Row → Type 0) → ((x : Row) → P x → Q x) → (xs : List Row) → AllByRecursion P xs → AllByRecursion Q xs
weaker P Q from [] all = tt
weaker P Q from (x ∷ xs) all = (from x all.0, weaker P Q from xs all.1)

filter-same : (f g : Row → Bool) (xs : List Row) → AllByRecursion (λ x. f x ≡ g x) xs → filter f xs ≡ filter g xs
filter-same f g [] all = refl
filter-same f g (x ∷ xs) all = ap₂ (λ (b : Bool) (rest : List Row). cond b (x ∷ rest) rest) all.0 (filter-same f g xs all.1)

-- a row that stands before all is at the place of none
none-at : (x : Row) (ys : List Row) → AllByRecursion (Before x) ys → list_any (is_at x) ys ≡ false
none-at x [] all = refl
none-at x (y ∷ ys) all = or_from (is_at x y) (list_any (is_at x) ys) (apart x y all.0) (none-at x ys all.1)

none-kept : (y : Row) (xs : List Row) → AllByRecursion (Before y) xs → has_row y xs ≡ false
none-kept y [] all = refl
none-kept y (x ∷ xs) all = or_from (is_kept x y) (has_row y xs) (and_left (is_at x y) (is_same x y) (apart-back y x all.0)) (none-kept y xs all.1)

-- a row at another place more makes no difference
new-same : (x : Row) (xs : List Row) (z : Row) → is_at x z ≡ false → is_new xs z ≡ is_new (x ∷ xs) z
new-same x xs z apart = ap (λ (b : Bool). not (b || has_row z xs)) (sym (and_left (is_at x z) (is_same x z) apart))

gone-same : (y : Row) (ys : List Row) (z : Row) → is_at z y ≡ false → is_gone ys z ≡ is_gone (y ∷ ys) z
gone-same y ys z apart = ap (λ (b : Bool). not (b || list_any (is_at z) ys)) (sym apart)

news-same : (x : Row) (xs zs : List Row) → AllByRecursion (Before x) zs → filter (is_new xs) zs ≡ filter (is_new (x ∷ xs)) zs
news-same x xs zs all = filter-same (is_new xs) (is_new (x ∷ xs)) zs (weaker (Before x) (λ z. is_new xs z ≡ is_new (x ∷ xs) z) (λ z before. new-same x xs z (apart x z before)) zs all)

gones-same : (y : Row) (ys zs : List Row) → AllByRecursion (Before y) zs → filter (is_gone ys) zs ≡ filter (is_gone (y ∷ ys)) zs
gones-same y ys zs all = filter-same (is_gone ys) (is_gone (y ∷ ys)) zs (weaker (Before y) (λ z. is_gone ys z ≡ is_gone (y ∷ ys) z) (λ z before. gone-same y ys z (apart-back y z before)) zs all)

kept-first : (f : Row → Bool) (x : Row) (xs : List Row) → f x ≡ true → filter f (x ∷ xs) ≡ x ∷ filter f xs
kept-first f x xs is = cond-true (f x) (x ∷ filter f xs) (filter f xs) is

passed-first : (f : Row → Bool) (x : Row) (xs : List Row) → f x ≡ false → filter f (x ∷ xs) ≡ filter f xs
passed-first f x xs is = cond-false (f x) (x ∷ filter f xs) (filter f xs) is

abbrev Tells : List Row → List Row → List RowChange → Type 0
Tells earlier later cs = (set_rows cs ≡ filter (is_new earlier) later) × (gone_rows cs ≡ filter (is_gone later) earlier)

all-gone : (xs : List Row) → Tells xs [] (map Gone xs)
all-gone [] = (refl, refl)
all-gone (x ∷ xs) = let rest = all-gone xs in (rest.0, ap (λ (zs : List Row). x ∷ zs) rest.1)

module _ (y : Row) (ys : List Row) (next : List Row → List RowChange) (up : AllByRecursion (Before y) ys) (tells : (xs : List Row) → AreAscending xs → Tells xs ys (next xs)) where
  -- the first of the earlier listing stands before y
  before-y : (x : Row) (xs : List Row) → Before x y → AllByRecursion (Before x) xs → Tells xs (y ∷ ys) (changes_past_row y next xs) → Tells (x ∷ xs) (y ∷ ys) (Gone x ∷ changes_past_row y next xs)
  before-y x xs before above inner =
      let all : AllByRecursion (Before x) (y ∷ ys) = (before, weaker (Before y) (Before x) (λ z later. order.trans x y z before later) ys up) in (
        inner.0 ∙ news-same x xs (y ∷ ys) all,
        ap (λ (zs : List Row). x ∷ zs) inner.1 ∙ sym (kept-first (is_gone (y ∷ ys)) x xs (not_from_false (list_any (is_at x) (y ∷ ys)) (none-at x (y ∷ ys) all))),
      )

  -- y stands before all of the earlier listing
  behind-y : (xs : List Row) → AreAscending xs → AllByRecursion (Before y) xs → Tells xs (y ∷ ys) (Set y ∷ next xs)
  behind-y xs ascending all =
      let inner = tells xs ascending in (
        ap (λ (zs : List Row). y ∷ zs) inner.0 ∙ sym (kept-first (is_new xs) y ys (not_from_false (has_row y xs) (none-kept y xs all))),
        inner.1 ∙ gones-same y ys xs all,
      )

  module _ (x : Row) (xs : List Row) (ascending : AreAscending (x ∷ xs)) (same : place_order x y ≡ Equal) where
    at-x : AllByRecursion (Before x) ys
    at-x = weaker (Before y) (Before x) (λ z later. order.congr x y z same ∙ later) ys up

    at-y : AllByRecursion (Before y) xs
    at-y = weaker (Before x) (Before y) (λ z later. sym (order.congr x y z same) ∙ later) xs ascending.0

    not-gone : is_gone (y ∷ ys) x ≡ false
    not-gone = not_from_true (list_any (is_at x) (y ∷ ys)) (or_left (is_at x y) (list_any (is_at x) ys) (ap is_eq same))

    gone-at-y : gone_rows (next xs) ≡ filter (is_gone (y ∷ ys)) (x ∷ xs)
    gone-at-y = (tells xs ascending.1).1 ∙ gones-same y ys xs at-y ∙ sym (passed-first (is_gone (y ∷ ys)) x xs not-gone)

    set-at-y : set_rows (next xs) ≡ filter (is_new (x ∷ xs)) ys
    set-at-y = (tells xs ascending.1).0 ∙ news-same x xs ys at-x

    found-y : (b : Bool) → is_same x y ≡ b → Tells (x ∷ xs) (y ∷ ys) (cond b [] (Set y ∷ []) ++ next xs)
    found-y true is =
        let kept = and_from (is_at x y) (is_same x y) (ap is_eq same) is in
        let old : is_new (x ∷ xs) y ≡ false = not_from_true (has_row y (x ∷ xs)) (or_left (is_kept x y) (has_row y xs) kept) in
        (set-at-y ∙ sym (passed-first (is_new (x ∷ xs)) y ys old), gone-at-y)
    found-y false is =
        let other = and_right (is_at x y) (is_same x y) is in
        let new : is_new (x ∷ xs) y ≡ true = not_from_false (has_row y (x ∷ xs)) (or_from (is_kept x y) (has_row y xs) other (none-kept y xs at-y)) in
        (ap (λ (zs : List Row). y ∷ zs) set-at-y ∙ sym (kept-first (is_new (x ∷ xs)) y ys new), gone-at-y)

  ordered : (x : Row) (xs : List Row) → AreAscending (x ∷ xs) → Tells xs (y ∷ ys) (changes_past_row y next xs) → (o : Ordering) → place_order x y ≡ o
      → Tells (x ∷ xs) (y ∷ ys) (match_ordering o (Gone x ∷ changes_past_row y next xs) (changes_at x y ++ next xs) (Set y ∷ next (x ∷ xs)))
  ordered x xs ascending inner Less is = before-y x xs is ascending.0 inner
  ordered x xs ascending inner Equal is = found-y x xs ascending is (is_same x y) refl
  ordered x xs ascending inner Greater is =
      let before = forth x y is in
      behind-y (x ∷ xs) ascending (before, weaker (Before x) (Before y) (λ z later. order.trans y x z before later) xs ascending.0)

  passing-tells : (xs : List Row) → AreAscending xs → Tells xs (y ∷ ys) (changes_past_row y next xs)
  passing-tells [] ascending = behind-y [] tt tt
  passing-tells (x ∷ xs) ascending = ordered x xs ascending (passing-tells xs ascending.1) (place_order x y) refl

pub merged-tells : (later : List Row) → AreAscending later → (earlier : List Row) → AreAscending earlier → Tells earlier later (changes_between earlier later)
merged-tells [] up xs ascending = all-gone xs
merged-tells (y ∷ ys) up xs ascending = passing-tells y ys (λ rest. changes_between rest ys) up.0 (λ zs rising. merged-tells ys up.1 zs rising) xs ascending
