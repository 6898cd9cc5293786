-- No row that a watch keeps goes back.
use Rattle.std.proofs.Common.{◌≡◌, Bool, true, false, cond, ◌&&◌, ◌||◌, List, [], ◌∷◌, refl, sym, ap, ◌∙◌, true≢false, nat_lt, if◌then◌else◌}
use Rattle.std.proofs.Math.Nat.{le_refl}
use Rattle.std.proofs.lemmas.Bool.{or_from, or_left, or_right, and_left, and_right, le-ltb}
use Rattle.std.proofs.lemmas.Cmp.{nat_list_cmp_total, on_total, then_total, tied_itself}
use Rattle.std.specs.Cmp.{IsTotalOrder}
use Rattle.std.specs.List.{list_any, AllByRecursion}
use Rattle.std.specs.Ordering.{is_eq, ordering_reverse, match_ordering}
use Rattle.std.specs.declared.cmp.Ordering.{Ordering}
use Rattle.std.specs.declared.cmp.Ordering.TheVariants.{Less, Equal, Greater}
use Rattle.sb_codec.specs.Records.{Row}
use Rattle.sb_listing.specs.Changes.{place_order, is_at, AreAscending}
use Rattle.sb_commands.specs.declared.reaches.OwnerReach.{OwnerReach}
use Rattle.sb_commands.specs.Keeping.{is_known, is_held_back, is_outdated, later_row, unless_known, unless_held_back, rows_past_row, unknown_rows, rows_after, is_earlier, goes_back, is_printed}

order : IsTotalOrder place_order
order = then_total (on_total (λ (r : Row). r.owner) nat_list_cmp_total) (on_total (λ (r : Row). r.key) nat_list_cmp_total)

abbrev Before : Row → Row → Type 0
Before x y = place_order x y ≡ Less

forth : (x y : Row) → place_order x y ≡ Greater → Before y x
forth x y greater = order.antisymm y x ∙ ap ordering_reverse greater

apart : (x y : Row) → Before x y → is_at x y ≡ false
apart x y before = ap is_eq before

apart-back : (x y : Row) → Before x y → is_at y x ≡ false
apart-back x y before = ap is_eq (order.antisymm y x ∙ ap ordering_reverse before)

weaker : (P Q : Row → Type 0) → ((x : Row) → P x → Q x) → (xs : List Row) → AllByRecursion P xs → AllByRecursion Q xs
weaker P Q from [] all = tt
weaker P Q from (x ∷ xs) all = (from x all.0, weaker P Q from xs all.1)

abbrev Forth : List Row → Row → Type 0
Forth held y = goes_back held y ≡ false

-- a row that stands before all goes back behind none
alone : (y : Row) (xs : List Row) → AllByRecursion (Before y) xs → goes_back xs y ≡ false
alone y [] all = refl
alone y (x ∷ xs) all = or_from (is_earlier y x) (goes_back xs y) (and_left (is_at x y) (nat_lt y.version x.version) (apart-back y x all.0)) (alone y xs all.1)

own : (x : Row) (xs : List Row) → AllByRecursion (Before x) xs → goes_back (x ∷ xs) x ≡ false
own x xs all = or_from (is_earlier x x) (goes_back xs x) (and_right (is_at x x) (nat_lt x.version x.version) (le-ltb x.version x.version (le_refl x.version))) (alone x xs all)

more : (x : Row) (xs : List Row) (zs : List Row) → AllByRecursion (Before x) zs → AllByRecursion (Forth xs) zs → AllByRecursion (Forth (x ∷ xs)) zs
more x xs [] before all = tt
more x xs (z ∷ zs) before all =
    (or_from (is_earlier z x) (goes_back xs z) (and_left (is_at x z) (nat_lt z.version x.version) (apart x z before.0)) all.0, more x xs zs before.1 all.1)

module _ (reaches : List OwnerReach) where
  -- ---- what holds of all rows that were printed or found holds of those that are kept

  each-known : (P : Row → Type 0) (x : Row) (rest : List Row) → P x → AllByRecursion P rest → AllByRecursion P (unless_known reaches x rest)
  each-known P x rest first all = go (is_known reaches x)
    where
      go : (b : Bool) → AllByRecursion P (if b then rest else x ∷ rest)
      go true = all
      go false = (first, all)

  each-found : (P : Row → Type 0) (y : Row) (rest : List Row) → P y → AllByRecursion P rest → AllByRecursion P (unless_held_back reaches y rest)
  each-found P y rest first all = go (is_held_back reaches y || is_outdated reaches y)
    where
      go : (b : Bool) → AllByRecursion P (if b then rest else y ∷ rest)
      go true = all
      go false = (first, all)

  each-later : (P : Row → Type 0) (x y : Row) → P x → P y → P (later_row reaches x y)
  each-later P x y first second = go (nat_lt y.version x.version || (nat_lt x.version y.version && is_held_back reaches y))
    where
      go : (b : Bool) → P (if b then x else y)
      go true = first
      go false = second

  each-unknown : (P : Row → Type 0) (xs : List Row) → AllByRecursion P xs → AllByRecursion P (unknown_rows reaches xs)
  each-unknown P [] all = tt
  each-unknown P (x ∷ xs) all = each-known P x (unknown_rows reaches xs) all.0 (each-unknown P xs all.1)

  module _ (P : Row → Type 0) (y : Row) (next : List Row → List Row) (first : P y) (nexts : (xs : List Row) → AllByRecursion P xs → AllByRecursion P (next xs)) where
    each-ordered : (x : Row) (xs : List Row) → AllByRecursion P (x ∷ xs) → AllByRecursion P (rows_past_row reaches y next xs) → (o : Ordering)
        → AllByRecursion P (match_ordering o (unless_known reaches x (rows_past_row reaches y next xs)) (later_row reaches x y ∷ next xs) (unless_held_back reaches y (next (x ∷ xs))))
    each-ordered x xs all rest Less = each-known P x (rows_past_row reaches y next xs) all.0 rest
    each-ordered x xs all rest Equal = (each-later P x y all.0 first, nexts xs all.1)
    each-ordered x xs all rest Greater = each-found P y (next (x ∷ xs)) first (nexts (x ∷ xs) all)

    each-past : (xs : List Row) → AllByRecursion P xs → AllByRecursion P (rows_past_row reaches y next xs)
    each-past [] all = each-found P y (next []) first (nexts [] tt)
    each-past (x ∷ xs) all = each-ordered x xs all (each-past xs all.1) (place_order x y)

  each : (P : Row → Type 0) (ys : List Row) → AllByRecursion P ys → (xs : List Row) → AllByRecursion P xs → AllByRecursion P (rows_after reaches xs ys)
  each P [] found xs held = each-unknown P xs held
  each P (y ∷ ys) found xs held = each-past P y (λ rest. rows_after reaches rest ys) found.0 (λ zs all. each P ys found.1 zs all) xs held

  -- ---- none goes back

  forth-unknown : (xs : List Row) → AreAscending xs → AllByRecursion (Forth xs) (unknown_rows reaches xs)
  forth-unknown [] ascending = tt
  forth-unknown (x ∷ xs) ascending =
      each-known (Forth (x ∷ xs)) x (unknown_rows reaches xs) (own x xs ascending.0)
      (more x xs (unknown_rows reaches xs) (each-unknown (Before x) xs ascending.0) (forth-unknown xs ascending.1))

  module _ (y : Row) (ys : List Row) (up : AllByRecursion (Before y) ys) (inner : (xs : List Row) → AreAscending xs → AllByRecursion (Forth xs) (rows_after reaches xs ys)) where
    next : List Row → List Row
    next = λ xs. rows_after reaches xs ys

    -- all that is found comes after a row that comes before y, or that is at the place of y
    after-before : (x : Row) → Before x y → AllByRecursion (Before x) ys
    after-before x before = weaker (Before y) (Before x) (λ z later. order.trans x y z before later) ys up

    after-same : (x : Row) → place_order x y ≡ Equal → AllByRecursion (Before x) ys
    after-same x same = weaker (Before y) (Before x) (λ z later. order.congr x y z same ∙ later) ys up

    forth-later : (x : Row) (xs : List Row) → AllByRecursion (Before x) xs → AllByRecursion (Before y) xs → goes_back (x ∷ xs) (later_row reaches x y) ≡ false
    forth-later x xs above beyond = go (nat_lt y.version x.version) refl (nat_lt x.version y.version && is_held_back reaches y)
      where
        go : (b : Bool) → nat_lt y.version x.version ≡ b → (c : Bool) → goes_back (x ∷ xs) (if b || c then x else y) ≡ false
        go true is c = own x xs above
        go false is true = own x xs above
        go false is false = or_from (is_earlier y x) (goes_back xs y) (and_right (is_at x y) (nat_lt y.version x.version) is) (alone y xs beyond)

    forth-ordered : (x : Row) (xs : List Row) → AreAscending (x ∷ xs) → AllByRecursion (Forth xs) (rows_past_row reaches y (λ rest. rows_after reaches rest ys) xs) → (o : Ordering) → place_order x y ≡ o
        → AllByRecursion (Forth (x ∷ xs)) (match_ordering o (unless_known reaches x (rows_past_row reaches y (λ rest. rows_after reaches rest ys) xs)) (later_row reaches x y ∷ rows_after reaches xs ys) (unless_held_back reaches y (rows_after reaches (x ∷ xs) ys)))
    forth-ordered x xs ascending rest Less is =
        let past = each-past (Before x) y (λ zs. rows_after reaches zs ys) is (λ zs all. each (Before x) ys (after-before x is) zs all) xs ascending.0 in
        each-known (Forth (x ∷ xs)) x (rows_past_row reaches y (λ zs. rows_after reaches zs ys) xs) (own x xs ascending.0)
        (more x xs (rows_past_row reaches y (λ zs. rows_after reaches zs ys) xs) past rest)
    forth-ordered x xs ascending rest Equal is =
        let beyond : AllByRecursion (Before y) xs = weaker (Before x) (Before y) (λ z later. sym (order.congr x y z is) ∙ later) xs ascending.0 in
        (forth-later x xs ascending.0 beyond, more x xs (rows_after reaches xs ys) (each (Before x) ys (after-same x is) xs ascending.0) (inner xs ascending.1))
    forth-ordered x xs ascending rest Greater is =
        let before = forth x y is in
        let beyond : AllByRecursion (Before y) (x ∷ xs) = (before, weaker (Before x) (Before y) (λ z later. order.trans y x z before later) xs ascending.0) in
        each-found (Forth (x ∷ xs)) y (rows_after reaches (x ∷ xs) ys) (alone y (x ∷ xs) beyond) (inner (x ∷ xs) ascending)

    forth-past : (xs : List Row) → AreAscending xs → AllByRecursion (Forth xs) (rows_past_row reaches y (λ rest. rows_after reaches rest ys) xs)
    forth-past [] ascending = each-found (Forth []) y (rows_after reaches [] ys) refl (inner [] tt)
    forth-past (x ∷ xs) ascending = forth-ordered x xs ascending (forth-past xs ascending.1) (place_order x y) refl

  pub none-goes-back : (found : List Row) → AreAscending found → (held : List Row) → AreAscending held → AllByRecursion (Forth held) (rows_after reaches held found)
  none-goes-back [] up held ascending = forth-unknown held ascending
  none-goes-back (y ∷ ys) up held ascending = forth-past y ys up.0 (λ zs rising. none-goes-back ys up.1 zs rising) held ascending

  -- ---- none that went comes back

  abbrev Stays : List Row → Row → Type 0
  Stays held y = is_outdated reaches y ≡ true → is_printed held y ≡ true

  stays-longer : (x : Row) (xs : List Row) (zs : List Row) → AllByRecursion (Stays xs) zs → AllByRecursion (Stays (x ∷ xs)) zs
  stays-longer x xs zs all = weaker (Stays xs) (Stays (x ∷ xs)) (λ z stays is. or_right (is_at x z) (is_printed xs z) (stays is)) zs all

  stays-first : (x : Row) (xs : List Row) → Stays (x ∷ xs) x
  stays-first x xs is = or_left (is_at x x) (is_printed xs x) (ap is_eq (tied_itself order x))

  stays-all : (xs : List Row) → AllByRecursion (Stays xs) xs
  stays-all [] = tt
  stays-all (x ∷ xs) = (stays-first x xs, stays-longer x xs xs (stays-all xs))

  stays-found : (held : List Row) (y : Row) (rest : List Row) → AllByRecursion (Stays held) rest → AllByRecursion (Stays held) (unless_held_back reaches y rest)
  stays-found held y rest all = go (is_held_back reaches y) (is_outdated reaches y) refl
    where
      go : (b c : Bool) → is_outdated reaches y ≡ c → AllByRecursion (Stays held) (if b || c then rest else y ∷ rest)
      go true c is = all
      go false true is = all
      go false false is = ((λ old. absurd (true≢false (sym old ∙ is))), all)

  module _ (y : Row) (next : List Row → List Row) (inner : (xs : List Row) → AllByRecursion (Stays xs) (next xs)) where
    stays-ordered : (x : Row) (xs : List Row) → AllByRecursion (Stays xs) (rows_past_row reaches y next xs) → (o : Ordering) → place_order x y ≡ o
        → AllByRecursion (Stays (x ∷ xs)) (match_ordering o (unless_known reaches x (rows_past_row reaches y next xs)) (later_row reaches x y ∷ next xs) (unless_held_back reaches y (next (x ∷ xs))))
    stays-ordered x xs rest Less is = each-known (Stays (x ∷ xs)) x (rows_past_row reaches y next xs) (stays-first x xs) (stays-longer x xs (rows_past_row reaches y next xs) rest)
    stays-ordered x xs rest Equal is =
        (each-later (Stays (x ∷ xs)) x y (stays-first x xs) (λ old. or_left (is_at x y) (is_printed xs y) (ap is_eq is)), stays-longer x xs (next xs) (inner xs))
    stays-ordered x xs rest Greater is = stays-found (x ∷ xs) y (next (x ∷ xs)) (inner (x ∷ xs))

    stays-past : (xs : List Row) → AllByRecursion (Stays xs) (rows_past_row reaches y next xs)
    stays-past [] = stays-found [] y (next []) (inner [])
    stays-past (x ∷ xs) = stays-ordered x xs (stays-past xs) (place_order x y) refl

  pub none-comes-back : (found held : List Row) → AllByRecursion (Stays held) (rows_after reaches held found)
  none-comes-back [] held = each-unknown (Stays held) held (stays-all held)
  none-comes-back (y ∷ ys) held = stays-past y (λ rest. rows_after reaches rest ys) (λ zs. none-comes-back ys zs) held
