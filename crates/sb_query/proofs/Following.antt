-- Behind a row stand the rows that come after it.
use Rattle.std.proofs.Common.{◌≡◌, ℕ, suc, Bool, true, false, map, List, [], ◌∷◌, ◌++◌, filter, Option, Some, None, refl, sym, ap, subst, ◌∙◌, arith}
use Rattle.std.proofs.lemmas.List.{map-append}
use Rattle.std.proofs.lemmas.List.Elements.{recursion_from_All}
use Rattle.std.proofs.lemmas.Cmp.{nat_list_cmp_total, tied_itself}
use Rattle.std.specs.List.{AllByRecursion}
use Rattle.std.specs.Ordering.{is_lt, ordering_then}
use Rattle.std.specs.declared.cmp.Ordering.{Ordering}
use Rattle.std.specs.declared.cmp.Ordering.TheVariants.{Less, Equal, Greater}
use Rattle.std.specs.FinMap.{slice_cmp-IsAntisymmetric, nat_cmp-IsAntisymmetric}
use Rattle.sb_types.proofs.Texts.{text_lt-trans}
use Rattle.sb_codec.specs.declared.message.ask.Ask.{Ask}
use Rattle.sb_codec.specs.Records as codec
use Rattle.sb_views.specs.NodeViews.{NodeView}
use Rattle.sb_views.specs.LiveRows.{LiveRow, rows_in, rows_behind, is_behind, place_of, AreAscending}
use Rattle.sb_views.proofs.ByText.{by_text}
use Rattle.sb_views.proofs.Behind.{behind-nothing}
use Rattle.sb_query.specs.Pages.{message_row, asked_rows, asking_behind}
use Rattle.sb_views.proofs.Rising.{Before, IsUp, ascending}

same-text : (a b : List ℕ) → by_text a b ≡ Equal → a ≡ b
same-text a b = slice_cmp-IsAntisymmetric nat_cmp-IsAntisymmetric a b

module _ (p : List ℕ × List ℕ) (x y : LiveRow) where
  abbrev At : List ℕ → List ℕ → List ℕ → List ℕ → Type 0
  At a k b l = is_lt (ordering_then (by_text a b) (by_text k l)) ≡ true

  -- what stands behind a row behind the place stands behind the place
  further-case : (r s : Ordering) → by_text p.0 x.owner ≡ r → by_text x.owner y.owner ≡ s
      → is_lt (ordering_then r (by_text p.1 x.key)) ≡ true → is_lt (ordering_then s (by_text x.key y.key)) ≡ true → At p.0 p.1 y.owner y.key
  further-case Less Less first second one two = let less = nat_list_cmp_total.trans p.0 x.owner y.owner first second in rw less refl
  further-case Less Equal first second one two = let less : by_text p.0 y.owner ≡ Less = subst (λ (o : List ℕ). by_text p.0 o ≡ Less) (same-text x.owner y.owner second) first in rw less refl
  further-case Less Greater first second one two = absurd (cc)
  further-case Equal Less first second one two = let less : by_text p.0 y.owner ≡ Less = subst (λ (o : List ℕ). by_text o y.owner ≡ Less) (sym (same-text p.0 x.owner first)) second in rw less refl
  further-case Equal Equal first second one two =
      let tied : by_text p.0 y.owner ≡ Equal = subst (λ (o : List ℕ). by_text p.0 o ≡ Equal) (same-text x.owner y.owner second) first in
      rw tied (text_lt-trans p.1 x.key y.key one two)
  further-case Equal Greater first second one two = absurd (cc)
  further-case Greater s first second one two = absurd (cc)

  further : is_behind (Some p) x ≡ true → Before x y → is_behind (Some p) y ≡ true
  further one two = further-case (by_text p.0 x.owner) (by_text x.owner y.owner) refl refl one two

itself : (x : LiveRow) → is_behind (Some (place_of x)) x ≡ false
itself x =
    let owner = tied_itself nat_list_cmp_total x.owner in
    let key = tied_itself nat_list_cmp_total x.key in
    rw (owner, key) refl

not-true : (b : Bool) → (b ≡ true → ⊥) → b ≡ false
not-true true never = absurd (never refl)
not-true false never = refl

-- what comes before a row does not stand behind it
passed : (x row : LiveRow) → Before x row → is_behind (Some (place_of row)) x ≡ false
passed x row before = not-true (is_behind (Some (place_of row)) x) (λ behind. let both = further (place_of x) row x before behind in let none = itself x in absurd (cc))

through : (place : Option (List ℕ × List ℕ)) (x y : LiveRow) → is_behind place x ≡ true → Before x y → is_behind place y ≡ true
through None x y one two = refl
through (Some p) x y one two = further p x y one two

keeps : (f : LiveRow → Bool) (xs : List LiveRow) → AllByRecursion (λ x. f x ≡ true) xs → filter f xs ≡ xs
keeps f [] all = refl
keeps f (x ∷ xs) all = rw all.0 (ap (λ (rest : List LiveRow). x ∷ rest) (keeps f xs all.1))

each-through : (place : Option (List ℕ × List ℕ)) (x : LiveRow) (xs : List LiveRow) → is_behind place x ≡ true → AllByRecursion (Before x) xs → AllByRecursion (λ y. is_behind place y ≡ true) xs
each-through place x [] is all = tt
each-through place x (y ∷ ys) is all = (through place x y is all.0, each-through place x ys is all.1)

part-case : (P : LiveRow → Type 0) (f : LiveRow → Bool) (x : LiveRow) (xs front : List LiveRow) (row : LiveRow) (rest : List LiveRow) → P x → filter f (x ∷ xs) ≡ front ++ row ∷ rest
    → ((zs : List LiveRow) → filter f xs ≡ zs ++ row ∷ rest → P row) → (b : Bool) → f x ≡ b → P row
part-case P f x xs [] row rest here is more true passes =
    let first : filter f (x ∷ xs) ≡ x ∷ filter f xs = rw passes refl in
    let both : x ∷ filter f xs ≡ row ∷ rest = sym first ∙ is in
    let same : x ≡ row = cc in
    subst P same here
part-case P f x xs (z ∷ zs) row rest here is more true passes =
    let first : filter f (x ∷ xs) ≡ x ∷ filter f xs = rw passes refl in
    let both : x ∷ filter f xs ≡ z ∷ (zs ++ row ∷ rest) = sym first ∙ is in
    let others : filter f xs ≡ zs ++ row ∷ rest = cc in
    more zs others
part-case P f x xs front row rest here is more false fails =
    let first : filter f (x ∷ xs) ≡ filter f xs = rw fails refl in
    more front (sym first ∙ is)

-- a row of a part has what all have
part-has : (P : LiveRow → Type 0) (f : LiveRow → Bool) (front : List LiveRow) (row : LiveRow) (rest xs : List LiveRow) → filter f xs ≡ front ++ row ∷ rest → AllByRecursion P xs → P row
part-has P f [] row rest [] is all = absurd (cc)
part-has P f (z ∷ zs) row rest [] is all = absurd (cc)
part-has P f front row rest (x ∷ xs) is all = part-case P f x xs front row rest all.0 is (λ zs others. part-has P f zs row rest xs others all.1) (f x) refl

module _ (place : Option (List ℕ × List ℕ)) where
  abbrev kept : List LiveRow → List LiveRow
  kept xs = filter (is_behind place) xs

  abbrev after : LiveRow → List LiveRow → List LiveRow
  after row xs = filter (is_behind (Some (place_of row))) xs

  at-first : (x : LiveRow) (xs rest : List LiveRow) → AllByRecursion (Before x) xs → is_behind place x ≡ true → kept xs ≡ rest → after x (x ∷ xs) ≡ rest
  at-first x xs rest up is others =
      let none = itself x in
      rw none (keeps (is_behind (Some (place_of x))) xs up ∙ sym (keeps (is_behind place) xs (each-through place x xs is up)) ∙ others)

  further-on : (x : LiveRow) (xs front : List LiveRow) (row : LiveRow) (rest : List LiveRow) → AllByRecursion (Before x) xs → kept xs ≡ front ++ row ∷ rest → after row xs ≡ rest → after row (x ∷ xs) ≡ rest
  further-on x xs front row rest up others so =
      let none = passed x row (part-has (Before x) (is_behind place) front row rest xs others up) in
      rw none so

  first-kept : (x : LiveRow) (xs : List LiveRow) → is_behind place x ≡ true → kept (x ∷ xs) ≡ x ∷ kept xs
  first-kept x xs is = rw is refl

  first-passed : (x : LiveRow) (xs : List LiveRow) → is_behind place x ≡ false → kept (x ∷ xs) ≡ kept xs
  first-passed x xs is = rw is refl

  behind-case : (x : LiveRow) (xs : List LiveRow) → AllByRecursion (Before x) xs → (front : List LiveRow) (row : LiveRow) (rest : List LiveRow) → kept (x ∷ xs) ≡ front ++ row ∷ rest
      → ((zs : List LiveRow) → kept xs ≡ zs ++ row ∷ rest → after row xs ≡ rest) → (b : Bool) → is_behind place x ≡ b → after row (x ∷ xs) ≡ rest
  behind-case x xs up [] row rest is more true stands =
      let both : x ∷ kept xs ≡ row ∷ rest = sym (first-kept x xs stands) ∙ is in
      let same : x ≡ row = cc in
      let others : kept xs ≡ rest = cc in
      subst (λ (r : LiveRow). after r (x ∷ xs) ≡ rest) same (at-first x xs rest up stands others)
  behind-case x xs up (z ∷ zs) row rest is more true stands =
      let both : x ∷ kept xs ≡ z ∷ (zs ++ row ∷ rest) = sym (first-kept x xs stands) ∙ is in
      let others : kept xs ≡ zs ++ row ∷ rest = cc in
      further-on x xs zs row rest up others (more zs others)
  behind-case x xs up front row rest is more false out =
      let others : kept xs ≡ front ++ row ∷ rest = sym (first-passed x xs out) ∙ is in
      further-on x xs front row rest up others (more front others)

  behind-rest : (xs : List LiveRow) → IsUp xs → (front : List LiveRow) (row : LiveRow) (rest : List LiveRow) → kept xs ≡ front ++ row ∷ rest → after row xs ≡ rest
  behind-rest [] up [] row rest is = absurd (cc)
  behind-rest [] up (z ∷ zs) row rest is = absurd (cc)
  behind-rest (x ∷ xs) up front row rest is = behind-case x xs up.0 front row rest is (λ zs others. behind-rest xs up.1 zs row rest others) (is_behind place x) refl

up-ascending : (xs : List LiveRow) → AreAscending xs → IsUp xs
up-ascending [] up = tt
up-ascending (x ∷ xs) up = (recursion_from_All (Before x) xs (λ k d within. up 0 (suc k) d (omega arith) (omega arith)), up-ascending xs (λ i j d less within. up (suc i) (suc j) d (omega arith) (omega arith)))

rows-up : (wanted : Option (List ℕ)) (prefix : List ℕ) (page : NodeView) → IsUp (rows_in wanted prefix page)
rows-up wanted prefix page = subst IsUp (sym (behind-nothing wanted prefix page)) (up-ascending (rows_behind None wanted prefix page) (ascending None wanted prefix page))

go-on : (place : Option (List ℕ × List ℕ)) (wanted : Option (List ℕ)) (prefix : List ℕ) (page : NodeView) (front : List LiveRow) (row : LiveRow) (rest : List LiveRow)
    → rows_behind place wanted prefix page ≡ front ++ row ∷ rest → rows_behind (Some (place_of row)) wanted prefix page ≡ rest
go-on place wanted prefix page front row rest is = behind-rest place (rows_in wanted prefix page) (rows-up wanted prefix page) front row rest is

abbrev live_of : codec.Row → LiveRow
live_of r = record { owner = r.owner; key = r.key; value = r.value; version = r.version }

back : (rows : List LiveRow) → map live_of (map message_row rows) ≡ rows
back [] = refl
back (r ∷ rs) = ap (λ (rest : List LiveRow). r ∷ rest) (back rs)

forth : (rows : List codec.Row) → map message_row (map live_of rows) ≡ rows
forth [] = refl
forth (r ∷ rs) = ap (λ (rest : List codec.Row). r ∷ rest) (forth rs)

-- what is asked for behind a row is what comes after it
pub pages-follow : (ask : Ask) (page : NodeView) (front : List codec.Row) (last : codec.Row) (rest : List codec.Row)
    → asked_rows ask page ≡ front ++ last ∷ rest → asked_rows (asking_behind last ask) page ≡ rest
pages-follow ask page front last rest is =
    let all = rows_behind ask.after ask.owner ask.prefix page in
    let split : all ≡ map live_of front ++ live_of last ∷ map live_of rest = sym (back all) ∙ ap (map live_of) is ∙ map-append live_of front (last ∷ rest) in
    ap (map message_row) (go-on ask.after ask.owner ask.prefix page (map live_of front) (live_of last) (map live_of rest) split) ∙ forth rest
