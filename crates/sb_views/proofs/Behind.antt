-- What a page has behind a place.
use Rattle.std.proofs.Common.{◌≡◌, ℕ, Bool, true, false, cond, ◌&&◌, List, [], ◌∷◌, ◌++◌, map, filter, Option, Some, None, unwrap_or, refl, sym, ap, ap₂, subst, ◌∙◌, nat_eq}
use Rattle.std.proofs.lemmas.Cmp.{nat_list_cmp_total}
use Rattle.std.proofs.lemmas.List.Elements.{filter-append, filter_agree}
use Rattle.std.specs.List.{AllByRecursion, starts_with}
use Rattle.std.specs.List.Sorted.{IsStrictlySortedBy}
use Rattle.std.specs.Map.{keys_of}
use Rattle.std.specs.Option.{option_map}
use Rattle.std.specs.Ordering.{is_lt}
use Rattle.std.specs.declared.cmp.Ordering.{Ordering}
use Rattle.std.specs.declared.cmp.Ordering.TheVariants.{Less, Equal, Greater}
use Rattle.std.specs.FinMap.{entries, entries_sorted, same_entries_map, entries-from_sorted, slice_cmp-IsAntisymmetric, nat_cmp-IsAntisymmetric}
use Rattle.std.specs.declared.ops.Bound.{Bound}
use Rattle.std.specs.BTreeMap.Range.{range_contains}
use Rattle.sb_types.specs.Value.{Value}
use Rattle.sb_views.specs.NodeViews.{OwnerView, NodeView, view_of}
use Rattle.sb_views.specs.LiveRows.{LiveRow, row_at, rows_under, rows_of_owners, rows_to_come, rows_in, rows_behind, rest_of, is_wanted, is_behind}
use Rattle.sb_views.proofs.ByText.{by_text, Ascend, found, sorted}
use Rattle.sb_views.proofs.Rising.{rising}
use Rattle.sb_views.proofs.Owners.{owner_view-found}
use Rattle.sb_views.proofs.Wanted.{rows-wanted}

pub to_come-front : (prefix : List ℕ) (rest : Option (List LiveRow)) (owners : List (List ℕ × OwnerView)) → rows_to_come prefix rest owners ≡ unwrap_or rest [] ++ rows_of_owners prefix owners
to_come-front prefix None owners = refl
to_come-front prefix (Some rows) owners = refl

cond-same : {A : Type 0} (b : Bool) (x : A) → cond b x x ≡ x
cond-same true x = refl
cond-same false x = refl

module _ (o k : List ℕ) where
  abbrev behind : LiveRow → Bool
  behind row = is_behind (Some (o, k)) row

  kept-one : (n : List ℕ) → by_text o n ≡ Less → (ps : List (List ℕ × (Value × ℕ))) → filter behind (map (row_at n) ps) ≡ map (row_at n) ps
  kept-one n later [] = refl
  kept-one n later (p ∷ ps) = rw later (ap (λ (rows : List LiveRow). row_at n p ∷ rows) (kept-one n later ps))

  dropped-one : (n : List ℕ) → by_text o n ≡ Greater → (ps : List (List ℕ × (Value × ℕ))) → filter behind (map (row_at n) ps) ≡ []
  dropped-one n before [] = refl
  dropped-one n before (p ∷ ps) = rw before (dropped-one n before ps)

  found-none : (es : List (List ℕ × OwnerView)) → AllByRecursion (λ n. by_text o n ≡ Less) (keys_of es) → found es o ≡ None
  found-none [] all = refl
  found-none (p ∷ ps) all = rw all.0 (found-none ps all.1)

  after : (n : List ℕ) → o ≡ n → (ps : List (List ℕ × OwnerView)) → AllByRecursion (λ q. by_text n q ≡ Less) (keys_of ps) → AllByRecursion (λ q. by_text o q ≡ Less) (keys_of ps)
  after n same ps all = subst (λ (q : List ℕ). AllByRecursion (λ r. by_text q r ≡ Less) (keys_of ps)) (sym same) all

  further : (n : List ℕ) → by_text o n ≡ Less → (ps : List (List ℕ × OwnerView)) → AllByRecursion (λ q. by_text n q ≡ Less) (keys_of ps) → AllByRecursion (λ q. by_text o q ≡ Less) (keys_of ps)
  further n later [] all = tt
  further n later (p ∷ ps) all = (nat_list_cmp_total.trans o n p.0 later all.0, further n later ps all.1)

  module _ (prefix : List ℕ) (f : List ℕ → Bool) where
    abbrev one : OwnerView → List LiveRow
    one owner_view = filter behind (rows_under prefix o owner_view)

    abbrev wanted : List (List ℕ × OwnerView) → List (List ℕ × OwnerView)
    wanted es = filter (λ p. f p.0) es

    abbrev later : List (List ℕ × OwnerView) → List (List ℕ × OwnerView)
    later es = filter (λ p. f p.0 && is_lt (by_text o p.0)) es

    abbrev left : List (List ℕ × OwnerView) → List LiveRow
    left es = filter behind (rows_of_owners prefix (wanted es))

    first-in : (p : List ℕ × OwnerView) (ps : List (List ℕ × OwnerView)) → f p.0 ≡ true → left (p ∷ ps) ≡ filter behind (rows_under prefix p.0 p.1) ++ left ps
    first-in p ps is = rw is (filter-append behind (rows_under prefix p.0 p.1) (rows_of_owners prefix (wanted ps)))

    first-out : (p : List ℕ × OwnerView) (ps : List (List ℕ × OwnerView)) → f p.0 ≡ false → left (p ∷ ps) ≡ left ps
    first-out p ps is = rw is refl

    kept-case : (p : List ℕ × OwnerView) (ps : List (List ℕ × OwnerView)) → by_text o p.0 ≡ Less → left ps ≡ rows_of_owners prefix (later ps)
        → (b : Bool) → f p.0 ≡ b → left (p ∷ ps) ≡ rows_of_owners prefix (later (p ∷ ps))
    kept-case p ps less rest true is =
        first-in p ps is
        ∙ ap₂ (λ (xs ys : List LiveRow). xs ++ ys) (kept-one p.0 less (filter (λ q. starts_with nat_eq q.0 prefix) (entries p.1.rows))) rest
        ∙ rw (is, less) refl
    kept-case p ps less rest false is = first-out p ps is ∙ rest ∙ rw is refl

    kept-later : (es : List (List ℕ × OwnerView)) → AllByRecursion (λ n. by_text o n ≡ Less) (keys_of es) → left es ≡ rows_of_owners prefix (later es)
    kept-later [] all = refl
    kept-later (p ∷ ps) all = kept-case p ps all.0 (kept-later ps all.1) (f p.0) refl

    abbrev Parted : List (List ℕ × OwnerView) → Type 0
    Parted es = left es ≡ rows_to_come prefix (cond (f o) (option_map one (found es o)) None) (later es)

    parted-less : (es : List (List ℕ × OwnerView)) → AllByRecursion (λ n. by_text o n ≡ Less) (keys_of es) → Parted es
    parted-less es all =
        kept-later es all
        ∙ ap (λ (rest : Option (List LiveRow)). rows_to_come prefix rest (later es))
        (sym (ap (λ (s : Option OwnerView). cond (f o) (option_map one s) None) (found-none es all) ∙ cond-same (f o) None))

    parted-equal : (p : List ℕ × OwnerView) (ps : List (List ℕ × OwnerView)) → by_text o p.0 ≡ Equal → AllByRecursion (λ n. by_text o n ≡ Less) (keys_of ps)
        → o ≡ p.0 → (b : Bool) → f p.0 ≡ b → Parted (p ∷ ps)
    parted-equal p ps tied all same true is =
        let here : f o ≡ true = ap f same ∙ is in
        first-in p ps is
        ∙ ap₂ (λ (xs ys : List LiveRow). xs ++ ys) (ap (λ (n : List ℕ). filter behind (rows_under prefix n p.1)) (sym same)) (kept-later ps all)
        ∙ rw (here, is, tied) refl
    parted-equal p ps tied all same false is =
        let here : f o ≡ false = ap f same ∙ is in
        first-out p ps is ∙ kept-later ps all ∙ rw (here, is) refl

    parted-greater : (p : List ℕ × OwnerView) (ps : List (List ℕ × OwnerView)) → by_text o p.0 ≡ Greater → Parted ps → (b : Bool) → f p.0 ≡ b → Parted (p ∷ ps)
    parted-greater p ps before rest true is =
        first-in p ps is
        ∙ ap (λ (xs : List LiveRow). xs ++ left ps) (dropped-one p.0 before (filter (λ q. starts_with nat_eq q.0 prefix) (entries p.1.rows)))
        ∙ rest ∙ rw (is, before) refl
    parted-greater p ps before rest false is = first-out p ps is ∙ rest ∙ rw (is, before) refl

    parted-case : (p : List ℕ × OwnerView) (ps : List (List ℕ × OwnerView)) → AllByRecursion (λ n. by_text p.0 n ≡ Less) (keys_of ps) → Parted ps → (r : Ordering) → by_text o p.0 ≡ r → Parted (p ∷ ps)
    parted-case p ps up rest Less is = parted-less (p ∷ ps) (is, further p.0 is ps up)
    parted-case p ps up rest Equal is =
        let same : o ≡ p.0 = slice_cmp-IsAntisymmetric nat_cmp-IsAntisymmetric o p.0 is in
        parted-equal p ps is (after p.0 same ps up) same (f p.0) refl
    parted-case p ps up rest Greater is = parted-greater p ps is rest (f p.0) refl

    -- behind the place stand the rest of its owner, where that is wanted and there, and the wanted owners behind
    pub parted : (es : List (List ℕ × OwnerView)) → Ascend es → Parted es
    unfolding IsStrictlySortedBy
    parted [] up = sym (to_come-front prefix (cond (f o) None None) [] ∙ ap (λ (rest : Option (List LiveRow)). unwrap_or rest [] ++ []) (cond-same (f o) None))
    parted (p ∷ ps) up = parted-case p ps up.0 (parted ps up.1) (by_text o p.0) refl

keeps-all : (rows : List LiveRow) → filter (is_behind None) rows ≡ rows
keeps-all [] = refl
keeps-all (row ∷ rows) = ap (λ (rest : List LiveRow). row ∷ rest) (keeps-all rows)

pub behind-nothing : (wanted : Option (List ℕ)) (prefix : List ℕ) (view : NodeView) → rows_in wanted prefix view ≡ rows_behind None wanted prefix view
behind-nothing wanted prefix view = sym (keeps-all (rows_in wanted prefix view))

pub rest-unwanted : (wanted : Option (List ℕ)) (prefix owner key : List ℕ) (view : NodeView) → is_wanted wanted owner ≡ false → None ≡ rest_of wanted prefix owner key view
rest-unwanted wanted prefix owner key view is = rw is refl

module _ (owner key : List ℕ) (wanted : Option (List ℕ)) (prefix : List ℕ) (es : List (List ℕ × OwnerView)) (up : Ascend es) (view : NodeView) (viewed : view_of es ≡ view) where
  pub rest-wanted : (at : Option OwnerView) → at ≡ found es owner → is_wanted wanted owner ≡ true
      → option_map (λ owner_view. filter (is_behind (Some (owner, key))) (rows_under prefix owner owner_view)) at ≡ rest_of wanted prefix owner key view
  rest-wanted at is wants =
      rw wants (ap (option_map (λ (owner_view : OwnerView). filter (is_behind (Some (owner, key))) (rows_under prefix owner owner_view))) (is ∙ sym (owner_view-found owner es up view viewed)))

  abbrev wanted-later : List (List ℕ × OwnerView) → List (List ℕ × OwnerView)
  wanted-later ps = filter (λ p. is_wanted wanted p.0 && is_lt (by_text owner p.0)) ps

  plain : wanted-later (entries view) ≡ wanted-later es
  plain = ap (λ (p : NodeView). wanted-later (entries p)) (sym viewed) ∙ ap wanted-later (entries-from_sorted by_text es (sorted es up))

  -- a part of the sheets between two bounds
  pub others-behind : (start end : Bound (List ℕ)) (part : List (List ℕ × OwnerView)) → part ≡ filter (λ p. range_contains by_text start end p.0) es
      → ((name : List ℕ) → range_contains by_text start end name ≡ (is_wanted wanted name && is_lt (by_text owner name))) → part ≡ wanted-later (entries view)
  others-behind start end part is agree =
      is ∙ filter_agree (λ (p : List ℕ × OwnerView). range_contains by_text start end p.0) (λ p. is_wanted wanted p.0 && is_lt (by_text owner p.0)) (λ p. agree p.0) es ∙ sym plain

  -- what is read is what stands behind the place
  pub view-behind : (owners : List (List ℕ × OwnerView)) → owners ≡ wanted-later (entries view)
      → rows_to_come prefix (rest_of wanted prefix owner key view) owners ≡ rows_behind (Some (owner, key)) wanted prefix view
  view-behind owners is =
      ap₂ (λ (at : Option OwnerView) (ps : List (List ℕ × OwnerView)).
      rows_to_come prefix (cond (is_wanted wanted owner) (option_map (λ owner_view. filter (is_behind (Some (owner, key))) (rows_under prefix owner owner_view)) at) None) ps)
      (owner_view-found owner es up view viewed) (is ∙ plain)
      ∙ sym (parted owner key prefix (is_wanted wanted) es up)
      ∙ ap (filter (is_behind (Some (owner, key)))) (rows-wanted wanted prefix es (filter (λ p. is_wanted wanted p.0) es) view up viewed refl)

pub view-from : (place : List ℕ × List ℕ) (wanted : Option (List ℕ)) (prefix : List ℕ) (view : NodeView) (owners : List (List ℕ × OwnerView))
    → owners ≡ filter (λ p. is_wanted wanted p.0 && is_lt (by_text place.0 p.0)) (entries view)
    → rows_to_come prefix (rest_of wanted prefix place.0 place.1 view) owners ≡ rows_behind (Some place) wanted prefix view
view-from place wanted prefix view owners is =
    let es = entries view in
    let viewed = same_entries_map (view_of es) view (entries-from_sorted by_text es (entries_sorted view)) in
    view-behind place.0 place.1 wanted prefix es (rising es (entries_sorted view)) view viewed owners is
