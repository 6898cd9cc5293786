-- The blocks of a front of what is offered, and what is available of each owner.
use Rattle.std.proofs.Common.{◌≡◌, ℕ, suc, ◌<◌, Bool, true, false, List, [], ◌∷◌, ◌++◌, map, take, drop, length, filter, inl, inr, ⊎_elim, refl, sym, ap, ap₂, ◌∙◌, subst, subst₂, Some, None, nat_eq, nat_lt, arith, ltb-true, lt-ltb, if◌then◌else◌, append-nil, take-append-drop}
use Rattle.std.proofs.lemmas.Bool.{and_parts, cond_both, or_left, or_right, or_parts, not-true, false≢true, true≢false, false_from_ne_true}
use Rattle.std.proofs.lemmas.List.{take-map, drop-map, take_at, drop_at}
use Rattle.std.proofs.lemmas.List.Elements.{filter-append}
use Rattle.std.specs.Cmp.Lexicographic.{pointwise}
use Rattle.sb_types.specs.declared.entry.Write.{Write}
use Rattle.sb_types.specs.Records.{Entry, Table, Block, Holder}
use Rattle.sb_types.specs.Runs.{Stands, newer_entries, last_version, IsRun, IsTable, IsBlock}
use Rattle.sb_types.specs.Writes.{Tells, Holds, Honest}
use Rattle.sb_budget.specs.Offers.{Item, items_from, items_of, of_owner, entries_of, block_from, block_of, is_named, are_named_once, available_items}
use Rattle.sb_types.proofs.Standing.{left, of_above}
use Rattle.sb_types.proofs.Texts.{same_text, text_same}
use Rattle.sb_table.proofs.Order.{run_above, run_front, run_after, run_upto}
use Rattle.sb_holdings.proofs.Telling.{tells_above, tells_front}

module _ (owner : List ℕ) (t : Table) (number : ℕ) where
  abbrev item_of : Entry → Item
  item_of e = record { owner = owner; floor = t.floor; after = number; upto = t.held; entry = Some e }

  entries_back : (es : List Entry) → entries_of (map item_of es) ≡ es
  entries_back [] = refl
  entries_back (e ∷ es) = ap (λ r. e ∷ r) (entries_back es)

  -- the block of these entries
  abbrev block_of_these : ℕ → List Entry → Block
  block_of_these upto es = record { owner = owner; floor = t.floor; after = number; upto = upto; entries = es }

  abbrev news : Item
  news = record { owner = owner; floor = t.floor; after = number; upto = t.held; entry = None }

  some_offered : (es : List Entry) (first : Item) → ((e : Entry) → Stands es e → number < t.held) → Stands (items_from owner t number es) first → number < t.held
  some_offered [] first known s =
      cond_both (nat_lt number t.held) _ [] (λ items. Stands items first → number < t.held) (λ l _. ltb-true number t.held l) (λ _ none. absurd none) s
  some_offered (e ∷ es) first known s = known e (inl refl)

  module _ (Q : Block → Type 0) where
    split : (e : Entry) (es rest : List Entry) → (rest ≡ [] → Q (block_of_these t.held (e ∷ es))) → Q (block_of_these (last_version number (e ∷ es)) (e ∷ es)) →
        Q (block_from owner (map item_of (e ∷ es)) (map item_of rest))
    split e es [] whole front = rw (entries_back es) (whole refl)
    split e es (r ∷ rest) whole front = rw (entries_back es) front

    split_items : (e : Entry) (es : List Entry) (k : ℕ) → Q (block_of_these t.held (e ∷ es)) → Q (block_of_these (last_version number (e ∷ take k es)) (e ∷ take k es)) →
        Q (block_from owner (map item_of (take (suc k) (e ∷ es))) (map item_of (drop (suc k) (e ∷ es))))
    split_items e es k whole front = split e (take k es) (drop k es) all front
      where
        all : drop k es ≡ [] → Q (block_of_these t.held (e ∷ take k es))
        all none = let same : take k es ≡ es = sym (append-nil (take k es)) ∙ ap (λ r. take k es ++ r) (sym none) ∙ take-append-drop k es in rw same whole

    news_alone : (front rest : List Item) (first : Item) → front ++ rest ≡ news ∷ [] → Stands front first → Q (block_of_these t.held []) → Q (block_from owner front rest)
    news_alone [] rest first e s q = absurd s
    news_alone (i ∷ []) [] first e s q = let same : i ≡ news = cc in subst (λ i. Q (block_from owner (i ∷ []) [])) (sym same) q
    news_alone (i ∷ []) (r ∷ rest) first e s q = absurd (cc)
    news_alone (i ∷ j ∷ is) rest first e s q = absurd (cc)

    blocks : (es : List Entry) (front rest : List Item) (first : Item) → front ++ rest ≡ items_from owner t number es → Stands front first → number < t.held →
        Q (block_of_these t.held es) → ((k : ℕ) (e : Entry) → Stands (take k es) e → Q (block_of_these (last_version number (take k es)) (take k es))) →
        Q (block_from owner front rest)
    blocks [] front rest first e s l whole fronts = news_alone front rest first (rw (lt-ltb number t.held l) at e) s whole
    blocks (e ∷ es) [] rest first eq s l whole fronts = absurd s
    blocks (e ∷ es) (f ∷ fs) rest first eq s l whole fronts =
        let n = suc (length fs) in
        let taken : f ∷ fs ≡ map item_of (take n (e ∷ es)) = sym (take_at (f ∷ fs) rest n refl) ∙ ap (take n) eq ∙ take-map item_of n (e ∷ es) in
        let left : rest ≡ map item_of (drop n (e ∷ es)) = sym (drop_at (f ∷ fs) rest n refl) ∙ ap (drop n) eq ∙ drop-map item_of n (e ∷ es) in
        subst₂ (λ a b. Q (block_from owner a b)) (sym taken) (sym left) (split_items e es (length fs) whole (fronts n e (inl refl)))

module _ (owner : List ℕ) (t : Table) (number : ℕ) (front rest : List Item) (first : Item) (i : IsTable t) (offered : of_owner owner (front ++ rest) ≡ items_of owner t number) (s : Stands (of_owner owner front) first) where
  joined : of_owner owner front ++ of_owner owner rest ≡ items_of owner t number
  joined = sym (filter-append (λ item. pointwise nat_eq item.owner owner) front rest) ∙ offered

  more_held : number < t.held
  more_held = some_offered owner t number (newer_entries number t.entries) first
      (λ e a. let o = of_above number t.entries e a in omega (arith, o.1, run_upto e i.run o.0))
      (subst (λ items. Stands items first) joined (left (of_owner owner front) (of_owner owner rest) first s))

  run : IsRun number t.held (newer_entries number t.entries)
  run = let l = more_held in run_above number (omega arith) i.run

  front_order : (k : ℕ) (e : Entry) → Stands (take k (newer_entries number t.entries)) e → number < last_version number (take k (newer_entries number t.entries))
  front_order k e a = let r = run_front k run in omega (arith, run_after e r a, run_upto e r a)

  pub offer_is : IsBlock (block_of owner front rest)
  offer_is = blocks owner t number IsBlock (newer_entries number t.entries) (of_owner owner front) (of_owner owner rest) first joined s more_held
      (record { run = run; order = more_held })
      (λ k e a. record { run = run_front k run; order = front_order k e a })

  pub offer_honest : (writes : List Write) → Holds writes t → Honest writes (block_of owner front rest)
  offer_honest writes h =
      let all : Tells writes t.floor number t.held (newer_entries number t.entries) = tells_above number (omega arith) h in
      blocks owner t number (Honest writes) (newer_entries number t.entries) (of_owner owner front) (of_owner owner rest) first joined s more_held all (λ k e a. tells_front k run all)

-- ---- what is available of each owner

module _ {X : Type 0} (p : X → Bool) where
  keep_all : (xs : List X) → ((x : X) → Stands xs x → p x ≡ true) → filter p xs ≡ xs
  keep_all [] each = refl
  keep_all (x ∷ xs) each = rw (each x (inl refl)) (ap (λ r. x ∷ r) (keep_all xs (λ y s. each y (inr s))))

  keep_none : (xs : List X) → ((x : X) → Stands xs x → p x ≡ false) → filter p xs ≡ []
  keep_none [] each = refl
  keep_none (x ∷ xs) each = rw (each x (inl refl)) (keep_none xs (λ y s. each y (inr s)))

module _ (owner : List ℕ) (t : Table) (number : ℕ) where
  mapped_owner : (es : List Entry) (item : Item) → Stands (map (item_of owner t number) es) item → item.owner ≡ owner
  mapped_owner [] item s = absurd s
  mapped_owner (e ∷ es) item (inl p) = sym (ap (λ (x : Item). x.owner) p)
  mapped_owner (e ∷ es) item (inr s) = mapped_owner es item s

  items_owner : (es : List Entry) (item : Item) → Stands (items_from owner t number es) item → item.owner ≡ owner
  items_owner [] item s =
      cond_both (nat_lt number t.held) (news owner t number ∷ []) [] (λ items. Stands items item → item.owner ≡ owner)
      (λ _ one. ⊎_elim (λ p. sym (ap (λ (x : Item). x.owner) p)) (λ none. absurd none) one)
      (λ _ none. absurd none)
      s
  items_owner (e ∷ es) item s = mapped_owner (e ∷ es) item s

  of_its_owner : of_owner owner (items_of owner t number) ≡ items_of owner t number
  of_its_owner = keep_all _ (items_of owner t number) (λ x s. text_same x.owner owner (items_owner (newer_entries number t.entries) x s))

  of_another : (q : List ℕ) → pointwise nat_eq owner q ≡ false → of_owner q (items_of owner t number) ≡ []
  of_another q other = keep_none _ (items_of owner t number) (λ x s. ap (λ o. pointwise nat_eq o q) (items_owner (newer_entries number t.entries) x s) ∙ other)

named : (ps : List (List ℕ × Holder)) (p : List ℕ × Holder) → Stands ps p → is_named p.0 ps ≡ true
named [] p s = absurd s
named (q ∷ ps) p (inl e) = or_left _ _ (text_same q.0 p.0 (ap (λ (r : List ℕ × Holder). r.0) e))
named (q ∷ ps) p (inr s) = or_right _ _ (named ps p s)

module _ (covers : List ℕ → Bool) (offered : List ℕ → Table → Table) (number : List ℕ → Table → ℕ) where
  offered_of : List ℕ × Holder → List Item
  offered_of p = if covers p.0 then items_of p.0 (offered p.0 p.1.shown) (number p.0 p.1.shown) else []

  other_offer : (p : List ℕ × Holder) (q : List ℕ) → pointwise nat_eq p.0 q ≡ false → of_owner q (offered_of p) ≡ []
  unfolding offered_of
  other_offer p q other = cond_both (covers p.0) _ [] (λ items. of_owner q items ≡ []) (λ _. of_another p.0 (offered p.0 p.1.shown) (number p.0 p.1.shown) q other) (λ _. refl)

  pub unnamed : (ps : List (List ℕ × Holder)) (q : List ℕ) → is_named q ps ≡ false → of_owner q (available_items covers offered number ps) ≡ []
  unfolding offered_of
  unnamed [] q h = refl
  unnamed (p ∷ ps) q h =
      let parts = or_parts (pointwise nat_eq p.0 q) (is_named q ps) h in
      filter-append (λ item. pointwise nat_eq item.owner q) (offered_of p) (available_items covers offered number ps)
      ∙ ap₂ (λ a b. a ++ b) (other_offer p q parts.0) (unnamed ps q parts.1)

  uncovered_offer : (p : List ℕ × Holder) (q : List ℕ) → covers q ≡ false → of_owner q (offered_of p) ≡ []
  unfolding offered_of
  uncovered_offer p q none =
      cond_both (covers p.0) _ [] (λ items. of_owner q items ≡ [])
      (λ covered. of_another p.0 (offered p.0 p.1.shown) (number p.0 p.1.shown) q (false_from_ne_true _ (λ t. true≢false (sym covered ∙ ap covers (same_text p.0 q t) ∙ none))))
      (λ _. refl)

  pub uncovered : (ps : List (List ℕ × Holder)) (q : List ℕ) → covers q ≡ false → of_owner q (available_items covers offered number ps) ≡ []
  unfolding offered_of
  uncovered [] q none = refl
  uncovered (p ∷ ps) q none =
      filter-append (λ item. pointwise nat_eq item.owner q) (offered_of p) (available_items covers offered number ps)
      ∙ ap₂ (λ a b. a ++ b) (uncovered_offer p q none) (uncovered ps q none)

  own_offer : (p : List ℕ × Holder) → covers p.0 ≡ true → of_owner p.0 (offered_of p) ≡ items_of p.0 (offered p.0 p.1.shown) (number p.0 p.1.shown)
  unfolding offered_of
  own_offer p c = rw c (of_its_owner p.0 (offered p.0 p.1.shown) (number p.0 p.1.shown))

  pub available_of : (ps : List (List ℕ × Holder)) (p : List ℕ × Holder) → are_named_once ps ≡ true → Stands ps p → covers p.0 ≡ true → of_owner p.0 (available_items covers offered number ps) ≡ items_of p.0 (offered p.0 p.1.shown) (number p.0 p.1.shown)
  unfolding offered_of
  available_of [] p d s c = absurd s
  available_of (q ∷ ps) p d (inl e) c =
      let alone : is_named q.0 ps ≡ false = not-true _ (and_parts _ _ d).0 in
      let covered : covers q.0 ≡ true = ap (λ (r : List ℕ × Holder). covers r.0) e ∙ c in
      subst (λ (r : List ℕ × Holder). of_owner r.0 (available_items covers offered number (q ∷ ps)) ≡ items_of r.0 (offered r.0 r.1.shown) (number r.0 r.1.shown)) e
      (filter-append (λ item. pointwise nat_eq item.owner q.0) (offered_of q) (available_items covers offered number ps)
      ∙ ap₂ (λ a b. a ++ b) (own_offer q covered) (unnamed ps q.0 alone)
      ∙ append-nil _)
  available_of (q ∷ ps) p d (inr s) c =
      let alone : is_named q.0 ps ≡ false = not-true _ (and_parts _ _ d).0 in
      let other : pointwise nat_eq q.0 p.0 ≡ false = false_from_ne_true _ (λ t. false≢true (sym alone ∙ rw (same_text q.0 p.0 t) (named ps p s))) in
      filter-append (λ item. pointwise nat_eq item.owner p.0) (offered_of q) (available_items covers offered number ps)
      ∙ ap₂ (λ a b. a ++ b) (other_offer q p.0 other) (available_of ps p (and_parts _ _ d).1 s c)
