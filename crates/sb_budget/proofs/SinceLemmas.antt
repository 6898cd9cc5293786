-- What is offered of the owners in a backlog is what is offered in answer to the digest that it stands for.
use Rattle.std.proofs.Common.{◌≡◌, ℕ, ◌≤◌, Bool, true, false, cond, List, [], ◌∷◌, map, Option, Some, None, inl, inr, refl, sym, ap, ap₂, subst, ◌∙◌, arith, Ordering, Less, Equal, Greater, nat_eq, nat_le, true≢false}
use Rattle.std.specs.List.{AllByRecursion, filter_map, cons_option}
use Rattle.std.specs.List.Sorted.{IsStrictlySortedBy}
use Rattle.std.specs.Map.{keys_of}
use Rattle.std.specs.Option.{option_map, option_map_or}
use Rattle.std.specs.Ordering.{is_eq, eq_by_cmp, ordering_reverse}
use Rattle.std.specs.FinMap.{get, entries, get-entries, find}
use Rattle.std.specs.Cmp.Lexicographic.{pointwise}
use Rattle.std.proofs.lemmas.Bool.{cond_both, cond-true, cond-false, false_from_ne_true, le-leb, leb-true}
use Rattle.std.proofs.lemmas.Cmp.{nat_list_cmp_total}
use Rattle.sb_types.specs.Records.{Table, Holder}
use Rattle.sb_types.specs.Runs.{Stands, IsTable}
use Rattle.sb_types.proofs.Texts.{text_same, apart-from_Less}
use Rattle.sb_holdings.specs.Held.{Held}
use Rattle.sb_holdings.specs.Plain.{IsKeptHolder, IsHoldings, each_shown, table_of, tables_from}
use Rattle.sb_digest.specs.Digests.{Pair, Digest, plain_pair, pair_at, held_in, number_by, covers}
use Rattle.sb_budget.specs.Available.{number_for, offered_table, ranked_of, AreRanked}
use Rattle.sb_budget.specs.Orders.{IsOffer}
use Rattle.sb_budget.specs.Cut.{items_of_all, CanCut}
use Rattle.sb_budget.specs.Parts.{Part, part_of, all_of, AreParts}
use Rattle.sb_budget.specs.Backlogs.{Backlog, version_since, pair_since, digest_since, part_since}
use Rattle.sb_budget.proofs.PlaceLemmas.{text_cmp, same_from_Equal, Equal_from_same}
use Rattle.sb_budget.proofs.HonestLemmas.{mapped_from}
use Rattle.sb_budget.proofs.BacklogLemmas.{Ascend, entries_ascend}
use Rattle.sb_budget.proofs.OfferedLemmas.{offered_own}
use Rattle.sb_budget.proofs.CursorLemmas.{ranked_none}
use Rattle.sb_budget.proofs.AvailableLemmas.{all_parts, keys_shown, all_tables, each_table, items_held, rising_tables, can_cut, is_offer, are_ranked}
use Rattle.sb_budget.proofs.PartLemmas.{piece_at, all_pieces, items_of_pieces, chains_of_pieces, names_of_pieces}

-- ---- what is kept of a list

kept_same : {A B : Type 0} (f g : A → Option B) (xs : List A) → ((x : A) → Stands xs x → f x ≡ g x) → filter_map f xs ≡ filter_map g xs
kept_same f g [] same = refl
kept_same f g (x ∷ xs) same = ap₂ (λ o r. cons_option o r) (same x (inl refl)) (kept_same f g xs (λ y s. same y (inr s)))

kept_none : {A B : Type 0} (f : A → Option B) (xs : List A) → ((x : A) → f x ≡ None) → filter_map f xs ≡ []
kept_none f [] none = refl
kept_none f (x ∷ xs) none = ap (λ o. cons_option o (filter_map f xs)) (none x) ∙ kept_none f xs none

-- ---- what is found under a name

apart : (a b : List ℕ) → text_cmp a b ≡ Less → eq_by_cmp text_cmp b a ≡ true → ⊥
apart a b less tied = true≢false (sym tied ∙ ap is_eq (nat_list_cmp_total.antisymm b a ∙ ap ordering_reverse less))

module _ {A : Type 0} where
  later : (q : List ℕ) (es : List (List ℕ × A)) (p : List ℕ × A) → AllByRecursion (λ k. text_cmp q k ≡ Less) (keys_of es) → Stands es p → text_cmp q p.0 ≡ Less
  later q [] p all s = absurd s
  later q (e ∷ es) p all (inl same) = subst (λ (x : List ℕ × A). text_cmp q x.0 ≡ Less) same all.0
  later q (e ∷ es) p all (inr s) = later q es p all.1 s

  all_later : (a b : List ℕ) (es : List (List ℕ × A)) → text_cmp a b ≡ Less → AllByRecursion (λ k. text_cmp b k ≡ Less) (keys_of es) → AllByRecursion (λ k. text_cmp a k ≡ Less) (keys_of es)
  all_later a b [] less all = tt
  all_later a b (e ∷ es) less all = (nat_list_cmp_total.trans a b e.0 less all.0, all_later a b es less all.1)

  find_skip : (q : List ℕ) (e : List ℕ × A) (es : List (List ℕ × A)) → text_cmp e.0 q ≡ Less → find text_cmp q (e ∷ es) ≡ find text_cmp q es
  find_skip q e es less = cond-false _ _ _ (false_from_ne_true _ (λ tied. apart e.0 q less tied))

  find_none : (q : List ℕ) (es : List (List ℕ × A)) → AllByRecursion (λ k. text_cmp q k ≡ Less) (keys_of es) → find text_cmp q es ≡ None
  find_none q [] all = refl
  find_none q (e ∷ es) all = cond-false _ _ _ (ap is_eq all.0) ∙ find_none q es all.1

  find_here : (q : List ℕ) (e : List ℕ × A) (es : List (List ℕ × A)) → text_cmp q e.0 ≡ Equal → find text_cmp q (e ∷ es) ≡ Some e.1
  find_here q e es tied = cond-true _ _ _ (ap is_eq tied)

find_shown : (q : List ℕ) (es : List (List ℕ × Holder)) → find text_cmp q (each_shown es) ≡ option_map (λ h. h.shown) (find text_cmp q es)
find_shown q [] = refl
find_shown q (e ∷ es) = go (eq_by_cmp text_cmp q e.0) (find_shown q es)
  where
    go : (b : Bool) → find text_cmp q (each_shown es) ≡ option_map (λ h. h.shown) (find text_cmp q es)
        → cond b (Some e.1.shown) (find text_cmp q (each_shown es)) ≡ option_map (λ h. h.shown) (cond b (Some e.1) (find text_cmp q es))
    go true rest = refl
    go false rest = rest

-- ---- two lists by name, each looked up in the other

-- what comes of the value that is found, if one is
abbrev pub if_found : {A P : Type 0} → Option A → (A → Option P) → Option P
if_found None f = None
if_found (Some x) f = f x

module _ {X Y P : Type 0} (f : List ℕ → X → Y → Option P) where
  abbrev pub by_first : List (List ℕ × Y) → List ℕ × X → Option P
  by_first ys x = if_found (find text_cmp x.0 ys) (λ y. f x.0 x.1 y)

  abbrev pub by_second : List (List ℕ × X) → List ℕ × Y → Option P
  by_second xs y = if_found (find text_cmp y.0 xs) (λ x. f y.0 x y.1)

  -- over the first list
  abbrev pub over : List (List ℕ × X) → List (List ℕ × Y) → List P
  over xs ys = filter_map (by_first ys) xs

  -- over the second list
  abbrev pub against : List (List ℕ × X) → List (List ℕ × Y) → List P
  against xs ys = filter_map (by_second xs) ys

  merged_from : (x : List ℕ × X) (xs : List (List ℕ × X)) → ((ys : List (List ℕ × Y)) → Ascend ys → over xs ys ≡ against xs ys) → AllByRecursion (λ k. text_cmp x.0 k ≡ Less) (keys_of xs)
      → (ys : List (List ℕ × Y)) → Ascend ys → over (x ∷ xs) ys ≡ against (x ∷ xs) ys
  unfolding IsStrictlySortedBy
  merged_from x xs rest up [] vp = kept_none (by_first []) (x ∷ xs) (λ p. refl)
  merged_from x xs rest up (y ∷ ys) vp = go (text_cmp x.0 y.0) refl vp vp.0 (rest ys vp.1) (merged_from x xs rest up ys vp.1)
    where
      go : (r : Ordering) → text_cmp x.0 y.0 ≡ r → Ascend (y ∷ ys) → AllByRecursion (λ k. text_cmp y.0 k ≡ Less) (keys_of ys) → over xs ys ≡ against xs ys
          → over (x ∷ xs) ys ≡ against (x ∷ xs) ys → over (x ∷ xs) (y ∷ ys) ≡ against (x ∷ xs) (y ∷ ys)
      go Less less wp behind both more =
          let all : AllByRecursion (λ k. text_cmp x.0 k ≡ Less) (keys_of (y ∷ ys)) = (less, all_later x.0 y.0 ys less behind) in
          ap (λ (o : Option Y). cons_option (if_found o (λ z. f x.0 x.1 z)) (over xs (y ∷ ys))) (find_none x.0 (y ∷ ys) all)
          ∙ rest (y ∷ ys) wp
          ∙ sym (kept_same (by_second (x ∷ xs)) (by_second xs) (y ∷ ys) (λ q s. ap (λ (o : Option X). if_found o (λ z. f q.0 z q.1)) (find_skip q.0 x xs (later x.0 (y ∷ ys) q all s))))
      go Equal tied wp behind both more =
          let same : x.0 ≡ y.0 = same_from_Equal x.0 y.0 tied in
          let first : by_first (y ∷ ys) x ≡ f x.0 x.1 y.1 = ap (λ (o : Option Y). if_found o (λ z. f x.0 x.1 z)) (find_here x.0 y ys tied) in
          let second : by_second (x ∷ xs) y ≡ f y.0 x.1 y.1 = ap (λ (o : Option X). if_found o (λ z. f y.0 z y.1)) (find_here y.0 x xs (Equal_from_same y.0 x.0 (sym same))) in
          let firsts : over xs (y ∷ ys) ≡ over xs ys =
          kept_same (by_first (y ∷ ys)) (by_first ys) xs (λ q s. ap (λ (o : Option Y). if_found o (λ z. f q.0 q.1 z)) (find_skip q.0 y ys (subst (λ (n : List ℕ). text_cmp n q.0 ≡ Less) same (later x.0 xs q up s)))) in
          let seconds : against (x ∷ xs) ys ≡ against xs ys =
          kept_same (by_second (x ∷ xs)) (by_second xs) ys (λ q s. ap (λ (o : Option X). if_found o (λ z. f q.0 z q.1)) (find_skip q.0 x xs (subst (λ (n : List ℕ). text_cmp n q.0 ≡ Less) (sym same) (later y.0 ys q behind s)))) in
          ap₂ (λ (o : Option P) (r : List P). cons_option o r) (first ∙ ap (λ (n : List ℕ). f n x.1 y.1) same ∙ sym second) (firsts ∙ both ∙ sym seconds)
      go Greater greater wp behind both more =
          let less : text_cmp y.0 x.0 ≡ Less = nat_list_cmp_total.antisymm y.0 x.0 ∙ ap ordering_reverse greater in
          let all : AllByRecursion (λ k. text_cmp y.0 k ≡ Less) (keys_of (x ∷ xs)) = (less, all_later y.0 x.0 xs less up) in
          kept_same (by_first (y ∷ ys)) (by_first ys) (x ∷ xs) (λ q s. ap (λ (o : Option Y). if_found o (λ z. f q.0 q.1 z)) (find_skip q.0 y ys (later y.0 (x ∷ xs) q all s)))
          ∙ more
          ∙ sym (ap (λ (o : Option X). cons_option (if_found o (λ z. f y.0 z y.1)) (against (x ∷ xs) ys)) (find_none y.0 (x ∷ xs) all))

  pub merged : (xs : List (List ℕ × X)) → Ascend xs → (ys : List (List ℕ × Y)) → Ascend ys → over xs ys ≡ against xs ys
  unfolding IsStrictlySortedBy
  merged [] up ys vp = sym (kept_none (by_second []) ys (λ y. refl))
  merged (x ∷ xs) up ys vp = merged_from x xs (λ zs zp. merged xs up.1 zs zp) up.0 ys vp

-- ---- the pair of an owner in the digest

module _ (b : Backlog) where
  pair_found : (es : List (List ℕ × Holder)) (h : List ℕ × Holder) → Ascend es → Stands es h → pair_at h.0 (map (pair_since b) es) ≡ Some (pair_since b h)
  unfolding IsStrictlySortedBy
  pair_found [] h up s = absurd s
  pair_found (e ∷ es) h up (inl same) =
      subst (λ (q : List ℕ × Holder). cond (pointwise nat_eq e.0 q.0) (Some (pair_since b e)) (pair_at q.0 (map (pair_since b) es)) ≡ Some (pair_since b q)) same
      (cond-true _ _ _ (text_same e.0 e.0 refl))
  pair_found (e ∷ es) h up (inr s) = cond-false _ _ _ (apart-from_Less e.0 h.0 (later e.0 es h up.0 s)) ∙ pair_found es h up.1 s

-- how far the peer has all of a table
all_of_it : (owner : List ℕ) (t : Table) → IsTable t → number_by t.floor t.held (Some (plain_pair owner t.held)) ≡ t.held
all_of_it owner t is = cond-true _ _ _ (le-leb t.floor t.held is.floor)

abbrev number_of : List ℕ → Table → Option ℕ → ℕ
number_of owner t o = number_by t.floor t.held (Some (plain_pair owner (version_since t o)))

-- which is at or above the floor
since_floor : (t : Table) → IsTable t → (o : Option ℕ) → t.floor ≤ version_since t o
since_floor t is None = is.floor
since_floor t is (Some v) = cond_both (nat_le t.floor v) v t.held (λ n. t.floor ≤ n) (λ far. leb-true t.floor v far) (λ _. is.floor)

-- what is offered of it above that
part_found : (owner : List ℕ) (t : Table) → IsTable t → (o : Option ℕ) → part_of (ranked_of owner t (number_of owner t o)) ≡ if_found o (λ v. part_since owner (Some t) v)
part_found owner t is None = ap (λ n. part_of (ranked_of owner t n)) (all_of_it owner t is) ∙ ranked_none owner t t.held is.run (omega arith)
part_found owner t is (Some v) = go (nat_le t.floor v) refl
  where
    go : (c : Bool) → nat_le t.floor v ≡ c → part_of (ranked_of owner t (number_of owner t (Some v))) ≡ part_since owner (Some t) v
    go true e =
        ap (λ c. part_of (ranked_of owner t (number_by t.floor t.held (Some (plain_pair owner (cond c v t.held)))))) e
        ∙ ap (λ n. part_of (ranked_of owner t n)) (cond-true _ _ _ e)
        ∙ sym (cond-true _ _ _ e)
    go false e =
        ap (λ c. part_of (ranked_of owner t (number_by t.floor t.held (Some (plain_pair owner (cond c v t.held)))))) e
        ∙ ap (λ n. part_of (ranked_of owner t n)) (all_of_it owner t is)
        ∙ ranked_none owner t t.held is.run (omega arith)
        ∙ sym (cond-false _ _ _ e)

-- ---- what is offered of all

module _ (held : Held) (b : Backlog) (is : IsHoldings held) where
  abbrev asked : Digest
  asked = digest_since held b

  abbrev tables : List (List ℕ × Table)
  tables = tables_from None held

  tables_ascend : Ascend tables
  tables_ascend = subst (IsStrictlySortedBy text_cmp) (sym (ap keys_of (all_tables held) ∙ keys_shown (entries held.owners))) (entries_ascend held.owners)

  found_piece : (p : List ℕ × Table) → Stands tables p → piece_at (covers asked) (offered_table asked) (number_for asked) p ≡ if_found (find text_cmp p.0 (entries b)) (λ v. part_since p.0 (Some p.1) v)
  found_piece p s =
      let from = mapped_from (λ (q : List ℕ × Holder). (q.0, q.1.shown)) (entries held.owners) p (subst (λ (ts : List (List ℕ × Table)). Stands ts p) (all_tables held) s) in
      let h = from.0 in
      let table : IsTable p.1 = each_table held tables_ascend IsKeptHolder IsTable (λ x kept. kept.is.shown) is.each p s in
      let shown : IsTable h.1.shown = subst (λ (q : List ℕ × Table). IsTable q.1) (sym from.2) table in
      let found : pair_at h.0 asked.pairs ≡ Some (pair_since b h) = pair_found b (entries held.owners) h (entries_ascend held.owners) from.1 in
      let far : h.1.shown.floor ≤ held_in asked h.0 = subst (λ (n : ℕ). h.1.shown.floor ≤ n) (sym (ap (λ (o : Option Pair). option_map_or (λ p. p.held) o 0) found)) (since_floor h.1.shown shown (get b h.0)) in
      subst (λ (q : List ℕ × Table). piece_at (covers asked) (offered_table asked) (number_for asked) q ≡ if_found (find text_cmp q.0 (entries b)) (λ v. part_since q.0 (Some q.1) v)) from.2
      (ap (λ (t : Table). part_of (ranked_of h.0 t (number_for asked h.0 h.1.shown))) (offered_own asked h.0 h.1.shown shown far)
      ∙ ap (λ o. part_of (ranked_of h.0 h.1.shown (number_by h.1.shown.floor h.1.shown.held o))) found
      ∙ part_found h.0 h.1.shown shown (get b h.0)
      ∙ ap (λ o. if_found o (λ v. part_since h.0 (Some h.1.shown) v)) (get-entries b h.0))

  table_found : (owner : List ℕ) → table_of held owner ≡ find text_cmp owner tables
  table_found owner =
      ap (option_map (λ h. h.shown)) (get-entries held.owners owner) ∙ sym (find_shown owner (entries held.owners)) ∙ ap (find text_cmp owner) (sym (all_tables held))

  looked_up : (owner : List ℕ) (o : Option Table) (v : ℕ) → part_since owner o v ≡ if_found o (λ t. part_since owner (Some t) v)
  looked_up owner None v = refl
  looked_up owner (Some t) v = refl

  abbrev since : List ℕ → Table → ℕ → Option Part
  since owner t v = part_since owner (Some t) v

  abbrev looked : List ℕ × ℕ → Option Part
  looked q = part_since q.0 (table_of held q.0) q.1

  found_of_backlog : (q : List ℕ × ℕ) → looked q ≡ by_second since tables q
  found_of_backlog q = looked_up q.0 (table_of held q.0) q.1 ∙ ap (λ (o : Option Table). if_found o (λ t. part_since q.0 (Some t) q.1)) (table_found q.0)

  -- owner by owner of the backlog, as owner by owner of what is held
  pub since_pieces : filter_map (λ (q : List ℕ × ℕ). part_since q.0 (table_of held q.0) q.1) (entries b) ≡ all_pieces (covers asked) (offered_table asked) (number_for asked) tables
  since_pieces =
      kept_same looked (by_second since tables) (entries b) (λ q s. found_of_backlog q)
      ∙ sym (merged since tables tables_ascend (entries b) (entries_ascend b))
      ∙ sym (kept_same (piece_at (covers asked) (offered_table asked) (number_for asked)) (by_first since (entries b)) tables found_piece)

  pub since_parts : AreParts held asked (all_pieces (covers asked) (offered_table asked) (number_for asked) tables)
  since_parts =
      let each = rising_tables held tables_ascend asked is in
      let all : all_of (all_pieces (covers asked) (offered_table asked) (number_for asked) tables) ≡ all_parts (covers asked) (offered_table asked) (number_for asked) tables = items_of_pieces (covers asked) (offered_table asked) (number_for asked) tables in
      record {
        items = ap items_of_all all ∙ items_held held asked;
        ranks = subst AreRanked (sym all) (are_ranked (covers asked) (offered_table asked) (number_for asked) tables tables_ascend each);
        offer = subst IsOffer (sym all) (is_offer (covers asked) (offered_table asked) (number_for asked) tables tables_ascend each);
        cut = subst CanCut (sym all) (can_cut (covers asked) (offered_table asked) (number_for asked) tables tables_ascend each);
        chains = chains_of_pieces (covers asked) (offered_table asked) (number_for asked) tables each;
        names = names_of_pieces (covers asked) (offered_table asked) (number_for asked) tables tables_ascend;
      }
