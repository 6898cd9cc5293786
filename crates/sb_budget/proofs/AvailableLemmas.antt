-- What is offered of all owners, owner by owner.
use Rattle.std.proofs.Common.{◌≡◌, ℕ, suc, Bool, true, false, cond, List, [], ◌∷◌, ◌++◌, length, filter, ◌⊎◌, inl, inr, refl, sym, ap, ap₂, subst, ◌∙◌, arith, Option, Some, None, IfSome, nat_lt, nat_eq, if◌then◌else◌, Ordering, Less, Equal, append-nil, true≢false}
use Rattle.std.specs.Prelude.{count_by, AllPairs}
use Rattle.std.specs.List.{AllByRecursion}
use Rattle.std.specs.List.Sorted.{IsStrictlySortedBy}
use Rattle.std.specs.Map.{keys_of}
use Rattle.std.specs.FinMap.{get, entries, get-entries, find}
use Rattle.std.specs.Ordering.{is_eq, eq_by_cmp, ordering_reverse}
use Rattle.std.specs.Cmp.Lexicographic.{pointwise}
use Rattle.std.proofs.lemmas.Bool.{cases_Bool, cond_both, cond-true, cond-false, false_from_ne_true, le-ltb}
use Rattle.std.proofs.lemmas.Cmp.{nat_list_cmp_total, tied_itself}
use Rattle.std.proofs.lemmas.List.{map-append}
use Rattle.std.proofs.lemmas.List.Elements.{filter-append, recursion_from_All}
use Rattle.std.proofs.lemmas.List.Kept.{AllPairs-cons}
use Rattle.sb_types.specs.Records.{Table, Holder}
use Rattle.sb_types.specs.Runs.{Stands, IsRun, IsTable}
use Rattle.sb_table.specs.Plain.{plain_table}
use Rattle.sb_holdings.specs.Held.{Held}
use Rattle.sb_holdings.specs.Plain.{IsKeptHolder, IsHoldings, is_from, each_shown, tables_from}
use Rattle.sb_digest.specs.Digests.{Digest, covers}
use Rattle.sb_types.proofs.Texts.{same_text, text_same}
use Rattle.sb_budget.specs.declared.offered.Offered.{Offered}
use Rattle.sb_budget.specs.Offers.{items_of}
use Rattle.sb_budget.specs.Offers as offers
use Rattle.sb_budget.specs.Orders.{offered_by, version_of, Precedes, IsOffer}
use Rattle.sb_budget.specs.Cut.{items_of_all, IsPart, CanCut}
use Rattle.sb_budget.specs.Available.{number_for, offered_table, available_for, ranked_of, rank_of, count_of, AreRanked}
use Rattle.sb_budget.proofs.OfferedLemmas.{offered_is}
use Rattle.sb_budget.proofs.OrderLemmas.{Before}
use Rattle.sb_budget.proofs.PlaceLemmas.{text_cmp, Equal_from_same}
use Rattle.sb_budget.proofs.NameLemmas.{some_of}
use Rattle.sb_budget.proofs.GatherLemmas.{all_at, all_from}
use Rattle.sb_budget.proofs.HonestLemmas.{mapped_from}
use Rattle.sb_budget.proofs.RankLemmas.{part_owner, part_items, part_before, part_rank, part_count, part_is}

abbrev IsRising : Table → Type 0
IsRising t = IsRun 0 t.held t.entries

-- ---- a map's entries are found

found_of : (es : List (List ℕ × Holder)) (p : List ℕ × Holder) → IsStrictlySortedBy text_cmp (keys_of es) → Stands es p → find text_cmp p.0 es ≡ Some p.1
unfolding IsStrictlySortedBy
found_of [] p up s = absurd s
found_of (e ∷ es) p up (inl same) =
    subst (λ (q : List ℕ × Holder). cond (eq_by_cmp text_cmp q.0 e.0) (Some e.1) (find text_cmp q.0 es) ≡ Some q.1) same (cond-true _ _ _ (ap is_eq (tied_itself nat_list_cmp_total e.0)))
found_of (e ∷ es) p up (inr s) =
    let more = later es p up.0 s in
    cond-false _ _ _ (false_from_ne_true _ (λ tied. apart e.0 p.0 more tied)) ∙ found_of es p up.1 s
  where
    later : (es : List (List ℕ × Holder)) (p : List ℕ × Holder) → AllByRecursion (λ k. text_cmp e.0 k ≡ Less) (keys_of es) → Stands es p → text_cmp e.0 p.0 ≡ Less
    later [] p all s = absurd s
    later (x ∷ xs) p all (inl same) = subst (λ (q : List ℕ × Holder). text_cmp e.0 q.0 ≡ Less) same all.0
    later (x ∷ xs) p all (inr s) = later xs p all.1 s

    apart : (a b : List ℕ) → text_cmp a b ≡ Less → eq_by_cmp text_cmp b a ≡ true → ⊥
    apart a b less tied = true≢false (sym tied ∙ ap is_eq (nat_list_cmp_total.antisymm b a ∙ ap ordering_reverse less))

-- ---- pairs of one owner

pairs_by_owner : (xs : List Offered) → ((owner : List ℕ) → AllPairs Before (offered_by owner xs)) → AllPairs Precedes xs
pairs_by_owner [] each = λ i j d l k. absurd (omega arith)
pairs_by_owner (x ∷ xs) each = AllPairs-cons Precedes x xs (all_from (Precedes x) xs first) (pairs_by_owner xs rest)
  where
    own : offered_by x.owner (x ∷ xs) ≡ x ∷ offered_by x.owner xs
    own = cond-true _ _ _ (text_same x.owner x.owner refl)

    first : (y : Offered) → Stands xs y → Precedes x y
    first y s = λ same.
        let pairs : AllPairs Before (x ∷ offered_by x.owner xs) = subst (AllPairs Before) own (each x.owner) in
        all_at (Before x) (offered_by x.owner xs) y (recursion_from_All (Before x) (offered_by x.owner xs) (λ k d l. pairs 0 (suc k) d (omega arith) (omega arith)))
        (some_of (λ (o : Offered). o.owner) x.owner xs y s (sym same))

    rest : (owner : List ℕ) → AllPairs Before (offered_by owner xs)
    rest owner = go (pointwise nat_eq x.owner owner) (each owner)
      where
        go : (b : Bool) → AllPairs Before (cond b (x ∷ offered_by owner xs) (offered_by owner xs)) → AllPairs Before (offered_by owner xs)
        go true pairs = λ i j d l k. pairs (suc i) (suc j) d (omega arith) (omega arith)
        go false pairs = pairs

-- ---- owner by owner

module _ (reaches : List ℕ → Bool) (shown_as : List ℕ → Table → Table) (known : List ℕ → Table → ℕ) where
  abbrev pub part_at : List ℕ × Table → List Offered
  part_at p = if reaches p.0 then ranked_of p.0 (shown_as p.0 p.1) (known p.0 p.1) else []

  abbrev pub all_parts : List (List ℕ × Table) → List Offered
  all_parts [] = []
  all_parts (p ∷ ps) = part_at p ++ all_parts ps

  -- as items

  items_all : (ps : List (List ℕ × Holder)) → items_of_all (all_parts (each_shown ps)) ≡ offers.available_items reaches shown_as known ps
  items_all [] = refl
  items_all (p ∷ ps) =
      map-append _ (part_at (p.0, p.1.shown)) (all_parts (each_shown ps))
      ∙ ap₂ (λ a b. a ++ b) (go (reaches p.0)) (items_all ps)
    where
      go : (b : Bool) → items_of_all (if b then ranked_of p.0 (shown_as p.0 p.1.shown) (known p.0 p.1.shown) else []) ≡ (if b then items_of p.0 (shown_as p.0 p.1.shown) (known p.0 p.1.shown) else [])
      go true = part_items p.0 (shown_as p.0 p.1.shown) (known p.0 p.1.shown)
      go false = refl

  -- by owner

  all_of : (owner : List ℕ) (os : List Offered) → ((o : Offered) → Stands os o → o.owner ≡ owner) → offered_by owner os ≡ os
  all_of owner [] same = refl
  all_of owner (o ∷ os) same = cond-true _ _ _ (text_same o.owner owner (same o (inl refl))) ∙ ap (λ r. o ∷ r) (all_of owner os (λ x s. same x (inr s)))

  none_of : (owner : List ℕ) (os : List Offered) → ((o : Offered) → Stands os o → o.owner ≡ owner → ⊥) → offered_by owner os ≡ []
  none_of owner [] other = refl
  none_of owner (o ∷ os) other = cond-false _ _ _ (false_from_ne_true _ (λ t. other o (inl refl) (same_text o.owner owner t))) ∙ none_of owner os (λ x s. other x (inr s))

  owner_at : (p : List ℕ × Table) (o : Offered) → Stands (part_at p) o → o.owner ≡ p.0
  owner_at p o s =
      cond_both (reaches p.0) (ranked_of p.0 (shown_as p.0 p.1) (known p.0 p.1)) [] (λ os. Stands os o → o.owner ≡ p.0)
      (λ _ t. part_owner p.0 (shown_as p.0 p.1) (known p.0 p.1) o t)
      (λ _ none. absurd none)
      s

  part_unnamed : (p : List ℕ × Table) (owner : List ℕ) → (p.0 ≡ owner → ⊥) → offered_by owner (part_at p) ≡ []
  part_unnamed p owner other = none_of owner (part_at p) (λ o s same. other (sym (owner_at p o s) ∙ same))

  later_unnamed : (owner : List ℕ) (ps : List (List ℕ × Table)) → AllByRecursion (λ k. text_cmp owner k ≡ Less) (keys_of ps) → offered_by owner (all_parts ps) ≡ []
  later_unnamed owner [] behind = refl
  later_unnamed owner (p ∷ ps) behind =
      filter-append (λ o. pointwise nat_eq o.owner owner) (part_at p) (all_parts ps)
      ∙ ap₂ (λ a b. a ++ b) (part_unnamed p owner (λ same. let tied = Equal_from_same owner p.0 (sym same) in absurd (less_tied (text_cmp owner p.0) behind.0 tied))) (later_unnamed owner ps behind.1)
    where
      less_tied : (r : Ordering) → r ≡ Less → r ≡ Equal → ⊥
      less_tied r less tied = cc

  -- the part of an owner: of a table of its own, or of nothing
  record IsByOwner (P : Table → Type 0) (offered : List Offered) (owner : List ℕ) : Type 0 where
    table : Table
    number : ℕ
    is : P table
    part : offered_by owner offered ≡ ranked_of owner table number

  none_ranked : (owner : List ℕ) (n : ℕ) → ranked_of owner (plain_table []) n ≡ []
  none_ranked owner n = cond-false _ _ _ (le-ltb n 0 (omega arith))

  module _ (P : Table → Type 0) (nothing : P (plain_table [])) where
    by_owner : (ps : List (List ℕ × Table)) → IsStrictlySortedBy text_cmp (keys_of ps) → ((p : List ℕ × Table) → Stands ps p → P (shown_as p.0 p.1)) → (owner : List ℕ) → IsByOwner P (all_parts ps) owner
    unfolding IsStrictlySortedBy
    by_owner [] up each owner = record { table = plain_table []; number = 0; is = nothing; part = sym (none_ranked owner 0) }
    by_owner (p ∷ ps) up each owner = go (cases_Bool (pointwise nat_eq p.0 owner)) up.0 (each p (inl refl)) (by_owner ps up.1 (λ q s. each q (inr s)) owner)
      where
        parts : offered_by owner (part_at p ++ all_parts ps) ≡ offered_by owner (part_at p) ++ offered_by owner (all_parts ps)
        parts = filter-append (λ o. pointwise nat_eq o.owner owner) (part_at p) (all_parts ps)

        own : p.0 ≡ owner → P (shown_as p.0 p.1) → offered_by owner (all_parts ps) ≡ [] → (b : Bool) → reaches p.0 ≡ b → IsByOwner P (part_at p ++ all_parts ps) owner
        own same table none true reached = record {
          table = shown_as p.0 p.1;
          number = known p.0 p.1;
          is = table;
          part =
              parts ∙ ap₂ (λ a b. a ++ b) (ap (λ (b : Bool). offered_by owner (if b then ranked_of p.0 (shown_as p.0 p.1) (known p.0 p.1) else [])) reached) none
              ∙ append-nil (offered_by owner (ranked_of p.0 (shown_as p.0 p.1) (known p.0 p.1)))
              ∙ all_of owner (ranked_of p.0 (shown_as p.0 p.1) (known p.0 p.1)) (λ o s. part_owner p.0 (shown_as p.0 p.1) (known p.0 p.1) o s ∙ same)
              ∙ ap (λ q. ranked_of q (shown_as p.0 p.1) (known p.0 p.1)) same;
        }
        own same table none false reached = record {
          table = plain_table [];
          number = 0;
          is = nothing;
          part =
              parts ∙ ap₂ (λ a b. a ++ b) (ap (λ (b : Bool). offered_by owner (if b then ranked_of p.0 (shown_as p.0 p.1) (known p.0 p.1) else [])) reached) none
              ∙ sym (none_ranked owner 0);
        }

        go : ((pointwise nat_eq p.0 owner ≡ true) ⊎ (pointwise nat_eq p.0 owner ≡ false)) → AllByRecursion (λ k. text_cmp p.0 k ≡ Less) (keys_of ps) → P (shown_as p.0 p.1) → IsByOwner P (all_parts ps) owner → IsByOwner P (part_at p ++ all_parts ps) owner
        go (inl same) behind table rest =
            let this = same_text p.0 owner same in
            own this table (later_unnamed owner ps (subst (λ q. AllByRecursion (λ k. text_cmp q k ≡ Less) (keys_of ps)) this behind)) (reaches p.0) refl
        go (inr other) behind table rest = record {
          table = rest.table;
          number = rest.number;
          is = rest.is;
          part = parts ∙ ap (λ r. r ++ offered_by owner (all_parts ps)) (part_unnamed p owner (λ same. true≢false (sym (text_same p.0 owner same) ∙ other))) ∙ rest.part;
        }

  module _ (ps : List (List ℕ × Table)) (up : IsStrictlySortedBy text_cmp (keys_of ps)) (each : (p : List ℕ × Table) → Stands ps p → IsRising (shown_as p.0 p.1)) where
    at_owner : (owner : List ℕ) → IsByOwner IsRising (all_parts ps) owner
    at_owner = by_owner IsRising (record { ascending = refl; most = omega arith; distinct = refl }) ps up each

    pub can_cut : CanCut (all_parts ps)
    can_cut owner =
        let b = at_owner owner in
        let is = part_is owner b.table b.number b.is in
        (is.0, is.1, is.2, subst (IsPart is.0 is.1 is.2) (sym b.part) is.3)

    pub is_offer : IsOffer (all_parts ps)
    is_offer = pairs_by_owner (all_parts ps) (λ owner.
        let b = at_owner owner in
        subst (AllPairs Before) (sym b.part) (part_before owner b.table b.number b.is))

    pub are_ranked : AreRanked (all_parts ps)
    are_ranked = all_from (λ (o : Offered). (o.rank ≡ rank_of (all_parts ps) o) × (o.count ≡ count_of (all_parts ps) o)) (all_parts ps) (λ o s.
        let b = at_owner o.owner in
        let n = b.number in
        let stands : Stands (ranked_of o.owner b.table n) o = subst (λ (os : List Offered). Stands os o) b.part (some_of (λ (x : Offered). x.owner) o.owner (all_parts ps) o s refl) in (
          part_rank o.owner b.table n b.is o stands ∙ ap (count_by (λ (x : Offered). nat_lt (version_of x) (version_of o))) (sym b.part),
          part_count o.owner b.table n b.is o stands ∙ ap (λ (os : List Offered). length os) (sym b.part),
        ))

-- ---- of all that is held

filter_all : (es : List (List ℕ × Holder)) → filter (λ p. is_from None p.0) es ≡ es
filter_all [] = refl
filter_all (e ∷ es) = ap (λ r. e ∷ r) (filter_all es)

pub keys_shown : (es : List (List ℕ × Holder)) → keys_of (each_shown es) ≡ keys_of es
keys_shown [] = refl
keys_shown (e ∷ es) = ap (λ r. e.0 ∷ r) (keys_shown es)

pub all_tables : (held : Held) → tables_from None held ≡ each_shown (entries held.owners)
all_tables held = ap each_shown (filter_all (entries held.owners))

module _ (held : Held) (up : IsStrictlySortedBy text_cmp (keys_of (tables_from None held))) where
  names_rise : IsStrictlySortedBy text_cmp (keys_of (entries held.owners))
  names_rise = subst (IsStrictlySortedBy text_cmp) (ap keys_of (all_tables held) ∙ keys_shown (entries held.owners)) up

  -- what holds of what is shown of each holder holds of each table
  pub each_table : (P : Holder → Type 0) (Q : Table → Type 0) → ((h : Holder) → P h → Q h.shown) → ((owner : List ℕ) → IfSome (get held.owners owner) P) → (p : List ℕ × Table) → Stands (tables_from None held) p → Q p.1
  each_table P Q shown each p s =
      let from = mapped_from (λ (q : List ℕ × Holder). (q.0, q.1.shown)) (entries held.owners) p (subst (λ (ts : List (List ℕ × Table)). Stands ts p) (all_tables held) s) in
      let h = from.0 in
      let got : get held.owners h.0 ≡ Some h.1 = get-entries held.owners h.0 ∙ found_of (entries held.owners) h names_rise from.1 in
      let holder : P h.1 = subst (λ (o : Option Holder). IfSome o P) got (each h.0) in
      subst (λ (q : List ℕ × Table). Q q.1) from.2 (shown h.1 holder)

  pub rising_tables : (digest : Digest) → IsHoldings held → (p : List ℕ × Table) → Stands (tables_from None held) p → IsRun 0 (offered_table digest p.0 p.1).held (offered_table digest p.0 p.1).entries
  rising_tables digest is p s = (offered_is digest p.0 p.1 (each_table IsKeptHolder IsTable (λ h kept. kept.is.shown) is.each p s)).run

pub items_held : (held : Held) (digest : Digest) → items_of_all (all_parts (covers digest) (offered_table digest) (number_for digest) (tables_from None held)) ≡ available_for held digest
items_held held digest = ap (λ ts. items_of_all (all_parts (covers digest) (offered_table digest) (number_for digest) ts)) (all_tables held) ∙ items_all (covers digest) (offered_table digest) (number_for digest) (entries held.owners)

-- where nothing is left to go over, all is there
pub all_made : (reaches : List ℕ → Bool) (shown_as : List ℕ → Table → Table) (known : List ℕ → Table → ℕ) (offered : List Offered) (left all : List (List ℕ × Table)) →
    offered ++ all_parts reaches shown_as known left ≡ all_parts reaches shown_as known all → left ≡ [] → offered ≡ all_parts reaches shown_as known all
all_made reaches shown_as known offered left all made none = sym (append-nil offered) ∙ ap (λ ts. offered ++ all_parts reaches shown_as known ts) (sym none) ∙ made
