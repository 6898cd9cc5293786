-- One owner's items with their ranks.
use Rattle.std.proofs.Common.{◌≡◌, ℕ, zero, suc, ◌+◌, ◌<◌, ◌≤◌, Bool, true, false, cond, List, [], ◌∷◌, length, map, ◌⊎◌, inl, inr, ⊎_elim, refl, sym, ap, subst, ◌∙◌, arith, nat_lt, if◌then◌else◌, Some, None}
use Rattle.std.specs.Prelude.{count_by, All, AllPairs}
use Rattle.std.proofs.lemmas.Bool.{and_parts, ltb-true, ltb-false, lt-ltb, le-ltb, cond-true, cond-false, cond_both}
use Rattle.std.proofs.lemmas.List.Kept.{AllPairs-cons}
use Rattle.std.proofs.lemmas.List.Sums.{sum_by-cons}
use Rattle.sb_types.specs.Records.{Entry, Table}
use Rattle.sb_types.specs.Runs.{Stands, are_ascending, newer_entries, IsRun}
use Rattle.sb_types.proofs.Standing.{of_above}
use Rattle.sb_table.proofs.Order.{ascending_kept, run_above, run_upto}
use Rattle.sb_budget.specs.declared.offered.Offered.{Offered}
use Rattle.sb_budget.specs.Offers.{items_from, items_of}
use Rattle.sb_budget.specs.Orders.{version_of}
use Rattle.sb_budget.specs.Cut.{items_of_all, entries_in, IsPart}
use Rattle.sb_budget.specs.Available.{ranked_item, ranked_from, ranked_these, ranked_of}
use Rattle.sb_budget.proofs.OrderLemmas.{Before}

-- ---- the entries of a table above a version

module _ (t : Table) (run : IsRun 0 t.held t.entries) (n : ℕ) where
  pub held_further : (e : Entry) → Stands (newer_entries n t.entries) e → n < t.held
  held_further e s = let of = of_above n t.entries e s in omega (arith, of.1, run_upto e run of.0)

  run_of_above : n ≤ t.held → IsRun n t.held (newer_entries n t.entries)
  run_of_above l = run_above n l run

  part_ascending : are_ascending 0 (newer_entries n t.entries) ≡ true
  part_ascending = ascending_kept (λ e. nat_lt n e.version) 0 t.entries run.ascending

-- ---- what is ranked

abbrev one_if : Bool → ℕ
one_if b = cond b 1 0

module _ (owner : List ℕ) (t : Table) (number count : ℕ) where
  abbrev this : ℕ → Entry → Offered
  this rank e = ranked_item rank owner t number count (Some e)

  pub length-ranked : (rank : ℕ) (es : List Entry) → length (ranked_from rank owner t number count es) ≡ length es
  length-ranked rank [] = refl
  length-ranked rank (e ∷ es) = ap suc (length-ranked (rank + 1) es)

  pub entries-ranked : (rank : ℕ) (es : List Entry) → entries_in (ranked_from rank owner t number count es) ≡ es
  entries-ranked rank [] = refl
  entries-ranked rank (e ∷ es) = ap (λ r. e ∷ r) (entries-ranked (rank + 1) es)

  pub items-ranked : (rank : ℕ) (es : List Entry) → items_of_all (ranked_from rank owner t number count es) ≡ map (λ e. record { owner = owner; floor = t.floor; after = number; upto = t.held; entry = Some e }) es
  items-ranked rank [] = refl
  items-ranked rank (e ∷ es) = ap (λ r. record { owner = owner; floor = t.floor; after = number; upto = t.held; entry = Some e } ∷ r) (items-ranked (rank + 1) es)

  owner-ranked : (rank : ℕ) (es : List Entry) (o : Offered) → Stands (ranked_from rank owner t number count es) o → o.owner ≡ owner
  owner-ranked rank [] o s = absurd s
  owner-ranked rank (e ∷ es) o (inl p) = sym (ap (λ (x : Offered). x.owner) p)
  owner-ranked rank (e ∷ es) o (inr s) = owner-ranked (rank + 1) es o s

  pub owners-ranked : (rank : ℕ) (es : List Entry) → All (λ o. o.owner ≡ owner) (ranked_from rank owner t number count es)
  owners-ranked rank [] k d l = absurd (omega arith)
  owners-ranked rank (e ∷ es) zero d l = refl
  owners-ranked rank (e ∷ es) (suc k) d l = owners-ranked (rank + 1) es k d (omega arith)

  bounds-ranked : (rank : ℕ) (es : List Entry) → All (λ o. (o.floor ≡ t.floor) × (o.after ≡ number) × (o.upto ≡ t.held)) (ranked_from rank owner t number count es)
  bounds-ranked rank [] k d l = absurd (omega arith)
  bounds-ranked rank (e ∷ es) zero d l = (refl, refl, refl)
  bounds-ranked rank (e ∷ es) (suc k) d l = bounds-ranked (rank + 1) es k d (omega arith)

  some-ranked : (rank : ℕ) (es : List Entry) (o : Offered) → Stands (ranked_from rank owner t number count es) o → o.entry ≡ None → ⊥
  some-ranked rank [] o s none = absurd s
  some-ranked rank (e ∷ es) o (inl p) none = let some : Some e ≡ o.entry = ap (λ (x : Offered). x.entry) p in cc
  some-ranked rank (e ∷ es) o (inr s) none = some-ranked (rank + 1) es o s none

  -- later items have later versions and greater ranks
  later : (before rank : ℕ) (es : List Entry) → are_ascending before es ≡ true → All (λ o. (before < version_of o) × (rank ≤ o.rank) × (count ≡ o.count)) (ranked_from rank owner t number count es)
  later before rank [] up k d l = absurd (omega arith)
  later before rank (e ∷ es) up zero d l = (ltb-true before e.version (and_parts _ _ up).0, omega arith, refl)
  later before rank (e ∷ es) up (suc k) d l =
      let p = and_parts (nat_lt before e.version) (are_ascending e.version es) up in
      let first = ltb-true before e.version p.0 in
      let rest = later e.version (rank + 1) es p.1 k d (omega arith) in
      (omega (arith, first, rest.0), omega (arith, rest.1), rest.2)

  before-ranked : (before rank : ℕ) (es : List Entry) → are_ascending before es ≡ true → AllPairs Before (ranked_from rank owner t number count es)
  before-ranked before rank [] up = λ i j d l k. absurd (omega arith)
  before-ranked before rank (e ∷ es) up =
      let p = and_parts (nat_lt before e.version) (are_ascending e.version es) up in
      AllPairs-cons Before (this rank e) (ranked_from (rank + 1) owner t number count es)
      (λ k d l. let x = later e.version (rank + 1) es p.1 k d l in (x.0, omega (arith, x.1), x.2))
      (before-ranked e.version (rank + 1) es p.1)

  none_smaller : (version before rank : ℕ) (es : List Entry) → version ≤ before → are_ascending before es ≡ true → count_by (λ x. nat_lt (version_of x) version) (ranked_from rank owner t number count es) ≡ 0
  none_smaller version before rank [] l up = refl
  none_smaller version before rank (e ∷ es) l up =
      let p = and_parts (nat_lt before e.version) (are_ascending e.version es) up in
      let more = ltb-true before e.version p.0 in
      let no : nat_lt e.version version ≡ false = le-ltb e.version version (omega arith) in
      let here : one_if (nat_lt e.version version) ≡ 0 = cond-false _ 1 0 no in
      omega (arith, sum_by-cons (λ (x : Offered). one_if (nat_lt (version_of x) version)) (this rank e) (ranked_from (rank + 1) owner t number count es), here, none_smaller version e.version (rank + 1) es (omega arith) p.1)

  rank-ranked : (before rank : ℕ) (es : List Entry) (o : Offered) → are_ascending before es ≡ true → Stands (ranked_from rank owner t number count es) o →
      o.rank ≡ rank + count_by (λ x. nat_lt (version_of x) (version_of o)) (ranked_from rank owner t number count es)
  rank-ranked before rank [] o up s = absurd s
  rank-ranked before rank (e ∷ es) o up (inl same) =
      let p = and_parts (nat_lt before e.version) (are_ascending e.version es) up in
      let here : one_if (nat_lt e.version e.version) ≡ 0 = cond-false _ 1 0 (le-ltb e.version e.version (omega arith)) in
      let none : rank ≡ rank + count_by (λ (x : Offered). nat_lt (version_of x) e.version) (this rank e ∷ ranked_from (rank + 1) owner t number count es) =
      omega (arith, sum_by-cons (λ (x : Offered). one_if (nat_lt (version_of x) e.version)) (this rank e) (ranked_from (rank + 1) owner t number count es), here, none_smaller e.version e.version (rank + 1) es (omega arith) p.1) in
      subst (λ (y : Offered). y.rank ≡ rank + count_by (λ (x : Offered). nat_lt (version_of x) (version_of y)) (this rank e ∷ ranked_from (rank + 1) owner t number count es)) same none
  rank-ranked before rank (e ∷ es) o up (inr s) =
      let p = and_parts (nat_lt before e.version) (are_ascending e.version es) up in
      let less : e.version < version_of o = above_first e.version (rank + 1) es o p.1 s in
      let here : one_if (nat_lt e.version (version_of o)) ≡ 1 = cond-true _ 1 0 (lt-ltb e.version (version_of o) less) in
      omega (arith, sum_by-cons (λ (x : Offered). one_if (nat_lt (version_of x) (version_of o))) (this rank e) (ranked_from (rank + 1) owner t number count es), here, rank-ranked e.version (rank + 1) es o p.1 s)
    where
      above_first : (before rank : ℕ) (es : List Entry) (o : Offered) → are_ascending before es ≡ true → Stands (ranked_from rank owner t number count es) o → before < version_of o
      above_first before rank [] o up s = absurd s
      above_first before rank (e ∷ es) o up (inl same) = subst (λ (y : Offered). before < version_of y) same (ltb-true before e.version (and_parts _ _ up).0)
      above_first before rank (e ∷ es) o up (inr s) =
          let p = and_parts (nat_lt before e.version) (are_ascending e.version es) up in
          omega (arith, ltb-true before e.version p.0, above_first e.version (rank + 1) es o p.1 s)

  count-ranked : (rank : ℕ) (es : List Entry) (o : Offered) → Stands (ranked_from rank owner t number count es) o → o.count ≡ count
  count-ranked rank [] o s = absurd s
  count-ranked rank (e ∷ es) o (inl same) = sym (ap (λ (x : Offered). x.count) same)
  count-ranked rank (e ∷ es) o (inr s) = count-ranked (rank + 1) es o s

-- ---- one owner's part of what is offered: its entries, the news alone, or nothing

module _ (owner : List ℕ) (t : Table) (n : ℕ) where
  abbrev news : Offered
  news = ranked_item 0 owner t n 1 None

  pub of_three : (P : List Offered → Type 0) →
      ((e : Entry) (es : List Entry) → newer_entries n t.entries ≡ e ∷ es → P (ranked_from 0 owner t n (length (e ∷ es)) (e ∷ es))) →
      (newer_entries n t.entries ≡ [] → n < t.held → P (news ∷ [])) →
      (newer_entries n t.entries ≡ [] → t.held ≤ n → P []) → P (ranked_of owner t n)
  of_three P some alone none = go (newer_entries n t.entries) refl
    where
      go : (es : List Entry) → newer_entries n t.entries ≡ es → P (ranked_these owner t n es)
      go [] e = cond_both (nat_lt n t.held) (news ∷ []) [] P (λ l. alone e (ltb-true n t.held l)) (λ l. none e (ltb-false n t.held l))
      go (x ∷ xs) e = some x xs e

  pub part_owner : (o : Offered) → Stands (ranked_of owner t n) o → o.owner ≡ owner
  part_owner o = of_three (λ os. Stands os o → o.owner ≡ owner)
      (λ e es h s. owner-ranked owner t n (length (e ∷ es)) 0 (e ∷ es) o s)
      (λ h l s. ⊎_elim (λ p. sym (ap (λ (x : Offered). x.owner) p)) (λ none. absurd none) s)
      (λ h l s. absurd s)

  pub part_items : items_of_all (ranked_of owner t n) ≡ items_of owner t n
  part_items = go (newer_entries n t.entries)
    where
      one : (b : Bool) → items_of_all (if b then news ∷ [] else []) ≡ (if b then record { owner = owner; floor = t.floor; after = n; upto = t.held; entry = None } ∷ [] else [])
      one true = refl
      one false = refl

      go : (es : List Entry) → items_of_all (ranked_these owner t n es) ≡ items_from owner t n es
      go [] = one (nat_lt n t.held)
      go (x ∷ xs) = items-ranked owner t n (length (x ∷ xs)) 0 (x ∷ xs)

  module _ (run : IsRun 0 t.held t.entries) where
    up_at : (e : Entry) (es : List Entry) → newer_entries n t.entries ≡ e ∷ es → are_ascending 0 (e ∷ es) ≡ true
    up_at e es h = ap (are_ascending 0) (sym h) ∙ part_ascending t run n

    pub part_before : AllPairs Before (ranked_of owner t n)
    part_before = of_three (AllPairs Before)
        (λ e es h. before-ranked owner t n (length (e ∷ es)) 0 0 (e ∷ es) (up_at e es h))
        (λ h l i j d m k. absurd (omega (arith, m, k)))
        (λ h l i j d m k. absurd (omega (arith, k)))

    pub part_rank : (o : Offered) → Stands (ranked_of owner t n) o → o.rank ≡ count_by (λ x. nat_lt (version_of x) (version_of o)) (ranked_of owner t n)
    part_rank o = of_three (λ os. Stands os o → o.rank ≡ count_by (λ x. nat_lt (version_of x) (version_of o)) os)
        (λ e es h s. omega (arith, rank-ranked owner t n (length (e ∷ es)) 0 0 (e ∷ es) o (up_at e es h) s))
        (λ h l s. ⊎_elim (λ p. subst (λ (y : Offered). y.rank ≡ count_by (λ x. nat_lt (version_of x) (version_of y)) (news ∷ [])) p alone) (λ none. absurd none) s)
        (λ h l s. absurd s)
      where
        alone : 0 ≡ count_by (λ x. nat_lt (version_of x) t.held) (news ∷ [])
        alone =
            let here : one_if (nat_lt t.held t.held) ≡ 0 = cond-false _ 1 0 (le-ltb t.held t.held (omega arith)) in
            omega (arith, sum_by-cons (λ (x : Offered). one_if (nat_lt (version_of x) t.held)) news [], here)

    pub part_count : (o : Offered) → Stands (ranked_of owner t n) o → o.count ≡ length (ranked_of owner t n)
    part_count o = of_three (λ os. Stands os o → o.count ≡ length os)
        (λ e es h s. count-ranked owner t n (length (e ∷ es)) 0 (e ∷ es) o s ∙ sym (length-ranked owner t n (length (e ∷ es)) 0 (e ∷ es)))
        (λ h l s. ⊎_elim (λ p. sym (ap (λ (x : Offered). x.count) p)) (λ none. absurd none) s)
        (λ h l s. absurd s)

    -- such a part can be cut
    pub part_is : (floor : ℕ) × (after : ℕ) × (upto : ℕ) × IsPart floor after upto (ranked_of owner t n)
    part_is = of_three (λ os. (floor : ℕ) × (after : ℕ) × (upto : ℕ) × IsPart floor after upto os)
        (λ e es h.
        let further = held_further t run n e (subst (λ (l : List Entry). Stands l e) (sym h) (inl refl)) in (
          t.floor,
          n,
          t.held,
          record {
            each = bounds-ranked owner t n (length (e ∷ es)) 0 (e ∷ es);
            run = subst (IsRun n t.held) (h ∙ sym (entries-ranked owner t n (length (e ∷ es)) 0 (e ∷ es))) (run_of_above t run n (omega (arith, further)));
            order = λ _. further;
            alone = λ o s none. absurd (some-ranked owner t n (length (e ∷ es)) 0 (e ∷ es) o s none);
          },
        ))
        (λ h less. (
          t.floor,
          n,
          t.held,
          record {
            each = one_bounds;
            run = record { ascending = refl; most = omega (arith, less); distinct = refl };
            order = λ _. less;
            alone = λ o s none. ⊎_elim (λ p. ap (λ (x : Offered). x ∷ []) p) (λ no. absurd no) s;
          },
        ))
        (λ h less. (
          0,
          0,
          0,
          record {
            each = λ k d l. absurd (omega (arith, l));
            run = record { ascending = refl; most = omega arith; distinct = refl };
            order = λ some. absurd (some refl);
            alone = λ o s none. absurd s;
          },
        ))
      where
        one_bounds : All (λ o. (o.floor ≡ t.floor) × (o.after ≡ n) × (o.upto ≡ t.held)) (news ∷ [])
        one_bounds zero d l = (refl, refl, refl)
        one_bounds (suc k) d l = absurd (omega (arith, l))
