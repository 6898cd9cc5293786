-- What is offered, owner by owner.
use Rattle.std.proofs.Common.{◌≡◌, ℕ, ◌+◌, Bool, true, false, List, [], ◌∷◌, ◌++◌, length, inl, inr, refl, sym, ap, subst, ◌∙◌, arith, Option, Some, None, IfSome, nat_lt, if◌then◌else◌, Less, append-nil}
use Rattle.std.specs.Prelude.{All, AllPairs}
use Rattle.std.specs.List.{AllByRecursion, filter_map, cons_option}
use Rattle.std.specs.List.Sorted.{IsStrictlySortedBy}
use Rattle.std.specs.Map.{keys_of}
use Rattle.std.proofs.lemmas.Bool.{and_parts, ltb-true, lt-ltb, cond-true}
use Rattle.std.proofs.lemmas.List.Elements.{All-nil, All-cons}
use Rattle.std.proofs.lemmas.List.Kept.{AllPairs-cons}
use Rattle.sb_types.specs.Records.{Entry, Table}
use Rattle.sb_types.specs.Runs.{Stands, newer_entries, are_ascending, IsRun}
use Rattle.sb_table.proofs.Order.{ascending_kept}
use Rattle.sb_budget.specs.declared.offered.Offered.{Offered}
use Rattle.sb_budget.specs.Available.{ranked_item, ranked_from, ranked_of}
use Rattle.sb_budget.specs.Parts.{Part, part_of, all_of, IsChain}
use Rattle.sb_budget.proofs.PlaceLemmas.{text_cmp}
use Rattle.sb_budget.proofs.RankLemmas.{of_three}
use Rattle.sb_budget.proofs.AvailableLemmas.{all_parts}

-- a version is above 0
pub above_zero : (before : ℕ) (es : List Entry) → are_ascending before es ≡ true → newer_entries 0 es ≡ es
above_zero before [] up = refl
above_zero before (e ∷ es) up =
    let p = and_parts (nat_lt before e.version) (are_ascending e.version es) up in
    let more = ltb-true before e.version p.0 in
    cond-true _ _ _ (lt-ltb 0 e.version (omega (arith, more))) ∙ ap (λ r. e ∷ r) (above_zero e.version es p.1)

-- the part of the first item and those behind it, with other parts
pub parts_of_items : (os : List Offered) (rest : List Part) → all_of (cons_option (part_of os) rest) ≡ os ++ all_of rest
parts_of_items [] rest = refl
parts_of_items (o ∷ os) rest = refl

-- what a part of an owner's items is
pub record IsPartOf (name : List ℕ) (part : Part) : Type 0 where
  pub owner : part.next.owner ≡ name
  pub rank : part.next.rank ≡ 0
  pub chain : IsChain part.next part.later

module _ (owner : List ℕ) (t : Table) (n : ℕ) where
  chained : (count rank : ℕ) (e : Entry) (es : List Entry) → are_ascending e.version es ≡ true → IsChain (ranked_item rank owner t n count (Some e)) (ranked_from (rank + 1) owner t n count es)
  chained count rank e [] up = tt
  chained count rank e (x ∷ xs) up =
      let p = and_parts (nat_lt e.version x.version) (are_ascending x.version xs) up in
      ((refl, refl, refl, ltb-true e.version x.version p.0), chained count (rank + 1) x xs p.1)

  ranked_part : IsRun 0 t.held t.entries → IfSome (part_of (ranked_of owner t n)) (IsPartOf owner)
  ranked_part run = of_three owner t n (λ os. IfSome (part_of os) (IsPartOf owner))
      (λ e es h. record { owner = refl; rank = refl; chain = chained (length (e ∷ es)) 0 e es (and_parts (nat_lt 0 e.version) (are_ascending e.version es) (ap (are_ascending 0) (sym h) ∙ ascending_kept (λ x. nat_lt n x.version) 0 t.entries run.ascending)).1 })
      (λ h l. record { owner = refl; rank = refl; chain = tt })
      (λ h l. tt)

  owner_of_ranked : IfSome (part_of (ranked_of owner t n)) (λ q. q.next.owner ≡ owner)
  owner_of_ranked = of_three owner t n (λ os. IfSome (part_of os) (λ q. q.next.owner ≡ owner)) (λ e es h. refl) (λ h l. refl) (λ h l. tt)

module _ (reaches : List ℕ → Bool) (shown_as : List ℕ → Table → Table) (known : List ℕ → Table → ℕ) where
  abbrev pub piece_at : List ℕ × Table → Option Part
  piece_at p = if reaches p.0 then part_of (ranked_of p.0 (shown_as p.0 p.1) (known p.0 p.1)) else None

  abbrev pub all_pieces : List (List ℕ × Table) → List Part
  all_pieces ps = filter_map piece_at ps

  -- together they are all that is offered
  pub items_of_pieces : (ps : List (List ℕ × Table)) → all_of (all_pieces ps) ≡ all_parts reaches shown_as known ps
  items_of_pieces [] = refl
  items_of_pieces (p ∷ ps) = go (reaches p.0) (items_of_pieces ps)
    where
      go : (b : Bool) → all_of (all_pieces ps) ≡ all_parts reaches shown_as known ps → all_of (cons_option (if b then part_of (ranked_of p.0 (shown_as p.0 p.1) (known p.0 p.1)) else None) (all_pieces ps)) ≡ (if b then ranked_of p.0 (shown_as p.0 p.1) (known p.0 p.1) else []) ++ all_parts reaches shown_as known ps
      go true rest = parts_of_items (ranked_of p.0 (shown_as p.0 p.1) (known p.0 p.1)) (all_pieces ps) ∙ ap (λ r. ranked_of p.0 (shown_as p.0 p.1) (known p.0 p.1) ++ r) rest
      go false rest = rest

  -- what holds of each owner's part holds of each
  each_piece : (P : Part → Type 0) (ps : List (List ℕ × Table)) → ((p : List ℕ × Table) → Stands ps p → IfSome (part_of (ranked_of p.0 (shown_as p.0 p.1) (known p.0 p.1))) P) → All P (all_pieces ps)
  each_piece P [] each = All-nil P
  each_piece P (p ∷ ps) each = go (reaches p.0) (part_of (ranked_of p.0 (shown_as p.0 p.1) (known p.0 p.1))) (each p (inl refl)) (each_piece P ps (λ q s. each q (inr s)))
    where
      go : (b : Bool) (r : Option Part) → IfSome r P → All P (all_pieces ps) → All P (cons_option (if b then r else None) (all_pieces ps))
      go false r this rest = rest
      go true None this rest = rest
      go true (Some q) this rest = All-cons P q (all_pieces ps) this rest

  pub chains_of_pieces : (ps : List (List ℕ × Table)) → ((p : List ℕ × Table) → Stands ps p → IsRun 0 (shown_as p.0 p.1).held (shown_as p.0 p.1).entries) → All (λ (p : Part). (p.next.rank ≡ 0) × IsChain p.next p.later) (all_pieces ps)
  chains_of_pieces ps each = each_piece (λ q. (q.next.rank ≡ 0) × IsChain q.next q.later) ps (λ p s. go (part_of (ranked_of p.0 (shown_as p.0 p.1) (known p.0 p.1))) p.0 (ranked_part p.0 (shown_as p.0 p.1) (known p.0 p.1) (each p s)))
    where
      go : (r : Option Part) (owner : List ℕ) → IfSome r (IsPartOf owner) → IfSome r (λ q. (q.next.rank ≡ 0) × IsChain q.next q.later)
      go None owner is = tt
      go (Some q) owner is = (is.rank, is.chain)

  all_behind : (name : List ℕ) (ps : List (List ℕ × Table)) → AllByRecursion (λ k. text_cmp name k ≡ Less) (keys_of ps) → All (λ (q : Part). text_cmp name q.next.owner ≡ Less) (all_pieces ps)
  all_behind name [] behind = All-nil (λ (q : Part). text_cmp name q.next.owner ≡ Less)
  all_behind name (p ∷ ps) behind = go (reaches p.0) (part_of (ranked_of p.0 (shown_as p.0 p.1) (known p.0 p.1))) (owner_of_ranked p.0 (shown_as p.0 p.1) (known p.0 p.1)) (all_behind name ps behind.1)
    where
      go : (b : Bool) (r : Option Part) → IfSome r (λ q. q.next.owner ≡ p.0) → All (λ (q : Part). text_cmp name q.next.owner ≡ Less) (all_pieces ps) → All (λ (q : Part). text_cmp name q.next.owner ≡ Less) (cons_option (if b then r else None) (all_pieces ps))
      go false r this rest = rest
      go true None this rest = rest
      go true (Some q) this rest = All-cons (λ (q : Part). text_cmp name q.next.owner ≡ Less) q (all_pieces ps) (ap (text_cmp name) this ∙ behind.0) rest

  pub names_of_pieces : (ps : List (List ℕ × Table)) → IsStrictlySortedBy text_cmp (keys_of ps) → AllPairs (λ (p q : Part). text_cmp p.next.owner q.next.owner ≡ Less) (all_pieces ps)
  unfolding IsStrictlySortedBy
  names_of_pieces [] up = λ i j d l k. absurd (omega arith)
  names_of_pieces (p ∷ ps) up = go (reaches p.0) (part_of (ranked_of p.0 (shown_as p.0 p.1) (known p.0 p.1))) (owner_of_ranked p.0 (shown_as p.0 p.1) (known p.0 p.1)) (all_behind p.0 ps up.0) (names_of_pieces ps up.1)
    where
      go : (b : Bool) (r : Option Part) → IfSome r (λ q. q.next.owner ≡ p.0) → All (λ (q : Part). text_cmp p.0 q.next.owner ≡ Less) (all_pieces ps) →
          AllPairs (λ (p q : Part). text_cmp p.next.owner q.next.owner ≡ Less) (all_pieces ps) → AllPairs (λ (p q : Part). text_cmp p.next.owner q.next.owner ≡ Less) (cons_option (if b then r else None) (all_pieces ps))
      go false r this behind rest = rest
      go true None this behind rest = rest
      go true (Some q) this behind rest =
          AllPairs-cons (λ (p q : Part). text_cmp p.next.owner q.next.owner ≡ Less) q (all_pieces ps)
          (subst (λ (name : List ℕ). All (λ (x : Part). text_cmp name x.next.owner ≡ Less) (all_pieces ps)) (sym this) behind) rest

-- where nothing is left to go over, all is there
pub all_pieced : (reaches : List ℕ → Bool) (shown_as : List ℕ → Table → Table) (known : List ℕ → Table → ℕ) (parts : List Part) (left all : List (List ℕ × Table)) →
    parts ++ all_pieces reaches shown_as known left ≡ all_pieces reaches shown_as known all → left ≡ [] → parts ≡ all_pieces reaches shown_as known all
all_pieced reaches shown_as known parts left all made none = sym (append-nil parts) ∙ ap (λ ts. parts ++ all_pieces reaches shown_as known ts) (sym none) ∙ made
