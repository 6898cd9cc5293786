-- How a block that joins on is taken up.
use Rattle.std.proofs.Common.{◌≡◌, ℕ, zero, suc, Bool, true, false, cond, ◌&&◌, ◌⊎◌, List, inl, inr, take, length, refl, sym, ap, subst, ◌∙◌, arith, le-leb, lt-ltb, ltb-true, Option, Some, None, IsSomeAnd, nat_eq, nat_lt, nat_le}
use Rattle.std.proofs.lemmas.Bool.{and_parts, and_from, and_left, cond-true, cond-false, cond_both, false≢true, leb-true, lt-leb}
use Rattle.std.specs.Cmp.Lexicographic.{pointwise}
use Rattle.sb_types.specs.Records.{Entry, Table, Stage, Block, Holder}
use Rattle.sb_types.specs.Runs.{Stands, newer_entries, entries_up_to, entries_with_keys, entries_without_keys}
use Rattle.sb_types.specs.Writes.{Gone}
use Rattle.sb_table.specs.Floors.{merged_entries, table_after_swap}
use Rattle.sb_holdings.specs.declared.ends.BlockEnd.{BlockEnd}
use Rattle.sb_holdings.specs.declared.ends.BlockEnd.TheVariants.{Own, OwnAhead, Gap, Stale, OwnersFull, Taken, TooManyKeys, NoMemory}
use Rattle.sb_holdings.specs.Blocks.{part_above, leading_part}
use Rattle.sb_holdings.specs.Shown.{joins_shown, table_after_block, shown_with}
use Rattle.sb_holdings.specs.Stages.{stage_for, stage_with, staged_all, staged_front, staged_refused}
use Rattle.sb_holdings.specs.Taken.{holder_by_route, holder_after_block}
use Rattle.sb_holdings.specs.Held.{Held, holder_of, shown_of, held_after_taking}
use Rattle.sb_holdings.specs.Ends.{is_own, joined_stage, JoinsOn, JoinsStage, Fits}
use Rattle.sb_holdings.specs.Nodes.{Node, node_after_block}
use Rattle.sb_holdings.specs.TakenUp.{HasFront, HasAll, IsTakenUp, HasStageAll, IsShown, IsFrontStaged, IsStagedUp}
use Rattle.sb_types.proofs.Standing.{right, in_above, of_above, in_live}
use Rattle.sb_types.proofs.Texts.{text_same}
use Rattle.sb_holdings.proofs.Nodes.{put_with}

-- what is held of the owner is what the block leaves of it
after-taken : (held : Held) (b : Block) (end : BlockEnd) → is_own held b ≡ false → holder_of (held_after_taking held b end).owners b.owner ≡ holder_after_block (holder_of held.owners b.owner) b end
after-taken held b end other =
    let h = holder_after_block (holder_of held.owners b.owner) b end in
    ap (λ (new : Held). holder_of new.owners b.owner) (cond-false (is_own held b) held _ other)
    ∙ put_with held.owners b.owner h b.owner ∙ cond-true (pointwise nat_eq b.owner b.owner) h _ (text_same b.owner b.owner refl)

-- ---- by the table that is shown

module _ (held : Held) (b : Block) (joins : JoinsOn held b) where
  shown-taken : (end : BlockEnd) → shown_of (held_after_taking held b end) b.owner ≡ (holder_after_block (holder_of held.owners b.owner) b end).shown
  shown-taken end = ap (λ (h : Holder). h.shown) (after-taken held b end joins.other)

  joined_on : joins_shown (shown_of held b.owner) b ≡ true
  joined_on =
      let t = shown_of held b.owner in
      and_from _ _ (le-leb b.floor t.held joins.floor) (and_from _ _ (le-leb b.after t.held joins.after) (lt-ltb t.held b.upto joins.more))

  -- the part of the block joins what is shown
  routed-shown : (part : Block) (staged : Option Stage → Holder) →
      (holder_by_route (holder_of held.owners b.owner) b (shown_with (holder_of held.owners b.owner) part) staged).shown ≡ table_after_block (shown_of held b.owner) part
  routed-shown part staged =
      ap (λ (h : Holder). h.shown) (cond-true (joins_shown (shown_of held b.owner) b) (shown_with (holder_of held.owners b.owner) part) _ joined_on)

  front-shown : (n : ℕ) (new : Table) → new ≡ table_after_block (shown_of held b.owner) (leading_part n (part_above (shown_of held b.owner).held b)) →
      HasFront (shown_of held b.owner) (take n (newer_entries (shown_of held b.owner).held b.entries)) new
  front-shown n new same =
      let t = shown_of held b.owner in
      let es = take n (newer_entries t.held b.entries) in
      subst (HasFront t es) (sym same) (record { held = refl; each = λ e s. right _ es e s })

pub taken_up : (node : Node) (b : Block) (end : BlockEnd) → JoinsOn node.held b → Fits node.held b end → IsTakenUp node b end (node_after_block node b end)
taken_up node b Own joins fits = absurd (false≢true (sym joins.other ∙ fits.0))
taken_up node b (OwnAhead upto) joins fits = absurd (false≢true (sym joins.other ∙ fits.0))
taken_up node b Gap joins fits = absurd (false≢true (sym fits.2 ∙ joined_on node.held b joins))
taken_up node b Stale joins fits =
    let t = shown_of node.held b.owner in
    absurd (omega (arith, leb-true b.upto t.held (and_parts (nat_le b.upto t.held) (nat_le b.floor t.held) fits.1).0, joins.more))
taken_up node b OwnersFull joins fits = refl
taken_up node b (Taken n) joins fits =
    let h = holder_of node.held.owners b.owner in
    let same = shown-taken node.held b joins (Taken n) ∙ routed-shown node.held b joins (part_above h.shown.held b) (staged_all h b) in
    subst (HasAll h.shown b) (sym same) (record { held = omega arith; each = λ e s. right _ (newer_entries h.shown.held b.entries) e s })
taken_up node b (TooManyKeys n) joins fits =
    let h = holder_of node.held.owners b.owner in
    front-shown node.held b joins n _ (shown-taken node.held b joins (TooManyKeys n) ∙ routed-shown node.held b joins (leading_part n (part_above h.shown.held b)) (staged_front n h b))
taken_up node b (NoMemory n) joins fits =
    let h = holder_of node.held.owners b.owner in
    front-shown node.held b joins n _ (shown-taken node.held b joins (NoMemory n) ∙ routed-shown node.held b joins (leading_part n (part_above h.shown.held b)) (staged_refused n h b))

-- ---- by a stage

some-chosen : (c : Bool) (o : Option Stage) (s : Stage) → cond c o None ≡ Some s → (c ≡ true) × (o ≡ Some s)
some-chosen true o s is = (refl, is)
some-chosen false o s is = absurd (cc)

module _ (h : Holder) (b : Block) (s : Stage) (joins : joined_stage h b ≡ Some s) where
  beyond : nat_lt h.shown.held b.floor ≡ true
  beyond = (some-chosen (nat_lt h.shown.held b.floor) (stage_for h.stage b) s joins).0

  not_shown : joins_shown h.shown b ≡ false
  not_shown = and_left (nat_le b.floor h.shown.held) (nat_le b.after h.shown.held && nat_lt h.shown.held b.upto) (lt-leb b.floor h.shown.held (ltb-true h.shown.held b.floor beyond))

  routed-stage : (shown : Holder) (staged : Option Stage → Holder) → holder_by_route h b shown staged ≡ staged (Some s)
  routed-stage shown staged =
      cond-false (joins_shown h.shown b) shown _ not_shown ∙ cond-true (nat_lt h.shown.held b.floor) (staged (stage_for h.stage b)) h beyond
      ∙ ap staged (some-chosen (nat_lt h.shown.held b.floor) (stage_for h.stage b) s joins).1

  abbrev new : List Entry
  new = newer_entries s.progress b.entries

  abbrev whole : Stage
  whole = stage_with s (part_above s.progress b)

  -- a new entry above what was held is in the table that the stage makes, unless its floor lets it go
  in-swapped : (e : Entry) → Stands (newer_entries h.shown.held new) e → Stands (table_after_swap h.shown whole).entries e ⊎ Gone s.floor e
  in-swapped e stands =
      let parts = of_above h.shown.held new e stands in
      let staged = right (entries_without_keys new s.entries) new e parts.0 in
      let higher = in_above h.shown.held whole.entries e staged parts.1 in
      in_live s.floor (merged_entries h.shown.held whole.entries h.shown.entries) e
      (right (entries_with_keys (entries_up_to h.shown.held whole.entries) h.shown.entries) (newer_entries h.shown.held whole.entries) e higher)

  all-staged : (k : Holder) → k ≡ staged_all h b (Some s) → ((k.shown ≡ h.shown) × IsSomeAnd k.stage (HasStageAll s b)) ⊎ IsShown h s b k
  all-staged k is =
      let over : Holder = record { shown = table_after_swap h.shown whole; stage = None } in
      let beside : Holder = record { shown = h.shown; stage = Some whole } in
      subst (λ (x : Holder). ((x.shown ≡ h.shown) × IsSomeAnd x.stage (HasStageAll s b)) ⊎ IsShown h s b x) (sym is)
      (cond_both (nat_le s.floor b.upto) over beside
      (λ (x : Holder). ((x.shown ≡ h.shown) × IsSomeAnd x.stage (HasStageAll s b)) ⊎ IsShown h s b x)
      (λ _. inr (record { none = refl; held = refl; floor = refl; each = in-swapped }))
      (λ _. inl (refl, record { floor = refl; progress = refl; each = λ e stands. right (entries_without_keys new s.entries) new e stands })))

  front-staged : (n : ℕ) → IsFrontStaged h s b n (staged_front n h b (Some s))
  front-staged zero = (refl, inl (refl, refl))
  front-staged (suc n) =
      let es = take (suc n) new in
      (refl, inr (record { floor = refl; progress = refl; each = λ e stands. right (entries_without_keys es s.entries) es e stands }))

  refused-staged : (n : ℕ) → IsFrontStaged h s b n (staged_refused n h b (Some s)) ⊎ (((staged_refused n h b (Some s)).shown ≡ h.shown) × ((staged_refused n h b (Some s)).stage ≡ None))
  refused-staged n =
      cond_both (nat_lt n (length new)) (staged_front n h b (Some s)) (record { shown = h.shown; stage = None })
      (λ (x : Holder). IsFrontStaged h s b n x ⊎ ((x.shown ≡ h.shown) × (x.stage ≡ None)))
      (λ _. inl (front-staged n)) (λ _. inr (refl, refl))

pub staged_up : (node : Node) (b : Block) (s : Stage) (end : BlockEnd) → JoinsStage node.held b s → Fits node.held b end → IsStagedUp node b s end (node_after_block node b end)
staged_up node b s Own joins fits = absurd (false≢true (sym joins.other ∙ fits.0))
staged_up node b s (OwnAhead upto) joins fits = absurd (false≢true (sym joins.other ∙ fits.0))
staged_up node b s Gap joins fits = let no : None ≡ Some s = sym fits.3 ∙ joins.stage in absurd (cc)
staged_up node b s Stale joins fits =
    let h = holder_of node.held.owners b.owner in
    let far = ltb-true h.shown.held b.floor (beyond h b s joins.stage) in
    absurd (omega (arith, leb-true b.floor h.shown.held (and_parts (nat_le b.upto h.shown.held) (nat_le b.floor h.shown.held) fits.1).1, far))
staged_up node b s OwnersFull joins fits = refl
staged_up node b s (Taken n) joins fits =
    let h = holder_of node.held.owners b.owner in
    all-staged h b s joins.stage _
    (after-taken node.held b (Taken n) joins.other ∙ routed-stage h b s joins.stage (shown_with h (part_above h.shown.held b)) (staged_all h b))
staged_up node b s (TooManyKeys n) joins fits =
    let h = holder_of node.held.owners b.owner in
    subst (IsFrontStaged h s b n)
    (sym (after-taken node.held b (TooManyKeys n) joins.other ∙ routed-stage h b s joins.stage (shown_with h (leading_part n (part_above h.shown.held b))) (staged_front n h b)))
    (front-staged h b s joins.stage n)
staged_up node b s (NoMemory n) joins fits =
    let h = holder_of node.held.owners b.owner in
    subst (λ (x : Holder). IsFrontStaged h s b n x ⊎ ((x.shown ≡ h.shown) × (x.stage ≡ None)))
    (sym (after-taken node.held b (NoMemory n) joins.other ∙ routed-stage h b s joins.stage (shown_with h (leading_part n (part_above h.shown.held b))) (staged_refused n h b)))
    (refused-staged h b s joins.stage n)
