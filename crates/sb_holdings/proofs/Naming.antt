-- From what one owner's holder makes of a block to what the node does.
use Rattle.std.proofs.Common.{◌≡◌, ℕ, zero, suc, ◌≤◌, ◌<◌, max, true, false, cond, ◌&&◌, List, [], ◌∷◌, ◌⊎◌, inl, inr, ⊎_elim, length, Option, Some, None, unwrap_or, refl, sym, ap, subst, ◌∙◌, nat_eq, nat_lt, nat_le, arith, lt-ltb, ltb-true, eq-eqb, is_some}
use Rattle.std.proofs.lemmas.Bool.{and_parts, and_left, and_right, cond_both, cond-true, cond-false, leb-true, lt-leb, ne_eqb, cases_lt}
use Rattle.std.specs.Cmp.Lexicographic.{pointwise}
use Rattle.std.specs.FinMap.{get, contains_key}
use Rattle.sb_types.specs.Records.{Entry, Stage, Block, Holder}
use Rattle.sb_types.specs.Runs.{IsRun, newer_entries, live_entries}
use Rattle.sb_holdings.specs.declared.ends.BlockEnd.{BlockEnd}
use Rattle.sb_holdings.specs.declared.ends.BlockEnd.TheVariants.{Own, OwnAhead, Gap, Stale, OwnersFull, Taken, TooManyKeys, NoMemory}
use Rattle.sb_holdings.specs.Held.{Held, empty_holder, holder_of, with_owner, held_after_block}
use Rattle.sb_holdings.specs.Stages.{new_stage, new_stage_of, stage_for, staged_all, staged_front, staged_refused}
use Rattle.sb_holdings.specs.Shown.{joins_shown, shown_with}
use Rattle.sb_holdings.specs.Blocks.{part_above, leading_part}
use Rattle.sb_holdings.specs.Taken.{holder_after_block}
use Rattle.sb_holdings.specs.Plain.{IsHoldings}
use Rattle.sb_holdings.specs.Ends.{is_own, is_stale, joined_stage, JoinsOn, JoinsStage, has_place, EntersOr, IsTaken, IsStaged, Fits}
use Rattle.sb_holdings.specs.Holders.{owner_block, unnamed_block, IsShownTaken, IsStageTaken, FitsHolder, FitsNew}
use Rattle.sb_table.proofs.Copying.{above_all}
use Rattle.sb_holdings.proofs.ByOwner.{with_owner-same}

module _ (owner : List ℕ) (floor after upto : ℕ) (es : List Entry) where
  abbrev b : Block
  b = owner_block owner floor after upto es

  abbrev c : Block
  c = unnamed_block floor after upto es

  stage_for-named : (o : Option Stage) → stage_for o c ≡ stage_for o b
  stage_for-named None = refl
  stage_for-named (Some s) = refl

  joined-named : (h : Holder) → joined_stage h c ≡ joined_stage h b
  joined-named h = ap (λ (o : Option Stage). cond (nat_lt h.shown.held floor) o None) (stage_for-named h.stage)

  module _ (h : Holder) where
    all-named : (o : Option Stage) → staged_all h c o ≡ staged_all h b o
    all-named None = refl
    all-named (Some s) = refl

    front-named : (n : ℕ) (o : Option Stage) → staged_front n h c o ≡ staged_front n h b o
    front-named zero o = refl
    front-named (suc n) None = refl
    front-named (suc n) (Some s) = refl

    refused-named : (n : ℕ) (o : Option Stage) → staged_refused n h c o ≡ staged_refused n h b o
    refused-named n None = refl
    refused-named n (Some s) = ap (λ (k : Holder). cond (nat_lt n (length (newer_entries s.progress es))) k (record { shown = h.shown; stage = None })) (front-named n (Some s))

    -- the name says nothing of what a block leaves
    pub taken-named : (end : BlockEnd) → holder_after_block h c end ≡ holder_after_block h b end
    taken-named Own = refl
    taken-named (OwnAhead ahead) = refl
    taken-named Gap = refl
    taken-named Stale = refl
    taken-named OwnersFull = refl
    taken-named (Taken n) =
        ap (λ (k : Holder). cond (joins_shown h.shown b) (shown_with h (part_above h.shown.held b)) (cond (nat_lt h.shown.held floor) k h))
        (all-named (stage_for h.stage c) ∙ ap (staged_all h b) (stage_for-named h.stage))
    taken-named (TooManyKeys n) =
        ap (λ (k : Holder). cond (joins_shown h.shown b) (shown_with h (leading_part n (part_above h.shown.held b))) (cond (nat_lt h.shown.held floor) k h))
        (front-named n (stage_for h.stage c) ∙ ap (staged_front n h b) (stage_for-named h.stage))
    taken-named (NoMemory n) =
        ap (λ (k : Holder). cond (joins_shown h.shown b) (shown_with h (leading_part n (part_above h.shown.held b))) (cond (nat_lt h.shown.held floor) k h))
        (refused-named n (stage_for h.stage c) ∙ ap (staged_refused n h b) (stage_for-named h.stage))

  module _ (held : Held) (other : is_own held b ≡ false) where
    abbrev h : Holder
    h = holder_of held.owners owner

    pub after-refused : (n : ℕ) → with_owner held owner (holder_after_block h c (NoMemory n)) ≡ held_after_block held b (NoMemory n)
    after-refused n = ap (with_owner held owner) (taken-named h (NoMemory n)) ∙ sym (cond-false (is_own held b) held (with_owner held owner (holder_after_block h b (NoMemory n))) other)

    pub after-known : IsHoldings held → (end : BlockEnd) → FitsHolder h c end → with_owner held owner (holder_after_block h c end) ≡ held_after_block held b end
    after-known is Own f = absurd f
    after-known is (OwnAhead ahead) f = absurd f
    after-known is Gap f = with_owner-same held owner h is other
    after-known is Stale f = with_owner-same held owner h is other
    after-known is OwnersFull f = absurd f
    after-known is (Taken n) f = ap (with_owner held owner) (taken-named h (Taken n)) ∙ sym (cond-false (is_own held b) held (with_owner held owner (holder_after_block h b (Taken n))) other)
    after-known is (TooManyKeys n) f =
        ap (with_owner held owner) (taken-named h (TooManyKeys n)) ∙ sym (cond-false (is_own held b) held (with_owner held owner (holder_after_block h b (TooManyKeys n))) other)
    after-known is (NoMemory n) f = after-refused n

    joins-on : joins_shown h.shown c ≡ true → JoinsOn held b
    joins-on j =
        let parts = and_parts (nat_le floor h.shown.held) (nat_le after h.shown.held && nat_lt h.shown.held upto) j in
        let more = and_parts (nat_le after h.shown.held) (nat_lt h.shown.held upto) parts.1 in
        record { other = other; floor = leb-true floor h.shown.held parts.0; after = leb-true after h.shown.held more.0; more = ltb-true h.shown.held upto more.1 }

    module _ (place : has_place held owner ≡ true) where
      fits-taken : (end : BlockEnd) → IsShownTaken h c end → IsTaken held b end
      fits-taken end t = record { joins = joins-on t.joins; place = place; enters = inl t.enters }

      fits-staged : (end : BlockEnd) → IsStageTaken h c end → IsStaged held b end
      fits-staged end t = record {
        stage = t.stage;
        joins = record { other = other; stage = sym (joined-named h) ∙ t.joins };
        place = place;
        enters = ⊎_elim (λ e. inl e) (λ r. inr (r.0, r.1, inl r.2)) t.enters;
      }

      either : (end : BlockEnd) → IsShownTaken h c end ⊎ IsStageTaken h c end → IsTaken held b end ⊎ IsStaged held b end
      either end f = ⊎_elim (λ t. inl (fits-taken end t)) (λ t. inr (fits-staged end t)) f

      pub fits-known : (end : BlockEnd) → FitsHolder h c end → Fits held b end
      fits-known Own f = absurd f
      fits-known (OwnAhead ahead) f = absurd f
      fits-known Gap f = (other, f.0, f.1, sym (joined-named h) ∙ f.2)
      fits-known Stale f = (other, f)
      fits-known OwnersFull f = absurd f
      fits-known (Taken n) f = either (Taken n) f
      fits-known (TooManyKeys n) f = either (TooManyKeys n) f
      fits-known (NoMemory n) f = either (NoMemory n) f

-- ---- an owner that is not held

room-for_one : (es : List Entry) (behind : Type 0) → newer_entries 0 es ≡ es → (es ≡ [] → behind) → EntersOr [] (newer_entries 0 es) behind (NoMemory 0)
room-for_one [] behind whole none = inr (refl, (refl, omega arith), none refl)
room-for_one (x ∷ xs) behind whole none = inl (rw whole ((omega arith), (omega arith)))

-- room is refused for an owner of whom nothing was held
pub refused-nothing : (floor upto : ℕ) (es : List Entry) → holder_after_block empty_holder (unnamed_block floor 0 upto es) (NoMemory 0) ≡ empty_holder
refused-nothing floor upto es =
    let c = unnamed_block floor 0 upto es in
    cond_both (joins_shown empty_holder.shown c) (shown_with empty_holder (leading_part 0 (part_above 0 c))) (cond (nat_lt 0 floor) (staged_refused 0 empty_holder c (stage_for None c)) empty_holder) (λ (k : Holder). k ≡ empty_holder)
    (λ joins.
    let zero : floor ≡ 0 = omega (arith, leb-true floor 0 (and_parts (nat_le floor 0) (nat_le 0 0 && nat_lt 0 upto) joins).0) in
    ap (λ (n : ℕ). shown_with empty_holder (leading_part 0 (part_above 0 (unnamed_block n 0 upto es)))) zero)
    (λ _. cond_both (nat_lt 0 floor) (staged_refused 0 empty_holder c (stage_for None c)) empty_holder (λ (k : Holder). k ≡ empty_holder)
    (λ _. cond_both (nat_lt 0 (length (newer_entries 0 es))) empty_holder empty_holder (λ (k : Holder). k ≡ empty_holder) (λ _. refl) (λ _. refl)) (λ _. refl))

module _ (held : Held) (owner : List ℕ) (floor upto : ℕ) (es : List Entry) (unknown : get held.owners owner ≡ None) where
  abbrev new_block : ℕ → Block
  new_block after = owner_block owner floor after upto es

  is-nothing : holder_of held.owners owner ≡ empty_holder
  is-nothing = ap (λ (o : Option Holder). unwrap_or o empty_holder) unknown

  pub with_nothing : IsHoldings held → pointwise nat_eq owner held.me ≡ false → with_owner held owner empty_holder ≡ held
  with_nothing is other = ap (with_owner held owner) (sym is-nothing) ∙ with_owner-same held owner empty_holder is other

  new-stage : (after : ℕ) → after ≡ 0 → 0 < floor → joined_stage (holder_of held.owners owner) (new_block after) ≡ Some (new_stage floor)
  new-stage after at more =
      ap (λ (h : Holder). joined_stage h (new_block after)) is-nothing ∙ cond-true (nat_lt 0 floor) (new_stage_of (new_block after)) None (lt-ltb 0 floor more)
      ∙ cond-true (nat_eq after 0) (Some (new_stage floor)) None (eq-eqb after 0 at)

  no-stage : (after : ℕ) → 0 < after → joined_stage (holder_of held.owners owner) (new_block after) ≡ None
  no-stage after more =
      ap (λ (h : Holder). joined_stage h (new_block after)) is-nothing
      ∙ cond_both (nat_lt 0 floor) (new_stage_of (new_block after)) None (λ (o : Option Stage). o ≡ None)
      (λ _. cond-false (nat_eq after 0) (Some (new_stage floor)) None (ne_eqb after 0 (λ zero. absurd (omega (arith, zero, more))))) (λ _. refl)

  pub gap-new : (after : ℕ) → is_own held (new_block after) ≡ false → 0 < after → after < upto → Fits held (new_block after) Gap
  gap-new after other more order = (
    other,
    ap (λ (h : Holder). is_stale h.shown (new_block after)) is-nothing ∙ and_left (nat_le upto 0) (nat_le floor 0) (lt-leb upto 0 (omega (arith, order))),
    ap (λ (h : Holder). joins_shown h.shown (new_block after)) is-nothing
        ∙ and_right (nat_le floor 0) (nat_le after 0 && nat_lt 0 upto) (and_left (nat_le after 0) (nat_lt 0 upto) (lt-leb after 0 more)),
    no-stage after more,
  )

  module _ (other : is_own held (new_block 0) ≡ false) (order : 0 < upto) where
    joins-new : floor ≤ 0 → JoinsOn held (new_block 0)
    joins-new low = record {
      other = other;
      floor = omega (arith, low);
      after = omega arith;
      more = subst (λ (h : Holder). h.shown.held < upto) (sym is-nothing) order;
    }

    stage-new : 0 < floor → JoinsStage held (new_block 0) (new_stage floor)
    stage-new more = record { other = other; stage = new-stage 0 refl more }

    pub full-new : has_place held owner ≡ false → Fits held (new_block 0) OwnersFull
    full-new none = (⊎_elim (λ more. inr (new_stage floor, stage-new more)) (λ low. inl (joins-new low)) (cases_lt 0 floor), none)

    module _ (run : IsRun 0 upto es) (place : has_place held owner ≡ true) where
      whole : newer_entries 0 es ≡ es
      whole = above_all 0 0 es (omega arith) run.ascending

      lacks : contains_key held.owners owner ≡ false
      lacks = ap is_some unknown

      refused-new : Fits held (new_block 0) (NoMemory 0)
      refused-new = ⊎_elim
          (λ more. inr (record {
            stage = new_stage floor;
            joins = stage-new more;
            place = place;
            enters = room-for_one es ((floor ≤ upto) ⊎ ((0 ≡ 0) × (es ≡ []))) whole (λ none. inr (refl, none));
          }))
          (λ low. inl (record {
            joins = joins-new low;
            place = place;
            enters = subst (λ (h : Holder). EntersOr (live_entries (max h.shown.floor floor) h.shown.entries) (newer_entries h.shown.held es) ((es ≡ []) × (contains_key held.owners owner ≡ false)) (NoMemory 0)) (sym is-nothing)
                (room-for_one es ((es ≡ []) × (contains_key held.owners owner ≡ false)) whole (λ none. (none, lacks)));
          }))
          (cases_lt 0 floor)

      pub fits-new : (end : BlockEnd) → FitsNew (unnamed_block floor 0 upto es) end → Fits held (new_block 0) end
      fits-new end (inl f) = fits-known owner floor 0 upto es held other place end (subst (λ (h : Holder). FitsHolder h (unnamed_block floor 0 upto es) end) (sym is-nothing) f)
      fits-new end (inr is) = subst (Fits held (new_block 0)) (sym is) refused-new

    pub after-new : IsHoldings held → (end : BlockEnd) → FitsNew (unnamed_block floor 0 upto es) end → with_owner held owner (holder_after_block empty_holder (unnamed_block floor 0 upto es) end) ≡ held_after_block held (new_block 0) end
    after-new is end (inl f) =
        ap (λ (h : Holder). with_owner held owner (holder_after_block h (unnamed_block floor 0 upto es) end)) (sym is-nothing)
        ∙ after-known owner floor 0 upto es held other is end (subst (λ (h : Holder). FitsHolder h (unnamed_block floor 0 upto es) end) (sym is-nothing) f)
    after-new is end (inr refused) =
        ap (λ (h : Holder). with_owner held owner (holder_after_block h (unnamed_block floor 0 upto es) end)) (sym is-nothing)
        ∙ subst (λ (e : BlockEnd). with_owner held owner (holder_after_block (holder_of held.owners owner) (unnamed_block floor 0 upto es) e) ≡ held_after_block held (new_block 0) e) (sym refused)
        (after-refused owner floor 0 upto es held other 0)

pub none-from : {X : Type 0} (o : Option X) → is_some o ≡ false → o ≡ None
none-from None is = refl
none-from (Some x) is = absurd (cc)
