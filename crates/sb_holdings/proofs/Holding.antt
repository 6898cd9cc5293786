-- What a block does to what is held of one owner, by how it ends.
use Rattle.std.proofs.Common.{◌≡◌, ℕ, zero, suc, ◌≤◌, ◌<◌, max, true, ◌&&◌, List, [], ◌∷◌, inl, inr, length, take, refl, sym, ap, subst, ◌∙◌, Option, Some, None, IfSome, IsSomeAnd, nat_lt, nat_le, nat_eq, arith, lt-ltb, ltb-true, le-leb}
use Rattle.std.proofs.lemmas.Bool.{and_parts, and_from, and_left, and_right, cond-true, cond-false, leb-true, le-ltb, lt-leb}
use Rattle.std.proofs.lemmas.List.{take_all}
use Rattle.sb_types.specs.declared.limits.TheConstants.{KEYS_MOST}
use Rattle.sb_types.specs.Records.{Entry, Table, Stage, Block, Holder}
use Rattle.sb_types.specs.Runs.{IsRun, newer_entries, are_ascending, entries_after, last_version, live_entries}
use Rattle.sb_table.proofs.Copying.{above_all}
use Rattle.sb_holdings.specs.declared.ends.BlockEnd.{BlockEnd}
use Rattle.sb_holdings.specs.declared.ends.BlockEnd.TheVariants.{Own, OwnAhead, Gap, Stale, OwnersFull, Taken, TooManyKeys, NoMemory}
use Rattle.sb_holdings.specs.Blocks.{part_above, leading_part}
use Rattle.sb_holdings.specs.Shown.{joins_shown, shown_with, stage_beyond}
use Rattle.sb_holdings.specs.Stages.{new_stage, stage_for, holder_after_stage, staged_all, staged_front, staged_refused}
use Rattle.sb_holdings.specs.Taken.{holder_by_route, holder_after_block}
use Rattle.sb_holdings.specs.Ends.{Enters, joined_stage}
use Rattle.sb_holdings.specs.Holders.{FitsHolder, FitsStage, FillsStage, unnamed_block, goes_on_with, GoesOn, upto_after, stage_after_end, shown_taken, is_due, with_stage, Settles, staged_by}
use Rattle.sb_table.proofs.Order.{least, lower, ascending_taken, run_above}
use Rattle.sb_holdings.proofs.Entering.{one_by_one}

-- ---- a stage seen as a table, and back

abbrev pub as_table : Stage → Table
as_table s = record { held = s.progress; floor = s.floor; entries = s.entries }

abbrev pub as_stage : Table → Stage
as_stage t = record { floor = t.floor; progress = t.held; entries = t.entries }

-- ---- how far entries reach

pub reached-most : (before upto : ℕ) (new : List Entry) (end : BlockEnd) → are_ascending before new ≡ true → before ≤ upto → before ≤ upto_after before upto new end
reached-most before upto new Own up le = omega arith
reached-most before upto new (OwnAhead ahead) up le = omega arith
reached-most before upto new Gap up le = omega arith
reached-most before upto new Stale up le = omega arith
reached-most before upto new OwnersFull up le = omega arith
reached-most before upto new (Taken n) up le = le
reached-most before upto new (TooManyKeys n) up le = least before (take n new) (ascending_taken n before new up)
reached-most before upto new (NoMemory n) up le = least before (take n new) (ascending_taken n before new up)

-- ---- the stage

abbrev with_new : Stage → ℕ → List Entry → Stage
with_new s upto es = record { floor = s.floor; progress = upto; entries = entries_after s.entries es }

module _ (h : Holder) (b : Block) (s : Stage) where
  abbrev lacked : List Entry
  lacked = newer_entries s.progress b.entries

  abbrev Kept : BlockEnd → Type 0
  Kept entering = upto_after s.progress b.upto lacked entering ≡ s.progress → h.stage ≡ Some s

  same : h.stage ≡ Some s → ◌≡◌ {A = Holder} (record { shown = h.shown; stage = Some s }) h
  same is = ap (λ (o : Option Stage). let k : Holder = record { shown = h.shown; stage = o } in k) (sym is)

  none-entered : stage_after_end s b.upto lacked (TooManyKeys 0) ≡ s
  none-entered = ap (λ (es : List Entry). let r : Stage = record { floor = s.floor; progress = s.progress; entries = es } in r) (sym (one_by_one s.entries [] refl))

  front-placed : (n : ℕ) → Kept (TooManyKeys n) → ◌≡◌ {A = Holder} (record { shown = h.shown; stage = Some (stage_after_end s b.upto lacked (TooManyKeys n)) }) (staged_front n h b (Some s))
  front-placed zero kept = ap (λ (r : Stage). let k : Holder = record { shown = h.shown; stage = Some r } in k) none-entered ∙ same (kept refl)
  front-placed (suc n) kept = refl

  all-placed : (n : ℕ) → n ≡ length lacked → with_stage h.shown (stage_after_end s b.upto lacked (Taken n)) (nat_le s.floor b.upto) (Taken n) ≡ staged_by h b (Some s) (Taken n)
  all-placed n is = ap (λ (es : List Entry). holder_after_stage h (with_new s b.upto es)) (take_all n lacked (omega (arith, is)))

  refused-placed : (n : ℕ) → n ≡ length lacked → ◌≡◌ {A = Holder} (record { shown = h.shown; stage = None }) (staged_by h b (Some s) (NoMemory n))
  refused-placed n is = sym (cond-false (nat_lt n (length lacked)) (staged_front n h b (Some s)) (record { shown = h.shown; stage = None }) (le-ltb n (length lacked) (omega arith)))

  pub placed-is : (entering end : BlockEnd) → Enters s.entries lacked entering → Kept entering → Settles (stage_after_end s b.upto lacked entering) entering end
      → with_stage h.shown (stage_after_end s b.upto lacked entering) (is_due (stage_after_end s b.upto lacked entering) entering) end ≡ staged_by h b (Some s) end
  placed-is Own end e kept settles = absurd e
  placed-is (OwnAhead ahead) end e kept settles = absurd e
  placed-is Gap end e kept settles = absurd e
  placed-is Stale end e kept settles = absurd e
  placed-is OwnersFull end e kept settles = absurd e
  placed-is (Taken n) end e kept (inl is) =
      rw is (all-placed n e.0)
  placed-is (Taken n) end e kept (inr refused) =
      rw (refused.1, refused.0) (refused-placed n e.0)
  placed-is (TooManyKeys n) end e kept (inl is) = rw is (front-placed n kept)
  placed-is (TooManyKeys n) end e kept (inr refused) = absurd (cc)
  placed-is (NoMemory n) end e kept (inl is) =
      rw is (front-placed n kept ∙ sym (cond-true (nat_lt n (length lacked)) (staged_front n h b (Some s)) (record { shown = h.shown; stage = None }) (lt-ltb n (length lacked) e.0)))
  placed-is (NoMemory n) end e kept (inr refused) = absurd (cc)

  pub fills-settled : (entering end : BlockEnd) → Enters s.entries lacked entering → Settles (stage_after_end s b.upto lacked entering) entering end → FillsStage s b.upto b.entries end
  fills-settled entering end e (inl is) = inl (rw is e)
  fills-settled Own end e (inr refused) = absurd e
  fills-settled (OwnAhead ahead) end e (inr refused) = absurd e
  fills-settled Gap end e (inr refused) = absurd e
  fills-settled Stale end e (inr refused) = absurd e
  fills-settled OwnersFull end e (inr refused) = absurd e
  fills-settled (Taken n) end e (inr refused) =
      inr (refused.1 ∙ ap (λ (k : ℕ). NoMemory k) e.0, subst (λ (k : ℕ). Enters s.entries lacked (Taken k)) e.0 e, leb-true s.floor b.upto refused.0)
  fills-settled (TooManyKeys n) end e (inr refused) = absurd (cc)
  fills-settled (NoMemory n) end e (inr refused) = absurd (cc)

-- ---- a stage that goes on

pub goes-on : (o : Option Stage) (floor after upto : ℕ) (es : List Entry) → goes_on_with o (unnamed_block floor after upto []) ≡ true → IsRun after upto es → IsSomeAnd o (λ s. GoesOn s upto es)
goes-on None floor after upto es is run = absurd (cc)
goes-on (Some s) floor after upto es is run =
    let parts = and_parts (nat_eq s.floor floor) (nat_le after s.progress && nat_lt s.progress upto) is in
    let more = and_parts (nat_le after s.progress) (nat_lt s.progress upto) parts.1 in
    let joins = leb-true after s.progress more.0 in
    let further = ltb-true s.progress upto more.1 in
    (lower 0 after es (omega arith) run.ascending, run_above s.progress (omega (arith, further)) run, further)

pub goes-on_some : (o : Option Stage) (s r : Stage) (upto : ℕ) (es new : List Entry) (end : BlockEnd) → o ≡ Some s → IfSome o (λ x. (length x.entries ≤ KEYS_MOST) × (1 ≤ x.progress))
    → IsSomeAnd o (λ x. GoesOn x upto es) → new ≡ newer_entries s.progress es → r ≡ stage_after_end s upto new end → 1 ≤ r.progress
goes-on_some o s r upto es new end is kept goes new_is r_is =
    let some = subst (λ (p : Option Stage). IfSome p (λ x. (length x.entries ≤ KEYS_MOST) × (1 ≤ x.progress))) is kept in
    let on = subst (λ (p : Option Stage). IsSomeAnd p (λ x. GoesOn x upto es)) is goes in
    let up = subst (λ (xs : List Entry). are_ascending s.progress xs ≡ true) (sym new_is) on.1.ascending in
    omega (arith, reached-most s.progress upto new end up (omega (arith, on.2)), some.1, ap (λ (x : Stage). x.progress) r_is)

pub go_on-is : (h k : Holder) (s r : Stage) (upto : ℕ) (es new : List Entry) (entering end : BlockEnd) → h.stage ≡ Some s → new ≡ newer_entries s.progress es → Enters s.entries new entering
    → r ≡ stage_after_end s upto new entering → Settles r entering end → k ≡ with_stage h.shown r (is_due r entering) end → k ≡ staged_by h (unnamed_block 0 0 upto es) h.stage end
go_on-is h k s r upto es new entering end stage_is new_is enters r_is settles effect =
    let full = r_is ∙ ap (λ (xs : List Entry). stage_after_end s upto xs entering) new_is in
    let e = subst (λ (xs : List Entry). Enters s.entries xs entering) new_is enters in
    let t = subst (λ (x : Stage). Settles x entering end) full settles in
    effect ∙ ap (λ (x : Stage). with_stage h.shown x (is_due x entering) end) full
    ∙ placed-is h (unnamed_block 0 0 upto es) s entering end e (λ _. stage_is) t
    ∙ ap (λ (o : Option Stage). staged_by h (unnamed_block 0 0 upto es) o end) (sym stage_is)

-- ---- a stage that begins

nothing-came : (es : List Entry) (n : ℕ) → are_ascending 0 es ≡ true → n < length es → last_version 0 (take n es) ≡ 0 → n ≡ 0
nothing-came es zero up lt is = refl
nothing-came [] (suc n) up lt is = absurd (omega (arith, lt))
nothing-came (x ∷ xs) (suc n) up lt is =
    let parts = and_parts (nat_lt 0 x.version) (are_ascending x.version xs) up in
    absurd (omega (arith, ltb-true 0 x.version parts.0, least x.version (take n xs) (ascending_taken n x.version xs parts.1), is))

module _ (h : Holder) (floor upto : ℕ) (es : List Entry) (run : IsRun 0 upto es) (more : 0 < upto) where
  whole : newer_entries 0 es ≡ es
  whole = above_all 0 0 es (omega arith) run.ascending

  none-came : (entering : BlockEnd) → Enters [] es entering → upto_after 0 upto es entering ≡ 0 → h ≡ staged_by h (unnamed_block floor 0 upto es) (Some (new_stage floor)) entering
  none-came Own e is = absurd e
  none-came (OwnAhead ahead) e is = absurd e
  none-came Gap e is = absurd e
  none-came Stale e is = absurd e
  none-came OwnersFull e is = absurd e
  none-came (Taken n) e is = absurd (omega (arith, more, is))
  none-came (TooManyKeys n) e is = rw (nothing-came es n run.ascending e.0 is) refl
  none-came (NoMemory n) e is =
      let none = nothing-came es n run.ascending e.0 is in
      let some : 0 < length (newer_entries 0 es) = omega (arith, e.0, ap length whole) in
      rw none (sym (cond-true (nat_lt 0 (length (newer_entries 0 es))) h (record { shown = h.shown; stage = None }) (lt-ltb 0 (length (newer_entries 0 es)) some)))

  module _ (s r : Stage) (entering : BlockEnd) (new_is : s ≡ new_stage floor) (enters : Enters s.entries es entering) (r_is : r ≡ stage_after_end s upto es entering) where
    full : r ≡ stage_after_end (new_stage floor) upto (newer_entries 0 es) entering
    full = r_is ∙ ap (λ (x : Stage). stage_after_end x upto es entering) new_is ∙ ap (λ (xs : List Entry). stage_after_end (new_stage floor) upto xs entering) (sym whole)

    entered-new : Enters [] es entering
    entered-new = subst (λ (x : Stage). Enters x.entries es entering) new_is enters

    entered-all : Enters [] (newer_entries 0 es) entering
    entered-all = subst (λ (xs : List Entry). Enters [] xs entering) (sym whole) entered-new

    pub begun-none : r.progress ≡ 0 → h ≡ staged_by h (unnamed_block floor 0 upto es) (Some (new_stage floor)) entering
    begun-none none =
        none-came entering entered-new (sym (ap (λ (x : Stage). x.progress) (r_is ∙ ap (λ (x : Stage). stage_after_end x upto es entering) new_is)) ∙ none)

    pub begun-none_fills : FillsStage (new_stage floor) upto es entering
    begun-none_fills = inl entered-all

    module _ (end : BlockEnd) (settles : Settles r entering end) where
      settles-all : Settles (stage_after_end (new_stage floor) upto (newer_entries 0 es) entering) entering end
      settles-all = subst (λ (x : Stage). Settles x entering end) full settles

      pub begun-fills : FillsStage (new_stage floor) upto es end
      begun-fills = fills-settled h (unnamed_block floor 0 upto es) (new_stage floor) entering end entered-all settles-all

      pub begun-is : (k : Holder) → (r.progress ≡ 0 → ⊥) → k ≡ with_stage h.shown r (is_due r entering) end → k ≡ staged_by h (unnamed_block floor 0 upto es) (Some (new_stage floor)) end
      begun-is k some effect =
          effect ∙ ap (λ (x : Stage). with_stage h.shown x (is_due x entering) end) full
          ∙ placed-is h (unnamed_block floor 0 upto es) (new_stage floor) entering end entered-all (λ is. absurd (some (ap (λ (x : Stage). x.progress) full ∙ is))) settles-all

-- ---- which end fits

module _ (h : Holder) (b : Block) where
  fits-some : (s : Stage) (end : BlockEnd) → joined_stage h b ≡ Some s → FillsStage s b.upto b.entries end → FitsHolder h b end
  fits-some s Own j (inl e) = absurd e
  fits-some s Own j (inr r) = absurd (cc)
  fits-some s (OwnAhead ahead) j (inl e) = absurd e
  fits-some s (OwnAhead ahead) j (inr r) = absurd (cc)
  fits-some s Gap j (inl e) = absurd e
  fits-some s Gap j (inr r) = absurd (cc)
  fits-some s Stale j (inl e) = absurd e
  fits-some s Stale j (inr r) = absurd (cc)
  fits-some s OwnersFull j (inl e) = absurd e
  fits-some s OwnersFull j (inr r) = absurd (cc)
  fits-some s (Taken n) j f = inr (record { stage = s; joins = j; enters = f })
  fits-some s (TooManyKeys n) j f = inr (record { stage = s; joins = j; enters = f })
  fits-some s (NoMemory n) j f = inr (record { stage = s; joins = j; enters = f })

  module _ (beyond : h.shown.held < b.floor) where
    joined-is : joined_stage h b ≡ stage_for h.stage b
    joined-is = cond-true (nat_lt h.shown.held b.floor) (stage_for h.stage b) None (lt-ltb h.shown.held b.floor beyond)

    fits-for : (o : Option Stage) (end : BlockEnd) → joined_stage h b ≡ o → FitsStage o b end → FitsHolder h b end
    fits-for None end j is =
        let low = lt-leb b.floor h.shown.held beyond in
        rw is (and_right (nat_le b.upto h.shown.held) (nat_le b.floor h.shown.held) low, and_left (nat_le b.floor h.shown.held) (nat_le b.after h.shown.held && nat_lt h.shown.held b.upto) low, j)
    fits-for (Some s) end j f = fits-some s end j f

    pub fits-staged : (end : BlockEnd) → FitsStage (stage_for h.stage b) b end → FitsHolder h b end
    fits-staged end f = fits-for (stage_for h.stage b) end joined-is f

-- ---- what is shown

pub new-run : (t : Table) (held after upto : ℕ) (es new : List Entry) → held ≡ t.held → new ≡ newer_entries held es → held ≤ upto → IsRun after upto es → IsRun t.held upto new
new-run t held after upto es new held_is new_is le run =
    subst (λ (n : ℕ). IsRun n upto new) held_is (subst (λ (xs : List Entry). IsRun held upto xs) (sym new_is) (run_above held le run))

module _ (h : Holder) (b : Block) (floor : b.floor ≤ h.shown.held) (after : b.after ≤ h.shown.held) (more : h.shown.held < b.upto) where
  pub joins : joins_shown h.shown b ≡ true
  joins = and_from _ _ (le-leb b.floor h.shown.held floor) (and_from _ _ (le-leb b.after h.shown.held after) (lt-ltb h.shown.held b.upto more))

  abbrev new_shown : List Entry
  new_shown = newer_entries h.shown.held b.entries

  routed-shown : (k : Holder) (staged : Option Stage → Holder) → k ≡ holder_by_route h b k staged
  routed-shown k staged = sym (cond-true (joins_shown h.shown b) k _ joins)

  taken-all : (end : BlockEnd) → Enters (live_entries (max h.shown.floor b.floor) h.shown.entries) new_shown end → shown_taken h b.floor b.upto new_shown end ≡ holder_after_block h b end
  taken-all Own e = absurd e
  taken-all (OwnAhead ahead) e = absurd e
  taken-all Gap e = absurd e
  taken-all Stale e = absurd e
  taken-all OwnersFull e = absurd e
  taken-all (Taken n) e =
      let floor = max h.shown.floor b.floor in
      ap (λ (es : List Entry).
      let t : Table = record { held = b.upto; floor = floor; entries = entries_after (live_entries floor h.shown.entries) es } in
      let k : Holder = record { shown = t; stage = stage_beyond b.upto h.stage } in k) (take_all n new_shown (omega (arith, e.0)))
      ∙ routed-shown (shown_with h (part_above h.shown.held b)) (staged_all h b)
  taken-all (TooManyKeys n) e = routed-shown (shown_with h (leading_part n (part_above h.shown.held b))) (staged_front n h b)
  taken-all (NoMemory n) e = routed-shown (shown_with h (leading_part n (part_above h.shown.held b))) (staged_refused n h b)

  pub taken-is : (k : Holder) (new : List Entry) (end : BlockEnd) → new ≡ new_shown → Enters (live_entries (max h.shown.floor b.floor) h.shown.entries) new end → k ≡ shown_taken h b.floor b.upto new end
      → k ≡ holder_after_block h b end
  taken-is k new end new_is e is =
      is ∙ ap (λ (xs : List Entry). shown_taken h b.floor b.upto xs end) new_is
      ∙ taken-all end (subst (λ (xs : List Entry). Enters (live_entries (max h.shown.floor b.floor) h.shown.entries) xs end) new_is e)
