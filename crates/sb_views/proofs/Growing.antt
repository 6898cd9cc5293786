-- Over own writes and blocks the tables of all owners grow.
use Rattle.std.proofs.Common.{◌≡◌, ℕ, zero, suc, ◌+◌, ◌≤◌, ◌<◌, true, cond, ◌&&◌, nat_eq, nat_lt, nat_le, List, [], ◌∷◌, length, Option, Some, None, IfSome, inl, inr, ⊎_elim, refl, sym, ap, subst, ◌∙◌, arith, eqb-true, ltb-true, leb-true}
use Rattle.std.proofs.lemmas.Bool.{and_parts, cond_both}
use Rattle.std.specs.Cmp.Lexicographic.{pointwise}
use Rattle.sb_types.specs.Records.{Entry, Stage, Block, Holder}
use Rattle.sb_types.specs.Limits.{is_delta}
use Rattle.sb_types.specs.Runs.{Stands, IsBlock, newer_entries, entries_after, live_entries}
use Rattle.sb_types.specs.Writes.{IsHolder}
use Rattle.sb_types.proofs.Texts.{same_text}
use Rattle.sb_table.specs.Floors.{table_after_swap}
use Rattle.sb_table.specs.Plain.{with_entry}
use Rattle.sb_holdings.specs.declared.ends.BlockEnd.{BlockEnd}
use Rattle.sb_holdings.specs.declared.ends.BlockEnd.TheVariants.{Own, OwnAhead, Gap, Stale, OwnersFull, Taken, TooManyKeys, NoMemory}
use Rattle.sb_holdings.specs.Blocks.{part_above, leading_part}
use Rattle.sb_holdings.specs.Held.{Held, holder_of, shown_of, with_owner, held_after_write, held_after_block, held_after_taking}
use Rattle.sb_holdings.specs.Nodes.{Node, Took, IsNode, IsNodeEvent, held_by, replay_node, node_after_block}
use Rattle.sb_holdings.specs.Plain.{IsHoldings}
use Rattle.sb_holdings.specs.Shown.{joins_shown, table_after_block, shown_with, stage_beyond, holder_after_write}
use Rattle.sb_holdings.specs.Stages.{stage_for, stage_with, holder_after_stage, staged_all, staged_front, staged_refused}
use Rattle.sb_holdings.specs.Taken.{holder_by_route, holder_after_block}
use Rattle.sb_holdings.specs.Treats.{Treats, took_each}
use Rattle.sb_holdings.proofs.Changed.{IsHolder-held}
use Rattle.sb_holdings.proofs.Ended.{block-of_delta, IsBlock-delta}
use Rattle.sb_holdings.proofs.Nodes.{put_with, replay_at_step}
use Rattle.sb_table.proofs.Order.{run_order, run_after}
use Rattle.sb_holdings.proofs.Parts.{IsPart, part_is, front_is}
use Rattle.sb_holdings.proofs.Staging.{Joins, stage_joins}
use Rattle.sb_views.specs.Growing.{IsGrown, AreGrown}
use Rattle.sb_views.proofs.Grown.{grown-self, grown-entered, grown-further}
use Rattle.sb_views.proofs.Leading.{shown-written}

pub grown-none : (held : Held) → IsHoldings held → AreGrown held held
grown-none held is = λ o. grown-self (shown_of held o) (IsHolder-held held is o).shown

pub grown-on : (first second third : Held) → AreGrown first second → AreGrown second third → AreGrown first third
grown-on first second third one two = λ o. grown-further (shown_of first o) (shown_of second o) (shown_of third o) (one o) (two o)

-- ---- an own write

own-shown : (h : Holder) (e : Entry) → IsHolder h → IsGrown h.shown (holder_after_write h e).shown
own-shown h e i =
    cond_both (nat_eq e.version (h.shown.held + 1)) (record { shown = with_entry h.shown e; stage = stage_beyond e.version h.stage }) h (λ (k : Holder). IsGrown h.shown k.shown)
    (λ is.
    let next : e.version ≡ h.shown.held + 1 = eqb-true e.version (h.shown.held + 1) is in
    grown-entered h.shown (with_entry h.shown e) (e ∷ []) i.shown (omega (arith, next)) (omega arith) (λ _. refl)
    (λ x s. ⊎_elim (λ same. omega (arith, next, ap (λ (y : Entry). y.version) same)) (λ none. absurd none) s))
    (λ _. grown-self h.shown i.shown)

pub own-grown : (held : Held) (e : Entry) → IsHoldings held → AreGrown held (held_after_write held e)
own-grown held e is o =
    let mine = holder_of held.owners held.me in
    subst (λ (t : _). IsGrown (shown_of held o) t) (sym (shown-written held e o))
    (cond_both (pointwise nat_eq held.me o) (holder_after_write mine e).shown (shown_of held o) (IsGrown (shown_of held o))
    (λ same. subst (λ (n : List ℕ). IsGrown (shown_of held n) (holder_after_write mine e).shown) (same_text held.me o same) (own-shown mine e (IsHolder-held held is held.me)))
    (λ _. grown-self (shown_of held o) (IsHolder-held held is o).shown))

-- ---- a block of one owner, to the shown table or to a stage

module _ (h : Holder) (b : Block) (i : IsHolder h) (is : IsBlock b) where
  abbrev Grows : Holder → Type 0
  Grows k = IsGrown h.shown k.shown

  stays : IsGrown h.shown h.shown
  stays = grown-self h.shown i.shown

  -- where the floor stays no marker goes
  shown-grows : (p : Block) → IsPart b h.shown.held p → Grows (shown_with h p)
  shown-grows p part =
      grown-entered h.shown (table_after_block h.shown p) p.entries i.shown (run_order part.run) (omega arith)
      (λ same. ap (λ (es : List Entry). entries_after es p.entries) (ap (λ (floor : ℕ). live_entries floor h.shown.entries) same ∙ i.shown.live))
      (λ e s. run_after e part.run s)

  -- the floor of a stage is above all that was held
  swap-grows : (s : Stage) → h.shown.held < s.floor → s.floor ≤ s.progress → IsGrown h.shown (table_after_swap h.shown s)
  swap-grows s beyond reached = record {
    held = omega (arith, beyond, reached);
    floor = omega (arith, i.shown.floor, beyond);
    grown = λ same. absurd (omega (arith, i.shown.floor, beyond, same));
  }

  settled-grows : (s : Stage) → h.shown.held < s.floor → Grows (holder_after_stage h s)
  settled-grows s beyond =
      cond_both (nat_le s.floor s.progress) (record { shown = table_after_swap h.shown s; stage = None }) (record { shown = h.shown; stage = Some s }) Grows
      (λ le. swap-grows s beyond (leb-true s.floor s.progress le)) (λ _. stays)

  all-grows : (o : Option Stage) → IfSome o (Joins h b) → Grows (staged_all h b o)
  all-grows None j = stays
  all-grows (Some s) j = settled-grows (stage_with s (part_above s.progress b)) j.beyond

  front-grows : (n : ℕ) (o : Option Stage) → Grows (staged_front n h b o)
  front-grows zero o = stays
  front-grows (suc n) None = stays
  front-grows (suc n) (Some s) = stays

  refused-grows : (n : ℕ) (o : Option Stage) → Grows (staged_refused n h b o)
  refused-grows n None = stays
  refused-grows n (Some s) =
      cond_both (nat_lt n (length (newer_entries s.progress b.entries))) (staged_front n h b (Some s)) (record { shown = h.shown; stage = None }) Grows
      (λ _. front-grows n (Some s)) (λ _. stays)

  routed-grows : (p : Block) (staged : Option Stage → Holder) → (b.after ≤ h.shown.held → h.shown.held ≤ b.upto → IsPart b h.shown.held p)
      → ((o : Option Stage) → IfSome o (Joins h b) → Grows (staged o)) → Grows (holder_by_route h b (shown_with h p) staged)
  routed-grows p staged to_shown to_stage =
      cond_both (joins_shown h.shown b) (shown_with h p) (cond (nat_lt h.shown.held b.floor) (staged (stage_for h.stage b)) h) Grows
      (λ joins.
      let more = and_parts (nat_le b.after h.shown.held) (nat_lt h.shown.held b.upto) (and_parts (nat_le b.floor h.shown.held) (nat_le b.after h.shown.held && nat_lt h.shown.held b.upto) joins).1 in
      let new : h.shown.held < b.upto = ltb-true h.shown.held b.upto more.1 in
      shown-grows p (to_shown (leb-true b.after h.shown.held more.0) (omega (arith, new))))
      (λ _. cond_both (nat_lt h.shown.held b.floor) (staged (stage_for h.stage b)) h Grows
      (λ beyond. to_stage (stage_for h.stage b) (stage_joins h b i is (ltb-true h.shown.held b.floor beyond) h.stage refl))
      (λ _. stays))

  pub holder-grows : (end : BlockEnd) → Grows (holder_after_block h b end)
  holder-grows Own = stays
  holder-grows (OwnAhead upto) = stays
  holder-grows Gap = stays
  holder-grows Stale = stays
  holder-grows OwnersFull = stays
  holder-grows (Taken n) = routed-grows (part_above h.shown.held b) (staged_all h b) (part_is b h.shown.held is) all-grows
  holder-grows (TooManyKeys n) = routed-grows (leading_part n (part_above h.shown.held b)) (staged_front n h b) (front_is n b h.shown.held is) (λ o _. front-grows n o)
  holder-grows (NoMemory n) = routed-grows (leading_part n (part_above h.shown.held b)) (staged_refused n h b) (front_is n b h.shown.held is) (λ o _. refused-grows n o)

-- ---- a block of a node

module _ (node : Node) (is : IsNode node) where
  same-grown : AreGrown node.held node.held
  same-grown o = grown-self (shown_of node.held o) (is o).shown

  module _ (b : Block) (block : IsBlock b) where
    taken-grown : (end : BlockEnd) → AreGrown node.held (held_after_taking node.held b end)
    taken-grown end o =
        let k = holder_after_block (held_by node b.owner) b end in
        cond_both (pointwise nat_eq b.owner node.held.me) node.held (with_owner node.held b.owner k) (λ (held : Held). IsGrown (shown_of node.held o) (shown_of held o))
        (λ _. same-grown o)
        (λ _. subst (λ (h : Holder). IsGrown (shown_of node.held o) h.shown) (sym (put_with node.held.owners b.owner k o))
        (cond_both (pointwise nat_eq o b.owner) k (held_by node o) (λ (h : Holder). IsGrown (shown_of node.held o) h.shown)
        (λ same. subst (λ (n : List ℕ). IsGrown (shown_of node.held n) k.shown) (sym (same_text o b.owner same)) (holder-grows (held_by node b.owner) b (is b.owner) block end))
        (λ _. same-grown o)))

    block-grown : (end : BlockEnd) → AreGrown node.held (held_after_block node.held b end)
    block-grown Own = same-grown
    block-grown (OwnAhead upto) = same-grown
    block-grown Gap = same-grown
    block-grown Stale = same-grown
    block-grown OwnersFull = same-grown
    block-grown (Taken n) = taken-grown (Taken n)
    block-grown (TooManyKeys n) = taken-grown (TooManyKeys n)
    block-grown (NoMemory n) = taken-grown (NoMemory n)

    node-kept : (end : BlockEnd) → IsNode (node_after_block node b end)
    node-kept end o =
        (replay_at_step (λ owner. []) node (Took b end ∷ []) is (λ event s. ⊎_elim (λ same. subst IsNodeEvent same block) (λ none. absurd none) s) o).is

-- ---- a delta

-- whatever the blocks are, and however they end
pub blocks-grown : (node : Node) (blocks : List Block) (ends : List BlockEnd) → IsNode node → ((b : Block) → Stands blocks b → IsBlock b)
    → AreGrown node.held (replay_node node (took_each blocks ends)).held
blocks-grown node [] ends is block = same-grown node is
blocks-grown node (b ∷ bs) [] is block = same-grown node is
blocks-grown node (b ∷ bs) (end ∷ ends) is block =
    let first = block b (inl refl) in
    grown-on node.held (held_after_block node.held b end) (replay_node (node_after_block node b end) (took_each bs ends)).held (block-grown node is b first end)
    (blocks-grown (node_after_block node b end) bs ends (node-kept node is b first end) (λ x s. block x (inr s)))

pub delta-grown : (node : Node) (blocks : List Block) (ends : List BlockEnd) → IsHoldings node.held → is_delta blocks ≡ true → Treats node blocks ends
    → AreGrown node.held (replay_node node (took_each blocks ends)).held
delta-grown node blocks ends is delta treats = blocks-grown node blocks ends (IsHolder-held node.held is) (λ b s. IsBlock-delta b (block-of_delta blocks b delta s))
