-- Of no owner does what is held fall, whatever happens to the node.
use Rattle.std.proofs.Common.{◌≡◌, ℕ, zero, suc, ◌≤◌, ◌<◌, ◌+◌, Bool, true, false, cond, ◌&&◌, List, [], ◌∷◌, length, take, flat_map, Option, Some, None, unwrap_or, inl, inr, refl, sym, ap, subst, ◌∙◌, arith, nat_eq, nat_lt, nat_le, nat_cmp, eqb-true, leb-true, ltb-true}
use Rattle.std.proofs.lemmas.Bool.{and_parts, cond_both}
use Rattle.std.proofs.lemmas.Cmp.{nat_list_cmp_total}
use Rattle.std.proofs.lemmas.Grind.{flat_map-append}
use Rattle.std.specs.Cmp.Lexicographic.{pointwise, slice_cmp}
use Rattle.std.specs.FinMap.{FinMap, get, insert, get-insert}
use mathlib.Core.List.{IsPrefix}
use Rattle.sb_types.specs.Records.{Entry, Stage, Block, Holder}
use Rattle.sb_types.specs.Runs.{Stands, newer_entries, last_version}
use Rattle.sb_types.proofs.Standing.{of_above}
use Rattle.sb_types.proofs.Texts.{same_text}
use Rattle.sb_table.specs.Plain.{with_entry}
use Rattle.sb_holdings.specs.declared.ends.BlockEnd.{BlockEnd}
use Rattle.sb_holdings.specs.declared.ends.BlockEnd.TheVariants.{Own, OwnAhead, Gap, Stale, OwnersFull, Taken, TooManyKeys, NoMemory}
use Rattle.sb_holdings.specs.Blocks.{part_above, leading_part}
use Rattle.sb_holdings.specs.Shown.{joins_shown, shown_with, stage_beyond, holder_after_write, own_purged}
use Rattle.sb_table.specs.Floors.{table_at_floor, table_after_swap}
use Rattle.sb_holdings.specs.Stages.{new_stage, goes_on, new_stage_of, stage_for, stage_with, staged_all, staged_front, staged_refused}
use Rattle.sb_holdings.specs.Taken.{holder_by_route, holder_after_block}
use Rattle.sb_holdings.specs.Held.{Held, empty_holder, holder_of, shown_of, with_owner, held_after_taking}
use Rattle.sb_holdings.specs.Nodes.{Node, NodeEvent, Wrote, Took, Purged, held_by, node_after_event, replay_node}
use Rattle.sb_holdings.proofs.Nodes.{Put, put_with, same_test, replay_node-append}
use Rattle.sb_views.specs.declared.event.Event.{Event}
use Rattle.sb_views.specs.Histories.{node_events_of, node_after}

-- ---- versions

of-take : (n : ℕ) (es : List Entry) (e : Entry) → Stands (take n es) e → Stands es e
of-take zero es e s = absurd s
of-take (suc n) [] e s = absurd s
of-take (suc n) (x ∷ es) e (inl same) = inl same
of-take (suc n) (x ∷ es) e (inr s) = inr (of-take n es e s)

last-rises : (bound before : ℕ) (es : List Entry) → bound ≤ before → ((e : Entry) → Stands es e → bound < e.version) → bound ≤ last_version before es
last-rises bound before [] le each = le
last-rises bound before (e ∷ es) le each = last-rises bound e.version es (omega (arith, each e (inl refl))) (λ x s. each x (inr s))

-- ---- one owner

abbrev AtFloor : ℕ → Option Stage → Type 0
AtFloor floor None = Unit {0}
AtFloor floor (Some s) = s.floor ≡ floor

module _ (h : Holder) (b : Block) where
  abbrev Rises : Holder → Type 0
  Rises k = h.shown.held ≤ k.shown.held

  joins-less : joins_shown h.shown b ≡ true → h.shown.held < b.upto
  joins-less joins = ltb-true h.shown.held b.upto (and_parts _ _ (and_parts _ _ joins).1).1

  routed-rises : (shown : Holder) (staged : Option Stage → Holder) → (joins_shown h.shown b ≡ true → Rises shown) → (h.shown.held < b.floor → Rises (staged (stage_for h.stage b)))
      → Rises (holder_by_route h b shown staged)
  routed-rises shown staged joins goes =
      cond_both (joins_shown h.shown b) shown (cond (nat_lt h.shown.held b.floor) (staged (stage_for h.stage b)) h) Rises joins
      (λ _. cond_both (nat_lt h.shown.held b.floor) (staged (stage_for h.stage b)) h Rises (λ less. goes (ltb-true h.shown.held b.floor less)) (λ _. omega arith))

  begins-floor : AtFloor b.floor (new_stage_of b)
  begins-floor = cond_both (nat_eq b.after 0) (Some (new_stage b.floor)) None (AtFloor b.floor) (λ _. refl) (λ _. tt)

  stage-floor : (o : Option Stage) → AtFloor b.floor (stage_for o b)
  stage-floor None = begins-floor
  stage-floor (Some s) =
      cond_both (goes_on s b) (Some s) (cond (nat_lt s.floor b.floor) (new_stage_of b) None) (AtFloor b.floor)
      (λ on. eqb-true s.floor b.floor (and_parts _ _ on).0)
      (λ _. cond_both (nat_lt s.floor b.floor) (new_stage_of b) None (AtFloor b.floor) (λ _. begins-floor) (λ _. tt))

  all-rises : h.shown.held < b.floor → (o : Option Stage) → AtFloor b.floor o → Rises (staged_all h b o)
  all-rises less None at = omega arith
  all-rises less (Some s) at =
      let t = stage_with s (part_above s.progress b) in
      cond_both (nat_le t.floor t.progress) (record { shown = table_after_swap h.shown t; stage = None }) (record { shown = h.shown; stage = Some t }) Rises
      (λ le. omega (arith, less, at, leb-true t.floor t.progress le)) (λ _. omega arith)

  front-rises : (n : ℕ) (o : Option Stage) → Rises (staged_front n h b o)
  front-rises zero o = omega arith
  front-rises (suc n) None = omega arith
  front-rises (suc n) (Some s) = omega arith

  refused-rises : (n : ℕ) (o : Option Stage) → Rises (staged_refused n h b o)
  refused-rises n None = omega arith
  refused-rises n (Some s) =
      cond_both (nat_lt n (length (newer_entries s.progress b.entries))) (staged_front n h b (Some s)) (record { shown = h.shown; stage = None }) Rises
      (λ _. front-rises n (Some s)) (λ _. omega arith)

  part-rises : (n : ℕ) → Rises (shown_with h (leading_part n (part_above h.shown.held b)))
  part-rises n =
      last-rises h.shown.held h.shown.held (take n (newer_entries h.shown.held b.entries)) (omega arith)
      (λ e s. (of_above h.shown.held b.entries e (of-take n (newer_entries h.shown.held b.entries) e s)).1)

  treat-rises : (end : BlockEnd) → Rises (holder_after_block h b end)
  treat-rises Own = omega arith
  treat-rises (OwnAhead upto) = omega arith
  treat-rises Gap = omega arith
  treat-rises Stale = omega arith
  treat-rises OwnersFull = omega arith
  treat-rises (Taken n) =
      routed-rises (shown_with h (part_above h.shown.held b)) (staged_all h b) (λ joins. omega (arith, joins-less joins)) (λ less. all-rises less (stage_for h.stage b) (stage-floor h.stage))
  treat-rises (TooManyKeys n) =
      routed-rises (shown_with h (leading_part n (part_above h.shown.held b))) (staged_front n h b) (λ _. part-rises n) (λ _. front-rises n (stage_for h.stage b))
  treat-rises (NoMemory n) =
      routed-rises (shown_with h (leading_part n (part_above h.shown.held b))) (staged_refused n h b) (λ _. part-rises n) (λ _. refused-rises n (stage_for h.stage b))

own-rises : (h : Holder) (e : Entry) → h.shown.held ≤ (holder_after_write h e).shown.held
own-rises h e =
    cond_both (nat_eq e.version (h.shown.held + 1)) (record { shown = with_entry h.shown e; stage = stage_beyond e.version h.stage }) h (λ k. h.shown.held ≤ k.shown.held)
    (λ next. omega (arith, eqb-true e.version (h.shown.held + 1) next)) (λ _. omega arith)

purge-rises : (h : Holder) (floor : ℕ) → h.shown.held ≤ (own_purged floor h).shown.held
purge-rises h floor =
    cond_both (nat_lt h.shown.floor floor && nat_le floor h.shown.held) (record { shown = table_at_floor h.shown.held floor h.shown; stage = h.stage }) h (λ k. h.shown.held ≤ k.shown.held)
    (λ _. omega arith) (λ _. omega arith)

-- ---- all owners

module _ (owners : FinMap (slice_cmp nat_cmp) Holder) (owner : List ℕ) (h : Holder) where
  put : (b : Bool) (o : Option Holder) → unwrap_or (cond b (Some h) o) empty_holder ≡ cond b h (unwrap_or o empty_holder)
  put true o = refl
  put false o = refl

  pub put-owner : Put owners owner h (insert owners owner h)
  put-owner q = rw (get-insert nat_list_cmp_total owners owner h q, same_test owners owner h q) (put (pointwise nat_eq q owner) (get owners q))

put-rises : (owners new : FinMap (slice_cmp nat_cmp) Holder) (owner : List ℕ) (h : Holder) → Put owners owner h new → (holder_of owners owner).shown.held ≤ h.shown.held
    → (q : List ℕ) → (holder_of owners q).shown.held ≤ (holder_of new q).shown.held
put-rises owners new owner h is_put le q =
    rw (is_put q)
    (cond_both (pointwise nat_eq q owner) h (holder_of owners q) (λ (k : Holder). (holder_of owners q).shown.held ≤ k.shown.held)
    (λ same. subst (λ (o : List ℕ). (holder_of owners o).shown.held ≤ h.shown.held) (sym (same_text q owner same)) le)
    (λ _. omega arith))

taken-rises : (node : Node) (b : Block) (end : BlockEnd) (q : List ℕ) → (held_by node q).shown.held ≤ (holder_of (held_after_taking node.held b end).owners q).shown.held
taken-rises node b end q =
    let k = holder_after_block (held_by node b.owner) b end in
    cond_both (pointwise nat_eq b.owner node.held.me) node.held (with_owner node.held b.owner k) (λ (h : Held). (held_by node q).shown.held ≤ (holder_of h.owners q).shown.held)
    (λ _. omega arith)
    (λ _. put-rises node.held.owners (with_owner node.held b.owner k).owners b.owner k (put_with node.held.owners b.owner k) (treat-rises (held_by node b.owner) b end) q)

event-rises : (node : Node) (event : NodeEvent) (q : List ℕ) → (held_by node q).shown.held ≤ (held_by (node_after_event node event) q).shown.held
event-rises node (Wrote e) q =
    let k = holder_after_write (held_by node node.held.me) e in
    put-rises node.held.owners (insert node.held.owners node.held.me k) node.held.me k (put-owner node.held.owners node.held.me k) (own-rises (held_by node node.held.me) e) q
event-rises node (Took b Own) q = omega arith
event-rises node (Took b (OwnAhead upto)) q = omega arith
event-rises node (Took b Gap) q = omega arith
event-rises node (Took b Stale) q = omega arith
event-rises node (Took b OwnersFull) q = omega arith
event-rises node (Took b (Taken n)) q = taken-rises node b (Taken n) q
event-rises node (Took b (TooManyKeys n)) q = taken-rises node b (TooManyKeys n) q
event-rises node (Took b (NoMemory n)) q = taken-rises node b (NoMemory n) q
event-rises node (Purged floor) q =
    let k = own_purged floor (held_by node node.held.me) in
    put-rises node.held.owners (insert node.held.owners node.held.me k) node.held.me k (put-owner node.held.owners node.held.me k) (purge-rises (held_by node node.held.me) floor) q

replay-rises : (node : Node) (events : List NodeEvent) (q : List ℕ) → (held_by node q).shown.held ≤ (held_by (replay_node node events) q).shown.held
replay-rises node [] q = omega arith
replay-rises node (event ∷ events) q = omega (arith, event-rises node event q, replay-rises (node_after_event node event) events q)

pub history-rises : (opening : Node) (seen later : List Event) (owner : List ℕ) → IsPrefix seen later
    → (shown_of (node_after opening seen).held owner).held ≤ (shown_of (node_after opening later).held owner).held
history-rises opening seen later owner begins =
    let all : node_after opening later ≡ replay_node (node_after opening seen) (flat_map node_events_of begins.0) =
    ap (node_after opening) (sym begins.1) ∙ ap (replay_node opening) (flat_map-append node_events_of seen begins.0) ∙ replay_node-append opening (flat_map node_events_of seen) (flat_map node_events_of begins.0) in
    subst (λ (n : Node). (shown_of (node_after opening seen).held owner).held ≤ (shown_of n.held owner).held) (sym all)
    (replay-rises (node_after opening seen) (flat_map node_events_of begins.0) owner)
