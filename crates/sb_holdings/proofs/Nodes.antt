-- Whole runs of events, on a node.
use Rattle.std.proofs.Common.{◌≡◌, ℕ, Bool, true, false, cond, List, [], ◌∷◌, ◌++◌, length, inl, inr, refl, sym, subst, Option, Some, None, is_none, unwrap_or, nat_eq, eqb-true, nat_cmp}
use Rattle.std.proofs.lemmas.Bool.{and_parts, cond_both, false≢true}
use Rattle.std.proofs.lemmas.List.{nil_from_length}
use Rattle.std.proofs.lemmas.Cmp.{nat_list_cmp_total}
use Rattle.std.specs.Ordering.{eq_by_cmp}
use Rattle.std.specs.Cmp.{unsigned_ties}
use Rattle.std.specs.Cmp.Lexicographic.{pointwise, slice_cmp, lists_ties}
use Rattle.std.specs.FinMap.{FinMap, get, insert, remove, get-insert, get-remove}
use Rattle.sb_types.specs.declared.entry.Write.{Write}
use Rattle.sb_types.specs.Records.{Stage, Block, Holder}
use Rattle.sb_types.specs.Writes.{Honest, IsHolder}
use Rattle.sb_holdings.specs.declared.ends.BlockEnd.{BlockEnd}
use Rattle.sb_holdings.specs.declared.ends.BlockEnd.TheVariants.{Own, OwnAhead, Gap, Stale, OwnersFull, Taken, TooManyKeys, NoMemory}
use Rattle.sb_holdings.specs.Held.{Held, empty_holder, is_nothing, holder_of, with_holder, held_after_taking}
use Rattle.sb_holdings.specs.Nodes.{Node, held_by, NodeEvent, Wrote, Took, Purged, node_after_event, replay_node, IsNodeEvent, TrueAt, AreNodeEvents, AllTrueAt, IsNode}
use Rattle.sb_types.proofs.Texts.{same_text}
use Rattle.sb_holdings.proofs.Steps.{Step, unchanged, two_steps}
use Rattle.sb_holdings.proofs.Joining.{own_step, purge_step}
use Rattle.sb_holdings.proofs.Treating.{treat_step}

-- ---- the map of owners

no_stage : (o : Option Stage) → is_none o ≡ true → None ≡ o
no_stage None e = refl
no_stage (Some s) e = absurd (false≢true e)

pub is_nothing_is : (h : Holder) → is_nothing h ≡ true → empty_holder ≡ h
is_nothing_is h e =
    let a = and_parts _ _ e in
    let b = and_parts _ _ a.1 in
    let c = and_parts _ _ b.1 in
    let held = sym (eqb-true h.shown.held 0 a.0) in
    let floor = sym (eqb-true h.shown.floor 0 b.0) in
    let entries = sym (nil_from_length h.shown.entries (eqb-true (length h.shown.entries) 0 c.0)) in
    let stage = no_stage h.stage c.1 in
    λ i. record { shown = record { held = held i; floor = floor i; entries = entries i }; stage = stage i }

module _ (owners : FinMap (slice_cmp nat_cmp) Holder) (owner : List ℕ) (h : Holder) where
  found : (b : Bool) (o : Option Holder) → empty_holder ≡ h → unwrap_or (cond b None o) empty_holder ≡ cond b h (unwrap_or o empty_holder)
  found true o e = e
  found false o e = refl

  put : (b : Bool) (o : Option Holder) → unwrap_or (cond b (Some h) o) empty_holder ≡ cond b h (unwrap_or o empty_holder)
  put true o = refl
  put false o = refl

  pub same_test : (q : List ℕ) → eq_by_cmp (slice_cmp nat_cmp) q owner ≡ pointwise nat_eq q owner
  same_test q = sym (lists_ties nat_cmp unsigned_ties q owner)

  -- in the new map all is as it was, but of this owner there is this
  abbrev pub Put : FinMap (slice_cmp nat_cmp) Holder → Type 0
  Put new = (q : List ℕ) → holder_of new q ≡ cond (pointwise nat_eq q owner) h (holder_of owners q)

  inserted : Put (insert owners owner h)
  inserted q = rw (get-insert nat_list_cmp_total owners owner h q, same_test q) (put (pointwise nat_eq q owner) (get owners q))

  pub put_with : Put (with_holder owners owner h)
  put_with =
      cond_both (is_nothing h) (remove owners owner) (insert owners owner h) Put
      (λ none q. rw (get-remove nat_list_cmp_total owners owner q, same_test q) (found (pointwise nat_eq q owner) (get owners q) (is_nothing_is h none)))
      (λ _. inserted)

-- one owner's holder is replaced
put_step : (writes : List ℕ → List Write) (owners new : FinMap (slice_cmp nat_cmp) Holder) (owner : List ℕ) (h : Holder) (assumed : Type 0) → Put owners owner h new →
    ((q : List ℕ) → IsHolder (holder_of owners q)) → Step (writes owner) assumed (holder_of owners owner) h →
    (q : List ℕ) → Step (writes q) assumed (holder_of owners q) (holder_of new q)
put_step writes owners new owner h assumed is_put is step q =
    rw (is_put q)
    (cond_both (pointwise nat_eq q owner) h (holder_of owners q) (Step (writes q) assumed (holder_of owners q))
    (λ same. subst (λ (o : List ℕ). Step (writes o) assumed (holder_of owners o) h) (sym (same_text q owner same)) step)
    (λ _. unchanged (is q)))

-- ---- events

module _ (writes : List ℕ → List Write) (node : Node) (is : IsNode node) where
  taken_step : (b : Block) (end : BlockEnd) → IsNodeEvent (Took b end) → (q : List ℕ) →
      Step (writes q) (Honest (writes b.owner) b) (held_by node q) (holder_of (held_after_taking node.held b end).owners q)
  taken_step b end i q =
      cond_both (pointwise nat_eq b.owner node.held.me) node.held _ (λ (h : Held). Step (writes q) (Honest (writes b.owner) b) (held_by node q) (holder_of h.owners q))
      (λ _. unchanged (is q))
      (λ _. put_step writes node.held.owners _ b.owner _ _ (put_with node.held.owners b.owner _) is (treat_step (writes b.owner) (held_by node b.owner) b (is b.owner) i end) q)

  happens_at_step : (event : NodeEvent) → IsNodeEvent event → (q : List ℕ) → Step (writes q) (TrueAt writes node.held.me event) (held_by node q) (held_by (node_after_event node event) q)
  happens_at_step (Wrote e) i q = put_step writes node.held.owners _ node.held.me _ _ (inserted node.held.owners node.held.me _) is (own_step (writes node.held.me) (held_by node node.held.me) e (is node.held.me)) q
  happens_at_step (Took b Own) i q = unchanged (is q)
  happens_at_step (Took b (OwnAhead upto)) i q = unchanged (is q)
  happens_at_step (Took b Gap) i q = unchanged (is q)
  happens_at_step (Took b Stale) i q = unchanged (is q)
  happens_at_step (Took b OwnersFull) i q = unchanged (is q)
  happens_at_step (Took b (Taken n)) i q = taken_step b (Taken n) i q
  happens_at_step (Took b (TooManyKeys n)) i q = taken_step b (TooManyKeys n) i q
  happens_at_step (Took b (NoMemory n)) i q = taken_step b (NoMemory n) i q
  happens_at_step (Purged floor) i q = put_step writes node.held.owners _ node.held.me _ _ (inserted node.held.owners node.held.me _) is (purge_step (writes node.held.me) (held_by node node.held.me) floor (is node.held.me)) q

same_me_taken : (held : Held) (b : Block) (end : BlockEnd) → (held_after_taking held b end).me ≡ held.me
same_me_taken held b end = cond_both (pointwise nat_eq b.owner held.me) held _ (λ (h : Held). h.me ≡ held.me) (λ _. refl) (λ _. refl)

pub same_me : (node : Node) (event : NodeEvent) → (node_after_event node event).held.me ≡ node.held.me
same_me node (Wrote e) = refl
same_me node (Took b Own) = refl
same_me node (Took b (OwnAhead upto)) = refl
same_me node (Took b Gap) = refl
same_me node (Took b Stale) = refl
same_me node (Took b OwnersFull) = refl
same_me node (Took b (Taken n)) = same_me_taken node.held b (Taken n)
same_me node (Took b (TooManyKeys n)) = same_me_taken node.held b (TooManyKeys n)
same_me node (Took b (NoMemory n)) = same_me_taken node.held b (NoMemory n)
same_me node (Purged floor) = refl

pub replay_node-append : (node : Node) (events more : List NodeEvent) → replay_node node (events ++ more) ≡ replay_node (replay_node node events) more
replay_node-append node [] more = refl
replay_node-append node (event ∷ events) more = replay_node-append (node_after_event node event) events more

pub replay_at_step : (writes : List ℕ → List Write) (node : Node) (events : List NodeEvent) → IsNode node → AreNodeEvents events → (q : List ℕ) →
    Step (writes q) (AllTrueAt writes node.held.me events) (held_by node q) (held_by (replay_node node events) q)
replay_at_step writes node [] is each q = unchanged (is q)
replay_at_step writes node (event ∷ events) is each q =
    let one = happens_at_step writes node is event (each event (inl refl)) in
    let rest = replay_at_step writes (node_after_event node event) events (λ o. (one o).is) (λ e s. each e (inr s)) q in
    two_steps (λ true. true event (inl refl)) (λ true e s. rw (same_me node event) (true e (inr s))) (one q) rest
