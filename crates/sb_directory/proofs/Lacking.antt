-- What views lack, as owners are added and as more comes to be held.
use Rattle.std.proofs.Common.{◌≡◌, ℕ, Bool, true, false, cond, nat_eq, List, [], ◌∷◌, ◌++◌, Option, Some, None, is_some, T, refl, sym, ap, subst, ◌∙◌, append-nil}
use Rattle.std.proofs.lemmas.Bool.{cond_both, false_from_ne_true}
use Rattle.std.proofs.lemmas.Cmp.{nat_list_cmp_total, nat_list_eq_equiv}
use Rattle.std.specs.Cmp.Lexicographic.{slice_cmp, pointwise, texts_ties}
use Rattle.std.specs.Ordering.{nat_cmp, eq_by_cmp, is_lt}
use Rattle.std.specs.FinMap.{FinMap, get, contains_key, insert, empty, entries, entries_sorted, get-entries, get-empty, get-insert, find, is_sorted}
use Rattle.std.specs.FinMap.Entries.{below_all}
use Rattle.sb_types.specs.Records.{Entry, Table, Block, Holder}
use Rattle.sb_types.proofs.Texts.{same_text, text_same, apart-from_Less}
use Rattle.sb_holdings.specs.declared.ends.BlockEnd.{BlockEnd}
use Rattle.sb_holdings.specs.declared.ends.BlockEnd.TheVariants.{Own, OwnAhead, Gap, Stale, OwnersFull, Taken, TooManyKeys, NoMemory}
use Rattle.sb_holdings.specs.Held.{Held, holder_of, shown_of, with_owner as held_with, held_after_write, purged_own, held_after_taking}
use Rattle.sb_holdings.specs.Nodes.{Node, held_by, node_after_block, replay_node}
use Rattle.sb_holdings.specs.Plain.{IsHoldings}
use Rattle.sb_holdings.specs.Shown.{holder_after_write, own_purged}
use Rattle.sb_holdings.specs.Taken.{holder_after_block}
use Rattle.sb_holdings.specs.Treats.{took_each}
use Rattle.sb_holdings.proofs.Changed.{IsHolder-held}
use Rattle.sb_holdings.proofs.Nodes.{Put, put_with}
use Rattle.sb_views.specs.declared.change.Change.{Change}
use Rattle.sb_views.specs.Changes.{Leads, IsAlike, of_owner, table_with_all, lacked_of}
use Rattle.sb_views.specs.Growing.{AreGrown}
use Rattle.sb_views.proofs.Beginning.{first, second, less, turned, of_owner-owned}
use Rattle.sb_views.proofs.ByText.{by_text}
use Rattle.sb_views.proofs.Changing.{same-alike, lacked-alike}
use Rattle.sb_directory.specs.Lacking.{LackingOwners, since_of, with_owner, HasOwners, lacked_since, all_lacked, IsSince, AreSince}
use Rattle.sb_directory.proofs.Rising.{put-owner}

no-key : (r : Option (ℕ × ℕ)) → is_some r ≡ false → r ≡ None
no-key None is = refl
no-key (Some v) is = absurd (cc)

none-there : (r : Option (ℕ × ℕ)) → r ≡ None → is_some r ≡ true → ⊥
none-there None is there = absurd (cc)
none-there (Some v) is there = absurd (cc)

-- ---- an owner is added

abbrev Includes : LackingOwners → LackingOwners → Type 0
Includes a b = (q : List ℕ) → contains_key a q ≡ true → contains_key b q ≡ true

module _ (m : LackingOwners) (o : List ℕ) (v : ℕ × ℕ) where
  at-key : eq_by_cmp by_text o o ≡ true
  at-key = sym (texts_ties o o) ∙ text_same o o refl

  add-since : (old held : Held) → v ≡ since_of held o → AreSince old held m → AreSince old held (with_owner m o v)
  add-since old held is since =
      cond_both (contains_key m o) m (insert m o v) (AreSince old held) (λ _. since)
      (λ none q.
      subst (IsSince (shown_of old q) (shown_of held q)) (sym (get-insert nat_list_cmp_total m o v q))
      (cond_both (eq_by_cmp by_text q o) (Some v) (get m q) (IsSince (shown_of old q) (shown_of held q))
      (λ same.
      let there : q ≡ o = same_text q o (texts_ties q o ∙ same) in
      let as_was : shown_of held o ≡ shown_of old o = subst (IsSince (shown_of old o) (shown_of held o)) (no-key (get m o) none) (since o) in (
        ap (λ (s : ℕ × ℕ). s.0) is ∙ ap (λ (t : Table). t.held) as_was ∙ sym (ap (λ (n : List ℕ). (shown_of old n).held) there),
        ap (λ (s : ℕ × ℕ). s.1) is ∙ ap (λ (t : Table). t.floor) as_was ∙ sym (ap (λ (n : List ℕ). (shown_of old n).floor) there),
      ))
      (λ _. since q)))

  add-includes : Includes m (with_owner m o v)
  add-includes =
      cond_both (contains_key m o) m (insert m o v) (Includes m) (λ _ q is. is)
      (λ none q is.
      subst (λ (r : Option (ℕ × ℕ)). is_some r ≡ true) (sym (get-insert nat_list_cmp_total m o v q))
      (cond_both (eq_by_cmp by_text q o) (Some v) (get m q) (λ (r : Option (ℕ × ℕ)). is_some r ≡ true) (λ _. refl) (λ _. is)))

  pub add-has : contains_key (with_owner m o v) o ≡ true
  add-has =
      cond_both (contains_key m o) m (insert m o v) (λ (n : LackingOwners). contains_key n o ≡ true) (λ is. is)
      (λ none. ap is_some (get-insert nat_list_cmp_total m o v o ∙ ap (λ (b : Bool). cond b (Some v) (get m o)) at-key))

  -- so it is wherever the version and the floor are those of what is held
  pub added-since : (old held : Held) (new : LackingOwners) → new ≡ with_owner m o v → v ≡ since_of held o → AreSince old held m → AreSince old held new
  added-since old held new step is since = subst (AreSince old held) (sym step) (add-since old held is since)

-- ---- owners of blocks are added

pub record IsAdding (held : Held) (all : List Block) (from lacking : LackingOwners) (rest : List Block) : Type 0 where
  pub since : (old : Held) → AreSince old held from → AreSince old held lacking
  pub owners : (m : LackingOwners) → Includes lacking m → HasOwners m rest → HasOwners m all

pub adding-begins : (held : Held) (all : List Block) (from : LackingOwners) (rest : List Block) → rest ≡ all → IsAdding held all from from rest
adding-begins held all from rest is = record { since = λ old at. at; owners = λ m more has. subst (HasOwners m) is has }

pub adding-goes_on : (held : Held) (all : List Block) (from lacking new : LackingOwners) (b : Block) (rest : List Block)
    → IsAdding held all from lacking (b ∷ rest) → new ≡ with_owner lacking b.owner (since_of held b.owner) → IsAdding held all from new rest
adding-goes_on held all from lacking new b rest is step =
    let v = since_of held b.owner in
    record {
      since = λ old at. added-since lacking b.owner v old held new step refl (is.since old at);
      owners = λ m more has.
          is.owners m (λ q at. more q (subst (λ (n : LackingOwners). contains_key n q ≡ true) (sym step) (add-includes lacking b.owner v q at)))
          (more b.owner (subst (λ (n : LackingOwners). contains_key n b.owner ≡ true) (sym step) (add-has lacking b.owner v)), has);
    }

pub adding-ends : (held : Held) (all : List Block) (from lacking : LackingOwners) (rest : List Block) → rest ≡ [] → IsAdding held all from lacking rest → HasOwners lacking all
adding-ends held all from lacking rest done is = is.owners lacking (λ q at. at) (subst (HasOwners lacking) (sym done) tt)

-- ---- more comes to be held

module _ (owners new : FinMap (slice_cmp nat_cmp) Holder) (owner : List ℕ) (h : Holder) (is_put : Put owners owner h new) where
  put-apart : (q : List ℕ) → pointwise nat_eq q owner ≡ false → holder_of new q ≡ holder_of owners q
  put-apart q apart = is_put q ∙ ap (λ (b : Bool). cond b h (holder_of owners q)) apart

taken-apart : (node : Node) (b : Block) (end : BlockEnd) (q : List ℕ) → pointwise nat_eq q b.owner ≡ false → holder_of (held_after_taking node.held b end).owners q ≡ held_by node q
taken-apart node b end q apart =
    let k = holder_after_block (held_by node b.owner) b end in
    cond_both (pointwise nat_eq b.owner node.held.me) node.held (held_with node.held b.owner k) (λ (h : Held). holder_of h.owners q ≡ held_by node q)
    (λ _. refl) (λ _. put-apart node.held.owners (held_with node.held b.owner k).owners b.owner k (put_with node.held.owners b.owner k) q apart)

block-apart : (node : Node) (b : Block) (end : BlockEnd) (q : List ℕ) → pointwise nat_eq q b.owner ≡ false → held_by (node_after_block node b end) q ≡ held_by node q
block-apart node b Own q apart = refl
block-apart node b (OwnAhead upto) q apart = refl
block-apart node b Gap q apart = refl
block-apart node b Stale q apart = refl
block-apart node b OwnersFull q apart = refl
block-apart node b (Taken n) q apart = taken-apart node b (Taken n) q apart
block-apart node b (TooManyKeys n) q apart = taken-apart node b (TooManyKeys n) q apart
block-apart node b (NoMemory n) q apart = taken-apart node b (NoMemory n) q apart

module _ (m : LackingOwners) where
  key-apart : (q o : List ℕ) → get m q ≡ None → contains_key m o ≡ true → pointwise nat_eq q o ≡ false
  key-apart q o none has =
      false_from_ne_true (pointwise nat_eq q o)
      (λ same. none-there (get m q) none (subst (λ (n : List ℕ). contains_key m n ≡ true) (sym (same_text q o same)) has))

  delta-apart : (node : Node) (blocks : List Block) (ends : List BlockEnd) (q : List ℕ) → HasOwners m blocks → get m q ≡ None
      → held_by (replay_node node (took_each blocks ends)) q ≡ held_by node q
  delta-apart node [] ends q has none = refl
  delta-apart node (b ∷ bs) [] q has none = refl
  delta-apart node (b ∷ bs) (end ∷ ends) q has none =
      delta-apart (node_after_block node b end) bs ends q has.1 none ∙ block-apart node b end q (key-apart q b.owner none has.0)

  since-case : (old mid new : Table) (r : Option (ℕ × ℕ)) → IsSince old mid r → (r ≡ None → new ≡ mid) → IsSince old new r
  since-case old mid new None at same = same refl ∙ at
  since-case old mid new (Some v) at same = at

  moved-since : (old mid new : Held) → AreSince old mid m → ((q : List ℕ) → get m q ≡ None → shown_of new q ≡ shown_of mid q) → AreSince old new m
  moved-since old mid new since same = λ q. since-case (shown_of old q) (shown_of mid q) (shown_of new q) (get m q) (since q) (same q)

  pub own-since : (old held : Held) (e : Entry) → contains_key m held.me ≡ true → AreSince old held m → AreSince old (held_after_write held e) m
  own-since old held e has since =
      let k = holder_after_write (holder_of held.owners held.me) e in
      moved-since old held (held_after_write held e) since
      (λ q none. ap (λ (h : Holder). h.shown)
      (put-apart held.owners (insert held.owners held.me k) held.me k (put-owner held.owners held.me k) q (key-apart q held.me none has)))

  pub purge-since : (old held : Held) (floor : ℕ) → contains_key m held.me ≡ true → AreSince old held m → AreSince old (purged_own held floor) m
  purge-since old held floor has since =
      let k = own_purged floor (holder_of held.owners held.me) in
      moved-since old held (purged_own held floor) since
      (λ q none. ap (λ (h : Holder). h.shown)
      (put-apart held.owners (insert held.owners held.me k) held.me k (put-owner held.owners held.me k) q (key-apart q held.me none has)))

  pub delta-since : (old : Held) (node : Node) (blocks : List Block) (ends : List BlockEnd) → HasOwners m blocks → AreSince old node.held m
      → AreSince old (replay_node node (took_each blocks ends)).held m
  delta-since old node blocks ends has since =
      moved-since old node.held (replay_node node (took_each blocks ends)).held since
      (λ q none. ap (λ (h : Holder). h.shown) (delta-apart node blocks ends q has none))

pub nothing-since : (held : Held) → AreSince held held empty
nothing-since held q = subst (IsSince (shown_of held q) (shown_of held q)) (sym (get-empty by_text q)) refl

-- ---- what is lacked leads on

module _ (held : Held) (o : List ℕ) where
  -- what views lack of the owner, where it stands there
  abbrev due : Option (ℕ × ℕ) → List Change
  due None = []
  due (Some s) = lacked_of s.0 s.1 (shown_of held o)

  others : (ps : List (List ℕ × (ℕ × ℕ))) → T (below_all by_text o ps) → of_owner o (lacked_since ps held) ≡ []
  others [] below = refl
  others (p ∷ ps) below =
      let apart = apart-from_Less o p.0 (less (by_text o p.0) (first (is_lt (by_text o p.0)) _ below)) in
      of_owner-owned o p.0 (lacked_of p.1.0 p.1.1 (shown_of held p.0)) (lacked_since ps held) false (nat_list_eq_equiv.symm p.0 o ∙ apart)
      ∙ others ps (second (is_lt (by_text o p.0)) _ below)

  mine-or : (p : List ℕ × (ℕ × ℕ)) (ps : List (List ℕ × (ℕ × ℕ))) (b : Bool) → eq_by_cmp by_text o p.0 ≡ b → T (below_all by_text p.0 ps)
      → of_owner o (lacked_since ps held) ≡ due (find by_text o ps)
      → cond b (lacked_of p.1.0 p.1.1 (shown_of held p.0)) [] ++ of_owner o (lacked_since ps held) ≡ due (cond b (Some p.1) (find by_text o ps))
  mine-or p ps true is below rest =
      let same : p.0 ≡ o = sym (same_text o p.0 (texts_ties o p.0 ∙ is)) in
      let lacked = lacked_of p.1.0 p.1.1 (shown_of held p.0) in
      ap (λ (xs : List Change). lacked ++ xs) (others ps (subst (λ (owner : List ℕ). T (below_all by_text owner ps)) same below))
      ∙ append-nil lacked
      ∙ ap (λ (owner : List ℕ). lacked_of p.1.0 p.1.1 (shown_of held owner)) same
  mine-or p ps false is below rest = rest

  mine : (ps : List (List ℕ × (ℕ × ℕ))) → T (is_sorted by_text ps) → of_owner o (lacked_since ps held) ≡ due (find by_text o ps)
  mine [] up = refl
  mine (p ∷ ps) up =
      let b = eq_by_cmp by_text o p.0 in
      of_owner-owned o p.0 (lacked_of p.1.0 p.1.1 (shown_of held p.0)) (lacked_since ps held) b (turned o p.0 b refl)
      ∙ mine-or p ps b refl (first (below_all by_text p.0 ps) _ up) (mine ps (second (below_all by_text p.0 ps) _ up))

  due-lacked : (m : LackingOwners) → due (get m o) ≡ of_owner o (all_lacked m held)
  due-lacked m = sym (mine (entries m) (entries_sorted m) ∙ ap due (sym (get-entries m o)))

  leads-case : (old : Held) → IsHoldings held → AreGrown old held → (r : Option (ℕ × ℕ)) → IsSince (shown_of old o) (shown_of held o) r
      → IsAlike (table_with_all (shown_of old o) (due r)) (shown_of held o)
  leads-case old is grown None at = same-alike (shown_of old o) (shown_of held o) (sym at)
  leads-case old is grown (Some s) at =
      let t = shown_of old o in
      let u = shown_of held o in
      subst (λ (version : ℕ). IsAlike (table_with_all t (lacked_of version s.1 u)) u) (sym at.0)
      (subst (λ (floor : ℕ). IsAlike (table_with_all t (lacked_of t.held floor u)) u) (sym at.1) (lacked-alike t u (IsHolder-held held is o).shown (grown o)))

pub lacked-leads : (old new : Held) (m : LackingOwners) → IsHoldings new → AreGrown old new → AreSince old new m → Leads old new (all_lacked m new)
lacked-leads old new m is grown since =
    λ o. subst (λ (cs : List Change). IsAlike (table_with_all (shown_of old o) cs) (shown_of new o)) (due-lacked new o m) (leads-case new o old is grown (get m o) (since o))
