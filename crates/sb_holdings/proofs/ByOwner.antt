-- What is held of all owners, as a map, and how it changes at one owner.
use Rattle.std.proofs.Common.{◌≡◌, ℕ, ◌+◌, ◌-◌, ◌≤◌, ◌<◌, Bool, true, false, cond, ◌&&◌, ◌||◌, List, [], ◌∷◌, map, filter, length, Option, Some, None, IfSome, IsSomeAnd, is_some, unwrap_or, Result, Ok, Err, OnOk, OnErr, refl, sym, ap, subst, ◌∙◌, nat_eq, nat_lt, nat_le, arith, ltb-true, lt-ltb, eq-eqb, T}
use Rattle.std.proofs.lemmas.Bool.{cond_both, cond-true, cond-false, false≢true, or_left, or_right}
use Rattle.std.proofs.lemmas.Cmp.{nat_list_cmp_total, tied_itself}
use Rattle.std.specs.FinMap.Entries.{below_all}
use Rattle.std.proofs.lemmas.List.Kept.{IsStrictlySortedBy-filter}
use Rattle.std.proofs.lemmas.List.Elements.{filter_agree}
use Rattle.std.proofs.Math.Bool.{and-true}
use Rattle.std.specs.Option.{MatchOption, option_map}
use Rattle.std.specs.List.{AllByRecursion}
use Rattle.std.specs.List.Sorted.{IsStrictlySortedBy}
use Rattle.std.specs.Map.{keys_of, lookup}
use Rattle.std.specs.BTreeMap.{BTreeMap, is_at, WritesThrough, Updates}
use Rattle.std.specs.BTreeMap.Range.{range_contains, entries_between}
use Rattle.std.specs.declared.ops.Bound.{Bound}
use Rattle.std.specs.declared.ops.Bound.TheVariants.{Included, Unbounded}
use Rattle.std.specs.Ordering.{nat_cmp, is_lt, is_eq, eq_by_cmp}
use Rattle.std.specs.Cmp.{eq_by_cmp_equiv}
use Rattle.std.specs.declared.cmp.Ordering.{Ordering}
use Rattle.std.specs.declared.cmp.Ordering.TheVariants.{Less}
use Rattle.std.specs.Cmp.Lexicographic.{pointwise, slice_cmp, texts_ties}
use Rattle.std.specs.FinMap.{FinMap, get, keys, entries, contains_key, len, find, insert, remove, is_sorted, entries-from_sorted, get-from_sorted, len-entries, get-insert, get-remove, len-insert, len-remove, same_map, slice_cmp-IsAntisymmetric, nat_cmp-IsAntisymmetric}
use Rattle.sb_types.specs.declared.limits.TheConstants.{OWNERS_MOST}
use Rattle.std.proofs.lemmas.Map.Steps.{set_value_same}
use Rattle.sb_types.specs.declared.fault.Fault.{Fault}
use Rattle.sb_types.specs.Records.{Entry, Stage, Holder}
use Rattle.sb_table.specs.Plain.{with_entry}
use Rattle.sb_table.specs.Floors.{table_at_floor}
use Rattle.sb_holdings.specs.Shown.{holder_after_write, own_purged, stage_beyond}
use Rattle.sb_holdings.specs.Plain.{table_holder, held_of, IsKeptHolder, IsHoldings, is_from, each_shown, holders_from}
use Rattle.sb_types.proofs.Texts.{same_text, text_same}
use Rattle.sb_holdings.specs.Held.{Held, empty_holder, is_nothing, holder_of, with_holder, with_owner, held_after_write, purged_own}
use Rattle.sb_holdings.specs.Ends.{has_place}
use Rattle.sb_holdings.specs.Holders.{Dropped}

-- the order of names
abbrev pub by_text : List ℕ → List ℕ → Ordering
by_text = slice_cmp nat_cmp

abbrev pub Rise : List (List ℕ × Holder) → Type 0
Rise holders = IsStrictlySortedBy by_text (keys_of holders)

-- what is found under a name
abbrev pub found : List (List ℕ × Holder) → List ℕ → Option Holder
found holders owner = lookup (is_at (by_text owner)) holders

both : (a b : Bool) → T a → T b → T (a && b)
both true b p q = q
both false b p q = p

below_all-from : (owner : List ℕ) (holders : List (List ℕ × Holder)) → AllByRecursion (λ y. by_text owner y ≡ Less) (keys_of holders) → T (below_all by_text owner holders)
below_all-from owner [] below = tt
below_all-from owner (p ∷ ps) below = both _ _ (subst (λ (r : Ordering). T (is_lt r)) (sym below.0) tt) (below_all-from owner ps below.1)

is_sorted-from : (holders : List (List ℕ × Holder)) → Rise holders → T (is_sorted by_text holders)
unfolding IsStrictlySortedBy
is_sorted-from [] up = tt
is_sorted-from (p ∷ ps) up = both _ _ (below_all-from p.0 ps up.0) (is_sorted-from ps up.1)

find-from : (owner : List ℕ) (holders : List (List ℕ × Holder)) → find by_text owner holders ≡ found holders owner
find-from owner [] = refl
find-from owner (p ∷ ps) = ap (cond (is_at (by_text owner) p.0) (Some p.1)) (find-from owner ps)

module _ (me : List ℕ) (holders : List (List ℕ × Holder)) (up : Rise holders) where
  pub get-from : (owner : List ℕ) → get (held_of me holders).owners owner ≡ found holders owner
  get-from owner = get-from_sorted by_text holders owner (is_sorted-from holders up) ∙ find-from owner holders

  pub entries-from : entries (held_of me holders).owners ≡ holders
  entries-from = entries-from_sorted by_text holders (is_sorted-from holders up)

  pub keys-from : keys (held_of me holders).owners ≡ keys_of holders
  keys-from = ap (map (λ p. p.0)) entries-from

  pub len-from : len (held_of me holders).owners ≡ length holders
  len-from = len-entries _ ∙ ap length entries-from

same_owners : (m n : FinMap by_text Holder) → ((q : List ℕ) → get m q ≡ get n q) → m ≡ n
same_owners = same_map nat_list_cmp_total (slice_cmp-IsAntisymmetric nat_cmp-IsAntisymmetric)

-- ---- one owner's holder in place of another

-- it stands there unless it is nothing
abbrev pub standing : Holder → Option Holder
standing h = cond (is_nothing h) None (Some h)

module _ (owners : FinMap by_text Holder) (owner : List ℕ) (h : Holder) where
  pub get-with : (q : List ℕ) → get (with_holder owners owner h) q ≡ cond (eq_by_cmp by_text q owner) (standing h) (get owners q)
  get-with q =
      cond_both (is_nothing h) (remove owners owner) (insert owners owner h) (λ (m : FinMap by_text Holder). get m q ≡ cond (eq_by_cmp by_text q owner) (standing h) (get owners q))
      (λ none. get-remove nat_list_cmp_total owners owner q
      ∙ ap (λ (o : Option Holder). cond (eq_by_cmp by_text q owner) o (get owners q)) (sym (cond-true (is_nothing h) None (Some h) none)))
      (λ some. get-insert nat_list_cmp_total owners owner h q
      ∙ ap (λ (o : Option Holder). cond (eq_by_cmp by_text q owner) o (get owners q)) (sym (cond-false (is_nothing h) None (Some h) some)))

  len-with : len owners ≤ OWNERS_MOST → (contains_key owners owner || nat_lt (len owners) OWNERS_MOST) ≡ true → len (with_holder owners owner h) ≤ OWNERS_MOST
  len-with limit place =
      cond_both (is_nothing h) (remove owners owner) (insert owners owner h) (λ (m : FinMap by_text Holder). len m ≤ OWNERS_MOST)
      (λ _. subst (λ (n : ℕ). n ≤ OWNERS_MOST) (sym (len-remove nat_list_cmp_total owners owner))
      (cond_both (contains_key owners owner) (len owners - 1) (len owners) (λ (n : ℕ). n ≤ OWNERS_MOST) (λ _. omega (arith, limit)) (λ _. limit)))
      (λ _. subst (λ (n : ℕ). n ≤ OWNERS_MOST) (sym (len-insert nat_list_cmp_total owners owner h))
      (cond_both (contains_key owners owner) (len owners) (len owners + 1) (λ (n : ℕ). n ≤ OWNERS_MOST) (λ _. limit)
      (λ unknown. omega (arith, ltb-true (len owners) OWNERS_MOST (sym (ap (λ b. b || nat_lt (len owners) OWNERS_MOST) unknown) ∙ place)))))

tied_same : (q owner : List ℕ) → eq_by_cmp by_text q owner ≡ true → q ≡ owner
tied_same q owner tied = same_text q owner (texts_ties q owner ∙ tied)

module _ (held : Held) (owner : List ℕ) (h : Holder) (is : IsHoldings held) (other : pointwise nat_eq owner held.me ≡ false) where
  pub IsHoldings-put : IsKeptHolder h → has_place held owner ≡ true → IsHoldings (with_owner held owner h)
  IsHoldings-put kept place = record {
    own = subst (λ (o : Option Holder). IsSomeAnd o (λ x. x.stage ≡ None)) (sym (get-with held.owners owner h held.me))
        (cond_both (eq_by_cmp by_text held.me owner) (standing h) (get held.owners held.me) (λ (o : Option Holder). IsSomeAnd o (λ x. x.stage ≡ None))
        (λ tied. absurd (false≢true (sym other ∙ text_same owner held.me (sym (tied_same held.me owner tied))))) (λ _. is.own));
    each = λ q. subst (λ (o : Option Holder). IfSome o IsKeptHolder) (sym (get-with held.owners owner h q))
        (cond_both (eq_by_cmp by_text q owner) (standing h) (get held.owners q) (λ (o : Option Holder). IfSome o IsKeptHolder)
        (λ _. cond_both (is_nothing h) None (Some h) (λ (o : Option Holder). IfSome o IsKeptHolder) (λ _. tt) (λ _. kept)) (λ _. is.each q));
    others = λ q apart. subst (λ (o : Option Holder). IfSome o (λ x. is_nothing x ≡ false)) (sym (get-with held.owners owner h q))
        (cond_both (eq_by_cmp by_text q owner) (standing h) (get held.owners q) (λ (o : Option Holder). IfSome o (λ x. is_nothing x ≡ false))
        (λ _. cond_both (is_nothing h) None (Some h) (λ (o : Option Holder). IfSome o (λ x. is_nothing x ≡ false)) (λ _. tt) (λ some. some)) (λ _. is.others q apart));
    limit = len-with held.owners owner h is.limit place;
  }

  kept-same : (o : Option Holder) → IfSome o (λ x. is_nothing x ≡ false) → standing (unwrap_or o empty_holder) ≡ o
  kept-same None some = refl
  kept-same (Some x) some = cond-false (is_nothing x) None (Some x) some

  pub with_owner-same : with_owner held owner (holder_of held.owners owner) ≡ held
  with_owner-same =
      let x = holder_of held.owners owner in
      ap (λ (m : FinMap by_text Holder). let new : Held = record { me = held.me; owners = m } in new)
      (same_owners (with_holder held.owners owner x) held.owners (λ q. get-with held.owners owner x q
      ∙ cond_both (eq_by_cmp by_text q owner) (standing x) (get held.owners q) (λ (o : Option Holder). o ≡ get held.owners q)
      (λ tied. kept-same (get held.owners owner) (is.others owner other) ∙ sym (ap (get held.owners) (tied_same q owner tied))) (λ _. refl)))

-- ---- the map in code

module _ (me owner : List ℕ) (h : Holder) (old new : List (List ℕ × Holder)) (up : Rise old) (up_new : Rise new) where
  pub held_of-with : ((q : List ℕ) → found new q ≡ cond (is_at (by_text owner) q) (standing h) (found old q)) → held_of me new ≡ with_owner (held_of me old) owner h
  held_of-with changed =
      ap (λ (m : FinMap by_text Holder). let x : Held = record { me = me; owners = m } in x)
      (same_owners _ _ (λ q. get-from me new up_new q ∙ changed q
      ∙ ap (λ (b : Bool). cond b (standing h) (found old q)) ((eq_by_cmp_equiv nat_list_cmp_total).symm owner q)
      ∙ ap (cond (eq_by_cmp by_text q owner) (standing h)) (sym (get-from me old up q))
      ∙ sym (get-with (held_of me old).owners owner h q)))

gone-at : (gone at : Bool) (h : Holder) (o : Option Holder) → cond (gone && at) None (cond at (Some h) o) ≡ cond at (cond gone None (Some h)) o
gone-at true true h o = refl
gone-at true false h o = refl
gone-at false true h o = refl
gone-at false false h o = refl

-- a holder was lent and changed, and goes if nothing is left of it
pub lent-dropped : (owner : List ℕ) (old mid new : BTreeMap (List ℕ) Holder) (t w : Holder) (gone : Bool) → found old.entries owner ≡ Some t → WritesThrough by_text (by_text owner) old w mid → gone ≡ is_nothing w
    → Dropped owner gone mid.entries new.entries → (q : List ℕ) → found new.entries q ≡ cond (is_at (by_text owner) q) (standing w) (found old.entries q)
lent-dropped owner old mid new t w gone at through is dropped q =
    dropped q
    ∙ ap (cond (gone && is_at (by_text owner) q) None) ((through.3 (ap is_some at)).0 q)
    ∙ gone-at gone (is_at (by_text owner) q) w (found old.entries q)
    ∙ ap (λ (b : Bool). cond (is_at (by_text owner) q) (cond b None (Some w)) (found old.entries q)) is

-- a holder was added that is not nothing
pub added-standing : (owner : List ℕ) (old new : BTreeMap (List ℕ) Holder) (w : Holder) → is_nothing w ≡ false → Updates by_text old new owner (Some w)
    → (q : List ℕ) → found new.entries q ≡ cond (is_at (by_text owner) q) (standing w) (found old.entries q)
added-standing owner old new w some updates q =
    updates.0 q ∙ ap (λ (o : Option Holder). cond (is_at (by_text owner) q) o (found old.entries q)) (sym (cond-false (is_nothing w) None (Some w) some))

pub has_place-known : (held : Held) (owner : List ℕ) → contains_key held.owners owner ≡ true → has_place held owner ≡ true
has_place-known held owner known = or_left (contains_key held.owners owner) (nat_lt (len held.owners) OWNERS_MOST) known

module _ (held : Held) (me owner : List ℕ) (old new : BTreeMap (List ℕ) Holder) (w : Holder) (up : Rise old.entries) (up_new : Rise new.entries) (view : held_of me old.entries ≡ held)
    (some : is_nothing w ≡ false) (updates : Updates by_text old new owner (Some w)) where
  pub added : held_of me new.entries ≡ with_owner held owner w
  added = held_of-with me owner w old.entries new.entries up up_new (added-standing owner old new w some updates) ∙ ap (λ (h : Held). with_owner h owner w) view

  pub IsHoldings-added : IsHoldings held → pointwise nat_eq owner held.me ≡ false → IsKeptHolder w → len held.owners < OWNERS_MOST → IsHoldings (held_of me new.entries)
  IsHoldings-added is other kept place =
      subst IsHoldings (sym added)
      (IsHoldings-put held owner w is other kept (or_right (contains_key held.owners owner) (nat_lt (len held.owners) OWNERS_MOST) (lt-ltb (len held.owners) OWNERS_MOST place)))

-- the own holder alone
pub IsHoldings-own : (me : List ℕ) (h : Holder) → IsKeptHolder h → h.stage ≡ None → IsHoldings (held_of me ((me, h) ∷ []))
unfolding IsStrictlySortedBy
IsHoldings-own me h kept none =
    let holders = (me, h) ∷ [] in
    let up : Rise holders = (tt, tt) in
    let got = get-from me holders up in
    record {
      own = subst (λ (o : Option Holder). IsSomeAnd o (λ x. x.stage ≡ None)) (sym (got me ∙ ap (λ (r : Ordering). cond (is_eq r) (Some h) None) (tied_itself nat_list_cmp_total me))) none;
      each = λ owner. subst (λ (o : Option Holder). IfSome o IsKeptHolder) (sym (got owner))
          (cond_both (is_at (by_text owner) me) (Some h) None (λ (o : Option Holder). IfSome o IsKeptHolder) (λ _. kept) (λ _. tt));
      others = λ owner apart. subst (λ (o : Option Holder). IfSome o (λ x. is_nothing x ≡ false)) (sym (got owner ∙ ap (λ (b : Bool). cond b (Some h) None) (sym (texts_ties owner me) ∙ apart))) tt;
      limit = omega (arith, len-from me holders up);
    }

-- ---- an own write

pub is_some-map : {A B : Type 0} (f : A → B) (o : Option A) → is_some (option_map f o) ≡ is_some o
is_some-map f None = refl
is_some-map f (Some x) = refl

pub own-there : (me : List ℕ) (holders : List (List ℕ × Holder)) → Rise holders → IsHoldings (held_of me holders) → IsSomeAnd (found holders me) (λ x. x.stage ≡ None)
own-there me holders up is = subst (λ (o : Option Holder). IsSomeAnd o (λ x. x.stage ≡ None)) (get-from me holders up me) is.own

pub some-there : (o : Option Holder) → IsSomeAnd o (λ x. x.stage ≡ None) → is_some o ≡ true
some-there None is = absurd is
some-there (Some x) is = refl

pub own-some : (me : List ℕ) (holders : List (List ℕ × Holder)) → Rise holders → IsHoldings (held_of me holders) → is_some (found holders me) ≡ true
own-some me holders up is = some-there (found holders me) (own-there me holders up is)

pub own-alone : (me : List ℕ) (holders : List (List ℕ × Holder)) (t : Holder) → Rise holders → IsHoldings (held_of me holders) → found holders me ≡ Some t → t.stage ≡ None
own-alone me holders t up is at = subst (λ (o : Option Holder). IsSomeAnd o (λ x. x.stage ≡ None)) at (own-there me holders up is)

pub own-now : (held : Held) (me : List ℕ) (holders : List (List ℕ × Holder)) → Rise holders → held_of me holders ≡ held → holder_of held.owners held.me ≡ unwrap_or (found holders me) empty_holder
own-now held me holders up view = ap (λ (h : Held). holder_of h.owners h.me) (sym view) ∙ ap (λ (o : Option Holder). unwrap_or o empty_holder) (get-from me holders up me)

module _ (held : Held) (me : List ℕ) (old new : BTreeMap (List ℕ) Holder) (t w : Holder) (up : Rise old.entries) (up_new : Rise new.entries) (at : found old.entries me ≡ Some t) (through : WritesThrough by_text (by_text me) old w new)
    (is : IsHoldings (held_of me old.entries)) (view : held_of me old.entries ≡ held) where
  abbrev before : Held
  before = held_of me old.entries

  got : (q : List ℕ) → get (insert before.owners me w) q ≡ cond (eq_by_cmp by_text q me) (Some w) (get before.owners q)
  got q = get-insert nat_list_cmp_total before.owners me w q

  lent : held_of me new.entries ≡ record { me = me; owners = insert before.owners me w }
  lent =
      ap (λ (m : FinMap by_text Holder). let x : Held = record { me = me; owners = m } in x)
      (same_owners _ _ (λ q. get-from me new.entries up_new q ∙ (through.3 (ap is_some at)).0 q
      ∙ ap (λ (b : Bool). cond b (Some w) (found old.entries q)) ((eq_by_cmp_equiv nat_list_cmp_total).symm me q)
      ∙ ap (cond (eq_by_cmp by_text q me) (Some w)) (sym (get-from me old.entries up q)) ∙ sym (got q)))

  kept-own : IsKeptHolder w → w.stage ≡ None → IsHoldings (held_of me new.entries)
  kept-own kept none =
      subst IsHoldings (sym lent) (record {
        own = subst (λ (o : Option Holder). IsSomeAnd o (λ x. x.stage ≡ None)) (sym (got me))
            (cond_both (eq_by_cmp by_text me me) (Some w) (get before.owners me) (λ (o : Option Holder). IsSomeAnd o (λ x. x.stage ≡ None)) (λ _. none) (λ _. is.own));
        each = λ q. subst (λ (o : Option Holder). IfSome o IsKeptHolder) (sym (got q))
            (cond_both (eq_by_cmp by_text q me) (Some w) (get before.owners q) (λ (o : Option Holder). IfSome o IsKeptHolder) (λ _. kept) (λ _. is.each q));
        others = λ q apart. subst (λ (o : Option Holder). IfSome o (λ x. is_nothing x ≡ false)) (sym (got q))
            (cond_both (eq_by_cmp by_text q me) (Some w) (get before.owners q) (λ (o : Option Holder). IfSome o (λ x. is_nothing x ≡ false))
            (λ tied. absurd (false≢true (sym apart ∙ text_same q me (tied_same q me tied)))) (λ _. is.others q apart));
        limit = subst (λ (n : ℕ). n ≤ OWNERS_MOST) (sym (len-insert nat_list_cmp_total before.owners me w ∙ cond-true (contains_key before.owners me) (len before.owners) (len before.owners + 1)
            (ap is_some (get-from me old.entries up me) ∙ ap is_some at))) is.limit;
      })

  own-written : (e : Entry) → e.version ≡ t.shown.held + 1 → ◌≡◌ {A = Holder} (holder_after_write t e) (table_holder (with_entry t.shown e))
  own-written e next =
      cond-true (nat_eq e.version (t.shown.held + 1)) (record { shown = with_entry t.shown e; stage = stage_beyond e.version t.stage }) t (eq-eqb e.version _ next)
      ∙ ap (λ (o : Option Stage). let h : Holder = record { shown = with_entry t.shown e; stage = stage_beyond e.version o } in h) (own-alone me old.entries t up is at)

  pub own-ok : (e : Entry) (r : Result (Unit {0}) Fault) → OnOk r (w ≡ table_holder (with_entry t.shown e)) → e.version ≡ t.shown.held + 1 → OnOk r (held_of me new.entries ≡ held_after_write held e)
  own-ok e (Err fault) ok next = tt
  own-ok e (Ok u) ok next =
      lent ∙ ap (λ (x : Holder). let h : Held = record { me = me; owners = insert before.owners me x } in h)
      (ok ∙ sym (own-written e next) ∙ ap (λ (o : Option Holder). holder_after_write (unwrap_or o empty_holder) e) (sym (get-from me old.entries up me ∙ at)))
      ∙ ap (λ (h : Held). held_after_write h e) view

  lent-same : w ≡ t → held_of me new.entries ≡ held_of me old.entries
  lent-same same = ap (held_of me) (through.0 ∙ set_value_same _ old.entries w (at ∙ ap (λ (u : Holder). Some u) (sym same)))

  pub own-err : (e : Entry) (r : Result (Unit {0}) Fault) → OnErr r (w ≡ t) → OnErr r (held_of me new.entries ≡ held)
  own-err e (Ok u) err = tt
  own-err e (Err fault) err = lent-same err ∙ view

  pub own-kept : (e : Entry) (r : Result (Unit {0}) Fault) → OnOk r (w ≡ table_holder (with_entry t.shown e)) → OnErr r (w ≡ t) → IsKeptHolder w → IsHoldings (held_of me new.entries)
  own-kept e (Err fault) ok err kept = subst IsHoldings (sym (lent-same err)) is
  own-kept e (Ok u) ok err kept = kept-own kept (ap (λ (h : Holder). h.stage) ok)

  pub own-purged : (floor : ℕ) → w ≡ own_purged floor t → held_of me new.entries ≡ purged_own held floor
  own-purged floor is_purged =
      lent ∙ ap (λ (x : Holder). let h : Held = record { me = me; owners = insert before.owners me x } in h)
      (is_purged ∙ ap (λ (o : Option Holder). own_purged floor (unwrap_or o empty_holder)) (sym (get-from me old.entries up me ∙ at)))
      ∙ ap (λ (h : Held). purged_own h floor) view

  pub own-purged_kept : (floor : ℕ) → w ≡ own_purged floor t → IsKeptHolder w → IsHoldings (held_of me new.entries)
  own-purged_kept floor is_purged kept =
      kept-own kept (ap (λ (h : Holder). h.stage) is_purged
      ∙ cond_both (nat_lt t.shown.floor floor && nat_le floor t.shown.held) (record { shown = table_at_floor t.shown.held floor t.shown; stage = t.stage }) t (λ (h : Holder). h.stage ≡ t.stage) (λ _. refl) (λ _. refl)
      ∙ own-alone me old.entries t up is at)

-- ---- the tables from an owner on

from_start : (first : Option (List ℕ)) (bound : Bound (List ℕ)) → MatchOption first (bound ≡ Unbounded) (λ name. bound ≡ Included name) → (owner : List ℕ) → range_contains by_text bound Unbounded owner ≡ is_from first owner
from_start None bound is owner = ap (λ (b : Bound (List ℕ)). range_contains by_text b Unbounded owner) is
from_start (Some name) bound is owner = ap (λ (b : Bound (List ℕ)). range_contains by_text b Unbounded owner) is ∙ and-true _

pub holders_from-held_of : (me : List ℕ) (holders : List (List ℕ × Holder)) → Rise holders → (first : Option (List ℕ)) → holders_from first (held_of me holders) ≡ filter (λ p. is_from first p.0) holders
holders_from-held_of me holders up first = ap (λ (hs : List (List ℕ × Holder)). filter (λ p. is_from first p.0) hs) (entries-from me holders up)

names-cond : (b : Bool) (p : List ℕ × Holder) (ps : List (List ℕ × Holder)) (names : List (List ℕ)) → keys_of ps ≡ names → keys_of (cond b (p ∷ ps) ps) ≡ cond b (p.0 ∷ names) names
names-cond true p ps names e = ap (λ (rest : List (List ℕ)). p.0 ∷ rest) e
names-cond false p ps names e = e

names-filter : (test : List ℕ → Bool) (holders : List (List ℕ × Holder)) → keys_of (filter (λ p. test p.0) holders) ≡ filter test (keys_of holders)
names-filter test [] = refl
names-filter test (p ∷ ps) = names-cond (test p.0) p (filter (λ p. test p.0) ps) _ (names-filter test ps)

-- the names with the tables that are shown are those with what is held
pub names-shown : (holders : List (List ℕ × Holder)) → keys_of (each_shown holders) ≡ keys_of holders
names-shown [] = refl
names-shown (p ∷ ps) = ap (λ (rest : List (List ℕ)). p.0 ∷ rest) (names-shown ps)

pub holders-rise : (test : List ℕ → Bool) (holders : List (List ℕ × Holder)) → Rise holders → IsStrictlySortedBy by_text (keys_of (filter (λ p. test p.0) holders))
holders-rise test holders up = subst (IsStrictlySortedBy by_text) (sym (names-filter test holders)) (IsStrictlySortedBy-filter by_text test (keys_of holders) up)

pub entries_between-first : (first : Option (List ℕ)) (bound : Bound (List ℕ)) → MatchOption first (bound ≡ Unbounded) (λ name. bound ≡ Included name) → (holders : List (List ℕ × Holder)) →
    entries_between by_text bound Unbounded holders ≡ filter (λ p. is_from first p.0) holders
entries_between-first first bound is holders = filter_agree (λ p. range_contains by_text bound Unbounded p.0) (λ p. is_from first p.0) (λ p. from_start first bound is p.0) holders
