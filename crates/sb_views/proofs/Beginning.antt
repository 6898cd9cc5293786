-- The first view shows what is held.
use Rattle.std.proofs.Common.{◌≡◌, ℕ, ◌≤◌, ◌<◌, Bool, true, false, cond, ◌&&◌, List, [], ◌∷◌, ◌++◌, map, filter, flat_map, Option, Some, None, unwrap_or, nat_eq, nat_lt, Result, Ok, Err, OnOk, T, arith, refl, sym, ap, subst, ◌∙◌, append-nil, lt-ltb}
use Rattle.std.proofs.lemmas.Bool.{cond-true, cond-false, le-ltb}
use Rattle.std.proofs.lemmas.List.{map-append}
use Rattle.std.proofs.lemmas.List.Elements.{filter-append}
use Rattle.std.proofs.lemmas.Cmp.{nat_list_eq_equiv}
use Rattle.std.specs.Cmp.Lexicographic.{pointwise, texts_ties}
use Rattle.std.specs.Ordering.{eq_by_cmp, is_lt}
use Rattle.std.specs.declared.alloc.AllocError.{AllocError}
use Rattle.std.specs.declared.cmp.Ordering.{Ordering}
use Rattle.std.specs.declared.cmp.Ordering.TheVariants.{Less, Equal, Greater}
use Rattle.std.specs.FinMap.{get, empty, entries, entries_sorted, get-entries, get-empty, find, is_sorted}
use Rattle.std.specs.FinMap.Entries.{below_all}
use Rattle.sb_types.specs.Records.{Entry, Table, Holder}
use Rattle.sb_types.specs.Runs.{newer_entries, last_version}
use Rattle.sb_types.proofs.Texts.{same_text, apart-from_Less}
use Rattle.sb_table.specs.Plain.{plain_table}
use Rattle.sb_holdings.specs.Held.{Held, empty_holder, shown_of}
use Rattle.sb_holdings.specs.Plain.{IsHoldings, is_from, tables_from}
use Rattle.sb_holdings.proofs.Changed.{IsHolder-held}
use Rattle.sb_views.specs.declared.change.Change.{Change}
use Rattle.sb_views.specs.declared.change.Change.TheVariants.{Enter, Hold}
use Rattle.sb_views.specs.Changes.{table_with_all, of_owner, IsAlike, changes_of_owner, held_beyond, changes_above, all_changes}
use Rattle.sb_views.specs.NodeViews.{OwnerView, NodeView, view_with, no_view, owner_view_of, ShowsTables, view_with_all}
use Rattle.sb_views.proofs.ByText.{by_text}
use Rattle.sb_views.proofs.Changing.{all-brought}
use Rattle.sb_views.proofs.Showing.{alike_tables, view-with-all}

-- ---- nothing

no-owner_view : (o : List ℕ) → owner_view_of empty o ≡ no_view
no-owner_view o = ap (λ (found : Option OwnerView). unwrap_or found no_view) (get-empty by_text o)

empty-view : ShowsTables (λ o. plain_table []) empty
empty-view =
    record {
      upto = λ o. ap (λ (s : OwnerView). s.upto) (no-owner_view o);
      row = λ o key. ap (λ (s : OwnerView). get s.rows key) (no-owner_view o) ∙ get-empty by_text key;
    }

pub first : (a b : Bool) → T (a && b) → T a
first true b p = tt
first false b p = p

pub second : (a b : Bool) → T (a && b) → T b
second true b p = p
second false b p = absurd p

pub less : (r : Ordering) → T (is_lt r) → r ≡ Less
less Less p = refl
less Equal p = absurd p
less Greater p = absurd p

-- ---- the changes of one owner among those of all

pub turned : (o owner : List ℕ) (b : Bool) → eq_by_cmp by_text o owner ≡ b → pointwise nat_eq owner o ≡ b
turned o owner b is = nat_list_eq_equiv.symm owner o ∙ texts_ties o owner ∙ is

module _ (o : List ℕ) where
  mine-case : (b : Bool) (owner : List ℕ) (cs : List Change) → pointwise nat_eq owner o ≡ b → of_owner o (changes_of_owner owner cs) ≡ cond b cs []
  mine-case true owner [] is = refl
  mine-case false owner [] is = refl
  mine-case true owner (c ∷ cs) is = rw is (ap (λ (xs : List Change). c ∷ xs) (mine-case true owner cs is))
  mine-case false owner (c ∷ cs) is = rw is (mine-case false owner cs is)

  of_owner-append : (xs ys : List (List ℕ × Change)) → of_owner o (xs ++ ys) ≡ of_owner o xs ++ of_owner o ys
  of_owner-append xs ys =
      ap (map (λ (p : List ℕ × Change). p.1)) (filter-append (λ (p : List ℕ × Change). pointwise nat_eq p.0 o) xs ys)
      ∙ map-append (λ (p : List ℕ × Change). p.1) (filter (λ p. pointwise nat_eq p.0 o) xs) (filter (λ p. pointwise nat_eq p.0 o) ys)

  -- whether the first owner is this one, and what the others say of it
  pub of_owner-owned : (owner : List ℕ) (cs : List Change) (others : List (List ℕ × Change)) (b : Bool) → pointwise nat_eq owner o ≡ b
      → of_owner o (changes_of_owner owner cs ++ others) ≡ cond b cs [] ++ of_owner o others
  of_owner-owned owner cs others b is =
      of_owner-append (changes_of_owner owner cs) others ∙ ap (λ (xs : List Change). xs ++ of_owner o others) (mine-case b owner cs is)

  module _ (f : List ℕ → Table → List Change) where
    abbrev owned_each : List (List ℕ × Holder) → List (List ℕ × Change)
    owned_each hs = flat_map (λ (p : List ℕ × Table). changes_of_owner p.0 (f p.0 p.1)) (map (λ (p : List ℕ × Holder). (p.0, p.1.shown)) hs)

    abbrev there : List (List ℕ × Holder) → List Change
    there hs = f o (unwrap_or (find by_text o hs) empty_holder).shown

    others : (hs : List (List ℕ × Holder)) → T (below_all by_text o hs) → of_owner o (owned_each hs) ≡ []
    others [] below = refl
    others (h ∷ hs) below =
        let apart = apart-from_Less o h.0 (less (by_text o h.0) (first (is_lt (by_text o h.0)) _ below)) in
        of_owner-owned h.0 (f h.0 h.1.shown) (owned_each hs) false (nat_list_eq_equiv.symm h.0 o ∙ apart) ∙ others hs (second (is_lt (by_text o h.0)) _ below)

    mine-or : (h : List ℕ × Holder) (hs : List (List ℕ × Holder)) (b : Bool) → eq_by_cmp by_text o h.0 ≡ b → T (below_all by_text h.0 hs)
        → of_owner o (owned_each hs) ≡ there hs
        → cond b (f h.0 h.1.shown) [] ++ of_owner o (owned_each hs) ≡ f o (unwrap_or (cond b (Some h.1) (find by_text o hs)) empty_holder).shown
    mine-or h hs true is below rest =
        let same : h.0 ≡ o = sym (same_text o h.0 (texts_ties o h.0 ∙ is)) in
        ap (λ (xs : List Change). f h.0 h.1.shown ++ xs) (others hs (subst (λ (owner : List ℕ). T (below_all by_text owner hs)) same below))
        ∙ append-nil (f h.0 h.1.shown)
        ∙ ap (λ (owner : List ℕ). f owner h.1.shown) same
    mine-or h hs false is below rest = rest

    mine : f o empty_holder.shown ≡ [] → (hs : List (List ℕ × Holder)) → T (is_sorted by_text hs) → of_owner o (owned_each hs) ≡ there hs
    mine none [] up = sym none
    mine none (h ∷ hs) up =
        let b = eq_by_cmp by_text o h.0 in
        of_owner-owned h.0 (f h.0 h.1.shown) (owned_each hs) b (turned o h.0 b refl)
        ∙ mine-or h hs b refl (first (below_all by_text h.0 hs) _ up) (mine none hs (second (below_all by_text h.0 hs) _ up))

-- ---- what is held

all_from : (hs : List (List ℕ × Holder)) → filter (λ (p : List ℕ × Holder). is_from None p.0) hs ≡ hs
all_from [] = refl
all_from (h ∷ hs) = ap (λ (rest : List (List ℕ × Holder)). h ∷ rest) (all_from hs)

-- of changes for the table of each owner those of one owner
pub of_owner-each : (held : Held) (f : List ℕ → Table → List Change) → ((owner : List ℕ) → f owner empty_holder.shown ≡ []) → (o : List ℕ)
    → of_owner o (flat_map (λ (p : List ℕ × Table). changes_of_owner p.0 (f p.0 p.1)) (tables_from None held)) ≡ f o (shown_of held o)
of_owner-each held f none o =
    ap (λ (hs : List (List ℕ × Holder)). of_owner o (owned_each o f hs)) (all_from (entries held.owners))
    ∙ mine o f (none o) (entries held.owners) (entries_sorted held.owners)
    ∙ ap (λ (h : Option Holder). f o (unwrap_or h empty_holder).shown) (sym (get-entries held.owners o))

module _ (held : Held) (is : IsHoldings held) where
  shown-all : (o : List ℕ) → IsAlike (table_with_all (plain_table []) (of_owner o (all_changes held))) (shown_of held o)
  shown-all o =
      subst (λ (cs : List Change). IsAlike (table_with_all (plain_table []) cs) (shown_of held o))
      (sym (of_owner-each held (λ owner t. changes_above 0 t) (λ owner. refl) o))
      (all-brought (plain_table []) (shown_of held o) (IsHolder-held held is o).shown refl (λ es last. last))

  pub first-view : ShowsTables (shown_of held) (view_with_all empty (all_changes held))
  first-view =
      alike_tables (λ o. table_with_all (plain_table []) (of_owner o (all_changes held))) (shown_of held) (view_with_all empty (all_changes held)) shown-all
      (view-with-all (λ o. plain_table []) empty (all_changes held) empty-view)

-- ---- entering all of it, step by step

pub record IsEntering (owner : List ℕ) (from : NodeView) (all : List Entry) (view : NodeView) (version : ℕ) (rest : List Entry) : Type 0 where
  pub left : view_with_all view (changes_of_owner owner (map Enter rest)) ≡ view_with_all from (changes_of_owner owner (map Enter all))
  pub last : last_version version rest ≡ last_version 0 all

pub entering-begins : (owner : List ℕ) (from : NodeView) (all rest : List Entry) → rest ≡ all → IsEntering owner from all from 0 rest
entering-begins owner from all rest is = record { left = ap (λ (es : List Entry). view_with_all from (changes_of_owner owner (map Enter es))) is; last = ap (last_version 0) is }

pub entering-goes_on : (owner : List ℕ) (from : NodeView) (all : List Entry) (view new : NodeView) (version later : ℕ) (e : Entry) (rest : List Entry)
    → IsEntering owner from all view version (e ∷ rest) → new ≡ view_with view owner (Enter e) → later ≡ e.version → IsEntering owner from all new later rest
entering-goes_on owner from all view new version later e rest is step next =
    record {
      left = ap (λ (p : NodeView). view_with_all p (changes_of_owner owner (map Enter rest))) step ∙ is.left;
      last = ap (λ (n : ℕ). last_version n rest) next ∙ is.last;
    }

pub entering-ends : (owner : List ℕ) (from : NodeView) (all : List Entry) (view : NodeView) (version : ℕ) (rest : List Entry)
    → rest ≡ [] → IsEntering owner from all view version rest → view ≡ view_with_all from (changes_of_owner owner (map Enter all))
entering-ends owner from all view version rest done is =
    sym (ap (λ (es : List Entry). view_with_all view (changes_of_owner owner (map Enter es))) done) ∙ is.left

pub entered-last : (owner : List ℕ) (from : NodeView) (all : List Entry) (view : NodeView) (version : ℕ) (rest : List Entry)
    → rest ≡ [] → IsEntering owner from all view version rest → version ≡ last_version 0 all
entered-last owner from all view version rest done is = sym (ap (last_version version) done) ∙ is.last

with-append : (view : NodeView) (xs ys : List (List ℕ × Change)) → view_with_all view (xs ++ ys) ≡ view_with_all (view_with_all view xs) ys
with-append view [] ys = refl
with-append view (x ∷ xs) ys = with-append (view_with view x.0 x.1) xs ys

-- the table of an owner, whose entries are entered: held up to the last of them, or further
module _ (owner : List ℕ) (t : Table) (from view : NodeView) (last : ℕ) (entered : view ≡ view_with_all from (changes_of_owner owner (map Enter (newer_entries 0 t.entries))))
    (is : last ≡ last_version 0 (newer_entries 0 t.entries)) where
  shown-with : (cs : List Change) → held_beyond last t.held ≡ cs → view_with_all view (changes_of_owner owner cs) ≡ view_with_all from (changes_of_owner owner (changes_above 0 t))
  shown-with cs beyond =
      let es = newer_entries 0 t.entries in
      ap (λ (xs : List Change). view_with_all view (changes_of_owner owner xs)) (sym beyond ∙ ap (λ (n : ℕ). held_beyond n t.held) is)
      ∙ ap (λ (v : NodeView). view_with_all v (changes_of_owner owner (held_beyond (last_version 0 es) t.held))) entered
      ∙ sym (with-append from (changes_of_owner owner (map Enter es)) (changes_of_owner owner (held_beyond (last_version 0 es) t.held)))
      ∙ ap (view_with_all from) (sym (map-append (λ (c : Change). (owner, c)) (map Enter es) (held_beyond (last_version 0 es) t.held)))

  pub shown-upto : t.held ≤ last → view ≡ view_with_all from (changes_of_owner owner (changes_above 0 t))
  shown-upto le = shown-with [] (cond-false (nat_lt last t.held) (Hold t.held ∷ []) [] (le-ltb last t.held le))

  pub shown-beyond : (new : NodeView) (upto : ℕ) (r : Result (Unit {0}) AllocError) → last < upto → upto ≡ t.held → OnOk r (new ≡ view_with view owner (Hold upto))
      → OnOk r (new ≡ view_with_all from (changes_of_owner owner (changes_above 0 t)))
  shown-beyond new upto (Err fault) less same step = tt
  shown-beyond new upto (Ok u) less same step =
      step ∙ ap (λ (n : ℕ). view_with view owner (Hold n)) same
      ∙ shown-with (Hold t.held ∷ []) (cond-true (nat_lt last t.held) (Hold t.held ∷ []) [] (lt-ltb last t.held (omega (arith, less, same))))

pub record IsFilling (held : Held) (view : NodeView) (rest : List (List ℕ × Table)) : Type 0 where
  pub left : view_with_all view (flat_map (λ (p : List ℕ × Table). changes_of_owner p.0 (changes_above 0 p.1)) rest) ≡ view_with_all empty (all_changes held)

pub filling-begins : (held : Held) (view : NodeView) (rest : List (List ℕ × Table)) → view ≡ empty → rest ≡ tables_from None held → IsFilling held view rest
filling-begins held view rest none is =
    record {
      left = ap (λ (p : NodeView). view_with_all p (flat_map (λ (q : List ℕ × Table). changes_of_owner q.0 (changes_above 0 q.1)) rest)) none
          ∙ ap (λ (ts : List (List ℕ × Table)). view_with_all empty (flat_map (λ (q : List ℕ × Table). changes_of_owner q.0 (changes_above 0 q.1)) ts)) is;
    }

pub filling-goes_on : (held : Held) (view new : NodeView) (owner : List ℕ) (t : Table) (rest : List (List ℕ × Table))
    → IsFilling held view ((owner, t) ∷ rest) → new ≡ view_with_all view (changes_of_owner owner (changes_above 0 t)) → IsFilling held new rest
filling-goes_on held view new owner t rest is step =
    record {
      left = ap (λ (p : NodeView). view_with_all p (flat_map (λ (q : List ℕ × Table). changes_of_owner q.0 (changes_above 0 q.1)) rest)) step
          ∙ sym (with-append view (changes_of_owner owner (changes_above 0 t)) (flat_map (λ (q : List ℕ × Table). changes_of_owner q.0 (changes_above 0 q.1)) rest)) ∙ is.left;
    }

pub filling-ends : (held : Held) (view : NodeView) (rest : List (List ℕ × Table)) → rest ≡ [] → IsFilling held view rest → view ≡ view_with_all empty (all_changes held)
filling-ends held view rest done is =
    sym (ap (λ (ts : List (List ℕ × Table)). view_with_all view (flat_map (λ (q : List ℕ × Table). changes_of_owner q.0 (changes_above 0 q.1)) ts)) done) ∙ is.left
