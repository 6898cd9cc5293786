-- Changes that are made in a view are shown by it.
use Rattle.std.proofs.Common.{◌≡◌, ◌≢◌, ℕ, Bool, true, false, cond, List, [], ◌∷◌, map, filter, Option, Some, unwrap_or, nat_eq, refl, sym, ap, ◌∙◌}
use Rattle.std.proofs.lemmas.Cmp.{nat_list_cmp_total}
use Rattle.std.specs.Cmp.{eq_by_cmp_equiv}
use Rattle.std.specs.Cmp.Lexicographic.{pointwise, texts_ties}
use Rattle.std.specs.Ordering.{eq_by_cmp}
use Rattle.std.specs.FinMap.{FinMap, get, get-insert, get-remove, get-empty}
use Rattle.sb_types.specs.declared.entry.Slot.{Slot}
use Rattle.sb_types.specs.declared.entry.Slot.TheVariants.{Set, Removed}
use Rattle.sb_types.specs.Value.{Value}
use Rattle.sb_types.specs.Records.{Entry, Table}
use Rattle.sb_types.specs.Runs.{entries_after, entry_at, shown_slot, shown_by_entry, shown_at}
use Rattle.sb_types.proofs.Texts.{same_text, text_same}
use Rattle.sb_table.proofs.Lookup.{entry_at-entered_same, entry_at-entered_other}
use Rattle.sb_views.specs.declared.change.Change.{Change}
use Rattle.sb_views.specs.declared.change.Change.TheVariants.{Enter, Clear, Hold}
use Rattle.sb_views.specs.Changes.{table_with, table_with_all, of_owner, IsAlike}
use Rattle.sb_views.specs.NodeViews.{OwnerView, NodeView, no_view, owner_view_of, ShowsTables, rows_with, owner_view_with, view_with, view_with_all}
use Rattle.sb_views.proofs.ByText.{by_text}

-- ---- the rows of one owner

row-got : (rows : FinMap by_text (Value × ℕ)) (e : Entry) (slot : Slot) (key : List ℕ) → get (rows_with rows e slot) key ≡ cond (eq_by_cmp by_text key e.key) (shown_slot e.version slot) (get rows key)
row-got rows e (Set value) key = get-insert nat_list_cmp_total rows e.key (value, e.version) key
row-got rows e Removed key = get-remove nat_list_cmp_total rows e.key key

module _ (rows : FinMap by_text (Value × ℕ)) (es : List Entry) (e : Entry) (shown : (key : List ℕ) → get rows key ≡ shown_at key es) where
  row-case : (key : List ℕ) (b : Bool) → eq_by_cmp by_text key e.key ≡ b → cond b (shown_slot e.version e.slot) (get rows key) ≡ shown_at key (entries_after es (e ∷ []))
  row-case key true is =
      let same : key ≡ e.key = same_text key e.key (texts_ties key e.key ∙ is) in
      sym (ap shown_by_entry (ap (λ (k : List ℕ). entry_at k (entries_after es (e ∷ []))) same ∙ entry_at-entered_same es e))
  row-case key false is =
      let apart : key ≢ e.key = λ same. (let tied = text_same key e.key same in let not = texts_ties key e.key ∙ is in absurd (cc)) in
      shown key ∙ sym (ap shown_by_entry (entry_at-entered_other key es e apart))

  pub row-with : (key : List ℕ) → get (rows_with rows e e.slot) key ≡ shown_at key (entries_after es (e ∷ []))
  row-with key = row-got rows e e.slot key ∙ row-case key (eq_by_cmp by_text key e.key) refl

-- ---- one owner that changes

upto-changed : (v : OwnerView) (t : Table) (c : Change) → v.upto ≡ t.held → (owner_view_with v c).upto ≡ (table_with t c).held
upto-changed v t (Enter e) same = refl
upto-changed v t Clear same = same
upto-changed v t (Hold upto) same = refl

row-changed : (v : OwnerView) (t : Table) (c : Change) → ((key : List ℕ) → get v.rows key ≡ shown_at key t.entries) → (key : List ℕ) → get (owner_view_with v c).rows key ≡ shown_at key (table_with t c).entries
row-changed v t (Enter e) shown key = row-with v.rows t.entries e shown key
row-changed v t Clear shown key = get-empty by_text key
row-changed v t (Hold upto) shown key = shown key

-- ---- the views of all owners

abbrev pub tables_with : (List ℕ → Table) → List ℕ → Change → List ℕ → Table
tables_with tables owner c o = cond (pointwise nat_eq owner o) (table_with (tables o) c) (tables o)

owner_view-cond : (b : Bool) (s : OwnerView) (o : Option OwnerView) → unwrap_or (cond b (Some s) o) no_view ≡ cond b s (unwrap_or o no_view)
owner_view-cond true s o = refl
owner_view-cond false s o = refl

pub tied : (owner o : List ℕ) → eq_by_cmp by_text o owner ≡ pointwise nat_eq owner o
tied owner o = (eq_by_cmp_equiv nat_list_cmp_total).symm o owner ∙ sym (texts_ties owner o)

owner_view-with : (view : NodeView) (owner : List ℕ) (c : Change) (o : List ℕ) → owner_view_of (view_with view owner c) o ≡ cond (pointwise nat_eq owner o) (owner_view_with (owner_view_of view owner) c) (owner_view_of view o)
owner_view-with view owner c o =
    ap (λ (found : Option OwnerView). unwrap_or found no_view) (get-insert nat_list_cmp_total view owner (owner_view_with (owner_view_of view owner) c) o)
    ∙ owner_view-cond (eq_by_cmp by_text o owner) (owner_view_with (owner_view_of view owner) c) (get view o)
    ∙ ap (λ (b : Bool). cond b (owner_view_with (owner_view_of view owner) c) (owner_view_of view o)) (tied owner o)

module _ (tables : List ℕ → Table) (view : NodeView) (is : ShowsTables tables view) (owner : List ℕ) (c : Change) where
  upto-case : (o : List ℕ) (b : Bool) → pointwise nat_eq owner o ≡ b
      → (cond b (owner_view_with (owner_view_of view owner) c) (owner_view_of view o)).upto ≡ (cond b (table_with (tables o) c) (tables o)).held
  upto-case o true same =
      upto-changed (owner_view_of view owner) (tables owner) c (is.upto owner)
      ∙ ap (λ (p : List ℕ). (table_with (tables p) c).held) (same_text owner o same)
  upto-case o false same = is.upto o

  row-owner_view : (o key : List ℕ) (b : Bool) → pointwise nat_eq owner o ≡ b
      → get (cond b (owner_view_with (owner_view_of view owner) c) (owner_view_of view o)).rows key ≡ shown_at key (cond b (table_with (tables o) c) (tables o)).entries
  row-owner_view o key true same =
      row-changed (owner_view_of view owner) (tables owner) c (is.row owner) key
      ∙ ap (λ (p : List ℕ). shown_at key (table_with (tables p) c).entries) (same_text owner o same)
  row-owner_view o key false same = is.row o key

  pub view-with : ShowsTables (tables_with tables owner c) (view_with view owner c)
  view-with =
      record {
        upto = λ o. ap (λ (s : OwnerView). s.upto) (owner_view-with view owner c o) ∙ upto-case o (pointwise nat_eq owner o) refl;
        row = λ o key. ap (λ (s : OwnerView). get s.rows key) (owner_view-with view owner c o) ∙ row-owner_view o key (pointwise nat_eq owner o) refl;
      }

same_tables : (t u : List ℕ → Table) (view : NodeView) → ((o : List ℕ) → t o ≡ u o) → ShowsTables t view → ShowsTables u view
same_tables t u view e is =
    record { upto = λ o. is.upto o ∙ ap (λ (table : Table). table.held) (e o); row = λ o key. is.row o key ∙ ap (λ (table : Table). shown_at key table.entries) (e o) }

-- a view sees no floor
pub alike_tables : (t u : List ℕ → Table) (view : NodeView) → ((o : List ℕ) → IsAlike (t o) (u o)) → ShowsTables t view → ShowsTables u view
alike_tables t u view alike is =
    record { upto = λ o. is.upto o ∙ (alike o).held; row = λ o key. is.row o key ∙ ap (λ (es : List Entry). shown_at key es) (alike o).entries }

abbrev batched : (List ℕ → Table) → List (List ℕ × Change) → List ℕ → Table
batched tables batch o = table_with_all (tables o) (of_owner o batch)

-- whether the first of the batch is the owner's or not
next-case : (t : Table) (p : List ℕ × Change) (b : Bool) (others : List (List ℕ × Change))
    → table_with_all (cond b (table_with t p.1) t) (map (λ q. q.1) others) ≡ table_with_all t (map (λ (q : List ℕ × Change). q.1) (cond b (p ∷ others) others))
next-case t p true others = refl
next-case t p false others = refl

pub view-with-all : (tables : List ℕ → Table) (view : NodeView) (batch : List (List ℕ × Change)) → ShowsTables tables view → ShowsTables (batched tables batch) (view_with_all view batch)
view-with-all tables view [] is = is
view-with-all tables view (p ∷ ps) is =
    same_tables (batched (tables_with tables p.0 p.1) ps) (batched tables (p ∷ ps)) (view_with_all view (p ∷ ps))
    (λ o. next-case (tables o) p (pointwise nat_eq p.0 o) (filter (λ q. pointwise nat_eq q.0 o) ps))
    (view-with-all (tables_with tables p.0 p.1) (view_with view p.0 p.1) ps (view-with tables view is p.0 p.1))
