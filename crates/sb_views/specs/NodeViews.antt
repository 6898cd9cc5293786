-- The view of a node: what its readers get.
use Rattle.std.specs.Prelude.{◌≡◌, ℕ, true, false, List, [], ◌∷◌, map, filter, nat_lt, Option, unwrap_or}
use Rattle.std.specs.Ordering.{nat_cmp}
use Rattle.std.specs.Cmp.Lexicographic.{slice_cmp}
use Rattle.std.specs.FinMap.{FinMap, empty, get, insert, remove, from_sorted}
use Rattle.sb_types.specs.declared.entry.Slot.{Slot}
use Rattle.sb_types.specs.declared.entry.Slot.TheVariants.{Set, Removed}
use Rattle.sb_types.specs.Value.{Value, Flag}
use Rattle.sb_types.specs.Records.{Entry, Table}
use Rattle.sb_types.specs.Runs.{Stands, is_set, shown_at}
use Rattle.sb_table.specs.Order.{IsRising}
use Rattle.sb_views.specs.declared.change.Change.{Change}
use Rattle.sb_views.specs.declared.change.Change.TheVariants.{Enter, Clear, Hold}

-- the view of one owner: up to which version it is held, and under each key that is live its value, with the version of its write
pub record OwnerView : Type 0 where
  pub upto : ℕ
  pub rows : FinMap (slice_cmp nat_cmp) (Value × ℕ)

-- the value of a slot that is set
abbrev pub set_value : Slot → Value
set_value (Set value) = value
set_value Removed = Flag false

-- what is live of an entry that sets its key: the value, with the version of its write
abbrev pub live_of : Entry → Value × ℕ
live_of e = (set_value e.slot, e.version)

-- of each entry its key, and what is live under it
abbrev pub live_rows_of : List Entry → List (List ℕ × (Value × ℕ))
live_rows_of entries = map (λ e. (e.key, live_of e)) entries

-- each entry sets its key
abbrev pub AllSet : List Entry → Type 0
AllSet entries = (e : Entry) → Stands entries e → is_set e.slot ≡ true

-- the entries are live, in ascending order of their keys
pub record AreLive (entries : List Entry) : Type 0 where
  pub rising : IsRising entries
  pub set : AllSet entries

-- the views of the owners, by name
abbrev pub NodeView : Type 0
NodeView = FinMap (slice_cmp nat_cmp) OwnerView

-- of a list in the order of its keys
abbrev pub rows_of : List (List ℕ × (Value × ℕ)) → FinMap (slice_cmp nat_cmp) (Value × ℕ)
rows_of rows = from_sorted rows

abbrev pub view_of : List (List ℕ × OwnerView) → NodeView
view_of owners = from_sorted owners

-- the owners that are held above version 0, with their views
abbrev pub shown_owners : List (List ℕ × OwnerView) → List (List ℕ × OwnerView)
shown_owners owners = filter (λ p. nat_lt 0 p.1.upto) owners

abbrev pub no_view : OwnerView
no_view = record { upto = 0; rows = empty }

abbrev pub owner_view_of : NodeView → List ℕ → OwnerView
owner_view_of view owner = unwrap_or (get view owner) no_view

abbrev pub upto_of : NodeView → List ℕ → ℕ
upto_of view owner = (owner_view_of view owner).upto

abbrev pub row_of : NodeView → List ℕ → List ℕ → Option (Value × ℕ)
row_of view owner key = get (owner_view_of view owner).rows key

-- the view shows these tables: of each owner the version that is held, and what it has under each key
pub record ShowsTables (tables : List ℕ → Table) (view : NodeView) : Type 0 where
  pub upto : (owner : List ℕ) → upto_of view owner ≡ (tables owner).held
  pub row : (owner key : List ℕ) → row_of view owner key ≡ shown_at key (tables owner).entries

abbrev pub rows_with : FinMap (slice_cmp nat_cmp) (Value × ℕ) → Entry → Slot → FinMap (slice_cmp nat_cmp) (Value × ℕ)
rows_with rows e (Set value) = insert rows e.key (value, e.version)
rows_with rows e Removed = remove rows e.key

-- the owner's view with the change: what the write puts under its key, no rows, or held up to the version
abbrev pub owner_view_with : OwnerView → Change → OwnerView
owner_view_with owner_view (Enter e) = record { upto = e.version; rows = rows_with owner_view.rows e e.slot }
owner_view_with owner_view Clear = record { upto = owner_view.upto; rows = empty }
owner_view_with owner_view (Hold upto) = record { upto = upto; rows = owner_view.rows }

abbrev pub view_with : NodeView → List ℕ → Change → NodeView
view_with view owner change = insert view owner (owner_view_with (owner_view_of view owner) change)

-- the view with changes of owners made in turn
abbrev pub view_with_all : NodeView → List (List ℕ × Change) → NodeView
view_with_all view [] = view
view_with_all view (p ∷ ps) = view_with_all (view_with view p.0 p.1) ps
