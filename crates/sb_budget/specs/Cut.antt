-- The longest prefix of what is offered that fits a budget, as a delta.
use Rattle.std.specs.Prelude.{◌≡◌, ◌≢◌, ℕ, ◌+◌, ◌≤◌, ◌<◌, List, [], ◌∷◌, length, take, drop, map, fold, All, None}
use Rattle.std.specs.List.{filter_map}
use Rattle.std.specs.Ordering.{nat_cmp, match_ordering}
use Rattle.std.specs.Cmp.Lexicographic.{slice_cmp}
use Rattle.sb_types.specs.declared.format.TheConstants.{HEADER_LENGTH}
use Rattle.sb_types.specs.Records.{Entry, Block}
use Rattle.sb_types.specs.Runs.{Stands, IsRun}
use Rattle.sb_types.specs.Lengths.{delta_length}
use Rattle.sb_budget.specs.declared.offered.Offered.{Offered}
use Rattle.sb_budget.specs.Offers.{Item, block_of}
use Rattle.sb_budget.specs.Orders.{offered_by}

-- what is offered, as an item
abbrev pub item_of : Offered → Item
item_of o = record { owner = o.owner; floor = o.floor; after = o.after; upto = o.upto; entry = o.entry }

abbrev pub items_of_all : List Offered → List Item
items_of_all offered = map item_of offered

-- a name in its place among ascending names, if it is not there yet
abbrev pub with_name : List ℕ → List (List ℕ) → List (List ℕ)
with_name name [] = name ∷ []
with_name name (first ∷ names) = match_ordering (slice_cmp nat_cmp first name) (first ∷ with_name name names) (first ∷ names) (name ∷ first ∷ names)

-- the owners of these items, each once, in ascending order of their names
abbrev pub owners_of : List Item → List (List ℕ)
owners_of items = fold (λ names item. with_name item.owner names) [] items

-- a block for each owner in a prefix of the items; rest is what comes after the prefix
abbrev pub blocks_of : List Item → List Item → List Block
blocks_of front rest = map (λ owner. block_of owner front rest) (owners_of front)

-- the delta of the first n items
abbrev pub delta_at : ℕ → List Item → List Block
delta_at n items = blocks_of (take n items) (drop n items)

abbrev pub delta_frame_length : List Block → ℕ
delta_frame_length delta = HEADER_LENGTH + delta_length delta

-- the delta of the longest prefix whose frame has at most budget bytes
pub record IsCut (budget : ℕ) (items : List Item) (delta : List Block) : Type 0 where
  pub count : ℕ
  pub within : count ≤ length items
  pub blocks : delta ≡ delta_at count items
  pub fits : delta_frame_length delta ≤ budget
  pub longest : (n : ℕ) → count < n → n ≤ length items → budget < delta_frame_length (delta_at n items)

-- the entries of these items
abbrev pub entries_in : List Offered → List Entry
entries_in offered = filter_map (λ o. o.entry) offered

-- one owner's items: with the same floor, after and upto, in ascending version, each key once; an item without an entry
-- is the only one
pub record IsPart (floor after upto : ℕ) (part : List Offered) : Type 0 where
  pub each : All (λ o. (o.floor ≡ floor) × (o.after ≡ after) × (o.upto ≡ upto)) part
  pub run : IsRun after upto (entries_in part)
  pub order : part ≢ [] → after < upto
  pub alone : (o : Offered) → Stands part o → o.entry ≡ None → part ≡ o ∷ []

-- each owner's items are such a part, in their order
abbrev pub CanCut : List Offered → Type 0
CanCut offered = (owner : List ℕ) → (floor : ℕ) × (after : ℕ) × (upto : ℕ) × IsPart floor after upto (offered_by owner offered)
