-- What a node offers of its tables, and the blocks of a prefix of it.
use Rattle.std.specs.Prelude.{ℕ, Bool, true, false, ◌&&◌, ◌||◌, not, nat_lt, nat_eq, if◌then◌else◌, List, [], ◌∷◌, ◌++◌, map, filter, Option, Some, None}
use Rattle.std.specs.List.{filter_map}
use Rattle.std.specs.Cmp.Lexicographic.{pointwise}
use Rattle.sb_types.specs.Records.{Entry, Table, Block, Holder}
use Rattle.sb_types.specs.Runs.{newer_entries, last_version}

-- one entry of an owner, or only the news of how far it is held, with what its block needs
pub record Item : Type 0 where
  pub owner : List ℕ
  pub floor : ℕ
  pub after : ℕ
  pub upto : ℕ
  pub entry : Option Entry

-- an item for each entry; if there are none, only the news of how far the owner is held, if that is above the number
abbrev pub items_from : List ℕ → Table → ℕ → List Entry → List Item
items_from owner t number [] = if nat_lt number t.held then record { owner = owner; floor = t.floor; after = number; upto = t.held; entry = None } ∷ [] else []
items_from owner t number (e ∷ es) = map (λ x. record { owner = owner; floor = t.floor; after = number; upto = t.held; entry = Some x }) (e ∷ es)

-- what there is to offer of a table above the number
abbrev pub items_of : List ℕ → Table → ℕ → List Item
items_of owner t number = items_from owner t number (newer_entries number t.entries)

abbrev pub of_owner : List ℕ → List Item → List Item
of_owner owner items = filter (λ item. pointwise nat_eq item.owner owner) items

abbrev pub entries_of : List Item → List Entry
entries_of items = filter_map (λ item. item.entry) items

-- the block of these items of an owner: up to the sender's held version, or up to its last entry if other items follow
abbrev pub block_from : List ℕ → List Item → List Item → Block
block_from owner [] others = record { owner = owner; floor = 0; after = 0; upto = 0; entries = [] }
block_from owner (i ∷ is) [] = record { owner = owner; floor = i.floor; after = i.after; upto = i.upto; entries = entries_of (i ∷ is) }
block_from owner (i ∷ is) (j ∷ js) = record { owner = owner; floor = i.floor; after = i.after; upto = last_version i.after (entries_of (i ∷ is)); entries = entries_of (i ∷ is) }

-- the block of an owner in a prefix of the items; rest is what comes after the prefix
abbrev pub block_of : List ℕ → List Item → List Item → Block
block_of owner front rest = block_from owner (of_owner owner front) (of_owner owner rest)

-- one of the pairs has this name
abbrev pub is_named : List ℕ → List (List ℕ × Holder) → Bool
is_named owner [] = false
is_named owner (p ∷ ps) = pointwise nat_eq p.0 owner || is_named owner ps

abbrev pub are_named_once : List (List ℕ × Holder) → Bool
are_named_once [] = true
are_named_once (p ∷ ps) = not (is_named p.0 ps) && are_named_once ps

-- what is offered of all owners that are covered: of each its offered table, above its number
abbrev pub available_items : (List ℕ → Bool) → (List ℕ → Table → Table) → (List ℕ → Table → ℕ) → List (List ℕ × Holder) → List Item
available_items covers offered number [] = []
available_items covers offered number (p ∷ ps) = (if covers p.0 then items_of p.0 (offered p.0 p.1.shown) (number p.0 p.1.shown) else []) ++ available_items covers offered number ps
