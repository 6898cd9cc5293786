-- What a node offers in answer to a digest.
use Rattle.std.specs.Prelude.{◌≡◌, ℕ, ◌+◌, nat_lt, if◌then◌else◌, List, [], ◌∷◌, length, count_by, All, Option, Some, None}
use Rattle.std.specs.FinMap.{entries}
use Rattle.sb_types.specs.Records.{Entry, Table}
use Rattle.sb_types.specs.Runs.{newer_entries}
use Rattle.sb_table.specs.Floors.{table_at_floor}
use Rattle.sb_holdings.specs.Held.{Held}
use Rattle.sb_digest.specs.Digests.{Digest, covers, number_in, floor_in}
use Rattle.sb_budget.specs.declared.offered.Offered.{Offered}
use Rattle.sb_budget.specs.Offers as offers
use Rattle.sb_budget.specs.Orders.{offered_by, version_of}

-- the number of an owner for a sender that has this table
abbrev pub number_for : Digest → List ℕ → Table → ℕ
number_for digest owner table = number_in digest owner table.floor table.held

-- an owner's table as it is offered: as if it were purged up to the floor under which its sender starts
abbrev pub offered_table : Digest → List ℕ → Table → Table
offered_table digest owner table = table_at_floor table.held (floor_in digest owner table.floor table.held) table

-- for each owner that the digest covers, what its offered table has above its number
abbrev pub available_for : Held → Digest → List offers.Item
available_for held digest = offers.available_items (covers digest) (offered_table digest) (number_for digest) (entries held.owners)

-- how many of the owner's items have a smaller version
abbrev pub rank_of : List Offered → Offered → ℕ
rank_of offered o = count_by (λ x. nat_lt (version_of x) (version_of o)) (offered_by o.owner offered)

-- how many items the owner has
abbrev pub count_of : List Offered → Offered → ℕ
count_of offered o = length (offered_by o.owner offered)

-- each item has its rank and its owner's count
abbrev pub AreRanked : List Offered → Type 0
AreRanked offered = All (λ o. (o.rank ≡ rank_of offered o) × (o.count ≡ count_of offered o)) offered

-- an item of an owner's table above a number
abbrev pub ranked_item : ℕ → List ℕ → Table → ℕ → ℕ → Option Entry → Offered
ranked_item rank owner t number count entry =
    record { owner = owner; floor = t.floor; after = number; upto = t.held; rank = rank; count = count; entry = entry }

-- these entries of it, with ranks from this one on
abbrev pub ranked_from : ℕ → List ℕ → Table → ℕ → ℕ → List Entry → List Offered
ranked_from rank owner t number count [] = []
ranked_from rank owner t number count (e ∷ es) = ranked_item rank owner t number count (Some e) ∷ ranked_from (rank + 1) owner t number count es

-- an item for each entry; if there are none, only the news of how far the owner is held, if that is above the number
abbrev pub ranked_these : List ℕ → Table → ℕ → List Entry → List Offered
ranked_these owner t number [] = if nat_lt number t.held then ranked_item 0 owner t number 1 None ∷ [] else []
ranked_these owner t number (e ∷ es) = ranked_from 0 owner t number (length (e ∷ es)) (e ∷ es)

-- what is offered of one owner's table
abbrev pub ranked_of : List ℕ → Table → ℕ → List Offered
ranked_of owner t number = ranked_these owner t number (newer_entries number t.entries)
