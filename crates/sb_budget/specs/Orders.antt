-- What is offered, and what an order of it keeps.
use Rattle.std.specs.Prelude.{◌≡◌, ℕ, ◌<◌, nat_eq, List, filter, AllPairs}
use Rattle.std.specs.Cmp.Lexicographic.{pointwise}
use Rattle.std.specs.Option.{option_map_or}
use Rattle.sb_budget.specs.declared.offered.Offered.{Offered}

-- one owner's items, in the order that they have in the list
abbrev pub offered_by : List ℕ → List Offered → List Offered
offered_by owner items = filter (λ item. pointwise nat_eq item.owner owner) items

-- the version of an item's entry; or, if it has none, the sender's held version of the owner
abbrev pub version_of : Offered → ℕ
version_of item = option_map_or (λ e. e.version) item.entry item.upto

-- if both are of one owner, the first has the smaller version and the smaller rank, and both have the same count
abbrev pub Precedes : Offered → Offered → Type 0
Precedes x y = x.owner ≡ y.owner → (version_of x < version_of y) × (x.rank < y.rank) × (x.count ≡ y.count)

-- each owner's items are in ascending version, and their ranks ascend too
abbrev pub IsOffer : List Offered → Type 0
IsOffer items = AllPairs Precedes items

-- each owner's items are in ascending version
abbrev pub AscendsByOwner : List Offered → Type 0
AscendsByOwner items = AllPairs (λ x y. x.owner ≡ y.owner → version_of x < version_of y) items
