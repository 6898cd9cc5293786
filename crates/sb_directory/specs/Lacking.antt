-- What views lack.
use Rattle.std.specs.Prelude.{◌≡◌, ℕ, true, if◌then◌else◌, List, [], ◌∷◌, flat_map, Option, Some, None}
use Rattle.std.specs.Ordering.{nat_cmp}
use Rattle.std.specs.Cmp.Lexicographic.{slice_cmp}
use Rattle.std.specs.FinMap.{FinMap, get, contains_key, insert, entries, from_sorted}
use Rattle.sb_types.specs.Records.{Table, Block}
use Rattle.sb_holdings.specs.Held.{Held, shown_of}
use Rattle.sb_views.specs.declared.change.Change.{Change}
use Rattle.sb_views.specs.Changes.{changes_of_owner, lacked_of}

-- the owners of whom views may lack something, each with the version up to which they have it and the floor that its table had
abbrev pub LackingOwners : Type 0
LackingOwners = FinMap (slice_cmp nat_cmp) (ℕ × ℕ)

-- of a list in the order of the names
abbrev pub lacking_by : List (List ℕ × (ℕ × ℕ)) → LackingOwners
lacking_by owners = from_sorted owners

-- up to which version an owner is held, and the floor of its table
abbrev pub since_of : Held → List ℕ → ℕ × ℕ
since_of held owner = ((shown_of held owner).held, (shown_of held owner).floor)

-- with an owner added; one that stands there keeps its version and its floor
abbrev pub with_owner : LackingOwners → List ℕ → ℕ × ℕ → LackingOwners
with_owner lacking owner since = if contains_key lacking owner then lacking else insert lacking owner since

-- the owners of these blocks all stand there
abbrev pub HasOwners : LackingOwners → List Block → Type 0
HasOwners lacking [] = Unit {0}
HasOwners lacking (b ∷ bs) = (contains_key lacking b.owner ≡ true) × HasOwners lacking bs

-- what views lack of these owners that have them up to these versions and with these floors
abbrev pub lacked_since : List (List ℕ × (ℕ × ℕ)) → Held → List (List ℕ × Change)
lacked_since owners held = flat_map (λ p. changes_of_owner p.0 (lacked_of p.1.0 p.1.1 (shown_of held p.0))) owners

-- all that views lack, owner by owner
abbrev pub all_lacked : LackingOwners → Held → List (List ℕ × Change)
all_lacked lacking held = lacked_since (entries lacking) held

-- an owner that stands there has the version that was held before, and the floor from then; of another all is as it was
abbrev pub IsSince : Table → Table → Option (ℕ × ℕ) → Type 0
IsSince old new None = new ≡ old
IsSince old new (Some since) = (since.0 ≡ old.held) × (since.1 ≡ old.floor)

-- it has each owner of whom another table is held now than before, with the version and the floor from then
abbrev pub AreSince : Held → Held → LackingOwners → Type 0
AreSince old new lacking = (owner : List ℕ) → IsSince (shown_of old owner) (shown_of new owner) (get lacking owner)
