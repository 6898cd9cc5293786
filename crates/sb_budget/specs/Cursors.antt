-- The place of a cursor among what is offered of an owner.
use Rattle.std.specs.Prelude.{◌≡◌, ℕ, ◌+◌, ◌<◌, List, [], ◌∷◌, length, Option, Some, None}
use Rattle.sb_types.specs.Records.{Entry, Table}
use Rattle.sb_types.specs.Runs.{newer_entries}
use Rattle.sb_budget.specs.declared.offered.Offered.{Offered}
use Rattle.sb_budget.specs.Available.{ranked_item, ranked_from, ranked_of}
use Rattle.sb_budget.specs.Parts.{Part}

-- the first item and those after it, if there is one
abbrev pub first_part : List Offered → Part
first_part [] = record { next = record { owner = []; floor = 0; after = 0; upto = 0; rank = 0; count = 0; entry = None }; later = [] }
first_part (o ∷ os) = record { next = o; later = os }

-- at an entry: how many offered ones come before it, and those after it
pub record Place : Type 0 where
  pub rank : ℕ
  pub entry : Entry
  pub later : List Entry

-- the first of these entries, and those after it
abbrev pub first_place : List Entry → Option Place
first_place [] = None
first_place (e ∷ es) = Some (record { rank = 0; entry = e; later = es })

-- what is still to be sent of an owner: if there is no place yet, all that is offered of it
abbrev pub part_at : List ℕ → Table → ℕ → Option Place → Part
part_at owner table after None = first_part (ranked_of owner table after)
part_at owner table after (Some p) =
    let count = length (newer_entries after table.entries) in
    record {
      next = ranked_item p.rank owner table after count (Some p.entry);
      later = ranked_from (p.rank + 1) owner table after count p.later;
    }

-- the entries before the place, at it and after it are all that are above the version. Without a place, the table is
-- held above it
abbrev pub IsPlace : Table → ℕ → Option Place → Type 0
IsPlace table after None = after < table.held
IsPlace table after (Some p) = p.rank + length (p.entry ∷ p.later) ≡ length (newer_entries after table.entries)
