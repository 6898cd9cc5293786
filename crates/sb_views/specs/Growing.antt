-- What is held some events later, and what of it is new.
use Rattle.std.specs.Prelude.{◌≡◌, ℕ, ◌≤◌, List, None, flat_map}
use Rattle.sb_types.specs.Records.{Table}
use Rattle.sb_types.specs.Runs.{newer_entries, entries_after}
use Rattle.sb_holdings.specs.Held.{Held, shown_of}
use Rattle.sb_holdings.specs.Plain.{tables_from}
use Rattle.sb_views.specs.declared.change.Change.{Change}
use Rattle.sb_views.specs.Changes.{changes_of_owner, lacked_of}

-- neither the version that is held nor the floor fell; where the floor stayed, the new entries are the old ones with those
-- entered that are above what was held
pub record IsGrown (old new : Table) : Type 0 where
  pub held : old.held ≤ new.held
  pub floor : old.floor ≤ new.floor
  pub grown : new.floor ≡ old.floor → new.entries ≡ entries_after old.entries (newer_entries old.held new.entries)

-- so it is of each owner
abbrev pub AreGrown : Held → Held → Type 0
AreGrown old new = (owner : List ℕ) → IsGrown (shown_of old owner) (shown_of new owner)

-- of each owner what a view of the old table lacks of the new one, owner by owner
abbrev pub new_changes : Held → Held → List (List ℕ × Change)
new_changes old new = flat_map (λ p. changes_of_owner p.0 (lacked_of (shown_of old p.0).held (shown_of old p.0).floor p.1)) (tables_from None new)
