-- What changes of an owner in its table, and the changes by which a view follows.
use Rattle.std.specs.Prelude.{◌≡◌, ◌++◌, ℕ, nat_eq, nat_lt, if◌then◌else◌, List, [], ◌∷◌, map, filter, flat_map, None}
use Rattle.std.specs.Cmp.Lexicographic.{pointwise}
use Rattle.sb_types.specs.Records.{Table}
use Rattle.sb_types.specs.Runs.{newer_entries, last_version}
use Rattle.sb_table.specs.Plain.{with_entry}
use Rattle.sb_holdings.specs.Held.{Held, shown_of}
use Rattle.sb_holdings.specs.Plain.{tables_from}
use Rattle.sb_views.specs.declared.change.Change.{Change}
use Rattle.sb_views.specs.declared.change.Change.TheVariants.{Enter, Clear, Hold}
use Rattle.sb_views.specs.declared.change.ChangeRef.{ChangeRef}
use Rattle.sb_views.specs.declared.change.ChangeRef.TheVariants as lent

-- the change of these parts
abbrev pub change_of : ChangeRef → Change
change_of (lent.Enter entry) = Enter entry.now
change_of lent.Clear = Clear
change_of (lent.Hold upto) = Hold upto

-- the owner's table with the change: the entry in place of its key's, no entries, or held up to the version
abbrev pub table_with : Table → Change → Table
table_with t (Enter e) = with_entry t e
table_with t Clear = record { held = t.held; floor = t.floor; entries = [] }
table_with t (Hold upto) = record { held = upto; floor = t.floor; entries = t.entries }

-- the table with changes made in turn
abbrev pub table_with_all : Table → List Change → Table
table_with_all t [] = t
table_with_all t (c ∷ cs) = table_with_all (table_with t c) cs

-- those of one owner
abbrev pub of_owner : List ℕ → List (List ℕ × Change) → List Change
of_owner owner batch = map (λ p. p.1) (filter (λ p. pointwise nat_eq p.0 owner) batch)

-- both hold up to one version and have the same entries; a view shows no floor
pub record IsAlike (t u : Table) : Type 0 where
  pub held : t.held ≡ u.held
  pub entries : t.entries ≡ u.entries

-- of each owner the table of the one, with the batch's changes of that owner made in turn, is alike to that of the other
abbrev pub Leads : Held → Held → List (List ℕ × Change) → Type 0
Leads old new batch = (owner : List ℕ) → IsAlike (table_with_all (shown_of old owner) (of_owner owner batch)) (shown_of new owner)

-- changes, each with the owner
abbrev pub changes_of_owner : List ℕ → List Change → List (List ℕ × Change)
changes_of_owner owner changes = map (λ c. (owner, c)) changes

-- where the owner is held beyond the last version that was entered, this is said
abbrev pub held_beyond : ℕ → ℕ → List Change
held_beyond last upto = if nat_lt last upto then Hold upto ∷ [] else []

-- the table's entries above a version, and then how far it is held
abbrev pub changes_above : ℕ → Table → List Change
changes_above version t = map Enter (newer_entries version t.entries) ++ held_beyond (last_version version (newer_entries version t.entries)) t.held

-- what a view lacks of the table that has it up to a version and with a floor: all entries anew, where the floor rose
abbrev pub lacked_of : ℕ → ℕ → Table → List Change
lacked_of version floor t = if nat_lt floor t.floor then Clear ∷ changes_above 0 t else changes_above version t

-- what a view without owners lacks, owner by owner
abbrev pub all_changes : Held → List (List ℕ × Change)
all_changes held = flat_map (λ p. changes_of_owner p.0 (changes_above 0 p.1)) (tables_from None held)
