-- Lists of entries: their order, their keys, and their parts.
use Rattle.std.specs.Prelude.{◌≡◌, ℕ, ◌≤◌, ◌<◌, Bool, true, false, ◌&&◌, ◌||◌, not, nat_lt, nat_le, nat_eq, List, [], ◌∷◌, ◌++◌, ◌⊎◌, filter, find, Option, Some, None}
use Rattle.std.specs.Cmp.Lexicographic.{pointwise}
use Rattle.std.specs.List.{list_any}
use Rattle.sb_types.specs.declared.entry.Slot.{Slot}
use Rattle.sb_types.specs.declared.entry.Slot.TheVariants.{Set, Removed}
use Rattle.sb_types.specs.Value.{Value}
use Rattle.sb_types.specs.Records.{Entry, Table, Block}

-- the list contains the element
abbrev pub Stands : {X : Type 0} → List X → X → Type 0
Stands [] e = ⊥
Stands (x ∷ xs) e = (x ≡ e) ⊎ Stands xs e

-- each version is above the one before it, and the first is above last
abbrev pub are_ascending : ℕ → List Entry → Bool
are_ascending last [] = true
are_ascending last (x ∷ xs) = nat_lt last x.version && are_ascending x.version xs

-- an entry of the list has this key
abbrev pub has_key : List ℕ → List Entry → Bool
has_key key entries = list_any (λ entry. pointwise nat_eq entry.key key) entries

-- each key occurs once
abbrev pub are_distinct : List Entry → Bool
are_distinct [] = true
are_distinct (entry ∷ entries) = not (has_key entry.key entries) && are_distinct entries

-- the version of the last entry, or the one before if there is no entry
abbrev pub last_version : ℕ → List Entry → ℕ
last_version before [] = before
last_version before (entry ∷ entries) = last_version entry.version entries

-- the entries above a version
abbrev pub newer_entries : ℕ → List Entry → List Entry
newer_entries version entries = filter (λ entry. nat_lt version entry.version) entries

-- the entries up to a version
abbrev pub entries_up_to : ℕ → List Entry → List Entry
entries_up_to version entries = filter (λ entry. nat_le entry.version version) entries

-- the entries whose key none of the others has
abbrev pub entries_without_keys : List Entry → List Entry → List Entry
entries_without_keys others entries = filter (λ entry. not (has_key entry.key others)) entries

-- the entries whose key one of the others has
abbrev pub entries_with_keys : List Entry → List Entry → List Entry
entries_with_keys others entries = filter (λ entry. has_key entry.key others) entries

abbrev pub is_set : Slot → Bool
is_set (Set value) = true
is_set Removed = false

-- the entries without the tombstones (markers of removed keys) at or below the floor
abbrev pub live_entries : ℕ → List Entry → List Entry
live_entries floor entries = filter (λ entry. is_set entry.slot || nat_lt floor entry.version) entries

-- the entries after the others were entered, each in place of the old entry of its key
abbrev pub entries_after : List Entry → List Entry → List Entry
entries_after entries others = entries_without_keys others entries ++ others

-- entries of versions above after and at most upto, in ascending version, each key once
pub record IsRun (after upto : ℕ) (entries : List Entry) : Type 0 where
  pub ascending : are_ascending after entries ≡ true
  pub most : last_version after entries ≤ upto
  pub distinct : are_distinct entries ≡ true

pub record IsTable (t : Table) : Type 0 where
  pub run : IsRun 0 t.held t.entries
  pub floor : t.floor ≤ t.held
  -- it has no tombstone at or below the floor
  pub live : live_entries t.floor t.entries ≡ t.entries

pub record IsBlock (b : Block) : Type 0 where
  pub run : IsRun b.after b.upto b.entries
  pub order : b.after < b.upto

-- the entry of a key, if there is one
abbrev pub entry_at : List ℕ → List Entry → Option Entry
entry_at key entries = find (λ entry. pointwise nat_eq entry.key key) entries

abbrev pub shown_slot : ℕ → Slot → Option (Value × ℕ)
shown_slot version (Set value) = Some (value, version)
shown_slot version Removed = None

abbrev pub shown_by_entry : Option Entry → Option (Value × ℕ)
shown_by_entry None = None
shown_by_entry (Some e) = shown_slot e.version e.slot

-- what a reader is shown of a key: the value and its version, or nothing for a tombstone or an absent key
abbrev pub shown_at : List ℕ → List Entry → Option (Value × ℕ)
shown_at key entries = shown_by_entry (entry_at key entries)
