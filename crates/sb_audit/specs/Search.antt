-- How a foreign or a missing entry is looked for.
use Rattle.std.specs.Prelude.{ℕ, Bool, true, false, ◌&&◌, ◌||◌, not, nat_lt, nat_le, nat_eq, if◌then◌else◌, List, [], ◌∷◌, find, Option, Some, None}
use Rattle.std.specs.Cmp.Lexicographic.{pointwise}
use Rattle.sb_types.specs.declared.entry.Slot.{Slot}
use Rattle.sb_types.specs.declared.entry.Slot.TheVariants.{Set, Removed}
use Rattle.sb_types.specs.Kinds.{is_same_value}
use Rattle.sb_types.specs.Records.{Entry, Table, Block}
use Rattle.sb_types.specs.Runs.{entry_at, is_set}
use Rattle.sb_table.specs.Floors.{is_dead}
use Rattle.sb_audit.specs.declared.foreign.Reason.{Reason}
use Rattle.sb_audit.specs.declared.foreign.Reason.TheVariants.{AheadOfLog, OtherSlot, OtherKey, LaterWrite, EarlierWrite, UnknownKey}

-- the entry of a version, if there is one
abbrev pub entry_of : ℕ → List Entry → Option Entry
entry_of version entries = find (λ entry. nat_eq entry.version version) entries

abbrev pub is_same_slot : Slot → Slot → Bool
is_same_slot (Set value) (Set other) = is_same_value value other
is_same_slot (Set value) Removed = false
is_same_slot Removed (Set other) = false
is_same_slot Removed Removed = true

abbrev pub or_other : Option Entry → Option Entry → Option Entry
or_other (Some e) other = Some e
or_other None other = other

-- the own entry that an entry differs from: that of its version, or else that of its key
abbrev pub own_beside : Table → Entry → Option Entry
own_beside t e = or_other (entry_of e.version t.entries) (entry_at e.key t.entries)

-- the reason, if the own table has this entry of the same version
abbrev pub reason_beside : Entry → Entry → Option Reason
reason_beside own e =
    if not (pointwise nat_eq own.key e.key) then Some OtherKey
    else (if is_same_slot own.slot e.slot then None else Some OtherSlot)

-- the reason, if the own table has no entry of the same version, and this one of the same key
abbrev pub reason_by_key : ℕ → ℕ → Entry → Option Entry → Option Reason
reason_by_key floor upto e (Some own) =
    if nat_lt own.version e.version then Some LaterWrite
    else (if nat_le own.version upto then Some EarlierWrite else None)
reason_by_key floor upto e None = if nat_lt floor e.version || (is_set e.slot && nat_le floor upto) then Some UnknownKey else None

abbrev pub reason_by_version : Table → ℕ → Entry → Option Entry → Option Reason
reason_by_version t upto e (Some own) = reason_beside own e
reason_by_version t upto e None = reason_by_key t.floor upto e (entry_at e.key t.entries)

abbrev pub reason_of : Table → ℕ → Entry → Option Reason
reason_of t upto e = if nat_lt t.held e.version then Some AheadOfLog else reason_by_version t upto e (entry_of e.version t.entries)

-- the entry and its reason, if it has one; else what follows
abbrev pub or_foreign : Entry → Option Reason → Option (Entry × Reason) → Option (Entry × Reason)
or_foreign e (Some reason) others = Some (e, reason)
or_foreign e None others = others

-- the first entry that has a reason
abbrev pub first_foreign : Table → ℕ → List Entry → Option (Entry × Reason)
first_foreign t upto [] = None
first_foreign t upto (e ∷ es) = or_foreign e (reason_of t upto e) (first_foreign t upto es)

abbrev pub is_same_entry : Entry → Entry → Bool
is_same_entry own e = pointwise nat_eq own.key e.key && is_same_slot own.slot e.slot

abbrev pub is_entry : Entry → Option Entry → Bool
is_entry own None = false
is_entry own (Some e) = is_same_entry own e

-- the own entry is neither in the block nor a tombstone that its floor lets go
abbrev pub is_lacking : Block → Entry → Bool
is_lacking b own = not (is_dead b.floor own) && not (is_entry own (entry_of own.version b.entries))

-- the first of these entries that the block lacks, up to its upto
abbrev pub first_lacking : Block → List Entry → Option Entry
first_lacking b [] = None
first_lacking b (own ∷ entries) =
    if nat_lt b.upto own.version then None else (if is_lacking b own then Some own else first_lacking b entries)
