-- When a node purges its own table, and up to which version.
use Rattle.std.specs.Prelude.{ℕ, ◌+◌, ◌-◌, ◌/◌, Bool, ◌&&◌, ◌||◌, not, nat_lt, nat_le, if◌then◌else◌, List, filter, length, slice_get, Option, None, Result, Ok, Err}
use Rattle.std.specs.Option.{option_map}
use Rattle.sb_types.specs.declared.fault.Fault.{Fault}
use Rattle.sb_types.specs.declared.fault.Fault.TheVariants.{FloorTooHigh}
use Rattle.sb_types.specs.declared.limits.TheConstants.{KEYS_MOST}
use Rattle.sb_types.specs.Records.{Entry, Table}
use Rattle.sb_types.specs.Runs.{is_set}
use Rattle.sb_holdings.specs.Held.{shown_of}
use Rattle.sb_holdings.specs.Nodes.{Node}

-- the tombstones (markers of removed keys), in ascending version
abbrev pub removals : List Entry → List Entry
removals entries = filter (λ e. not (is_set e.slot)) entries

-- how many of these entries are
abbrev pub removals_in : List Entry → ℕ
removals_in entries = length (removals entries)

-- how many of them a full table has at least before it is purged
abbrev pub FULL_REMOVALS : ℕ
FULL_REMOVALS = 64

-- there are so many removals, or the table is full and has some; never if the number is 0
abbrev pub is_purge_due : ℕ → ℕ → ℕ → Bool
is_purge_due least keys removed = nat_lt 0 least && (nat_le least removed || (nat_le KEYS_MOST keys && nat_le FULL_REMOVALS removed))

-- the version of the middle removal: the older half of the removals goes
abbrev pub due_floor : ℕ → Table → Option ℕ
due_floor least t =
    let removed = removals_in t.entries in
    if is_purge_due least (length t.entries) removed then option_map (λ e. e.version) (slice_get (removals t.entries) ((removed + 1) / 2 - 1)) else None

-- the answer to a purge of the own table up to this version
abbrev pub purge_answer : Node → ℕ → Result (Unit {0}) Fault
purge_answer node floor = if nat_lt (shown_of node.held node.held.me).held floor then Err FloorTooHigh else Ok tt
