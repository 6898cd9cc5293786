-- What a node keeps, and what is read from it.
use Rattle.std.specs.Prelude.{◌≡◌, ℕ, ◌+◌, ◌%◌, ◌^◌, ◌≤◌, Bool, true, false, not, ◌==◌, if◌then◌else◌, nat_eq, List, map, filter, length, Option, Some, None, IfSome, IsSomeAnd, Result, Ok, Err}
use Rattle.std.specs.Option.{option_map}
use Rattle.std.specs.Ordering.{nat_cmp, is_le}
use Rattle.std.specs.Cmp.Lexicographic.{slice_cmp, pointwise}
use Rattle.std.specs.FinMap.{get, entries, len, from_sorted}
use Rattle.sb_types.specs.declared.limits.TheConstants.{OWNERS_MOST, KEYS_MOST}
use Rattle.sb_types.specs.Records.{Entry, Table, Holder}
use Rattle.sb_types.specs.Runs.{entries_after, last_version}
use Rattle.sb_types.specs.Writes.{IsHolder}
use Rattle.sb_types.specs.declared.fault.Fault.{Fault}
use Rattle.sb_types.specs.declared.fault.Fault.TheVariants.{OutOfTurn, TableFull}
use Rattle.sb_table.specs.Plain.{is_full_for}
use Rattle.sb_holdings.specs.Held.{Held, is_nothing, shown_of}

-- the table without a stage beside it
abbrev pub table_holder : Table → Holder
table_holder t = record { shown = t; stage = None }

-- the table with others entered, each in place of its key's old entry
abbrev pub with_entries : Table → List Entry → Table
with_entries t others = record { held = last_version t.held others; floor = t.floor; entries = entries_after t.entries others }

-- the own name, and what is held of these owners, whose names ascend
abbrev pub held_of : List ℕ → List (List ℕ × Holder) → Held
held_of me holders = record { me = me; owners = from_sorted holders }

-- a shown table, and perhaps a stage whose floor is above its held version; neither is too large, and the stage is not
-- empty
pub record IsKeptHolder (h : Holder) : Type 0 where
  pub is : IsHolder h
  pub limit : length h.shown.entries ≤ KEYS_MOST
  pub staged : IfSome h.stage (λ s. (length s.entries ≤ KEYS_MOST) × (1 ≤ s.progress))

-- the own name is held, without a stage; of every other owner something is held; and there are at most 1,024 owners
pub record IsHoldings (held : Held) : Type 0 where
  pub own : IsSomeAnd (get held.owners held.me) (λ h. h.stage ≡ None)
  pub each : (owner : List ℕ) → IfSome (get held.owners owner) IsKeptHolder
  pub others : (owner : List ℕ) → pointwise nat_eq owner held.me ≡ false → IfSome (get held.owners owner) (λ h. is_nothing h ≡ false)
  pub limit : len held.owners ≤ OWNERS_MOST

-- the shown table of an owner, if the owner is held
abbrev pub table_of : Held → List ℕ → Option Table
table_of held owner = option_map (λ h. h.shown) (get held.owners owner)

-- the version of the next write, or 0 if all are spent
abbrev pub next_version : ℕ → ℕ
next_version held = (held + 1) % 2 ^ 64

-- the answer to an own write, if there is memory
abbrev pub own_answer : Held → Entry → Result (Unit {0}) Fault
own_answer held e =
    let own = shown_of held held.me in
    if not (e.version == next_version own.held) then Err (OutOfTurn (next_version own.held))
    else (if is_full_for e.key own.entries then Err TableFull else Ok tt)

-- whether the name is at or after the first, if there is a first
abbrev pub is_from : Option (List ℕ) → List ℕ → Bool
is_from None owner = true
is_from (Some first) owner = is_le (slice_cmp nat_cmp first owner)

-- the owners from the first on, each with what is held of it
abbrev pub holders_from : Option (List ℕ) → Held → List (List ℕ × Holder)
holders_from first held = filter (λ p. is_from first p.0) (entries held.owners)

-- each owner with its shown table
abbrev pub each_shown : List (List ℕ × Holder) → List (List ℕ × Table)
each_shown holders = map (λ p. (p.0, p.1.shown)) holders

-- the owners from the first on, each with its shown table
abbrev pub tables_from : Option (List ℕ) → Held → List (List ℕ × Table)
tables_from first held = each_shown (holders_from first held)
