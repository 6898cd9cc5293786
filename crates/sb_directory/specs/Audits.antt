-- Audits: what a peer holds of the node's own name, compared with the node's own table, and what they leave of the seat.
use Rattle.std.specs.Prelude.{◌≡◌, ◌≢◌, ℕ, ◌+◌, ◌-◌, ◌^◌, ◌++◌, ◌==◌, nat_eq, Bool, MatchBool, if◌then◌else◌, List, [], ◌∷◌, length, Option, Some, None, Result, Ok, Err}
use Rattle.std.specs.Cmp.Lexicographic.{pointwise}
use Rattle.sb_types.specs.declared.fault.Fault.{Fault}
use Rattle.sb_types.specs.declared.fault.Fault.TheVariants.{NoMemory, TurnsSpent}
use Rattle.sb_types.specs.Records.{Entry, Table, Block}
use Rattle.sb_types.specs.Runs.{Stands}
use Rattle.sb_holdings.specs.declared.ends.BlockEnd.TheVariants.{OwnAhead}
use Rattle.sb_holdings.specs.Held.{shown_of}
use Rattle.sb_holdings.specs.Nodes.{Node}
use Rattle.sb_audit.specs.declared.foreign.Reason.{Reason}
use Rattle.sb_audit.specs.Foreign.{IsForeign, IsReason, IsFirst}
use Rattle.sb_audit.specs.Missing.{IsMissing}
use Rattle.sb_audit.specs.Search.{own_beside}
use Rattle.sb_views.specs.declared.event.Event.{Event}
use Rattle.sb_views.specs.declared.event.Event.TheVariants.{Applied}
use Rattle.sb_views.specs.Histories.{node_after}
use Rattle.sb_directory.specs.declared.difference.Difference.{Difference}
use Rattle.sb_directory.specs.declared.difference.Difference.TheVariants.{Foreign, Missing}
use Rattle.sb_directory.specs.declared.difference.ForeignEntry.{ForeignEntry}
use Rattle.sb_directory.specs.Seats.{Seat, Begins, delta_due_after}

-- the entry with the own one beside it
abbrev pub foreign_entry : Table → Entry → Reason → ForeignEntry
foreign_entry t e reason = record { theirs = e; own = own_beside t e; reason = reason }

-- the first foreign entry of the block, with the first reason; or, if none is foreign, the first own entry that it lacks
abbrev pub IsDifference : Table → Block → Difference → Type 0
IsDifference t b (Foreign f) = IsFirst (IsForeign t b.upto) b.entries f.theirs × IsReason t b.upto f.theirs f.reason × (f.own ≡ own_beside t f.theirs)
IsDifference t b (Missing own) = ((e : Entry) → Stands b.entries e → IsForeign t b.upto e → ⊥) × IsFirst (IsMissing b) t.entries own

-- what is found in a block of the own name: nothing only if no entry of it is foreign and it lacks none
abbrev pub FindsIn : Table → Block → Option Difference → Type 0
FindsIn t b None = ((e : Entry) → Stands b.entries e → IsForeign t b.upto e → ⊥) × ((own : Entry) → Stands t.entries own → IsMissing b own → ⊥)
FindsIn t b (Some d) = IsDifference t b d

-- in a block of another owner nothing is found
abbrev pub Finds : Node → Block → Option Difference → Type 0
Finds node b found = MatchBool (pointwise nat_eq b.owner node.held.me) (FindsIn (shown_of node.held node.held.me) b found) (found ≡ None)

abbrev pub own_held : Node → ℕ
own_held node = (shown_of node.held node.held.me).held

-- the block by which the node marks its own name: no entries, from the own held version to the next
abbrev pub mark_of : Node → Block
mark_of node = record { owner = node.held.me; floor = 0; after = own_held node; upto = own_held node + 1; entries = [] }

-- it is taken as the block of another node of this name that has one more write
abbrev pub marking : Node → Event
marking node = Applied (mark_of node ∷ []) (OwnAhead (own_held node + 1) ∷ [])

-- a name in conflict is not marked
abbrev pub marking_unless : Node → Option ℕ → List Event
marking_unless node (Some version) = []
marking_unless node None = marking node ∷ []

-- the events of an audit: the name is marked if something was found
abbrev pub audit_events : Node → Option Difference → List Event
audit_events node None = []
audit_events node (Some d) = marking_unless node node.conflict

-- no version is left after the own held one
abbrev pub is_last : Node → Bool
is_last node = own_held node == 2 ^ 64 - 1

-- this answer, unless no version is left
abbrev pub unless_last : Bool → Result (Unit {0}) Fault → Result (Unit {0}) Fault
unless_last last answer = if last then Err TurnsSpent else answer

-- whether there is a block by which the node can mark its own name, where there is memory
abbrev pub version_due : Node → Result (Unit {0}) Fault
version_due node = unless_last (is_last node) (Ok tt)

-- a name in conflict is not marked; a mark needs a version and an event that are left
abbrev pub mark_due_unless : List Event → Node → Option ℕ → Result (Unit {0}) Fault
mark_due_unless history node (Some version) = Ok tt
mark_due_unless history node None = unless_last (is_last node) (delta_due_after history)

-- what the mark of the own name is answered after these events, where there is memory
abbrev pub mark_due_after : Node → List Event → Result (Unit {0}) Fault
mark_due_after opening history = mark_due_unless history (node_after opening history) (node_after opening history).conflict

-- another fault than want of memory is what the mark is answered
abbrev pub RefusesMark : Node → List Event → Fault → Type 0
RefusesMark opening history fault = fault ≢ NoMemory → mark_due_after opening history ≡ Err fault

-- The audit was answered so after this history, which begins with what the seat had seen and with its last call. That history, and
-- the event by which the name was marked, if it was, is the seat's last call from then on.
pub record Audits (opening : Node) (b : Block) (old : Seat) (found : Option Difference) (new : Seat) : Type 0 where
  pub history : List Event
  pub begins : Begins history old
  pub finds : Finds (node_after opening history) b found
  pub last_call : new.last_call ≡ history ++ audit_events (node_after opening history) found
  pub events : new.events ≡ old.events + length (audit_events (node_after opening history) found)
