-- What the owner's thread of a node does: one piece of work after another.
use Rattle.std.specs.Prelude.{◌≡◌, ℕ, Bool, if◌then◌else◌, List, [], ◌∷◌, Option}
use Rattle.sb_types.specs.Records.{Settings}
use Rattle.sb_holdings.specs.Nodes.{Node}
use Rattle.sb_codec.specs.declared.message.Message.{Message}
use Rattle.sb_codec.specs.declared.message.Message.TheVariants as kinds
use Rattle.sb_log.specs.Records.{Committed, Log}
use Rattle.sb_directory.specs.Seats.{Seat}
use Rattle.sb_run.specs.declared.arrivals.Request.{Request as Asked}
use Rattle.sb_run.specs.declared.arrivals.Request.TheVariants.{Control, Http}
use Rattle.sb_run.specs.declared.arrivals.Work.{Work}
use Rattle.sb_run.specs.declared.arrivals.Work.TheVariants.{Request, Beat}
use Rattle.sb_run.specs.declared.node.Beat as beats
use Rattle.sb_run.specs.declared.own_writes.ClosableLog.{ClosableLog}
use Rattle.sb_run.specs.Beating.{MakesBeat}
use Rattle.sb_run.specs.Closing.{seen_by}
use Rattle.sb_run.specs.Control.{AnswersTo}
use Rattle.sb_run.specs.OwnPurging.{MayPurge}
use Rattle.sb_run.specs.Turns.{one_more}
use Rattle.sb_run.specs.WriteRequests.{is_put}

-- what a request says: the message at the control socket, or that of the same write
abbrev pub message_of : Asked → Message
message_of (Control request stream) = request
message_of (Http asked to) = kinds.Put asked

-- how many writes count towards the next look at the removed keys, with this piece of work
abbrev pub writes_after : Work → ℕ → ℕ
writes_after (Request request) writes = if is_put (message_of request) then one_more writes else writes
writes_after Beat writes = writes

-- a request is answered or fails, and a beat is made or none is
abbrev pub Does : {L : Type 0} → (L → Log) → Node → Settings → Option beats.Beat → Work → L → Option Committed → Seat → L → Option Committed → Seat → Type 0
Does seen opening settings beat (Request request) old owed before new owes after =
    (failed : Bool) × AnswersTo seen opening settings old owed before (message_of request) new owes after failed
Does seen opening settings beat Beat old owed before new owes after = MakesBeat seen opening beat old owed before new owes after

-- a log as its node sees it
abbrev pub closable : {L : Type 0} → (L → Log) → ClosableLog L → Log
closable seen log = seen_by (seen log.log) log.closed_by

-- what the owner's thread has: the log, what is owed of it, and the seat that writes
pub record Owning (L : Type 0) : Type 0 where
  pub log : ClosableLog L
  pub owed : Option Committed
  pub seat : Seat

-- the log is closed or is not; then this piece of work is done; then the own table is purged or is not
pub record DoesNext {L : Type 0} (seen : L → Log) (opening : Node) (settings : Settings) (beat : Option beats.Beat) (least : ℕ) (work : Work)
    (old new : Owning L) : Type 0 where
  pub begun : ClosableLog L
  pub same : begun.log ≡ old.log.log
  pub done : Owning L
  pub does : Does (closable seen) opening settings beat work begun old.owed old.seat done.log done.owed done.seat
  pub purges : MayPurge (closable seen) opening least done.log done.owed done.seat new.log new.owed new.seat

-- these pieces of work were done one after another, each once, the last first
abbrev pub WorksInTurn : {L : Type 0} → (L → Log) → Node → Settings → Option beats.Beat → ℕ → List Work → Owning L → Owning L → Type 0
WorksInTurn seen opening settings beat least [] old new = new ≡ old
WorksInTurn {L} seen opening settings beat least (work ∷ earlier) old new =
    (before : Owning L) × WorksInTurn seen opening settings beat least earlier old before × DoesNext seen opening settings beat least work before new

-- after some pieces of work, done so, the seat is this one
abbrev pub WorksTo : {L : Type 0} → (L → Log) → Node → Settings → Option beats.Beat → ℕ → Owning L → Seat → Type 0
WorksTo {L} seen opening settings beat least old seat =
    (new : Owning L) × (done : List Work) × WorksInTurn seen opening settings beat least done old new × (new.seat ≡ seat)
