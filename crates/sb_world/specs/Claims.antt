-- What is true of a run of the machine, claim by claim.
use Rattle.std.specs.Prelude.{◌≡◌, ◌⊎◌, ℕ, ◌≤◌, true, false, List, [], ◌∷◌, ◌++◌, length, map, take, Option, Some, None, IfSome, IsSomeAnd, Result, Ok, Err}
use Rattle.sb_types.specs.declared.entry.Slot.TheVariants.{Set, Removed}
use Rattle.sb_types.specs.declared.entry.Write.{Write}
use Rattle.sb_types.specs.declared.fault.Fault.{Fault}
use Rattle.sb_types.specs.declared.fault.Fault.TheVariants.{NoMemory, Closed}
use Rattle.sb_types.specs.Value.{Value}
use Rattle.sb_types.specs.Records.{Entry, Table, Stage, Block}
use Rattle.sb_types.specs.Runs.{Stands, shown_slot, shown_at}
use Rattle.sb_types.specs.Writes.{Written, Superseded, Gone}
use Rattle.sb_holdings.specs.declared.ends.BlockEnd.{BlockEnd}
use Rattle.sb_holdings.specs.Held.{shown_of}
use Rattle.sb_holdings.specs.Ends.{JoinsOn, JoinsStage}
use Rattle.sb_holdings.specs.Nodes.{Node, opened_node, node_after_block, NodeLater}
use Rattle.sb_holdings.specs.TakenUp.{IsTakenUp, IsStagedUp}
use Rattle.sb_codec.specs.declared.message.Message.{Message}
use Rattle.sb_frames.specs.Streams.{Stream, open_with, shut, Splits}
use Rattle.sb_node.specs.Calls.{Call, TookOwn, Applied}
use Rattle.sb_world.specs.declared.event.Event.{Event}
use Rattle.sb_world.specs.declared.event.Event.TheVariants.{Purge, Trim, Restart, Piece, Read}
use Rattle.sb_world.specs.declared.event.Answer.{Answer}
use Rattle.sb_world.specs.declared.event.Answer.TheVariants as answers
use Rattle.sb_world.specs.declared.event.Item.{Item}
use Rattle.sb_world.specs.Connections.{Connection, connection_at}
use Rattle.sb_world.specs.Places.{Place, Seen, place_at, IsClean}
use Rattle.sb_world.specs.Hearing.{Heard, Listener, Hears, Tells, calls_in}
use Rattle.sb_world.specs.Connecting.{stream_with_piece, listener, heard_by, connections_after}
use Rattle.sb_world.specs.Turns.{with_core}
use Rattle.sb_world.specs.States.{State, Run, FitsWorld, last_of}

-- ---- for each state, and for each step

abbrev pub EachState : (State → Type 0) → State → List State → Type 0
EachState P first [] = P first
EachState P first (state ∷ states) = P first × EachState P state states

abbrev pub EachStep : (State → Event → Result Answer Fault → State → Type 0) → State → List Event → List (Result Answer Fault) → List State → Type 0
EachStep P old (event ∷ events) (answer ∷ answers) (state ∷ states) = P old event answer state × EachStep P state events answers states
EachStep P old [] answers states = Unit {0}
EachStep P old (event ∷ events) [] states = Unit {0}
EachStep P old (event ∷ events) (answer ∷ answers) [] = Unit {0}

-- ---- what a reader is given was written under that version

abbrev pub GivenIsWritten : State → Event → Result Answer Fault → State → Type 0
GivenIsWritten old event answer new =
    (me owner key : List ℕ) (value : Value) (version : ℕ) → event ≡ Read me owner key → answer ≡ Ok (answers.Shown (Some (value, version))) →
    Written (new.writes owner) (record { key = key; version = version; slot = Set value })

-- ---- a reader that holds an owner up to a version gets, of each key last written at or below it, exactly that write

-- look-up at this node finds it
abbrev pub IsExactAt : (List ℕ → List Write) → Place → Type 0
IsExactAt writes p =
    (owner : List ℕ) (e : Entry) → Written (writes owner) e → (Superseded (writes owner) e → ⊥) → e.version ≤ (shown_of p.core.node.held owner).held →
    shown_at e.key (shown_of p.core.node.held owner).entries ≡ shown_slot e.version e.slot

-- at each node
abbrev pub IsExact : State → Type 0
IsExact s = (name : List ℕ) → IfSome (place_at s.now.places name) (IsExactAt s.writes)

-- a reader is shown this, unless the node is down or memory is missing
abbrev pub IsShown : Option (Value × ℕ) → Place → Result Answer Fault → Type 0
IsShown found p answer = (answer ≡ Ok (answers.Shown found)) ⊎ ((answer ≡ Err NoMemory) ⊎ ((p.is_up ≡ false) × (answer ≡ Err Closed)))

-- a read of a key shows exactly its last write, if its node holds the owner up to that write
abbrev pub ReadIsExact : State → Event → Result Answer Fault → State → Type 0
ReadIsExact old event answer new =
    (me owner : List ℕ) (e : Entry) → event ≡ Read me owner e.key → Written (old.writes owner) e → (Superseded (old.writes owner) e → ⊥) →
    IfSome (place_at old.now.places me) (λ p. e.version ≤ (shown_of p.core.node.held owner).held → IsShown (shown_slot e.version e.slot) p answer)

-- this holds for each read, and for look-up in each state
abbrev pub AreExact : State → List Event → List (Result Answer Fault) → List State → Type 0
AreExact old events answers states = EachStep ReadIsExact old events answers states × EachState IsExact old states

-- ---- whatever joins on is taken up

-- the shown table takes up a block that joins on to it, and the stage one that joins on to the stage
abbrev pub BlockIsTakenUp : Node → Block → BlockEnd → Type 0
BlockIsTakenUp node b end =
    (JoinsOn node.held b → IsTakenUp node b end (node_after_block node b end))
    × ((s : Stage) → JoinsStage node.held b s → IsStagedUp node b s end (node_after_block node b end))

-- each block in its turn, at the node as the blocks before it left it
abbrev pub AreTakenUp : Node → List Block → List BlockEnd → Node → Type 0
AreTakenUp node [] [] new = new ≡ node
AreTakenUp node [] (end ∷ ends) new = ⊥
AreTakenUp node (b ∷ bs) [] new = ⊥
AreTakenUp node (b ∷ bs) (end ∷ ends) new = BlockIsTakenUp node b end × AreTakenUp (node_after_block node b end) bs ends new

-- each delta in its turn
abbrev pub AllTakenUp : Node → List Call → Node → Type 0
AllTakenUp node [] new = new ≡ node
AllTakenUp node (TookOwn e ∷ calls) new = ⊥
AllTakenUp node (Applied blocks ends ∷ calls) new = (mid : Node) × AreTakenUp node blocks ends mid × AllTakenUp mid calls new

-- what has come is the frames of these messages, and then a rest, which begins with no message's frame and is kept
abbrev pub HaveCome : Stream → List Message → Stream → Type 0
HaveCome (open_with came) messages new = (rest : List ℕ) × Splits came messages rest × (new ≡ open_with rest)
HaveCome shut messages new = ⊥

-- the node hears the messages of a piece that have come whole, and takes up each delta among them
pub record TakesPiece (old : Seen) (number count : ℕ) (c : Connection) (p : Place) (answer : Result Answer Fault) (new : Seen) : Type 0 where
  pub heard : List Heard
  pub mid : Listener
  pub last : Listener
  pub fault : Option Fault
  pub items : List Item
  pub frames : List (List ℕ)
  -- it hears each in its turn
  pub hears : Hears (listener p.core c count) heard mid
  -- if no fault is reported, these are all that have come whole
  pub whole : fault ≡ None → HaveCome (stream_with_piece c.stream (take count c.left)) (map (λ (h : Heard). h.message) heard) last.stream
  -- a fault is that of the next message, or memory was missing
  pub tells : Tells (length old.sent) heard mid last fault items frames
  -- the items and the fault are the answer, and the replies are sent
  pub answered : answer ≡ Ok (answers.Delivered items fault)
  pub sent : new.sent ≡ old.sent ++ frames
  -- the bytes after the piece are still to come, and a fault closes the connection
  pub left : new.connections ≡ connections_after fault old.connections number (heard_by c count last)
  -- each delta is taken up, and this is how the node is left
  pub taken : AllTakenUp p.core.node (calls_in heard) last.core.node
  pub node : place_at new.places c.me ≡ Some (with_core p last.core)

-- a node takes each piece of a connection so, unless it is down
abbrev pub JoinedIsTaken : State → Event → Result Answer Fault → State → Type 0
JoinedIsTaken old event answer new =
    (number count : ℕ) → event ≡ Piece number count →
    IfSome (connection_at old.now.connections number) (λ c. IfSome (place_at old.now.places c.me) (λ p.
    ((p.is_up ≡ false) × (answer ≡ Err Closed)) ⊎ TakesPiece old.now number count c p answer new.now))

-- ---- within a node's run no version falls

-- a node's run is from one opening to the next
abbrev pub FallsNowhere : State → State → Type 0
FallsNowhere old new =
    (name : List ℕ) → IfSome (place_at old.now.places name) (λ p. IfSome (place_at new.now.places name) (λ q.
    (old.past name).openings ≡ (new.past name).openings → NodeLater p.core.node q.core.node))

-- for each state and each later one
abbrev pub NothingFallsIn : List State → Type 0
NothingFallsIn [] = Unit {0}
NothingFallsIn (state ∷ states) = ((later : State) → Stands states later → FallsNowhere state later) × NothingFallsIn states

abbrev pub NothingFalls : State → List State → Type 0
NothingFalls first states = ((later : State) → Stands states later → FallsNowhere first later) × NothingFallsIn states

-- ---- no frame exceeds its budget

abbrev pub IsWithinBudget : State → Type 0
IsWithinBudget s = (bytes : List ℕ) → Stands s.now.sent bytes → length bytes ≤ s.now.settings.budget

-- ---- a removed key does not come back

abbrev pub removal_of : List ℕ → ℕ → Entry
removal_of key version = record { key = key; version = version; slot = Removed }

-- the last write of the key is a removal, of this version
pub record IsRemoved (writes : List Write) (key : List ℕ) (version : ℕ) : Type 0 where
  pub written : Written writes (removal_of key version)
  pub last : Superseded writes (removal_of key version) → ⊥

-- a node that holds the owner up to that version shows nothing of the key
abbrev pub HidesRemovedAt : (List ℕ → List Write) → Place → Type 0
HidesRemovedAt writes p =
    (owner key : List ℕ) (version : ℕ) → IsRemoved (writes owner) key version → version ≤ (shown_of p.core.node.held owner).held →
    shown_at key (shown_of p.core.node.held owner).entries ≡ None

-- at each node
abbrev pub HidesRemoved : State → Type 0
HidesRemoved s = (name : List ℕ) → IfSome (place_at s.now.places name) (HidesRemovedAt s.writes)

-- a read of the key there gives nothing
abbrev pub RemovedIsNotRead : State → Event → Result Answer Fault → State → Type 0
RemovedIsNotRead old event answer new =
    (me owner key : List ℕ) (version : ℕ) → event ≡ Read me owner key → IsRemoved (old.writes owner) key version →
    IfSome (place_at old.now.places me) (λ p. version ≤ (shown_of p.core.node.held owner).held → IsShown None p answer)

-- this holds for each read, and for look-up in each state, whatever frames come
abbrev pub StayRemoved : State → List Event → List (Result Answer Fault) → List State → Type 0
StayRemoved old events answers states = EachStep RemovedIsNotRead old events answers states × EachState HidesRemoved old states

-- ---- what was purged is gone

-- the table has no tombstone at or below its floor
abbrev pub IsPurged : Table → Type 0
IsPurged t = (e : Entry) → Stands t.entries e → Gone t.floor e → ⊥

-- neither the content of the node's log, if it is open, nor a table that the node shows has one
abbrev pub ArePurgedAt : Place → Type 0
ArePurgedAt p = (p.log.is_open ≡ true → IsPurged p.log.content) × ((owner : List ℕ) → IsPurged (shown_of p.core.node.held owner))

-- at each node
abbrev pub ArePurged : State → Type 0
ArePurged s = (name : List ℕ) → IfSome (place_at s.now.places name) ArePurgedAt

-- a purge that is answered leaves the node down, and its log open with that floor or a higher one
abbrev pub PurgeIsDone : Event → Result Answer Fault → State → Type 0
PurgeIsDone event answer new =
    (me : List ℕ) (floor told : ℕ) → event ≡ Purge me floor → answer ≡ Ok (answers.Purged told) →
    (told ≡ floor) × IsSomeAnd (place_at new.now.places me) (λ p. (p.is_up ≡ false) × (p.log.is_open ≡ true) × (floor ≤ p.log.content.floor))

-- a trim that is answered leaves the node up and its log open, and both with that floor or a higher one
abbrev pub TrimIsDone : Event → Result Answer Fault → State → Type 0
TrimIsDone event answer new =
    (me : List ℕ) (floor told : ℕ) → event ≡ Trim me floor → answer ≡ Ok (answers.Trimmed told) →
    (told ≡ floor) × IsSomeAnd (place_at new.now.places me) (λ p. (p.is_up ≡ true) × (p.log.is_open ≡ true) × (floor ≤ p.log.content.floor) × (floor ≤ (shown_of p.core.node.held p.core.node.held.me).floor))

-- a restart that is answered opens the node with the content of its log
abbrev pub RestartIsOfLog : Event → Result Answer Fault → State → Type 0
RestartIsOfLog event answer new =
    (me : List ℕ) (version : ℕ) → event ≡ Restart me → answer ≡ Ok (answers.Restarted version) →
    IsSomeAnd (place_at new.now.places me) (λ p. (p.log.is_open ≡ true) × (p.core.node ≡ opened_node me p.log.content))

-- a log that is open was open before, and its floor did not fall
abbrev pub FloorsStay : State → State → Type 0
FloorsStay old new =
    (name : List ℕ) → IfSome (place_at old.now.places name) (λ p. IfSome (place_at new.now.places name) (λ q.
    q.log.is_open ≡ true → (p.log.is_open ≡ true) × (p.log.content.floor ≤ q.log.content.floor)))

pub record KeepsPurged (old : State) (event : Event) (answer : Result Answer Fault) (new : State) : Type 0 where
  pub done : PurgeIsDone event answer new
  pub trimmed : TrimIsDone event answer new
  pub opened : RestartIsOfLog event answer new
  pub stays : FloorsStay old new

-- this holds for each step, and for each state
abbrev pub StayPurged : State → List Event → List (Result Answer Fault) → List State → Type 0
StayPurged old events answers states = EachStep KeepsPurged old events answers states × EachState ArePurged old states

-- ---- all claims about one run

pub record Promise (old : State) (events : List Event) (answers : List (Result Answer Fault)) (states : List State) : Type 0 where
  pub given : EachStep GivenIsWritten old events answers states
  pub exact : AreExact old events answers states
  pub taken : EachStep JoinedIsTaken old events answers states
  pub later : NothingFalls old states
  pub budget : EachState IsWithinBudget old states
  -- what purging adds
  pub removed : StayRemoved old events answers states
  pub purged : StayPurged old events answers states

-- ---- a claim about every run from a state that fits the world, as long as each store keeps its promise

abbrev pub OnEachRun : Seen → List Event → List (Result Answer Fault) → (State → List State → Type 0) → Type 0
OnEachRun world events answers claim =
    (old : State) (states : List State) → FitsWorld old world → Run old events answers states → IsClean (last_of old states).now.places → claim old states
