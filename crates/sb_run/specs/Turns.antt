-- How peers are by their rounds, and whose turn is next.
use Rattle.std.specs.Prelude.{ℕ, zero, suc, ◌+◌, ◌-◌, ◌^◌, min, Bool, true, false, not, nat_eq, nat_lt, if◌then◌else◌, Result, Ok, Err}
use Rattle.sb_types.specs.declared.fault.Fault.{Fault}
use Rattle.sb_types.specs.declared.fault.Fault.TheVariants as faults
use Rattle.sb_types.specs.Faults.{number_of}
use Rattle.sb_session.specs.declared.talk.Ended.{Ended}
use Rattle.sb_session.specs.declared.talk.Ended.TheVariants as endings
use Rattle.sb_session.specs.declared.pushing.PushEnd.{PushEnd}
use Rattle.sb_session.specs.declared.pushing.PushEnd.TheVariants.{AfterHello, BeforeHello}
use Rattle.sb_run.specs.declared.peers.DownReason.{DownReason}
use Rattle.sb_run.specs.declared.peers.DownReason.TheVariants.{Unreachable, Silent, ReadFailed, HungUp, BrokenOff, EndedEarly}
use Rattle.sb_run.specs.declared.peers.PeerState.{PeerState}
use Rattle.sb_run.specs.declared.peers.PeerState.TheVariants.{Never, Answers, Down, Failed}
use Rattle.sb_run.specs.declared.peers.Peer.{Peer}

-- how a peer is by a session that ended so, whether it was heard in it, and whether no byte came for too long
abbrev pub state_of : Result Ended Fault → Bool → Bool → PeerState
state_of (Ok endings.RoundsDone) was_heard was_silent = Answers
state_of (Ok (endings.Bye reason)) was_heard was_silent = Down EndedEarly
state_of (Ok endings.End) was_heard was_silent = Down EndedEarly
state_of (Err faults.ReadFailed) was_heard was_silent = Down (if was_silent then Silent else ReadFailed)
state_of (Err (faults.WriteFailed count)) was_heard was_silent = Down (if was_heard then BrokenOff else HungUp)
state_of (Err other) was_heard was_silent = Failed other

-- the number of the fault for which a peer is down; an end before its time is none
abbrev pub number_of_reason : DownReason → ℕ
number_of_reason Unreachable = 16
number_of_reason Silent = 16
number_of_reason ReadFailed = 16
number_of_reason HungUp = 17
number_of_reason BrokenOff = 17
number_of_reason EndedEarly = 0

-- the number of the fault by which a peer is as it is, 0 where there is none
abbrev pub number_of_state : PeerState → ℕ
number_of_state Never = 0
number_of_state Answers = 0
number_of_state (Down reason) = number_of_reason reason
number_of_state (Failed fault) = number_of fault

-- how a peer is by a push that ended so
abbrev pub state_of_push : Result PushEnd Fault → Bool → Bool → PeerState
state_of_push (Ok AfterHello) was_heard was_silent = Answers
state_of_push (Ok BeforeHello) was_heard was_silent = Down EndedEarly
state_of_push (Err fault) was_heard was_silent = state_of (Err fault) was_heard was_silent

-- a session ended well
abbrev pub is_answer : PeerState → Bool
is_answer Never = false
is_answer Answers = true
is_answer (Down reason) = false
is_answer (Failed fault) = false

-- how many sessions with a peer in a row did not end well, after one that ended so; more than two are two
abbrev pub misses_after : PeerState → ℕ → ℕ
misses_after ended misses = if is_answer ended then 0 else (if nat_lt misses 2 then misses + 1 else misses)

-- a peer is dialed for news unless two sessions in a row did not end well
abbrev pub takes_news : Peer → Bool
takes_news peer = nat_lt peer.misses 2

-- the peer after a session that ended so was counted
abbrev pub with_session : PeerState → Peer → Peer
with_session ended peer = record {
  path = peer.path;
  state = peer.state;
  round = peer.round;
  turns_out = peer.turns_out;
  misses = misses_after ended peer.misses;
}

-- the number of the state of a peer, in the status of a node
abbrev pub code_of_reason : DownReason → ℕ
code_of_reason Unreachable = 2
code_of_reason Silent = 3
code_of_reason ReadFailed = 4
code_of_reason HungUp = 5
code_of_reason BrokenOff = 6
code_of_reason EndedEarly = 7

abbrev pub code_of : PeerState → ℕ
code_of Never = 0
code_of Answers = 1
code_of (Down reason) = code_of_reason reason
code_of (Failed fault) = 32 + number_of fault

-- by such a fault a Hello, or the frame in which it comes, is refused
abbrev pub is_refusal : Fault → Bool
is_refusal faults.BadVersion = true
is_refusal faults.NoHello = true
is_refusal faults.WrongCluster = true
is_refusal faults.SameName = true
is_refusal faults.SecondHello = true
is_refusal other = false

-- a peer that is as the first says is so still where a round ends as the second says: while it is down, whatever the reason; with
-- the same fault; and behind a refused Hello where it hangs up unheard, which is the same refusal
abbrev pub is_still : PeerState → PeerState → Bool
is_still Never ended = false
is_still Answers Never = false
is_still Answers Answers = true
is_still Answers (Down reason) = false
is_still Answers (Failed fault) = false
is_still (Down first) Never = false
is_still (Down first) Answers = false
is_still (Down first) (Down reason) = true
is_still (Down first) (Failed fault) = false
is_still (Failed first) Never = false
is_still (Failed first) Answers = false
is_still (Failed first) (Down HungUp) = is_refusal first
is_still (Failed first) (Down reason) = false
is_still (Failed first) (Failed fault) = nat_eq (number_of first) (number_of fault)

-- how a peer is behind a round that ended so: it keeps its first reason or fault as long as it is so still
abbrev pub state_after : PeerState → PeerState → PeerState
state_after before ended = if is_still before ended then before else ended

-- how a peer is after a push that ended so: by one that ended well it is as it was by its rounds
abbrev pub state_after_push : PeerState → PeerState → PeerState
state_after_push before ended = if is_answer ended then before else state_after before ended

abbrev pub is_changed_by_push : PeerState → PeerState → Bool
is_changed_by_push before ended = if is_answer ended then false else not (is_still before ended)

-- one more, as far as a number of 64 bits goes
abbrev pub one_more : ℕ → ℕ
one_more count = min (count + 1) (2 ^ 64 - 1)

-- so many more, as far as such a number goes
abbrev pub with_more : ℕ → ℕ → ℕ
with_more count more = min (count + more) (2 ^ 64 - 1)

-- whose turn it is of so many: behind the last comes the first
abbrev pub turn_of : ℕ → ℕ → ℕ
turn_of count turn = if nat_lt turn count then turn else 0

-- whose turn it is of so many, so many turns later
abbrev pub turn_after : ℕ → ℕ → ℕ → ℕ
turn_after count turn zero = turn_of count turn
turn_after count turn (suc more) = turn_after count (turn_of count turn + 1) more

-- how many more turns a peer is passed over, behind one of its turns
abbrev pub turns_after : Bool → ℕ → ℕ
turns_after true turns = 7
turns_after false turns = turns
