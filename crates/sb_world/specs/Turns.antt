-- What each event does at its node.
use Rattle.std.specs.Prelude.{◌≡◌, ◌≢◌, ◌⊎◌, ℕ, ◌+◌, Bool, true, false, if◌then◌else◌, nat_eq, List, [], ◌∷◌, ◌++◌, length, map, None, IfErr, Result, Ok, Err}
use Rattle.std.specs.Cmp.Lexicographic.{pointwise}
use Rattle.sb_types.specs.declared.entry.Slot.{Slot}
use Rattle.sb_types.specs.declared.entry.Write.{Write}
use Rattle.sb_types.specs.declared.fault.Fault.{Fault}
use Rattle.sb_types.specs.declared.fault.Fault.TheVariants.{NoMemory, StoreFailed}
use Rattle.sb_types.specs.Faults.{Gives}
use Rattle.sb_types.specs.Limits.{is_delta}
use Rattle.sb_types.specs.Records.{Table, Block}
use Rattle.sb_holdings.specs.Held.{Held}
use Rattle.sb_holdings.specs.Nodes.{NodeEvent, Wrote, Purged, opened_node, node_after_event}
use Rattle.sb_node.specs.Purging.{purge_answer}
use Rattle.sb_holdings.specs.Plain.{tables_from}
use Rattle.sb_digest.specs.Digests.{Pair, Digest, digest_of, staged_pair}
use Rattle.sb_codec.specs.declared.message.Message.{Message}
use Rattle.sb_codec.specs.declared.message.Message.TheVariants as messages
use Rattle.sb_frames.specs.Frames.{frame}
use Rattle.sb_log.specs.Records.{Committed, Log}
use Rattle.sb_log.specs.Puts.{Puts, Purges as LogPurges, Loads}
use Rattle.sb_node.specs.Answers.{IsDelta, IsAnswer}
use Rattle.sb_node.specs.Cores.{Core, with_node, committed_answer}
use Rattle.sb_world.specs.declared.event.Answer.{Answer}
use Rattle.sb_world.specs.declared.event.Answer.TheVariants as answers
use Rattle.sb_world.specs.Hearing.{Heard}
use Rattle.sb_world.specs.Places.{Place}

-- What an event adds to the history: nothing, a write of the node's owner, events of the node, or bytes that came and what was heard of
-- them. Or it adds that the node opened again, with a content of this floor.
pub data Effect : Type 0 where
  rests : Effect
  logs : Write → Effect
  goes : List NodeEvent → Effect
  listens : List ℕ → List Heard → Effect
  opens : ℕ → Effect

-- what comes of an event at its node
pub record Turn : Type 0 where
  pub answer : Result Answer Fault
  pub effect : Effect
  pub place : Place
  pub frames : List (List ℕ)

-- nothing changes
abbrev pub idle_turn : Place → Result Answer Fault → Turn
idle_turn p answer = record { answer = answer; effect = rests; place = p; frames = [] }

-- a message is sent, as one frame
abbrev pub sent_turn : Place → List (List ℕ) → Message → Turn
sent_turn p sent message = record {
  answer = Ok (answers.Sent (length sent + 1));
  effect = rests;
  place = p;
  frames = frame message ∷ [];
}

-- the node, with another core
abbrev pub with_core : Place → Core → Place
with_core p core = record { me = p.me; log = p.log; core = core; waiting = p.waiting; is_up = p.is_up }

-- ---- a write

abbrev pub write_of : List ℕ → Slot → Write
write_of key slot = record { key = key; slot = slot }

-- a write that the log took is one of its owner's; nobody knows whether one at which the store failed is
abbrev pub IsLogged : List ℕ → Slot → Result Committed Fault → Effect → Type 0
IsLogged key slot (Ok c) effect = effect ≡ logs (write_of key slot)
IsLogged key slot (Err fault) effect = (effect ≡ rests) ⊎ ((fault ≡ StoreFailed) × (effect ≡ logs (write_of key slot)))

abbrev pub waiting_after : List Committed → Result Committed Fault → List Committed
waiting_after waiting (Ok c) = waiting ++ c ∷ []
waiting_after waiting (Err fault) = waiting

abbrev pub commit_answer : Result Committed Fault → Result Answer Fault
commit_answer (Ok c) = Ok (answers.Committed c.entry.version)
commit_answer (Err fault) = Err fault

-- the log gave this answer, and a write that it took waits
abbrev pub commit_turn : Place → Result Committed Fault → Effect → Log → Turn
commit_turn p put effect log = record {
  answer = commit_answer put;
  effect = effect;
  place = record { me = p.me; log = log; core = p.core; waiting = waiting_after p.waiting put; is_up = p.is_up };
  frames = [];
}

-- the log is asked to take the write, if there is room for it to wait
abbrev pub Commits : Place → List ℕ → Slot → Turn → Type 0
Commits p key slot turn =
    (turn ≡ idle_turn p (Err NoMemory))
    ⊎ ((put : Result Committed Fault) × (effect : Effect) × (log : Log) × Puts p.log key slot put log × IsLogged key slot put effect × (turn ≡ commit_turn p put effect log))

-- the node is down
abbrev pub crash_turn : Place → Effect → Log → Turn
crash_turn p effect log = record {
  answer = Ok answers.Crashed;
  effect = effect;
  place = record { me = p.me; log = log; core = p.core; waiting = p.waiting; is_up = false };
  frames = [];
}

-- The node goes down before its log is asked, or after that, and keeps nothing of what the log answered. If memory is missing, it does not
-- crash.
abbrev pub Crashes : Place → List ℕ → Slot → Bool → Turn → Type 0
Crashes p key slot false turn = turn ≡ crash_turn p rests p.log
Crashes p key slot true turn =
    (turn ≡ idle_turn p (Err NoMemory))
    ⊎ ((put : Result Committed Fault) × (effect : Effect) × (log : Log) × Puts p.log key slot put log × (put ≢ Err NoMemory) × IsLogged key slot put effect × (turn ≡ crash_turn p effect log))

-- ---- a purge

-- if the log took the floor, the node is down; if not, only the log can have changed
abbrev pub purge_turn : Place → ℕ → Result (Unit {0}) Fault → Log → Turn
purge_turn p floor (Ok done) log = record {
  answer = Ok (answers.Purged floor);
  effect = rests;
  place = record { me = p.me; log = log; core = p.core; waiting = p.waiting; is_up = false };
  frames = [];
}
purge_turn p floor (Err fault) log = record {
  answer = Err fault;
  effect = rests;
  place = record { me = p.me; log = log; core = p.core; waiting = p.waiting; is_up = p.is_up };
  frames = [];
}

-- the log is asked to drop its tombstones up to a floor
abbrev pub Purges : Place → ℕ → Turn → Type 0
Purges p floor turn = (result : Result (Unit {0}) Fault) × (log : Log) × LogPurges p.log floor result log × (turn ≡ purge_turn p floor result log)

-- ---- a purge of a node that stays up

abbrev pub trim_answer : ℕ → Result (Unit {0}) Fault → Result Answer Fault
trim_answer floor (Ok done) = Ok (answers.Trimmed floor)
trim_answer floor (Err fault) = Err fault

-- the node's own table is purged, and the log gave this answer; the node stays up
abbrev pub trim_turn : Place → ℕ → Result (Unit {0}) Fault → Log → Turn
trim_turn p floor result log = record {
  answer = trim_answer floor result;
  effect = goes (Purged floor ∷ []);
  place = record { me = p.me; log = log; core = with_node p.core (node_after_event p.core.node (Purged floor)); waiting = p.waiting; is_up = p.is_up };
  frames = [];
}

-- if the node refuses the floor, nothing changes; if not, the log is asked to drop its tombstones up to it as well
abbrev pub TrimEnds : Result (Unit {0}) Fault → Place → ℕ → Turn → Type 0
TrimEnds (Err fault) p floor turn = turn ≡ idle_turn p (Err fault)
TrimEnds (Ok done) p floor turn = (result : Result (Unit {0}) Fault) × (log : Log) × LogPurges p.log floor result log × (turn ≡ trim_turn p floor result log)

abbrev pub Trims : Place → ℕ → Turn → Type 0
Trims p floor turn = TrimEnds (purge_answer p.core.node floor) p floor turn

-- ---- an own write enters

-- the node enters the oldest write that waited
abbrev pub entered_turn : Place → Committed → List Committed → Turn
entered_turn p c others = record {
  answer = Ok (answers.Took c.entry.version);
  effect = goes (Wrote c.entry ∷ []);
  place = record { me = p.me; log = p.log; core = with_node p.core (node_after_event p.core.node (Wrote c.entry)); waiting = others; is_up = p.is_up };
  frames = [];
}

abbrev pub take_turn : Place → Committed → List Committed → Result (Unit {0}) Fault → Turn
take_turn p c others (Ok done) = entered_turn p c others
take_turn p c others (Err fault) = idle_turn p (Err fault)

-- the node answers for the write as it must, and missing memory hides no other fault
abbrev pub TakesFirst : Place → List Committed → Turn → Type 0
TakesFirst p [] turn = turn ≡ idle_turn p (Ok answers.Nothing)
TakesFirst p (c ∷ others) turn =
    let want = committed_answer p.core.node c in
    (result : Result (Unit {0}) Fault) × Gives result want × IfErr want (λ fault. result ≡ Err fault) × (turn ≡ take_turn p c others result)

-- ---- a restart

-- the node opens with its log's content and holds nothing else
abbrev pub reopened_turn : Place → Log → Table → Turn
reopened_turn p log table = record {
  answer = Ok (answers.Restarted table.held);
  effect = opens table.floor;
  place = record { me = p.me; log = log; core = record { settings = p.core.settings; node = opened_node p.me table }; waiting = []; is_up = true };
  frames = [];
}

-- it is down until a restart that is not refused
abbrev pub refused_turn : Place → Log → Fault → Turn
refused_turn p log fault = record {
  answer = Err fault;
  effect = rests;
  place = record { me = p.me; log = log; core = p.core; waiting = []; is_up = false };
  frames = [];
}

abbrev pub RestartEnds : Place → Log → Result Table Fault → Turn → Type 0
RestartEnds p log (Ok table) turn = (turn ≡ reopened_turn p log table) ⊎ (turn ≡ refused_turn p log NoMemory)
RestartEnds p log (Err fault) turn = turn ≡ refused_turn p log fault

-- what waited is dropped, and the log is read again
abbrev pub Restarts : Place → Turn → Type 0
Restarts p turn = (result : Result Table Fault) × (log : Log) × Loads p.log result log × RestartEnds p log result turn

-- ---- a delta is sent

-- of a shown table: the number for the owner, how far it is held for each other, and no stage
abbrev pub numbered_pair : List ℕ → ℕ → List ℕ × Table → Pair
numbered_pair owner after p = staged_pair p.0 (if pointwise nat_eq p.0 owner then after else p.1.held) None

-- a digest of the whole range, with this number for the owner, and for each other owner how far the node itself holds it
abbrev pub offer_digest : Held → List ℕ → ℕ → Digest
offer_digest held owner after = digest_of false None None (map (numbered_pair owner after) (tables_from None held))

-- the node sends its delta for such a digest, as one frame
abbrev pub Offers : Place → List (List ℕ) → List ℕ → ℕ → Turn → Type 0
Offers p sent owner after turn =
    (turn ≡ idle_turn p (Err NoMemory))
    ⊎ ((blocks : List Block) × (is_delta blocks ≡ true) × IsDelta p.core.settings p.core.node.held (offer_digest p.core.node.held owner after) blocks
    × IsAnswer p.core.settings.budget p.core.node.held (offer_digest p.core.node.held owner after) blocks × (turn ≡ sent_turn p sent (messages.Delta blocks)))
