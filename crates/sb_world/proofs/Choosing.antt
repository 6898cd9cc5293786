-- How an event goes, by what a log or a node answered.
use Rattle.std.proofs.Common.{◌≡◌, ℕ, List, [], ◌∷◌, drop, slice_get, IfErr, Result, Ok, Err, Option, Some, inl, refl, sym, ap, subst}
use Rattle.std.specs.Prelude.{unwrap_or}
use Rattle.sb_types.specs.declared.entry.Slot.{Slot}
use Rattle.sb_types.specs.declared.fault.Fault.{Fault}
use Rattle.sb_types.specs.Faults.{Gives}
use Rattle.sb_codec.specs.declared.message.Message.{Message}
use Rattle.sb_frames.specs.Frames.{whole, front_of}
use Rattle.sb_frames.specs.Streams.{Stream, open_with, Feeds, TakesNext}
use Rattle.sb_log.specs.Records.{Committed, Log}
use Rattle.sb_log.specs.Puts.{Purges as LogPurges}
use Rattle.sb_node.specs.Cores.{committed_answer}
use Rattle.sb_node.specs.Purging.{purge_answer}
use Rattle.sb_world.specs.Places.{Place}
use Rattle.sb_world.specs.Turns.{Effect, rests, logs, write_of, IsLogged, Turn, idle_turn, TakesFirst, take_turn, TrimEnds, Trims, trim_turn}

pub logged : (key : List ℕ) (slot : Slot) (put : Result Committed Fault) → (effect : Effect) × IsLogged key slot put effect
logged key slot (Ok c) = (logs (write_of key slot), refl)
logged key slot (Err fault) = (rests, inl refl)

-- the first that waits, answered so
pub takes_oldest : (p : Place) (waiting others : List Committed) (c : Committed) (turn : Turn) → waiting ≡ c ∷ others → (result : Result (Unit {0}) Fault) →
    Gives result (committed_answer p.core.node c) → IfErr (committed_answer p.core.node c) (λ fault. result ≡ Err fault) → turn ≡ take_turn p c others result → TakesFirst p waiting turn
takes_oldest p waiting others c turn is result gives refused same = subst (λ (ws : List Committed). TakesFirst p ws turn) (sym is) (result, gives, refused, same)

pub oldest_first : (xs : List Committed) (c : Committed) → Some c ≡ slice_get xs 0 → xs ≡ c ∷ drop 1 xs
oldest_first [] c e = absurd (cc)
oldest_first (x ∷ xs) c e = ap (λ (o : Option Committed). unwrap_or o x ∷ xs) (sym e)

-- a floor that the node refuses
pub trim_refused : (p : Place) (floor : ℕ) (fault : Fault) (turn : Turn) → Err fault ≡ purge_answer p.core.node floor → turn ≡ idle_turn p (Err fault) → Trims p floor turn
trim_refused p floor fault turn is same = subst (λ (a : Result (Unit {0}) Fault). TrimEnds a p floor turn) is same

-- and one that it takes, after which the log gave this answer
pub trim_asked : (p : Place) (floor : ℕ) (done : Unit {0}) (result : Result (Unit {0}) Fault) (log : Log) (turn : Turn) → Ok done ≡ purge_answer p.core.node floor → LogPurges p.log floor result log
    → turn ≡ trim_turn p floor result log → Trims p floor turn
trim_asked p floor done result log turn is purges same = subst (λ (a : Result (Unit {0}) Fault). TrimEnds a p floor turn) is (result, log, purges, same)

abbrev done_with : {X : Type 0} → X → Result X Fault
done_with x = Ok x

-- what is read first of a stream that was fed these bytes and nothing else stands at their front
pub fed_front : {X : Type 0} (old mid new : Stream) (bytes : List ℕ) (done : X) (message : Message) → old ≡ open_with [] → Feeds old bytes (Ok done) mid → TakesNext mid (Ok (Some message)) new →
    (rest : List ℕ) × (front_of bytes ≡ whole message rest)
fed_front {X} old mid new bytes done message empty feeds takes =
    let fed : mid ≡ open_with bytes = subst (λ (s : Stream). Feeds s bytes (done_with done) mid) empty feeds in
    let hands = subst (λ (s : Stream). TakesNext s (Ok (Some message)) new) fed takes in
    (hands.rest, hands.front)
