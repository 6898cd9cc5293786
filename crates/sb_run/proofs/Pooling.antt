-- What is kept of a seat over the sessions of a worker.
use Rattle.std.proofs.Common.{◌≡◌, ℕ, ◌<◌, List, [], ◌∷◌, ◌++◌, length, take, sym, subst, ◌∙◌, arith}
use Rattle.std.proofs.Math.Seq.{take-append_seam}
use Rattle.sb_directory.specs.Seats.{Seat}
use Rattle.sb_directory.specs.Serving.{IsStill, IsLater}
use Rattle.sb_directory.specs.Handling.{still-same, still-on, later-same, later-on}
use Rattle.sb_handlers.specs.declared.gate.GatePoint.{GatePoint}
use Rattle.sb_handlers.specs.Gates.{IsShut}
use Rattle.sb_run.specs.Pools.{IsKept, AreKept}

pub kept_same : (shut : Type 0) (seat : Seat) → IsKept shut seat seat
kept_same shut seat = record { later = later-same seat; still = λ _. still-same seat }

pub kept_on : (shut : Type 0) (old mid new : Seat) → IsKept shut old mid → IsKept shut mid new → IsKept shut old new
kept_on shut old mid new first next = record {
  later = later-on old mid new first.later next.later;
  still = λ is. still-on old mid new (first.still is) (next.still is);
}

-- what is kept where one thing is shut is kept where all is
pub kept_if : (all one : Type 0) (old new : Seat) → (all → one) → IsKept one old new → IsKept all old new
kept_if all one old new shuts kept = record { later = kept.later; still = λ is. kept.still (shuts is) }

-- a seat that is only later is kept where nothing is said to be shut
pub kept_later : (shut : Type 0) (old new : Seat) → IsLater old new → (shut → ⊥) → IsKept shut old new
kept_later shut old new later never = record { later = later; still = λ is. absurd (never is) }

-- what a session behind a gate keeps of a seat
pub kept_behind : {G : Type 0} (lets : G → ℕ → GatePoint → Type 0) (gate held : G) (session named : ℕ) (old before after new : Seat)
    → held ≡ gate → named ≡ session → before ≡ old → new ≡ after
    → IsLater before after → (IsShut (lets held named) → IsStill before after) → IsKept (IsShut (lets gate session)) old new
kept_behind lets gate held session named old before after new by of from to later still =
    let kept : IsKept (IsShut (lets gate session)) before after = record {
      later = later;
      still = λ shut. still (subst (λ (n : ℕ). IsShut (lets held n)) (sym of) (subst (λ g. IsShut (lets g session)) (sym by) shut));
    } in
    subst (IsKept (IsShut (lets gate session)) old) (sym to) (subst (λ (seat : Seat). IsKept (IsShut (lets gate session)) seat after) from kept)

-- what a call is given and leaves, under other names
pub kept_at : (shut : Type 0) (old from to new : Seat) → from ≡ old → to ≡ new → IsKept shut from to → IsKept shut old new
kept_at shut old from to new of gives kept = subst (λ (seat : Seat). IsKept shut seat new) of (subst (IsKept shut from) gives kept)

-- what was written over all of a list is all that it has
pub kept_written : (shut : Type 0) (old given new rest : List Seat) (count : ℕ) → given ≡ old → count ≡ length old → AreKept shut given new → AreKept shut old (take count (new ++ rest))
kept_written shut old given new rest count same of kept =
    let moved : AreKept shut old new = subst (λ (seats : List Seat). AreKept shut seats new) same kept in
    let whole : take count (new ++ rest) ≡ new = subst (λ (n : ℕ). take n (new ++ rest) ≡ new) (sym (of ∙ sym moved.as_many)) (take-append_seam new rest) in
    subst (AreKept shut old) (sym whole) moved

-- what holds wherever a list has an element holds where it has some
pub from_first : {T P : Type 0} (xs : List T) → ((index : ℕ) → T → index < length xs → P) → 0 < length xs → P
from_first [] each some = absurd (omega (arith, some))
from_first (x ∷ xs) each some = each 0 x some
