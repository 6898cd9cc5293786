-- The steps of a handler behind a gate.
use Rattle.std.proofs.Common.{◌≡◌, ◌⊎◌, ℕ, refl, false, Ok, Err}
use Rattle.sb_types.specs.declared.fault.Fault.TheVariants.{TurnsSpent}
use Rattle.sb_session.specs.Handlers.{Act, tells, gives, applies, may_enter}
use Rattle.sb_handlers.specs.declared.gate.GatePoint.{GatePoint}
use Rattle.sb_handlers.specs.declared.gate.GatePoint.TheVariants.{BeforeApply, AfterAnswer}

-- the gate lets the session apply no delta
abbrev pub IsShut : (GatePoint → Type 0) → Type 0
IsShut lets = lets BeforeApply → ⊥

-- it lets no session apply a delta
abbrev pub AreShut : (ℕ → GatePoint → Type 0) → Type 0
AreShut lets = (session : ℕ) → IsShut (lets session)

-- it lets the session apply this delta, or go on after this answer
abbrev pub IsLet : (GatePoint → Type 0) → Act → Type 0
IsLet lets (tells from want answer) = Unit {0}
IsLet lets (gives digest (Ok blocks)) = lets AfterAnswer
IsLet lets (gives digest (Err fault)) = Unit {0}
IsLet lets (applies blocks answer) = lets BeforeApply

-- it turned the session away behind an answer, or before this delta was applied, and so no more turns are granted
abbrev pub IsTurnedBack : (GatePoint → Type 0) → Act → Type 0
IsTurnedBack turns_away (tells from want answer) = ⊥
IsTurnedBack turns_away (gives digest answer) = (answer ≡ Err TurnsSpent) × turns_away AfterAnswer
IsTurnedBack turns_away (applies blocks answer) = (answer ≡ Err TurnsSpent) × turns_away BeforeApply

-- a step of the handler itself, where the gate lets it be; or the gate turns the session away, and nothing is entered
abbrev pub GatedStep : {H : Type 0} → (GatePoint → Type 0) → (GatePoint → Type 0) → (H → Act → H → Type 0) → (H → H → Type 0) → (H → H → Type 0) → H → Act → H → Type 0
GatedStep lets turns_away step stays grows old act new = (IsLet lets act × step old act new) ⊎ (IsTurnedBack turns_away act × (stays old new × grows old new))

-- behind a gate that lets the session apply no delta nothing is entered
pub let-enters : (lets : GatePoint → Type 0) (act : Act) → IsLet lets act → IsShut lets → may_enter act ≡ false
let-enters lets (tells from want answer) is shut = refl
let-enters lets (gives digest answer) is shut = refl
let-enters lets (applies blocks (Ok ends)) is shut = absurd (shut is)
let-enters lets (applies blocks (Err fault)) is shut = refl
