-- What may become of a purge of the own table that a node asks for after a request.
use Rattle.std.proofs.Common.{◌≡◌, ℕ, Option, None, Result, Ok, Err, inl, inr, refl, sym, subst}
use Rattle.std.specs.Prelude.{IfOk, IfErr, OnOk}
use Rattle.sb_types.specs.declared.fault.Fault.{Fault}
use Rattle.sb_holdings.specs.Nodes.{Node}
use Rattle.sb_log.specs.Records.{Committed, Log}
use Rattle.sb_directory.specs.Seats.{Seat, Begins, with_last_call}
use Rattle.sb_directory.specs.Serving.{IsStill}
use Rattle.sb_run.specs.OwnPurging.{IsPurge, IsLogPurged, IsUnpurged, MayPurge}
use Rattle.sb_run.proofs.Handing.{known_still}

module _ {L : Type 0} (seen : L → Log) (opening : Node) (old : L) (owed : Option Committed) (before : Seat) (new : L) (owes : Option Committed) (after : Seat) where
  -- it was not asked for
  pub none_asked : (least : ℕ) → IsStill before after → new ≡ old → owes ≡ owed → MayPurge seen opening least old owed before new owes after
  none_asked least still same owing = (after, still, inl (same, owing, refl))

  -- it was asked for, after a call of the seat that made no event
  pub purge_asked : (least given : ℕ) (asked : Seat) (result : Result (Option ℕ) Fault) → given ≡ least → Begins asked.last_call before → asked ≡ with_last_call before asked.last_call
      → IfOk result (λ floor. IsPurge opening given asked owed floor after) → IfOk result (λ floor. IsLogPurged seen old floor new) → OnOk result (owes ≡ None)
      → IfErr result (λ fault. IsUnpurged seen opening given old owed asked new owes after fault) → MayPurge seen opening least old owed before new owes after
  purge_asked least given asked (Ok floor) is_least begins same purges log none refused =
      let may : MayPurge seen opening given old owed before new owes after = (asked, known_still before asked begins same, inr (inl (floor, purges, log, none))) in
      subst (λ (l : ℕ). MayPurge seen opening l old owed before new owes after) is_least may
  purge_asked least given asked (Err fault) is_least begins same purges log none refused =
      let may : MayPurge seen opening given old owed before new owes after = (asked, known_still before asked begins same, inr (inr (fault, refused))) in
      subst (λ (l : ℕ). MayPurge seen opening l old owed before new owes after) is_least may

-- what comes before and after it changes neither the log nor what is owed
module _ {L : Type 0} (seen : L → Log) (opening : Node) (least : ℕ) (before after : Seat) where
  pub purge_between : (first old new last : L) (owed owing owes left : Option Committed) → old ≡ first → owing ≡ owed → last ≡ new → left ≡ owes
      → MayPurge seen opening least old owing before new owes after → MayPurge seen opening least first owed before last left after
  purge_between first old new last owed owing owes left old_same owed_same last_same left_same may =
      subst (λ (x : L). MayPurge seen opening least x owed before last left after) old_same
      (subst (λ (x : Option Committed). MayPurge seen opening least old x before last left after) owed_same
      (subst (λ (x : L). MayPurge seen opening least old owing before x left after) (sym last_same)
      (subst (λ (x : Option Committed). MayPurge seen opening least old owing before new x after) (sym left_same) may)))
