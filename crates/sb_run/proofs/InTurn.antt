-- One piece of work after another.
use Rattle.std.proofs.Common.{◌≡◌, ℕ, Bool, List, [], ◌∷◌, Option, refl, subst}
use Rattle.sb_types.specs.Records.{Settings}
use Rattle.sb_holdings.specs.Nodes.{Node}
use Rattle.sb_log.specs.Records.{Committed, Log}
use Rattle.sb_directory.specs.Seats.{Seat}
use Rattle.sb_run.specs.declared.arrivals.Work.{Work}
use Rattle.sb_run.specs.declared.node.Beat.{Beat}
use Rattle.sb_run.specs.declared.own_writes.ClosableLog.{ClosableLog}
use Rattle.sb_run.specs.OwnPurging.{MayPurge}
use Rattle.sb_run.specs.Works.{Does, DoesNext, Owning, WorksInTurn, WorksTo, closable}

module _ {L : Type 0} (seen : L → Log) (opening : Node) (settings : Settings) (beat of : Option Beat) (least left : ℕ) (work : Work) where
  -- what was done, with the beat and the purges under other names
  pub does_next : (begun : ClosableLog L) (owed : Option Committed) (old done new : Owning L)
      → begun.log ≡ old.log.log → owed ≡ old.owed → of ≡ beat → left ≡ least
      → Does (closable seen) opening settings of work begun owed old.seat done.log done.owed done.seat
      → MayPurge (closable seen) opening left done.log done.owed done.seat new.log new.owed new.seat
      → DoesNext seen opening settings beat least work old new
  does_next begun owed old done new same owing of_beat of_least does purges = record {
    begun = begun;
    same = same;
    done = done;
    does =
        subst (λ (b : Option Beat). Does (closable seen) opening settings b work begun old.owed old.seat done.log done.owed done.seat) of_beat
        (subst (λ (o : Option Committed). Does (closable seen) opening settings of work begun o old.seat done.log done.owed done.seat) owing does);
    purges = subst (λ (l : ℕ). MayPurge (closable seen) opening l done.log done.owed done.seat new.log new.owed new.seat) of_least purges;
  }

  -- one more piece of work
  pub works_on : (first old new : Owning L) → of ≡ beat → left ≡ least
      → (done : List Work) × WorksInTurn seen opening settings beat least done first old → DoesNext seen opening settings of left work old new
      → (done : List Work) × WorksInTurn seen opening settings beat least done first new
  works_on first old new of_beat of_least before next =
      let does : DoesNext seen opening settings beat least work old new =
      subst (λ (b : Option Beat). DoesNext seen opening settings b least work old new) of_beat
      (subst (λ (l : ℕ). DoesNext seen opening settings of l work old new) of_least next)
      in
      (work ∷ before.0, (old, before.1, does))

module _ {L : Type 0} (seen : L → Log) (opening : Node) (settings : Settings) (beat : Option Beat) (least : ℕ) where
  -- nothing was done
  pub none_done : (old : Owning L) → WorksTo seen opening settings beat least old old.seat
  none_done old = (old, [], refl, refl)

  -- what was done, from the same log under another name
  pub works_from : (log begun : ClosableLog L) (owed owing : Option Committed) (seat : Seat) (new : Owning L) → begun ≡ log → owing ≡ owed
      → (done : List Work) × WorksInTurn seen opening settings beat least done (record { log = begun; owed = owing; seat = seat }) new
      → WorksTo seen opening settings beat least (record { log = log; owed = owed; seat = seat }) new.seat
  works_from log begun owed owing seat new same owes works =
      subst (λ (l : ClosableLog L). WorksTo seen opening settings beat least (record { log = l; owed = owed; seat = seat }) new.seat) same
      (subst (λ (o : Option Committed). WorksTo seen opening settings beat least (record { log = begun; owed = o; seat = seat }) new.seat) owes
      (new, works.0, works.1, refl))
