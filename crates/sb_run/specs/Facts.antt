-- The figures in which a node tells how it is.
use Rattle.std.specs.Prelude.{ℕ, ◌-◌, List, [], ◌∷◌, ◌++◌, Option, Some, None, unwrap_or}
use Rattle.std.specs.Int.{from_bool}
use Rattle.sb_codec.specs.declared.message.figure.FigureKind.{FigureKind}
use Rattle.sb_codec.specs.declared.message.figure.FigureKind.TheVariants.{Uptime, CaughtUp, LogFault, Conflict, Version, Keys, Removals, Owners, Peers, Rounds, RoundFaults, Sessions, Workers, WorkersBusy, AllWorkersBusy, SessionFaults, LastSessionFault, OtherVersions, TurnedAway, FullWrites}
use Rattle.sb_codec.specs.Figures.{number_of}
use Rattle.sb_codec.specs.Records.{Figure, figure_of}
use Rattle.sb_run.specs.declared.facts.Facts.{Facts}
use Rattle.sb_control.specs.declared.log_cause.LogCause.{LogCause}
use Rattle.sb_control.specs.LogCauses.{number_of_cause}

abbrev pub log_fault : Option LogCause → ℕ
log_fault None = 0
log_fault (Some cause) = number_of_cause cause

abbrev pub figure : FigureKind → ℕ → Figure
figure kind value = figure_of (number_of kind) value

abbrev pub own_figures : Facts → List Figure
own_figures f =
    figure Uptime f.uptime
    ∷ figure CaughtUp (from_bool f.is_caught_up)
    ∷ figure LogFault (log_fault f.log_cause)
    ∷ figure Conflict (unwrap_or f.conflict 0)
    ∷ figure Version f.version
    ∷ figure Keys f.keys
    ∷ figure Removals (f.keys - f.rows)
    ∷ figure Owners f.owners
    ∷ []

abbrev pub course_figures : Facts → List Figure
course_figures f =
    figure Peers f.peers
    ∷ figure Rounds f.rounds.ended
    ∷ figure RoundFaults f.rounds.faults
    ∷ figure Sessions f.sessions
    ∷ figure Workers f.workers
    ∷ figure WorkersBusy f.workers_busy
    ∷ []

abbrev pub trouble_figures : Facts → List Figure
trouble_figures f =
    figure AllWorkersBusy f.troubles.busy_times
    ∷ figure SessionFaults f.troubles.session_faults
    ∷ figure LastSessionFault f.troubles.last_session_fault
    ∷ figure OtherVersions f.troubles.other_versions
    ∷ figure TurnedAway f.troubles.turned_away
    ∷ figure FullWrites f.troubles.full_writes
    ∷ []

abbrev pub figures_of : Facts → List Figure
figures_of f = own_figures f ++ (course_figures f ++ trouble_figures f)
