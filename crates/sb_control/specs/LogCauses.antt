-- Why a node takes no more writes into its log, as a number.
use Rattle.std.specs.Prelude.{ℕ, ◌==◌, if◌then◌else◌, Option, Some, None}
use Rattle.sb_log.specs.declared.cause.StoreCause.{StoreCause}
use Rattle.sb_log.specs.Cause.{number_of, cause_numbered}
use Rattle.sb_control.specs.declared.log_cause.LogCause.{LogCause}
use Rattle.sb_control.specs.declared.log_cause.LogCause.TheVariants.{Store, Lost}
use Rattle.sb_control.specs.declared.log_cause.LogLoss.TheVariants.{Removed, Replaced}

-- the number of the cause of its store, and two more
abbrev pub number_of_cause : LogCause → ℕ
number_of_cause (Store cause) = number_of cause
number_of_cause (Lost Removed) = 8
number_of_cause (Lost Replaced) = 9

abbrev pub of_store : Option StoreCause → Option LogCause
of_store None = None
of_store (Some cause) = Some (Store cause)

abbrev pub log_cause_numbered : ℕ → Option LogCause
log_cause_numbered n =
    if n == 8 then Some (Lost Removed)
    else (if n == 9 then Some (Lost Replaced) else of_store (cause_numbered n))
