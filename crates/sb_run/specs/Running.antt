-- With what a node opens, what it starts from, and why it does not run.
use Rattle.std.specs.Prelude.{◌≡◌, ◌⊎◌, ◌+◌, ◌≤◌, ℕ, true, nat_eq, nat_lt, if◌then◌else◌, List, Option, Some, None, is_some, Result, Err, IfErr, IsErr}
use Rattle.std.specs.Borrow.{Bor}
use Rattle.std.specs.Cmp.Lexicographic.{pointwise}
use Rattle.sb_types.specs.declared.fault.Fault.{Fault}
use Rattle.sb_types.specs.declared.fault.Fault.TheVariants.{NoMemory, BadSetting, ReadFailed, StoreFailed, WrongCluster}
use Rattle.sb_types.specs.Records.{Settings, Table}
use Rattle.sb_holdings.specs.Nodes.{Node, opened_node}
use Rattle.sb_log.specs.Records.{Log}
use Rattle.sb_log.specs.Puts.{Loads}
use Rattle.sb_node.specs.Cores.{Core}
use Rattle.sb_run.specs.declared.node.OnLogFault.{OnLogFault}
use Rattle.sb_run.specs.declared.node.OnLogFault.TheVariants.{Exit}

-- the table is what the log has, where that is open and its store kept its promise
abbrev pub IsReadFrom : Log → Table → Type 0
IsReadFrom log table = log.is_open ≡ true → log.is_clean ≡ true → table ≡ log.content

-- the node holds its owner's table alone, under the name of the log's owner
abbrev pub IsOpenedFrom : Log → Node → Type 0
IsOpenedFrom log node = (table : Table) × (node ≡ opened_node log.owner table) × IsReadFrom log table

-- the tag has this node as it was opened and its settings, and as many seats, and parts of the ledger, as these ask for
abbrev pub IsTagOf : Node → Settings → ℕ → ℕ → Core → Type 0
IsTagOf opening settings seats parts core =
    (opening ≡ core.node) × (settings ≡ core.settings) × (core.settings.seats ≡ seats) × (core.settings.seats ≡ parts)

-- the node was opened from its log, and it has a seat for each worker and two more
abbrev pub IsStarted : Log → Core → Type 0
IsStarted log core = IsOpenedFrom log core.node × (core.settings.workers + 2 ≤ core.settings.seats)

-- a seat for each worker and two more; and one if it answers over HTTP
abbrev pub seats_least : Settings → Option (Bor (List ℕ)) → ℕ
seats_least settings http = settings.workers + 2 + (if is_some http then 1 else 0)

-- why a node does not run, before its log is read: the first reason that holds
abbrev pub start_refusal : Settings → Option (Bor (List ℕ)) → Log → Option Fault
start_refusal settings http log =
    if nat_lt settings.seats (seats_least settings http) then Some BadSetting
    else (if pointwise nat_eq log.cluster settings.cluster then None else Some WrongCluster)

-- there is no memory or no thread; or the log failed, and the node is to exit then
abbrev pub IsEndFault : OnLogFault → Fault → Type 0
IsEndFault on_log_fault fault = (fault ≡ NoMemory) ⊎ ((on_log_fault ≡ Exit) × (fault ≡ StoreFailed))

-- the node ends by a fault, or a socket can't be bound
abbrev pub IsOpenedFault : OnLogFault → Fault → Type 0
IsOpenedFault on_log_fault fault = IsEndFault on_log_fault fault ⊎ (fault ≡ ReadFailed)

-- that reason; else the log can't be read; else the node ends by a fault, or a socket can't be bound
abbrev pub IsStartFault : Option Fault → Log → OnLogFault → Fault → Type 0
IsStartFault (Some refused) log on_log_fault fault = fault ≡ refused
IsStartFault None log on_log_fault fault =
    ((new : Log) × Loads log (Err fault) new) ⊎ ((log.is_open ≡ true) × IsOpenedFault on_log_fault fault)

abbrev pub IsRunningFault : Settings → Option (Bor (List ℕ)) → Log → OnLogFault → Fault → Type 0
IsRunningFault settings http log on_log_fault fault = IsStartFault (start_refusal settings http log) log on_log_fault fault

-- that reason; else the node ends by a fault, or a socket can't be bound: a closed log is not read
abbrev pub IsClosedStartFault : Option Fault → OnLogFault → Fault → Type 0
IsClosedStartFault (Some refused) on_log_fault fault = fault ≡ refused
IsClosedStartFault None on_log_fault fault = IsOpenedFault on_log_fault fault

-- a node whose log is closed ends by such a fault; if it is to exit then, it ends by one
abbrev pub RunsClosed : {A : Type 0} → Option Fault → OnLogFault → Result A Fault → Type 0
RunsClosed refused on_log_fault result =
    IfErr result (IsClosedStartFault refused on_log_fault) × (on_log_fault ≡ Exit → IsErr result)
