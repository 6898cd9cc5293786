-- A world that has just been made.
use Rattle.std.specs.Prelude.{◌≡◌, ◌⊎◌, ℕ, Bool, true, false, ◌||◌, nat_eq, nat_lt, if◌then◌else◌, List, [], ◌∷◌, length, IfSome, Option, Some, None, Err}
use Rattle.std.specs.List.{list_any, list_all}
use Rattle.std.specs.Cmp.Lexicographic.{pointwise}
use Rattle.sb_types.specs.declared.fault.Fault.{Fault}
use Rattle.sb_types.specs.declared.fault.Fault.TheVariants.{NoMemory, BadSetting, SameName, WrongCluster}
use Rattle.sb_types.specs.declared.limits.TheConstants.{OWNERS_MOST}
use Rattle.sb_types.specs.Records.{Settings}
use Rattle.sb_table.specs.Contents.{IsContent}
use Rattle.sb_holdings.specs.Nodes.{opened_node}
use Rattle.sb_types.specs.Runs.{Stands}
use Rattle.sb_log.specs.Records.{Log}
use Rattle.sb_log.specs.Puts.{IsSure, Stays, Loads}
use Rattle.sb_world.specs.Places.{Place, Seen, place_at}

-- one of the logs has the name
abbrev pub is_owned : List ℕ → List Log → Bool
is_owned name logs = list_any (λ log. pointwise nat_eq log.owner name) logs

-- two logs have one name
abbrev pub has_twins : List Log → Bool
has_twins [] = false
has_twins (log ∷ logs) = is_owned log.owner logs || has_twins logs

-- each log is of this cluster
abbrev pub are_of : List ℕ → List Log → Bool
are_of cluster logs = list_all (λ log. pointwise nat_eq log.cluster cluster) logs

-- why no world can be made from these logs: the first reason that holds
abbrev pub refusal : Settings → List Log → Option Fault
refusal settings logs =
    if nat_eq (length logs) 0 || nat_lt OWNERS_MOST (length logs) then Some BadSetting
    else (if has_twins logs then Some SameName
    else (if are_of settings.cluster logs then None else Some WrongCluster))

-- why no node opened with the content of a log: reading the log gives this fault, or the log was open and memory was missing
abbrev pub IsOpeningFault : Log → Fault → Type 0
IsOpeningFault log fault = ((new : Log) × Loads log (Err fault) new) ⊎ ((log.is_open ≡ true) × (fault ≡ NoMemory))

-- the fault of the first log with which no node opened; the logs before it were open
abbrev pub IsFirstFault : List Log → Fault → Type 0
IsFirstFault [] fault = ⊥
IsFirstFault (log ∷ logs) fault = IsOpeningFault log fault ⊎ ((log.is_open ≡ true) × IsFirstFault logs fault)

-- the refusal of these logs; if there is none, the fault of the first log with which no node opened
abbrev pub IsMakingFault : Option Fault → List Log → Fault → Type 0
IsMakingFault (Some refused) logs fault = fault ≡ refused
IsMakingFault None logs fault = IsFirstFault logs fault

-- nothing can make the store of one of these logs break its promise
abbrev pub AreSureLogs : List Log → Type 0
AreSureLogs logs = (log : Log) → Stands logs log → IsSure log

-- a node that has just opened with the content of its log
pub record IsNew (of_world : Settings) (p : Place) : Type 0 where
  pub owner : p.log.owner ≡ p.me
  pub is_open : p.log.is_open ≡ true
  pub table : p.log.is_clean ≡ true → IsContent p.log.content
  pub settings : p.core.settings ≡ of_world
  pub node : p.log.is_clean ≡ true → p.core.node ≡ opened_node p.me p.log.content
  pub waiting : p.waiting ≡ []
  pub up : p.is_up ≡ true

-- the node of this log, whose content is as before
pub record IsNodeOf (given : Log) (p : Place) : Type 0 where
  pub stays : Stays given p.log
  pub content : p.log.is_clean ≡ true → p.log.content ≡ given.content

-- each log has its node, in their order, and there are no others
abbrev pub HaveNodes : List Log → List Place → Type 0
HaveNodes [] [] = Unit {0}
HaveNodes [] (p ∷ places) = ⊥
HaveNodes (log ∷ logs) [] = ⊥
HaveNodes (log ∷ logs) (p ∷ places) = IsNodeOf log p × HaveNodes logs places

-- each node has just opened, nothing is connected, and nothing was sent
pub record IsMade (world : Seen) : Type 0 where
  pub places : (name : List ℕ) → IfSome (place_at world.places name) (IsNew world.settings)
  pub connections : world.connections ≡ []
  pub sent : world.sent ≡ []
