-- The calls that a session makes to a node: what the node answers, and what the calls leave.
use Rattle.std.specs.Prelude.{◌≡◌, List, [], ◌∷◌, Ok, Err}
use Rattle.sb_types.specs.declared.fault.Fault.TheVariants.{NoMemory}
use Rattle.sb_digest.specs.Builders.{IsLongestFront}
use Rattle.sb_digest.specs.Pairs.{pairs_from}
use Rattle.sb_session.specs.Handlers.{Act, tells, gives, applies}
use Rattle.sb_node.specs.Answers.{IsDelta, IsAnswer}
use Rattle.sb_node.specs.Calls.{Call, Applied, replay_calls, AreCalls}
use Rattle.sb_node.specs.Cores.{Core, with_node}
use Rattle.sb_holdings.specs.Treats.{Treats}

-- what a call enters: the delta that it applied
abbrev pub entered_by : Act → List Call
entered_by (tells from want answer) = []
entered_by (gives theirs answer) = []
entered_by (applies blocks (Ok ends)) = Applied blocks ends ∷ []
entered_by (applies blocks (Err fault)) = []

-- what the node answers in its present state; the only fault is missing memory
abbrev pub Answers : Core → Act → Type 0
Answers core (tells from want (Ok digest)) = IsLongestFront core.settings.budget want from (pairs_from from core.node.held) digest
Answers core (tells from want (Err fault)) = fault ≡ NoMemory
Answers core (gives theirs (Ok blocks)) = IsDelta core.settings core.node.held theirs blocks × IsAnswer core.settings.budget core.node.held theirs blocks
Answers core (gives theirs (Err fault)) = fault ≡ NoMemory
Answers core (applies blocks (Ok ends)) = Treats core.node blocks ends
Answers core (applies blocks (Err fault)) = fault ≡ NoMemory

-- the node answers this way, and is then the replay of what the call entered
pub record Steps (old : Core) (act : Act) (new : Core) : Type 0 where
  pub answers : Answers old act
  pub calls : AreCalls (entered_by act)
  pub replay : new ≡ with_node old (replay_calls old.node (entered_by act))

-- some calls lead from the one to the other
pub record IsReplay (old new : Core) : Type 0 where
  pub calls : List Call
  pub are : AreCalls calls
  pub replay : new ≡ with_node old (replay_calls old.node calls)
