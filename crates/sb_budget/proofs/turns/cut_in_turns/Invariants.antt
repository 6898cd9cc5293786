use Rattle.std.proofs.Common.{length}
use Rattle.sb_budget.specs.Parts.{all_of}
use Rattle.sb_budget.specs.Turns.{in_turns}
use Rattle.sb_budget.proofs.TurnLemmas.{IsTurn}
use Rattle.sb_budget.proofs.turns.cut_in_turns.Given as goal

abbrev pub invariant-loop-cursor : goal.invariant-loop-cursor
invariant-loop-cursor l = IsTurn l.budget l.turns (in_turns l.turns l.initial.queue.items) l.queue.items l.making

abbrev pub decreases-loop-cursor : goal.decreases-loop-cursor
decreases-loop-cursor l = length (all_of l.queue.items)
