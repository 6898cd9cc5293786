use Rattle.std.proofs.Common.{◌≡◌, ◌++◌, ℕ, List}
use Rattle.std.specs.List.{filter_map}
use Rattle.std.specs.FinMap.{entries}
use Rattle.sb_holdings.specs.Plain.{table_of}
use Rattle.sb_budget.specs.Backlogs.{part_since}
use Rattle.sb_budget.proofs.since.cursors_since.Given as goal

abbrev pub invariant-loop-owner : goal.invariant-loop-owner
invariant-loop-owner l =
    l.cursors.items ++ filter_map (λ (q : List ℕ × ℕ). part_since q.0 (table_of l.holdings q.0) q.1) l.owner-iterator
    ≡ filter_map (λ (q : List ℕ × ℕ). part_since q.0 (table_of l.holdings q.0) q.1) (entries l.backlog)
