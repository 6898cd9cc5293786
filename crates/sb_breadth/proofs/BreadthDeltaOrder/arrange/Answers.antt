use Rattle.std.proofs.Common.{rules}
use Rattle.std.proofs.lemmas.List.Sorted.{answers_always}
use Rattle.sb_budget.specs.declared.offered.Offered.{Offered}
use Rattle.sb_budget.proofs.OrderLemmas.{sorted_ascends}
use Rattle.sb_breadth.proofs.Ranks.{by_rank_total, follows}
use Rattle.sb_breadth.proofs.BreadthDeltaOrder.arrange.Goals as goal

pub returns-clause-order : goal.returns-clause-order
returns-clause-order c = c.sort_unstable_by_key.ensures.sorted (λ (x : Offered). (x.rank, x.owner)) (answers_always _ _ _ (λ f a r g h. search rules))

pub returns-clause-ascending : goal.returns-clause-ascending
returns-clause-ascending c = sorted_ascends by_rank_total follows _ _ c.requires c.sort_unstable_by_key.ensures.permutation (returns-clause-order c)
