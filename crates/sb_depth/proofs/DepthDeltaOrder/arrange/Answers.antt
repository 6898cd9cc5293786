use Rattle.std.proofs.Common.{rules}
use Rattle.std.proofs.lemmas.List.Sorted.{answers_always}
use Rattle.sb_budget.specs.declared.offered.Offered.{Offered}
use Rattle.sb_budget.specs.Orders.{version_of}
use Rattle.sb_budget.proofs.OrderLemmas.{sorted_ascends}
use Rattle.sb_depth.proofs.Counts.{by_count_total, follows}
use Rattle.sb_depth.proofs.DepthDeltaOrder.arrange.Goals as goal

pub returns-clause-order : goal.returns-clause-order
returns-clause-order c = c.sort_unstable_by_key.ensures.sorted (λ (x : Offered). (record { 0 = x.count }, x.owner, version_of x)) (answers_always _ _ _ (λ f a r g h. search rules))

pub returns-clause-ascending : goal.returns-clause-ascending
returns-clause-ascending c = sorted_ascends by_count_total follows _ _ c.requires c.sort_unstable_by_key.ensures.permutation (returns-clause-order c)
