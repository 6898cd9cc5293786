use Rattle.sb_budget.specs.Cut.{items_of_all}
use Rattle.sb_budget.specs.Making.{IsTaking}
use Rattle.sb_budget.proofs.cutting.cut.Given as goal

abbrev pub invariant-loop-item : goal.invariant-loop-item
invariant-loop-item l =
    (goal.iterator-loop-item).can_next l.item-iterator × (goal.iterator-loop-item).is_finite l.item-iterator × IsTaking l.fn.budget (items_of_all l.yielded) l.is_full l.making
