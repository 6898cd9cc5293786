use Rattle.std.proofs.Common.{sym, ap, subst, ◌∙◌}
use Rattle.sb_budget.specs.Cut.{items_of_all, IsPart}
use Rattle.sb_budget.proofs.OrderLemmas.{owner_kept}
use Rattle.sb_budget.proofs.GatherLemmas.{of_owner_items}
use Rattle.sb_budget.proofs.order.orders_keep_owners.Goals as goal

pub returns-clause-owners : goal.returns-clause-owners
returns-clause-owners c = λ offered ordered owner offer moved ascends. owner_kept owner offered ordered offer moved ascends

pub returns-clause-items : goal.returns-clause-items
returns-clause-items c = λ offered ordered owner offer moved ascends.
    of_owner_items owner ordered ∙ ap items_of_all (owner_kept owner offered ordered offer moved ascends) ∙ sym (of_owner_items owner offered)

pub returns-clause-cut : goal.returns-clause-cut
returns-clause-cut c = λ offered ordered offer moved ascends can owner.
    let is = can owner in
    (is.0, is.1, is.2, subst (IsPart is.0 is.1 is.2) (sym (owner_kept owner offered ordered offer moved ascends)) is.3)
