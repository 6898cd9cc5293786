use Rattle.std.proofs.Common.{◌<◌, ℕ, List, length, IfOk, IsSorted, subst}
use Rattle.std.proofs.lemmas.Result.{IfOk-weaker}
use Rattle.sb_types.specs.Records.{Block}
use Rattle.sb_budget.specs.declared.turns.Turns.TheVariants as turns
use Rattle.sb_budget.specs.Orders.{AscendsByOwner}
use Rattle.sb_budget.specs.Turns.{in_turns}
use Rattle.sb_budget.proofs.ListingLemmas.{listing_can_cut, listing_delta, listing_length}
use Rattle.sb_budget.proofs.TurnLemmas.{in_turns_all}
use Rattle.sb_breadth.specs.Breadth.{by_rank}
use Rattle.sb_breadth.proofs.Ranks.{in_turns_sorted, in_turns_ascends}
use Rattle.sb_breadth.proofs.BreadthDeltaOrder.delta_of.Goals as goal

pub cut_in_turns-requires-clause-items : goal.cut_in_turns-requires-clause-items
cut_in_turns-requires-clause-items c =
    let are = c.requires.owners.2 in
    listing_can_cut are _ (in_turns_all turns.Last _) (in_turns_ascends are)

pub returns-clause-order : goal.returns-clause-order
returns-clause-order c held digest are =
    IfOk-weaker c.cut_in_turns.result _ _
    (λ delta cut. listing_delta are _ (in_turns_all turns.Last _) (in_turns_ascends are) (IsSorted by_rank) c.args.budget delta (in_turns_sorted are) cut)
    c.cut_in_turns.ensures.cut

pub returns-clause-delta : goal.returns-clause-delta
returns-clause-delta c held digest are =
    IfOk-weaker c.cut_in_turns.result _ _
    (λ delta cut. listing_delta are _ (in_turns_all turns.Last _) (in_turns_ascends are) AscendsByOwner c.args.budget delta (in_turns_ascends are) cut)
    c.cut_in_turns.ensures.cut

pub returns-clause-goes : goal.returns-clause-goes
returns-clause-goes c held digest are =
    subst (λ (n : ℕ). IfOk c.cut_in_turns.result (λ (delta : List Block). 0 < n → 0 < length delta)) (listing_length are _ (in_turns_all turns.Last _) (in_turns_ascends are)) c.cut_in_turns.ensures.some
