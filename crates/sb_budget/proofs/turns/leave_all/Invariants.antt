use Rattle.std.proofs.Common.{◌≡◌, ◌++◌, List, length}
use Rattle.sb_budget.specs.Offers.{Item}
use Rattle.sb_budget.specs.Cut.{items_of_all, blocks_of}
use Rattle.sb_budget.specs.Parts.{all_of}
use Rattle.sb_budget.proofs.turns.leave_all.Given as goal

abbrev pub invariant-loop-cursor : goal.invariant-loop-cursor
invariant-loop-cursor l = (front left : List Item) → l.fn.making.blocks ≡ blocks_of front left →
    (more : List Item) × (left ++ items_of_all (all_of l.fn.owners.items) ≡ more ++ items_of_all (all_of l.owners.items)) × (l.making.blocks ≡ blocks_of front more)

abbrev pub decreases-loop-cursor : goal.decreases-loop-cursor
decreases-loop-cursor l = length l.owners.items
