-- The blocks of a delta, each ended in its turn.
use Rattle.std.specs.Prelude.{List, [], ◌∷◌}
use Rattle.sb_types.specs.Records.{Block}
use Rattle.sb_holdings.specs.declared.ends.BlockEnd.{BlockEnd}
use Rattle.sb_holdings.specs.Ends.{Fits}
use Rattle.sb_holdings.specs.Nodes.{Node, NodeEvent, Took, node_after_block}

-- one end for each block: the one that fits after the blocks before it
abbrev pub Treats : Node → List Block → List BlockEnd → Type 0
Treats node [] [] = Unit {0}
Treats node [] (end ∷ ends) = ⊥
Treats node (b ∷ bs) [] = ⊥
Treats node (b ∷ bs) (end ∷ ends) = Fits node.held b end × Treats (node_after_block node b end) bs ends

-- each block taken in turn, with its end
abbrev pub took_each : List Block → List BlockEnd → List NodeEvent
took_each [] ends = []
took_each (b ∷ bs) [] = []
took_each (b ∷ bs) (end ∷ ends) = Took b end ∷ took_each bs ends
