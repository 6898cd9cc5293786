-- Deltas that came from a peer.
use Rattle.std.specs.Prelude.{List, Option, Some, None}
use Rattle.sb_types.specs.Records.{Block}
use Rattle.sb_types.specs.Runs.{Stands}
use Rattle.sb_codec.specs.declared.message.Message.{Message}
use Rattle.sb_codec.specs.declared.message.Message.TheVariants.{Delta}

-- the blocks of a delta; no other message is one
abbrev pub delta_in : Message → Option (List Block)
delta_in (Delta blocks) = Some blocks
delta_in _ = None

-- each of these blocks is one of those
abbrev pub IsPartOf : List Block → List Block → Type 0
IsPartOf part all = (b : Block) → Stands part b → Stands all b
