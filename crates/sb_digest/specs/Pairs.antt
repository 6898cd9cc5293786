-- The pairs that report what is held.
use Rattle.std.specs.Prelude.{ℕ, List, Option, map}
use Rattle.std.specs.Option.{option_map}
use Rattle.sb_types.specs.Records.{Holder}
use Rattle.sb_holdings.specs.Held.{Held}
use Rattle.sb_holdings.specs.Plain.{holders_from}
use Rattle.sb_digest.specs.Digests.{Pair, staged_pair}

-- the pair of an owner: the held version of its shown table, and the floor and the progress of its stage, if it has one
abbrev pub pair_of : List ℕ × Holder → Pair
pair_of p = staged_pair p.0 p.1.shown.held (option_map (λ s. (s.floor, s.progress)) p.1.stage)

-- one pair for each owner from a bound on, in ascending order of the names
abbrev pub pairs_from : Option (List ℕ) → Held → List Pair
pairs_from from held = map pair_of (holders_from from held)
