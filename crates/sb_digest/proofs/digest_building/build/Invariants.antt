use Rattle.std.proofs.Common.{◌≡◌, ◌++◌}
use Rattle.std.specs.Prelude.{map}
use Rattle.sb_digest.specs.Builders.{IsDigestBuilder}
use Rattle.sb_digest.specs.Pairs.{pair_of, pairs_from}
use Rattle.sb_digest.proofs.digest_building.build.Given as goal

abbrev pub invariant-loop-owner : goal.invariant-loop-owner
invariant-loop-owner l = record {
  budget : l.front.budget ≡ l.fn.budget;
  from : l.front.from ≡ l.fn.from;
  front : IsDigestBuilder l.front;
  pairs : l.front.pairs ++ map pair_of l.owner-iterator ≡ pairs_from l.fn.from l.fn.holdings;
}
