use Rattle.std.proofs.Common.{◌≡◌, ◌++◌, true}
use Rattle.std.specs.Prelude.{map, None}
use Rattle.std.specs.List.{list_all}
use Rattle.sb_types.specs.Text.{is_name}
use Rattle.sb_holdings.specs.Plain.{tables_from}
use Rattle.sb_digest.specs.Digests.{Pair}
use Rattle.sb_world.specs.Turns.{numbered_pair}
use Rattle.sb_world.proofs.offer.asked.Given as goal

abbrev pub invariant-loop-name : goal.invariant-loop-name
invariant-loop-name l = record {
  pairs : l.pairs.items ++ map (numbered_pair l.fn.owner l.fn.after) l.name-iterator ≡ map (numbered_pair l.fn.owner l.fn.after) (tables_from None l.fn.holdings);
  names : list_all (λ (pair : Pair). is_name pair.owner) l.pairs.items ≡ true;
}
