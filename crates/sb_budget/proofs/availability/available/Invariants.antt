use Rattle.std.proofs.Common.{◌≡◌, ◌++◌}
use Rattle.std.specs.Prelude.{None}
use Rattle.sb_holdings.specs.Plain.{tables_from}
use Rattle.sb_digest.specs.Digests.{covers}
use Rattle.sb_budget.specs.Available.{number_for, offered_table}
use Rattle.sb_budget.proofs.AvailableLemmas.{all_parts}
use Rattle.sb_budget.proofs.availability.available.Given as goal

abbrev pub invariant-loop-owner : goal.invariant-loop-owner
invariant-loop-owner l =
    l.offered.items ++ all_parts (covers l.digest) (offered_table l.digest) (number_for l.digest) l.owner-iterator ≡ all_parts (covers l.digest) (offered_table l.digest) (number_for l.digest) (tables_from None l.holdings)
