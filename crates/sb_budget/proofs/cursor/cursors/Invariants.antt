use Rattle.std.proofs.Common.{◌≡◌, ◌++◌}
use Rattle.std.specs.Prelude.{None}
use Rattle.sb_holdings.specs.Plain.{tables_from}
use Rattle.sb_digest.specs.Digests.{covers}
use Rattle.sb_budget.specs.Available.{number_for, offered_table}
use Rattle.sb_budget.proofs.PartLemmas.{all_pieces}
use Rattle.sb_budget.proofs.cursor.cursors.Given as goal

abbrev pub invariant-loop-owner : goal.invariant-loop-owner
invariant-loop-owner l =
    l.cursors.items ++ all_pieces (covers l.digest) (offered_table l.digest) (number_for l.digest) l.owner-iterator ≡ all_pieces (covers l.digest) (offered_table l.digest) (number_for l.digest) (tables_from None l.holdings)
