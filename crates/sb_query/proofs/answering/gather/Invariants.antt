use Rattle.sb_query.proofs.Fronts.{IsGathering}
use Rattle.sb_query.proofs.answering.gather.Given as goal

abbrev pub invariant-loop-row : goal.invariant-loop-row
invariant-loop-row l = IsGathering l.fn.budget l.fn.asked l.rows.items l.room l.row-iterator
