use Rattle.std.proofs.Common.{◌≡◌, replicate, []}
use Rattle.sb_views.proofs.writer.ViewWriter.readers.Given as goal

abbrev pub invariant-loop : goal.invariant-loop
invariant-loop g l = l.readers.items ≡ replicate l.counter []
