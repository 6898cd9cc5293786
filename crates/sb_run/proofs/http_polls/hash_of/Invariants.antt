use Rattle.std.proofs.Common.{◌≡◌}
use Rattle.std.specs.Prelude.{fold, flat_map}
use Rattle.std.specs.Hash.DefaultHasher as sip
use Rattle.std.specs.RandomState.{initial_hasher}
use Rattle.sb_run.specs.HttpMarks.{hashed}
use Rattle.sb_run.proofs.http_polls.hash_of.Given as goal

abbrev pub invariant-loop-row : goal.invariant-loop-row
invariant-loop-row l = fold sip.write l.hasher (flat_map hashed l.row-iterator) ≡ fold sip.write (initial_hasher l.fn.keys) (flat_map hashed l.fn.rows)
