use Rattle.std.proofs.lemmas.Result.{IfOk-weaker}
use Rattle.sb_run.proofs.http_threads.owners_of.Goals as goal

pub returns-clause-owners : goal.returns-clause-owners
returns-clause-owners g c = IfOk-weaker c.owners_in.result _ _ (λ owners listed. (c.snapshot.result, c.snapshot.ensures, listed)) c.owners_in.ensures.owners
