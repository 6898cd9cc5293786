use Rattle.std.proofs.Common.{IfOk, refl, subst}
use Rattle.std.proofs.lemmas.Result.{IfOk-weaker}
use Rattle.sb_http.specs.Acts.{polls}
use Rattle.sb_run.specs.HttpReads.{HttpSeat, SeatReads}
use Rattle.sb_run.proofs.http_threads.SeatBackendBackend.poll.Goals as goal

pub returns-clause-ok : goal.returns-clause-ok
returns-clause-ok g c =
    subst (λ (s : HttpSeat). IfOk c.replace_with.result (λ found. SeatReads g.S.NodeTag.opening g.S.DirectoryTag.settings s
    (polls c.args.ask.now c.args.patience.now found.reply found.mark) (record { seat = c.replace_with.new.dest; keys = c.self.inside.keys })))
    c.self.view_is (IfOk-weaker c.replace_with.result _ _ (λ found polled. (refl, polled)) c.replace_with.ensures.0)
