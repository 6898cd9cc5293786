use Rattle.std.proofs.Common.{List, ℕ, Option, refl, subst, inl, inr}
use Rattle.sb_frames.specs.Frames.{frame}
use Rattle.sb_frames.specs.Sending.{Sends}
use Rattle.sb_control.proofs.Receiving.{received_to, keeps_same}
use Rattle.sb_run.proofs.pool.Serving.serve_control.Goals as goal

pub returns-in-Ok-clause-controls : goal.returns-in-Ok-clause-controls
returns-in-Ok-clause-controls g c =
    let heard = c.in-Ok.ensures in
    inr (
      c.in-Ok.request,
      received_to c.args.connection.now c.receive_request.new.connection c.send-sent.new.self c.in-Ok.request c.send-sent.ensures.kept heard.receives,
      (
        c.reply_to-seat.result.1,
        c.reply_to-seat.ensures.answers,
        subst (λ (x : Option (List ℕ)). Sends x c.send-sent.new.self.output (frame c.reply_to-seat.result.1) c.send-sent.result) heard.output c.send-sent.ensures.sends,
      ),
    )

pub returns-in-Err-clause-controls : goal.returns-in-Err-clause-controls
returns-in-Err-clause-controls g c =
    let heard = c.in-Err.ensures in
    inl (c.in-Err.fault, heard.receives, refl, (refl, refl, refl), keeps_same c.args.connection.now.output c.receive_request.new.connection.output heard.output)
