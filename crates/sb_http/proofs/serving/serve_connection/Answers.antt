use Rattle.std.proofs.Common.{◌≡◌, ◌∙◌, subst}
use Rattle.http_server.specs.Connection.{config_of, history}
use Rattle.http_server.specs.History.{IsServed}
use Rattle.http_server.proofs.Theorems.{always_served}
use Rattle.sb_http.proofs.serving.serve_connection.Goals as goal

pub returns : goal.returns
returns g c =
    let s = c.answer_all.ensures in
    let end = c.answer_all.new.connection in (
      history end,
      (subst (λ k. Prim.∥◌∥₁ (IsServed k (history end))) (s.config ∙ c.new-connection.ensures.config) (always_served end), s.calls),
      s.read,
      s.written,
      s.done,
      s.end,
    )
