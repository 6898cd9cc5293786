use Rattle.std.proofs.Common.{◌≡◌, []}
use Rattle.std.specs.Prelude.{IsTrue}
use Rattle.std.specs.Io.KnownBytes.{Appends, Consumes, IsAtEnd}
use Rattle.http_server.specs.Connection.{config_of, history}
use Rattle.http_server.specs.Exchange.{Calls}
use Rattle.sb_http.proofs.serving.answer_all.Given as goal

abbrev pub invariant-loop : goal.invariant-loop
invariant-loop g l =
    let new = history l.connection in
    Consumes (g.R.Read.remaining l.fn.reader) (g.R.Read.remaining l.reader) new.received
    × Appends (g.W.Write.contents l.fn.writer) (g.W.Write.contents l.writer) new.sent
    × Calls g.S.Service.answers l.fn.service l.service [] new.calls
    × (config_of l.connection ≡ config_of l.fn.connection)
    × (IsTrue new.ended → IsAtEnd (g.R.Read.remaining l.reader))
