use Rattle.std.proofs.Common.{◌≡◌, ℕ, List, [], ◌++◌, take, Ok, sym, ap, subst, ◌∙◌}
use Rattle.std.specs.Io.KnownBytes.{Appends, Consumes}
use Rattle.http_server.specs.Connection.{history}
use Rattle.http_server.specs.History.{History}
use Rattle.http_server.proofs.KnownLemmas.{Appends-then, Appends-kept, Consumes-then}
use Rattle.http_server.proofs.StreamLemmas.{Calls-then}
use Rattle.sb_http.proofs.Ends.{found-end}
use Rattle.sb_http.proofs.serving.answer_all.Goals.{then-wants_read+then-not-wants_write+in_ok-flush-2+in_ok-read_from, else-wants_read+in_ok-write_to+else-branch-eq0}
use Rattle.sb_http.proofs.serving.answer_all.Goals as goal

pub returns-in_err-flush-clause-calls : goal.returns-in_err-flush-clause-calls
returns-in_err-flush-clause-calls g c = Calls-then g.S.Service.answers _ _ _ [] _ _ c.loop.invariant.2 c.advance.ensures.calls

pub returns-then-is_done-clause-calls : goal.returns-then-is_done-clause-calls
returns-then-is_done-clause-calls g c = Calls-then g.S.Service.answers _ _ _ [] _ _ c.loop.invariant.2 c.advance.ensures.calls

pub returns-in_err-flush-2-clause-calls : goal.returns-in_err-flush-2-clause-calls
returns-in_err-flush-2-clause-calls g c = Calls-then g.S.Service.answers _ _ _ [] _ _ c.loop.invariant.2 c.advance.ensures.calls

pub returns-in_err-read_from-clause-calls : goal.returns-in_err-read_from-clause-calls
returns-in_err-read_from-clause-calls g c =
    let all = Calls-then g.S.Service.answers _ _ _ [] _ _ c.loop.invariant.2 c.advance.ensures.calls in
    (all.0, ap (λ (h : History). h.calls) c.in_err-read_from.ensures.err.0 ∙ all.1, all.2)

pub returns-in_err-write_to-clause-calls : goal.returns-in_err-write_to-clause-calls
returns-in_err-write_to-clause-calls g c =
    let all = Calls-then g.S.Service.answers _ _ _ [] _ _ c.loop.invariant.2 c.advance.ensures.calls in
    (all.0, ap (λ k. (history k).calls) c.in_err-write_to.ensures.err.0 ∙ all.1, all.2)

pub returns-then-branch-eq0-clause-calls : goal.returns-then-branch-eq0-clause-calls
returns-then-branch-eq0-clause-calls g c =
    let all = Calls-then g.S.Service.answers _ _ _ [] _ _ c.loop.invariant.2 c.advance.ensures.calls in
    (all.0, ap (λ (h : History). h.calls) c.in_ok-write_to.ensures.ok.0 ∙ all.1, all.2)

pub loop-preserved : goal.loop-preserved
loop-preserved g c =
    let read = c.loop.invariant.0 in
    let written = c.loop.invariant.1 in
    let quiet = c.advance.ensures.quiet in
    let config = c.advance.ensures.config ∙ c.loop.invariant.3 in
    let all = Calls-then g.S.Service.answers _ _ _ [] _ _ c.loop.invariant.2 c.advance.ensures.calls in
    elim c.if-wants_read.branch [
      | then-wants_read+then-not-wants_write+in_ok-flush-2+in_ok-read_from w ↦
          let came = w.in_ok-read_from.ensures.ok in
          rw (w.connection-is, w.reader-is, w.writer-is) (
            subst (λ (t : List ℕ). Consumes (g.R.Read.remaining c.args.reader.now) (g.R.Read.remaining w.read_from.new.reader) t) (sym (ap (λ (h : History). h.received) came.3 ∙ ap (λ (t : List ℕ). t ++ came.0) quiet.0)) (Consumes-then _ _ _ _ came.0 read came.2),
            subst (λ (t : List ℕ). Appends (g.W.Write.contents c.args.writer.now) (g.W.Write.contents w.flush-then-not-wants_write.new.self) t) (sym (ap (λ (h : History). h.sent) came.3 ∙ quiet.2)) (Appends-kept _ _ _ _ written w.flush-then-not-wants_write.ensures.bytes),
            (all.0, ap (λ (h : History). h.calls) came.3 ∙ all.1, all.2),
            w.read_from.ensures.config ∙ config,
            λ is. found-end _ came.0 _ (c.wants_read.ensures.0 w.if-wants_read.true).1 came.1
                (λ none. w.in_ok-read_from.ensures.end (ap Ok none) (c.wants_read.ensures.0 w.if-wants_read.true).1)
                (sym (ap (λ (h : History). h.ended) came.3) ∙ is),
          )
      | else-wants_read+in_ok-write_to+else-branch-eq0 w ↦
          let went = w.in_ok-write_to.ensures.ok in
          let text = take w.in_ok-write_to.field-0 (history c.advance.new.self).pending in
          rw (w.connection-is, w.reader-is, w.writer-is) (
            subst (λ (t : List ℕ). Consumes (g.R.Read.remaining c.args.reader.now) (g.R.Read.remaining c.loop.reader) t) (sym (ap (λ (h : History). h.received) went.0 ∙ quiet.0)) read,
            subst (λ (t : List ℕ). Appends (g.W.Write.contents c.args.writer.now) (g.W.Write.contents w.write_to.new.writer) t) (sym (ap (λ (h : History). h.sent) went.0 ∙ ap (λ (t : List ℕ). t ++ text) quiet.2)) (Appends-then _ _ _ _ text written went.1),
            (all.0, ap (λ (h : History). h.calls) went.0 ∙ all.1, all.2),
            w.write_to.ensures.config ∙ config,
            λ is. c.loop.invariant.4 (sym (ap (λ (h : History). h.ended) went.0 ∙ quiet.1) ∙ is),
          )
    ]
