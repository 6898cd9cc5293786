use Rattle.std.proofs.Common.{Option, Some, None, Ok, sym}
use Rattle.std.proofs.lemmas.Result.{err_from_is_err_and}
use Rattle.sb_codec.specs.declared.message.Message.{Message}
use Rattle.sb_frames.specs.Streams.{TakesNext}
use Rattle.sb_frames.specs.Receiving.{held_of, Fills}
use Rattle.sb_frames.proofs.OutOfReaders.{reading_goes, reading_cut, taken_unread, ended_unread}
use Rattle.sb_frames.proofs.receiving.receive_open.Goals as goal

pub returns-in-Some-clause-goes : goal.returns-in-Some-clause-goes
returns-in-Some-clause-goes g c =
    let hands : TakesNext c.loop-message.frames (Ok (Some c.in-Some.message)) c.next.new.self = rw c.in-Some.is at c.in_ok-message.ensures in
    reading_goes (held_of c.args.frames.now) c.loop-message.frames c.next.new.self (g.R.Read.remaining c.args.reader.now) (g.R.Read.remaining c.loop-message.reader)
    c.args.left.now c.loop-message.left c.in-Some.message c.loop-message.invariant.reading hands

pub returns-in_err-end-clause-gives : goal.returns-in_err-end-clause-gives
returns-in_err-end-clause-gives g c =
    let p = err_from_is_err_and c.from_residual-in_err-end.result c.from_residual-in_err-end.ensures.1 in
    let none : TakesNext c.loop-message.frames (Ok None) c.next.new.self = rw c.in_default.is at c.in_ok-message.ensures in
    let fills : Fills (held_of c.next.new.self) (g.R.Read.remaining c.loop-message.reader) (g.R.Read.remaining c.fill.new.reader) c.loop-message.left c.fill.new.left (Ok 0) c.fill.new.self =
    rw c.if-branch-eq0.true at c.in_ok-fill.ensures.filled in
    rw (p.1, p.2) (reading_cut (held_of c.args.frames.now) c.loop-message.frames c.next.new.self c.fill.new.self (g.R.Read.remaining c.args.reader.now) (g.R.Read.remaining c.loop-message.reader)
    (g.R.Read.remaining c.fill.new.reader) c.args.left.now c.loop-message.left c.fill.new.left _ c.loop-message.invariant.reading none fills (sym c.in_err-end.ensures))

pub returns-in_err-message-clause-failed : goal.returns-in_err-message-clause-failed
returns-in_err-message-clause-failed g c =
    let p = err_from_is_err_and c.from_residual.result c.from_residual.ensures.1 in
    rw (p.1, p.2) (taken_unread (Option Message) c.loop-message.frames c.next.new.self _ _ c.in_err-message.ensures)

pub returns-in_err-end-clause-failed : goal.returns-in_err-end-clause-failed
returns-in_err-end-clause-failed g c =
    let p = err_from_is_err_and c.from_residual-in_err-end.result c.from_residual-in_err-end.ensures.1 in
    rw (p.1, p.2) (ended_unread (Option Message) c.fill.new.self _ _ (sym c.in_err-end.ensures))
