use Rattle.std.proofs.Common.{◌≡◌, ◌+◌, [], length, refl, sym, ◌∙◌, inr}
use Rattle.std.proofs.lemmas.Result.{err_from_is_err_and}
use Rattle.std.proofs.lemmas.List.{nil_from_length}
use Rattle.std.proofs.lemmas.Bool.{eqb-true}
use Rattle.sb_frames.proofs.Fronts.{leads, within_bytes, refused}
use Rattle.sb_frames.proofs.Taking.{first_refused, split_refused, is_lone}
use Rattle.sb_frames.proofs.frames.take_first.Goals as goal

pub returns-in_err-take_frame-clause-takes : goal.returns-in_err-take_frame-clause-takes
returns-in_err-take_frame-clause-takes c =
    let p = err_from_is_err_and c.from_residual.result c.from_residual.ensures.1 in
    rw (p.1, p.2) (first_refused c.args.frame.now c.args.buffer.now.items c.take_frame.new.frame _ c.in_err-take_frame.ensures.fault c.in_err-take_frame.ensures.kept)

pub returns-in_err-message-clause-takes : goal.returns-in_err-message-clause-takes
returns-in_err-message-clause-takes c =
    let p = err_from_is_err_and c.from_residual-in_err-message.result c.from_residual-in_err-message.ensures.1 in
    let none : c.args.frame.now ≡ [] = nil_from_length c.args.frame.now (eqb-true (length c.args.frame.now) 0 (sym c.is_empty.ensures ∙ c.if-not-is_empty.false)) in
    let framed = rw (c.in-Some.is, c.as_slice.ensures) at c.in_ok-payload.ensures.payload in
    rw (p.1, p.2, none) (refused _ _ _ _ framed c.in_err-message.ensures.exact c.in_err-message.ensures.memory, refl)

pub advance-requires : goal.advance-requires
advance-requires c = within_bytes _ _ _ (rw (c.in-Some.is, c.as_slice.ensures) at c.in_ok-payload.ensures.payload)

pub returns-then-not-takes_memory-clause-takes : goal.returns-then-not-takes_memory-clause-takes
returns-then-not-takes_memory-clause-takes c =
    let none : c.args.frame.now ≡ [] = nil_from_length c.args.frame.now (eqb-true (length c.args.frame.now) 0 (sym c.is_empty.ensures ∙ c.if-not-is_empty.false)) in
    let framed = rw (c.in-Some.is, c.as_slice.ensures) at c.in_ok-payload.ensures.payload in
    rw (none, c.advance.ensures.items) (leads _ _ _ _ framed c.in_ok-message.ensures.found)

pub freeze_to-requires : goal.freeze_to-requires
freeze_to-requires c = within_bytes _ _ _ (rw (c.in-Some.is, c.as_slice.ensures) at c.in_ok-payload.ensures.payload)

pub returns-in_err-take_frame-2-clause-alone : goal.returns-in_err-take_frame-2-clause-alone
returns-in_err-take_frame-2-clause-alone c =
    let framed = rw (c.in-Some.is, c.as_slice.ensures) at c.in_ok-payload.ensures.payload in
    inr (rw (c.in_err-take_frame-2.ensures.kept, c.in_ok-frame.ensures.front) (is_lone _ _ _ framed (c.takes_memory.ensures.0 c.if-not-takes_memory.false)))

pub returns-in_err-take_frame-2-clause-takes : goal.returns-in_err-take_frame-2-clause-takes
returns-in_err-take_frame-2-clause-takes c =
    let p = err_from_is_err_and c.from_residual-in_err-take_frame-2.result c.from_residual-in_err-take_frame-2.ensures.1 in
    let none : c.args.frame.now ≡ [] = nil_from_length c.args.frame.now (eqb-true (length c.args.frame.now) 0 (sym c.is_empty.ensures ∙ c.if-not-is_empty.false)) in
    rw (p.1, p.2, none, c.in_ok-frame.ensures.rest.0) (split_refused c.args.buffer.now.items c.take_frame-2.new.frame (6 + length c.in-Some.payload.now) _
    (rw c.in_ok-frame.ensures.front at c.in_err-take_frame-2.ensures.fault) (c.in_err-take_frame-2.ensures.kept ∙ c.in_ok-frame.ensures.front))
