use Rattle.std.proofs.Common.{◌≡◌, [], drop, length, ap, ◌∙◌, inr, arith}
use Rattle.std.proofs.lemmas.Result.{err_from_is_err_and}
use Rattle.sb_frames.proofs.Fronts.{leads, within_bytes, refused}
use Rattle.sb_frames.proofs.Taking.{lone_payload}
use Rattle.sb_frames.proofs.frames.take_frame.Goals as goal

pub advance-requires : goal.advance-requires
advance-requires c = omega (arith, within_bytes c.args.frame.now c.requires.0 [] c.requires.1, ap length c.in_ok-payload.ensures.cases)

pub returns-clause-message : goal.returns-clause-message
returns-clause-message c =
    let is : c.advance.new.self ≡ c.requires.0 = c.advance.ensures ∙ ap (drop 6) c.in_ok-payload.ensures.cases ∙ lone_payload c.args.frame.now c.requires.0 c.requires.1 in
    leads _ c.requires.0 [] _ c.requires.1 (rw is at c.in_ok-message.ensures.found)

pub returns-in_err-payload-clause-fault : goal.returns-in_err-payload-clause-fault
returns-in_err-payload-clause-fault c =
    let p = err_from_is_err_and c.from_residual.result c.from_residual.ensures.1 in
    rw p.1 (inr (p.2, (c.requires.0, [], c.requires.1, c.requires.2)))

pub returns-in_err-message-clause-fault : goal.returns-in_err-message-clause-fault
returns-in_err-message-clause-fault c =
    let p = err_from_is_err_and c.from_residual-in_err-message.result c.from_residual-in_err-message.ensures.1 in
    let is : c.advance.new.self ≡ c.requires.0 = c.advance.ensures ∙ ap (drop 6) c.in_ok-payload.ensures.cases ∙ lone_payload c.args.frame.now c.requires.0 c.requires.1 in
    rw (p.1, p.2) (refused _ c.requires.0 [] _ c.requires.1 (rw is at c.in_err-message.ensures.exact) (rw is at c.in_err-message.ensures.memory))
