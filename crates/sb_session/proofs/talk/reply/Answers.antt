use Rattle.std.proofs.Common.{[], ◌∷◌}
use Rattle.std.proofs.lemmas.Result.{err_from_is_err_and}
use Rattle.sb_codec.specs.declared.message.Message.TheVariants as kinds
use Rattle.sb_session.proofs.Saying.{cut_in_front, cut_behind}
use Rattle.sb_session.proofs.talk.reply.Goals as goal

pub returns-in_err-say-in-Exchanged-clause-says : goal.returns-in_err-say-in-Exchanged-clause-says
returns-in_err-say-in-Exchanged-clause-says g c =
    let p = err_from_is_err_and c.from_residual-in_err-say-in-Exchanged.result c.from_residual-in_err-say-in-Exchanged.ensures.1 in
    rw (p.1, p.2, c.in-Exchanged.is) (cut_in_front _ _ (kinds.Delta c.in-Exchanged.delta ∷ []) (kinds.Digest c.in-Exchanged.digest ∷ []) _ c.in_err-say-in-Exchanged.ensures.says)

pub returns-in_err-say-in-Exchanged-2-clause-says : goal.returns-in_err-say-in-Exchanged-2-clause-says
returns-in_err-say-in-Exchanged-2-clause-says g c =
    let p = err_from_is_err_and c.from_residual-in_err-say-in-Exchanged-2.result c.from_residual-in_err-say-in-Exchanged-2.ensures.1 in
    rw (p.1, p.2, c.in-Exchanged.is) (cut_behind _ _ _ (kinds.Delta c.in-Exchanged.delta ∷ []) (kinds.Digest c.in-Exchanged.digest ∷ []) _ c.in_ok-say-in-Exchanged.ensures.says
    c.in_err-say-in-Exchanged-2.ensures.says)
