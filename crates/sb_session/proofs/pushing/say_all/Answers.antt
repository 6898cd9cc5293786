use Rattle.std.proofs.Common.{◌≡◌, [], ◌∷◌, Ok, refl, subst, List}
use Rattle.std.proofs.lemmas.Result.{err_from_is_err_and}
use Rattle.sb_types.specs.declared.format.TheConstants.{REASON_ROUNDS_DONE}
use Rattle.sb_codec.specs.declared.message.Message.{Message}
use Rattle.sb_codec.specs.declared.message.Message.TheVariants as kinds
use Rattle.sb_session.specs.Sessions.{hello_of}
use Rattle.sb_session.specs.Telling.{Says}
use Rattle.sb_session.proofs.Saying.{cut_in_front, cut_behind, put_behind, says_more}
use Rattle.sb_session.proofs.Talking.{same_reason}
use Rattle.sb_session.proofs.pushing.say_all.Goals as goal

pub returns-in_err-say-clause-says : goal.returns-in_err-say-clause-says
returns-in_err-say-clause-says g c =
    let p = err_from_is_err_and c.from_residual-in_err-say.result c.from_residual-in_err-say.ensures.1 in
    rw (p.1, p.2) (cut_in_front _ _ (hello_of c.args.session.now ∷ []) (kinds.Delta c.args.delta ∷ kinds.Bye REASON_ROUNDS_DONE ∷ []) _ (rw c.hello.ensures at c.in_err-say.ensures.says))

pub returns-in_err-say-2-clause-says : goal.returns-in_err-say-2-clause-says
returns-in_err-say-2-clause-says g c =
    let p = err_from_is_err_and c.from_residual-in_err-say-2.result c.from_residual-in_err-say-2.ensures.1 in
    rw (p.1, p.2) (cut_behind _ _ _ (hello_of c.args.session.now ∷ []) (kinds.Delta c.args.delta ∷ kinds.Bye REASON_ROUNDS_DONE ∷ []) _ (rw c.hello.ensures at c.in_ok-say.ensures.says)
    (cut_in_front _ _ (kinds.Delta c.args.delta ∷ []) (kinds.Bye REASON_ROUNDS_DONE ∷ []) _ c.in_err-say-2.ensures.says))

pub returns-clause-says : goal.returns-clause-says
returns-clause-says g c =
    let one : c.in_ok-bye.bye ≡ REASON_ROUNDS_DONE = same_reason _ _ (Ok c.in_ok-bye.bye) refl c.in_ok-bye.ensures in
    says_more _ _ _ (hello_of c.args.session.now ∷ kinds.Delta c.args.delta ∷ []) (kinds.Bye REASON_ROUNDS_DONE ∷ []) c.say-3.result
    (put_behind _ _ _ (hello_of c.args.session.now ∷ []) (kinds.Delta c.args.delta ∷ []) (rw c.hello.ensures at c.in_ok-say.ensures.says) c.in_ok-say-2.ensures.says)
    (rw one at c.say-3.ensures.says)
