use Rattle.std.proofs.Common.{◌≡◌, true, false, sym, subst}
use Rattle.std.proofs.lemmas.Result.{IfOk-weaker}
use Rattle.std.specs.List.{AllByRecursion}
use Rattle.sb_commands.specs.Keeping.{is_outdated, goes_back, is_printed}
use Rattle.sb_commands.proofs.GoingBack.{none-goes-back, none-comes-back}
use Rattle.sb_commands.proofs.keeping.kept_rows.Goals as goal

pub returns-clause-forth : goal.returns-clause-forth
returns-clause-forth c = λ up rising.
    IfOk-weaker c.merged_rows.result _ _
    (λ rows same. subst (AllByRecursion (λ row. goes_back c.args.held.now row ≡ false)) (sym same) (none-goes-back c.args.reaches.now c.args.found.now rising c.args.held.now up))
    c.merged_rows.ensures.kept

pub returns-clause-gone : goal.returns-clause-gone
returns-clause-gone c =
    IfOk-weaker c.merged_rows.result _ _
    (λ rows same. subst (AllByRecursion (λ row. is_outdated c.args.reaches.now row ≡ true → is_printed c.args.held.now row ≡ true)) (sym same) (none-comes-back c.args.reaches.now c.args.found.now c.args.held.now))
    c.merged_rows.ensures.kept
