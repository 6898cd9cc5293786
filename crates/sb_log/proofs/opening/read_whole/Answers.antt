use Rattle.std.proofs.Common.{true≢false, sym, subst, ◌∙◌}
use Rattle.sb_types.specs.Records.{Table}
use Rattle.sb_log.specs.Opening.{IsFormOf}
use Rattle.sb_log.proofs.Unique.{one_table}
use Rattle.sb_log.proofs.opening.read_whole.Goals as goal

pub returns-then-not-is_form_of-clause-whole : goal.returns-then-not-is_form_of-clause-whole
returns-then-not-is_form_of-clause-whole g c clean ready t fits are =
    let same = one_table _ t c.in_ok-table.table are (c.in_ok-table.ensures.rows clean ready) in
    absurd (true≢false (sym (c.is_form_of.ensures.whole (subst (λ (content : Table). IsFormOf c.args.form content) (sym same) fits)) ∙ c.if-not-is_form_of.true))
