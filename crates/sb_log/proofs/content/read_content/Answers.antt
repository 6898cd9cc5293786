use Rattle.std.proofs.Common.{true≢false, sym, subst}
use Rattle.sb_types.specs.Records.{Table}
use Rattle.sb_log.specs.Rows.{CanSay}
use Rattle.sb_log.proofs.Unique.{one_table}
use Rattle.sb_log.proofs.content.read_content.Goals as goal

pub returns-in_err-content_of-clause-whole : goal.returns-in_err-content_of-clause-whole
returns-in_err-content_of-clause-whole g c clean ready t are can =
    let same = one_table _ t c.in_ok-found.found are (c.in_ok-found.ensures.rows clean ready) in
    let ok = c.in_err-content_of.ensures.whole (subst (λ (u : Table). CanSay c.args.last c.args.floor u.entries) (sym same) can) in
    absurd (true≢false (sym ok))
