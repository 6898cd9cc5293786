use Rattle.std.proofs.Common.{sym, ◌∙◌}
use Rattle.sb_log.proofs.Contents.{said_so, content_kept}
use Rattle.sb_log.proofs.content.content_of.Goals as goal

pub returns-clause-table : goal.returns-clause-table
returns-clause-table c =
    let greatest = c.upto-greatest in
    let can = said_so c.args.last c.args.floor greatest.result c.args.table c.requires.plain greatest.ensures.version (sym c.can_say.ensures ∙ c.if-not-can_say.false) in
    content_kept c.args.last c.args.floor greatest.result c.args.table c.requires.plain greatest.ensures.version c.raise.new.self (rw c.max.ensures at c.raise.ensures.raised) can c.raise.ensures.table
