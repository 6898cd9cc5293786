use Rattle.std.proofs.Common.{sym, ◌∙◌}
use Rattle.sb_query.proofs.Listing.{first_behind}
use Rattle.sb_query.proofs.paging.goes_on.Goals as goal

pub returns-in-Some : goal.returns-in-Some
returns-in-Some c = c.is_behind.ensures ∙ sym (first_behind c.args.after c.args.page.now c.in-Some.row.now c.in-Some.field-0-1.now c.rows.ensures.page (sym c.rows.ensures.rows ∙ c.in-Some.ensures.cases.0))
