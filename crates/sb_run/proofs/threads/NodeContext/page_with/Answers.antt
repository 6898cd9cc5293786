use Rattle.sb_run.proofs.StatusPages.{page_memory}
use Rattle.sb_run.proofs.threads.NodeContext.page_with.Goals as goal

pub returns-clause-memory : goal.returns-clause-memory
returns-clause-memory g c =
    page_memory c.node_identity-identity.result c.in_ok-figures.figures.items c.args.facts.now c.deref.result.now c.after.result c.budget.result c.settings-settings.result.now
    c.status_page.result c.node_identity-identity.ensures.limits c.in_ok-figures.ensures.figures c.budget.ensures.budget c.budget.ensures.settings c.status_page.ensures.exact
