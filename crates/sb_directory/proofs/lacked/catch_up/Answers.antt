use Rattle.std.proofs.Common.{sym, ap, subst, ◌∙◌}
use Rattle.std.specs.FinMap.{empty}
use Rattle.sb_views.specs.Growing.{AreGrown}
use Rattle.sb_views.specs.Histories.{node_after}
use Rattle.sb_views.specs.Publishing.{Views}
use Rattle.sb_directory.specs.Lacking.{LackingOwners, all_lacked, AreSince}
use Rattle.sb_directory.proofs.Following.{batch-leads, grown-there, since-there}
use Rattle.sb_directory.proofs.lacked.catch_up.Goals as goal

pub append-requires-clause-leads : goal.append-requires-clause-leads
append-requires-clause-leads g c =
    batch-leads g.S.NodeTag.opening c.args.core.now.node c.args.history.now c.requires.node c.args.views.now.queued c.args.lacking.now c.in-Ok.batch c.holdings.ensures.holdings
    c.requires.grown c.requires.since (c.in-Ok.ensures.batch ∙ ap (all_lacked c.args.lacking.now) c.holdings.ensures.held)

pub returns-in-Ok-append-clause-grown : goal.returns-in-Ok-append-clause-grown
returns-in-Ok-append-clause-grown g c =
    subst (λ (v : Views). AreGrown (node_after g.S.NodeTag.opening v.queued).held c.args.core.now.node.held) (sym c.in-Ok-append.ensures)
    (grown-there g.S.NodeTag.opening c.args.core.now.node c.args.history.now c.requires.node c.holdings.ensures.holdings)

pub returns-in-Ok-append-clause-since : goal.returns-in-Ok-append-clause-since
returns-in-Ok-append-clause-since g c =
    subst (λ (m : LackingOwners). AreSince (node_after g.S.NodeTag.opening c.append.new.self.queued).held c.args.core.now.node.held m) (sym c.clear.ensures)
    (subst (λ (v : Views). AreSince (node_after g.S.NodeTag.opening v.queued).held c.args.core.now.node.held empty) (sym c.in-Ok-append.ensures)
    (since-there g.S.NodeTag.opening c.args.core.now.node c.args.history.now c.requires.node))

pub returns-in-Err-clause-grown : goal.returns-in-Err-clause-grown
returns-in-Err-clause-grown g c =
    subst (λ (v : Views). AreGrown (node_after g.S.NodeTag.opening v.queued).held c.args.core.now.node.held) (sym c.in-Err.ensures.1) c.requires.grown

pub returns-in-Err-clause-since : goal.returns-in-Err-clause-since
returns-in-Err-clause-since g c =
    subst (λ (v : Views). AreSince (node_after g.S.NodeTag.opening v.queued).held c.args.core.now.node.held c.args.lacking.now) (sym c.in-Err.ensures.1) c.requires.since
