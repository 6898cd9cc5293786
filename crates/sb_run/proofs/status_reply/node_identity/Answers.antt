use Rattle.sb_run.proofs.StatusPages.{identity_limits}
use Rattle.sb_run.proofs.status_reply.node_identity.Goals as goal

pub returns-clause-limits : goal.returns-clause-limits
returns-clause-limits c =
    identity_limits c.args.name.now c.cluster.result c.short_text.result c.args.release.now c.args.settings.now c.cluster.ensures.cluster c.short_text.ensures c.bytes.ensures.name
    c.cluster.ensures.settings
