use Rattle.std.proofs.Common.{ap, sym, ◌∙◌}
use Rattle.std.proofs.lemmas.List.Edits.{map_over_more}
use Rattle.sb_handlers.specs.ReportedVersions.{hears}
use Rattle.sb_handlers.proofs.reported_versions.hear_all.Goals as goal

pub loop-reporter-preserved : goal.loop-reporter-preserved
loop-reporter-preserved c =
    rw (c.hear.ensures ∙ ap (hears c.args.reading.now) (sym c.reporter-item.is))
    (map_over_more (hears c.args.reading.now) c.args.all.now c.loop-reporter.all c.loop-reporter.reporter-index c.reporter-item.result c.loop-reporter-test.true c.loop-reporter.invariant c.reporter-item.is)
