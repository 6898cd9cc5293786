use Rattle.std.proofs.Common.{◌≡◌, map, take, drop, ◌++◌}
use Rattle.sb_handlers.specs.ReportedVersions.{hears}
use Rattle.sb_handlers.proofs.reported_versions.hear_all.Given as goal

abbrev pub invariant-loop-reporter : goal.invariant-loop-reporter
invariant-loop-reporter l = l.all ≡ map (hears l.reading) (take l.reporter-index l.initial.all) ++ drop l.reporter-index l.initial.all
