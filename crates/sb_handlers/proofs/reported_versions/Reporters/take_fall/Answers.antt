use Rattle.std.proofs.Common.{rules}
use Rattle.sb_handlers.proofs.Falls.{first_taken}
use Rattle.sb_handlers.proofs.reported_versions.Reporters.take_fall.Goals as goal

pub returns-clause-taken : goal.returns-clause-taken
returns-clause-taken c = first_taken c.args.self.now.all.items c.in_ok-place.place c.index_mut-reporter.result.now (search rules) (search rules)
