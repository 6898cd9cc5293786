use Rattle.std.proofs.Common.{inl}
use Rattle.sb_world.proofs.Lining.{read_stood}
use Rattle.sb_world.proofs.making.opened.Goals as goal

pub returns-clause-stood : goal.returns-clause-stood
returns-clause-stood g c = read_stood (g.L.WriteLog.seen c.args.log) c.in-Ok.table (g.L.WriteLog.seen c.load.new.self) c.in-Ok.ensures.loads

pub returns-in-Err-clause-why : goal.returns-in-Err-clause-why
returns-in-Err-clause-why g c = inl (g.L.WriteLog.seen c.load.new.self, c.in-Err.ensures.loads)
