use Rattle.sb_directory.proofs.Entering.{received-event}
use Rattle.sb_directory.proofs.directory.Directory.apply.Goals as goal

pub returns-clause-event : goal.returns-clause-event
returns-clause-event g c =
    let is = c.apply.ensures in
    received-event g.S.NodeTag.opening c.args.delta.now c.delta.result.now _ c.args.seat.now c.apply.new.seat c.apply.result c.delta.ensures.delta
    is.begins is.due is.last_call is.ends
