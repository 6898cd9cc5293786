use Rattle.std.proofs.Common.{arith}
use Rattle.sb_views.proofs.Beginning.{shown-beyond}
use Rattle.sb_views.proofs.opening.show_table.Goals as goal

pub returns : goal.returns
returns c =
    shown-beyond c.args.owner.now c.args.table.now c.args.view.now c.enter_all.new.view c.in_ok-last.last c.in_ok-last.ensures.entered c.in_ok-last.ensures.last
    c.change.new.self c.upto-2.result c.change.result (omega (arith, c.if-last-upto.false, c.upto.ensures.version, c.upto-2.ensures.version)) c.upto-2.ensures.version c.change.ensures.ok
