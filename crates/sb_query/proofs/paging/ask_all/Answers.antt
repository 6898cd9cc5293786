use Rattle.sb_query.proofs.Listing.{leads-further}
use Rattle.sb_query.proofs.paging.ask_all.Goals as goal

pub loop-preserved : goal.loop-preserved
loop-preserved g c =
    leads-further g.P.Pager.step c.args.pager.now c.args.asked c.loop.counter c.loop.pager c.loop.ask c.turn.new.pager c.in_ok-ask.field-0
    c.loop.invariant c.in_ok-ask.ensures.ok c.if-is_none.ensures
