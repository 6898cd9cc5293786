use Rattle.sb_depth.proofs.DepthDeltaOrder.delta.Goals as goal

pub delta_of-requires-clause-owners : goal.delta_of-requires-clause-owners
delta_of-requires-clause-owners c = (c.args.holdings.now, c.args.digest.now, c.in_ok-owners.ensures.parts)

pub returns-clause-order : goal.returns-clause-order
returns-clause-order c = c.delta_of.ensures.order c.args.holdings.now c.args.digest.now c.in_ok-owners.ensures.parts

pub returns-clause-delta : goal.returns-clause-delta
returns-clause-delta c = c.delta_of.ensures.delta c.args.holdings.now c.args.digest.now c.in_ok-owners.ensures.parts

pub returns-clause-goes : goal.returns-clause-goes
returns-clause-goes c = c.delta_of.ensures.goes c.args.holdings.now c.args.digest.now c.in_ok-owners.ensures.parts
