use Rattle.sb_world.proofs.world.World.step.Goals as goal

pub returns-clause-fits : goal.returns-clause-fits
returns-clause-fits g c = λ old fits. c.worlds_are_reached.ensures.step c.args.self.now c.step_once.new.self c.args.event.now c.step_once.result c.step_once.ensures.step.0 c.step_once.ensures.step.1 old fits

pub returns-clause-sure : goal.returns-clause-sure
returns-clause-sure g c = c.sure_stores_are_trusted.ensures.step c.args.self.now c.step_once.new.self c.args.event.now c.step_once.result c.step_once.ensures.step.0 c.step_once.ensures.step.1
