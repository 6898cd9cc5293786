use Rattle.std.proofs.lemmas.Result.{IfOk-weaker}
use Rattle.sb_world.proofs.world.World.run.Goals as goal

pub returns-clause-fits : goal.returns-clause-fits
returns-clause-fits g c = IfOk-weaker c.run_each.result _ _ (λ answers passes. c.worlds_are_reached.ensures.run c.args.self.now c.run_each.new.self c.args.events.now answers.items passes) c.run_each.ensures.passes

pub returns-clause-exact : goal.returns-clause-exact
returns-clause-exact g c = IfOk-weaker c.run_each.result _ _ (λ answers passes. c.worlds_keep_their_promise.ensures.exact c.args.self.now c.args.events.now answers.items) c.run_each.ensures.passes

pub returns-clause-later : goal.returns-clause-later
returns-clause-later g c = IfOk-weaker c.run_each.result _ _ (λ answers passes. c.worlds_keep_their_promise.ensures.later c.args.self.now c.args.events.now answers.items) c.run_each.ensures.passes

pub returns-clause-removed : goal.returns-clause-removed
returns-clause-removed g c = IfOk-weaker c.run_each.result _ _ (λ answers passes. c.worlds_keep_their_promise.ensures.removed c.args.self.now c.args.events.now answers.items) c.run_each.ensures.passes

pub returns-clause-purged : goal.returns-clause-purged
returns-clause-purged g c = IfOk-weaker c.run_each.result _ _ (λ answers passes. c.worlds_keep_their_promise.ensures.purged c.args.self.now c.args.events.now answers.items) c.run_each.ensures.passes

pub returns-clause-sure : goal.returns-clause-sure
returns-clause-sure g c = IfOk-weaker c.run_each.result _ _ (λ answers passes. c.sure_stores_are_trusted.ensures.passes c.args.self.now c.run_each.new.self c.args.events.now answers.items passes) c.run_each.ensures.passes
