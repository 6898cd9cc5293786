use Rattle.sb_views.proofs.Appending.{pushed-alone, pushed-ok, pushed-err}
use Rattle.sb_views.proofs.batch.Batch.push_change.Goals as goal

pub invariant_of-self : goal.invariant_of-self
invariant_of-self c = pushed-alone c.self.inside.operations.items c.push_operation.new.steps.items c.args.owner c.args.change c.push_operation.result c.push_operation.ensures.ok c.push_operation.ensures.err c.self.invariant

pub returns-clause-ok : goal.returns-clause-ok
returns-clause-ok c = pushed-ok c.self.inside.operations.items c.push_operation.new.steps.items c.args.owner c.args.change c.push_operation.result c.args.self.now c.self.view_is c.push_operation.ensures.ok

pub returns-clause-err : goal.returns-clause-err
returns-clause-err c = pushed-err c.self.inside.operations.items c.push_operation.new.steps.items c.args.owner c.args.change c.push_operation.result c.args.self.now c.self.view_is c.push_operation.ensures.err
