use Rattle.std.proofs.lemmas.Result.{IfOk-weaker}
use Rattle.sb_world.proofs.real.run_in_databases.Goals as goal

pub returns-clause-promise : goal.returns-clause-promise
returns-clause-promise g c =
    IfOk-weaker c.run.result _ _ (λ answers passes. λ old states fits run clean.
    let law = c.worlds_keep_their_promise.ensures in
    record {
      given = law.given c.args.world.now c.args.events.now answers.items old states fits run clean;
      exact = law.exact c.args.world.now c.args.events.now answers.items old states fits run clean;
      taken = law.taken c.args.world.now c.args.events.now answers.items old states fits run clean;
      later = law.later c.args.world.now c.args.events.now answers.items old states fits run clean;
      budget = law.budget c.args.world.now c.args.events.now answers.items old states fits run clean;
      removed = law.removed c.args.world.now c.args.events.now answers.items old states fits run clean;
      purged = law.purged c.args.world.now c.args.events.now answers.items old states fits run clean;
    }) c.run.ensures.passes
