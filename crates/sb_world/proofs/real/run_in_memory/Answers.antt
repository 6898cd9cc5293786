use Rattle.std.proofs.Common.{sym, subst}
use Rattle.std.proofs.lemmas.Result.{IfOk-weaker}
use Rattle.sb_world.specs.Places.{Seen, AreSure}
use Rattle.sb_world.proofs.real.run_in_memory.Goals as goal

pub returns-clause-promise : goal.returns-clause-promise
returns-clause-promise c =
    λ sure. IfOk-weaker c.run.result _ _ (λ answers passes. λ old states fits run.
    let clean = c.sure_stores_are_trusted.ensures.run old c.args.events.now answers.items states run (subst (λ (s : Seen). AreSure s.places) (sym fits.now) sure) in
    let law = c.worlds_keep_their_promise.ensures in
    record {
      given = law.given c.args.world.now c.args.events.now answers.items old states fits run clean;
      exact = law.exact c.args.world.now c.args.events.now answers.items old states fits run clean;
      taken = law.taken c.args.world.now c.args.events.now answers.items old states fits run clean;
      later = law.later c.args.world.now c.args.events.now answers.items old states fits run clean;
      budget = law.budget c.args.world.now c.args.events.now answers.items old states fits run clean;
      removed = law.removed c.args.world.now c.args.events.now answers.items old states fits run clean;
      purged = law.purged c.args.world.now c.args.events.now answers.items old states fits run clean;
    }) c.run.ensures.passes
