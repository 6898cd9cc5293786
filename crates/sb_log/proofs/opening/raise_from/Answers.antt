use Rattle.sb_log.proofs.Writing.{or_commits, so_on_ok}
use Rattle.sb_log.proofs.opening.raise_from.Goals as goal

pub returns-then-form-eq1-clause-ready : goal.returns-then-form-eq1-clause-ready
returns-then-form-eq1-clause-ready g c clean ready last floor owner cluster named = (c.raise_form.ensures.commits c.args.form last floor owner cluster named).ready clean ready

pub returns-then-form-eq1-clause-rows : goal.returns-then-form-eq1-clause-rows
returns-then-form-eq1-clause-rows g c clean ready last floor owner cluster named =
    so_on_ok c.raise_form.result ((c.raise_form.ensures.commits c.args.form last floor owner cluster named).changes clean ready) (λ did. did.0)

pub returns-then-form-eq1-clause-meta : goal.returns-then-form-eq1-clause-meta
returns-then-form-eq1-clause-meta g c clean ready is last floor owner cluster named =
    so_on_ok c.raise_form.result ((c.raise_form.ensures.commits c.args.form last floor owner cluster named).changes clean ready) (λ did. did.1)

pub returns-then-form-eq1-clause-crash : goal.returns-then-form-eq1-clause-crash
returns-then-form-eq1-clause-crash g c clean ready last floor owner cluster named db left =
    or_commits (λ did. (c.if-form-eq1.true, did.0, did.1.0, did.1.1)) ((c.raise_form.ensures.commits c.args.form last floor owner cluster named).crash clean ready db left)
