use Rattle.std.proofs.Common.{refl, inl}
use Rattle.sb_run.proofs.control.look_up.Goals as goal

pub returns-in-Ok : goal.returns-in-Ok
returns-in-Ok g c =
    inl (c.snapshot-snapshot.result, c.snapshot-snapshot.ensures, (c.in-Ok.page, rw c.budget.ensures.budget at c.in-Ok.ensures.page, refl))
