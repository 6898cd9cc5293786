use Rattle.std.proofs.Common.{ap, arith}
use Rattle.sb_budget.specs.Parts.{Part}
use Rattle.sb_budget.proofs.CursorLemmas.{next_of}
use Rattle.sb_budget.proofs.cursor.Cursor.count.Goals as goal

pub returns : goal.returns
returns c =
    let s = c.self.inside in
    let is = next_of s.owner.now s.table s.after _ c.self.invariant.0 in
    record { count = omega (arith, c.count_after.ensures.count, is.count, ap (λ (p : Part). p.next.count) c.self.view_is) }
