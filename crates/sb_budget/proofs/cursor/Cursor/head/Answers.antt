use Rattle.std.proofs.Common.{ap}
use Rattle.sb_budget.specs.Parts.{Part}
use Rattle.sb_budget.specs.Making.{head_of}
use Rattle.sb_budget.proofs.CursorLemmas.{next_of}
use Rattle.sb_budget.proofs.cursor.Cursor.head.Goals as goal

pub returns : goal.returns
returns c =
    let s = c.self.inside in
    let is = next_of s.owner.now s.table s.after _ c.self.invariant.0 in
    let owner = is.owner in
    let floor = is.floor in
    let after = is.after in
    let upto = is.upto in
    let same = ap (λ (p : Part). head_of p.next) c.self.view_is in
    record { head = cc }
