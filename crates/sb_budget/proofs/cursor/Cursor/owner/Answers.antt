use Rattle.std.proofs.Common.{◌≡◌, sym, ap, subst, ◌∙◌}
use Rattle.std.specs.Prelude.{All}
use Rattle.sb_budget.specs.declared.offered.Offered.{Offered}
use Rattle.sb_budget.specs.Parts.{Part}
use Rattle.sb_budget.proofs.CursorLemmas.{next_of}
use Rattle.sb_budget.proofs.cursor.Cursor.owner.Goals as goal

pub returns : goal.returns
returns c =
    let s = c.self.inside in
    let is = next_of s.owner.now s.table s.after _ c.self.invariant.0 in
    record {
      owner = sym is.owner ∙ ap (λ (p : Part). p.next.owner) c.self.view_is;
      later =
          subst (λ (p : Part). All (λ (item : Offered). item.owner ≡ p.next.owner) p.later) c.self.view_is
          (λ k d l. is.later k d l ∙ sym is.owner);
    }
