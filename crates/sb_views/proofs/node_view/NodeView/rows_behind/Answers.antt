use Rattle.std.proofs.Common.{ℕ, List, Option, ap, sym, ◌∙◌}
use Rattle.sb_views.specs.LiveRows.{rows_behind}
use Rattle.sb_views.proofs.Behind.{behind-nothing}
use Rattle.sb_views.proofs.node_view.NodeView.rows_behind.Goals as goal

pub returns-in-Some : goal.returns-in-Some
returns-in-Some c =
    c.rows_from.ensures ∙ ap (λ (place : Option (List ℕ × List ℕ)). rows_behind place c.args.wanted c.args.prefix c.args.self.now) (sym c.in-Some.is)

pub returns-in-None : goal.returns-in-None
returns-in-None c =
    c.rows.ensures ∙ behind-nothing c.args.wanted c.args.prefix c.args.self.now
    ∙ ap (λ (place : Option (List ℕ × List ℕ)). rows_behind place c.args.wanted c.args.prefix c.args.self.now) (sym c.in-None.is)
