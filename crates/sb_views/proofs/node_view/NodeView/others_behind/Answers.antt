use Rattle.std.proofs.Common.{ℕ, List, [], Option, ap, sym, ◌∙◌, ◌&&◌}
use Rattle.std.proofs.Math.Bool.{and-true}
use Rattle.std.specs.Ordering.{is_lt}
use Rattle.std.specs.declared.ops.Bound.TheVariants.{Included, Excluded, Unbounded}
use Rattle.sb_views.specs.LiveRows.{is_wanted}
use Rattle.sb_views.proofs.ByText.{by_text}
use Rattle.sb_views.proofs.Behind.{others-behind}
use Rattle.sb_views.proofs.node_view.NodeView.others_behind.Goals as goal

pub range-requires : goal.range-requires
range-requires c = c.end_behind-end.ensures.forward

pub returns-in-Some : goal.returns-in-Some
returns-in-Some c =
    others-behind c.args.owner [] c.args.wanted [] c.self.inside.owners.entries c.self.invariant c.args.self.now c.self.view_is
    (Included c.in-Some.name) c.end_behind-end.result c.range.result (c.range.ensures.between tt)
    (λ name. c.end_behind-end.ensures.behind name ∙ ap (λ (wanted : Option (List ℕ)). is_wanted wanted name && is_lt (by_text c.args.owner name)) (sym c.in-Some.is))

pub returns-in-None : goal.returns-in-None
returns-in-None c =
    others-behind c.args.owner [] c.args.wanted [] c.self.inside.owners.entries c.self.invariant c.args.self.now c.self.view_is
    (Excluded c.args.owner) Unbounded c.range-in-None.result (c.range-in-None.ensures.between tt)
    (λ name. and-true _ ∙ ap (λ (wanted : Option (List ℕ)). is_wanted wanted name && is_lt (by_text c.args.owner name)) (sym c.in-None.is))
