use Rattle.std.proofs.Common.{ℕ, List, Option, Some, None, sym, ap, ◌∙◌, is_gt}
use Rattle.std.proofs.lemmas.Cmp.{nat_list_cmp_total, tied_itself}
use Rattle.sb_views.specs.LiveRows.{rows_in}
use Rattle.sb_views.proofs.Wanted.{one-between, rows-wanted}
use Rattle.sb_views.proofs.node_view.NodeView.rows.Goals as goal

pub range-requires : goal.range-requires
range-requires c = ap is_gt (tied_itself nat_list_cmp_total c.in-Some.owner)

pub returns-in-Some : goal.returns-in-Some
returns-in-Some c =
    let es = c.self.inside.owners.entries in
    c.new.ensures
    ∙ rows-wanted (Some c.in-Some.owner) c.args.prefix es c.range.result c.args.self.now c.self.invariant c.self.view_is (c.range.ensures.between tt ∙ one-between c.in-Some.owner es)
    ∙ ap (λ (wanted : Option (List ℕ)). rows_in wanted c.args.prefix c.args.self.now) (sym c.in-Some.is)

pub returns-in-None : goal.returns-in-None
returns-in-None c =
    c.new-in-None.ensures
    ∙ rows-wanted None c.args.prefix c.self.inside.owners.entries c.range-in-None.result c.args.self.now c.self.invariant c.self.view_is (c.range-in-None.ensures.between tt)
    ∙ ap (λ (wanted : Option (List ℕ)). rows_in wanted c.args.prefix c.args.self.now) (sym c.in-None.is)
