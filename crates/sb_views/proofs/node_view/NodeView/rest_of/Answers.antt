use Rattle.std.proofs.Common.{◌≡◌, ℕ, true, List, Some, None, rules, arith, ap, sym, ◌∙◌}
use Rattle.std.specs.FinMap.{slice_cmp-IsAntisymmetric, nat_cmp-IsAntisymmetric}
use Rattle.std.specs.List.{filter}
use Rattle.sb_views.specs.LiveRows.{LiveRow, rows_under, is_behind, is_wanted}
use Rattle.sb_views.proofs.Behind.{rest-wanted}
use Rattle.sb_views.proofs.node_view.NodeView.rest_of.Goals as goal

pub returns-in-Some : goal.returns-in-Some
returns-in-Some c =
    let wants : is_wanted c.args.wanted c.args.owner ≡ true = sym c.is_wanted.ensures ∙ first_of (search rules, grind arith) in
    let same : c.args.owner ≡ c.in-Some.owner.now = slice_cmp-IsAntisymmetric nat_cmp-IsAntisymmetric c.args.owner c.in-Some.owner.now c.in-Some.ensures.same_key in
    ap (λ (rows : List LiveRow). Some rows)
    (c.rows_behind.ensures ∙ ap (λ (name : List ℕ). filter (is_behind (Some (name, c.args.key))) (rows_under c.args.prefix name c.in-Some.owner_view.now)) (sym same))
    ∙ rest-wanted c.args.owner c.args.key c.args.wanted c.args.prefix c.self.inside.owners.entries c.self.invariant c.args.self.now c.self.view_is
    (Some c.in-Some.owner_view.now) c.in-Some.ensures.value wants

pub returns-in-None : goal.returns-in-None
returns-in-None c =
    let wants : is_wanted c.args.wanted c.args.owner ≡ true = sym c.is_wanted.ensures ∙ first_of (search rules, grind arith) in
    rest-wanted c.args.owner c.args.key c.args.wanted c.args.prefix c.self.inside.owners.entries c.self.invariant c.args.self.now c.self.view_is
    None c.in-None.ensures.value wants
