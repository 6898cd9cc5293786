use Rattle.std.proofs.Common.{List, sym, ap, subst, ◌∙◌}
use Rattle.sb_views.specs.declared.event.Event.{Event}
use Rattle.sb_views.specs.Histories.{Position}
use Rattle.sb_views.specs.Publishing.{IsCopyOf}
use Rattle.sb_views.proofs.Starting.{is_copy-first}
use Rattle.sb_views.proofs.opening.views.Goals as goal

pub new-requires-clause-is_copy : goal.new-requires-clause-is_copy
new-requires-clause-is_copy g c =
    let history = g.S.NodeTag.history in
    subst (IsCopyOf history g.S.NodeTag.opening) (sym c.new-first.ensures)
    (is_copy-first history g.S.NodeTag.opening c.args.holdings.now c.copy.result c.in-Ok.first c.view_of.ensures.holdings c.requires.opening
    (c.copy.ensures ∙ (c.position.ensures ∙ ap (λ (l : List Event). let m : Position = record { book = history; events = l } in m) c.requires.start))
    c.in-Ok.ensures.view)
