use Rattle.std.proofs.Common.{List, Option, ap, ◌∙◌}
use Rattle.sb_views.specs.LiveRows.{LiveRow, rows_to_come}
use Rattle.sb_views.proofs.Behind.{view-from}
use Rattle.sb_views.proofs.node_view.NodeView.rows_from.Goals as goal

pub returns : goal.returns
returns c =
    c.new.ensures
    ∙ ap (λ (rest : Option (List LiveRow)). rows_to_come c.args.prefix rest c.others_behind-others.result) c.rest_of-rest.ensures
    ∙ view-from c.args.place c.args.wanted c.args.prefix c.args.self.now c.others_behind-others.result c.others_behind-others.ensures
