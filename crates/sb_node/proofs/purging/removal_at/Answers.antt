use Rattle.std.proofs.Common.{List, ap, ◌∙◌, arith}
use Rattle.std.specs.List.{slice_get}
use Rattle.sb_types.specs.Records.{Entry}
use Rattle.sb_table.proofs.Copying.{above_all}
use Rattle.sb_node.specs.Purging.{removals}
use Rattle.sb_node.proofs.purging.removal_at.Goals as goal

pub loop-entry-init : goal.loop-entry-init
loop-entry-init c =
    let all = above_all 0 0 c.args.table.now.entries (omega arith) c.after-entry-items.ensures.table.is.run.ascending in
    ap (λ (es : List Entry). slice_get (removals es) c.args.older) (c.into_iter-entry-iterator.ensures.into_iter_gives ∙ c.after-entry-items.ensures.entries ∙ all)
