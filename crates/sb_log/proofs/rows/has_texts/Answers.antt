use Rattle.std.proofs.Common.{sym, ap, ◌∙◌, arith}
use Rattle.std.specs.List.{list_any}
use Rattle.sb_types.specs.Records.{Entry}
use Rattle.sb_table.proofs.Copying.{above_all}
use Rattle.sb_log.specs.Rows.{sets_text}
use Rattle.sb_log.proofs.rows.has_texts.Goals as goal

pub loop-entry-init : goal.loop-entry-init
loop-entry-init c =
    let all = above_all 0 0 c.args.table.now.entries (omega arith) c.after-entry-items.ensures.table.is.run.ascending in
    ap (list_any (λ (e : Entry). sets_text e.slot)) (sym (c.into_iter-entry-iterator.ensures.into_iter_gives ∙ c.after-entry-items.ensures.entries ∙ all))
