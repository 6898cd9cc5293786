use Rattle.std.proofs.Common.{not, ap, ◌∙◌, arith}
use Rattle.sb_types.specs.Records.{Entry}
use Rattle.sb_types.specs.Runs.{is_set}
use Rattle.sb_table.proofs.Copying.{above_all}
use Rattle.sb_table.proofs.Merging.{length-filter_le}
use Rattle.sb_commands.specs.Removals.{removals_in}
use Rattle.sb_commands.proofs.log_file.count_removals.Goals as goal

pub loop-entry-init : goal.loop-entry-init
loop-entry-init c =
    let all = above_all 0 0 c.args.table.now.entries (omega arith) c.after-entry-items.ensures.table.is.run.ascending in (
      omega (arith, ap removals_in (c.into_iter-entry-iterator.ensures.into_iter_gives ∙ c.after-entry-items.ensures.entries ∙ all)),
      omega (arith, length-filter_le (λ (e : Entry). not (is_set e.slot)) c.args.table.now.entries, c.after-entry-items.ensures.table.limit),
    )
