use Rattle.std.proofs.Common.{ap, sym, ◌∙◌}
use Rattle.std.proofs.lemmas.List.Edits.{map_over_more}
use Rattle.sb_commands.specs.Keeping.{unshown}
use Rattle.sb_commands.proofs.reaches.forget_shown.Goals as goal

pub loop-reach-preserved : goal.loop-reach-preserved
loop-reach-preserved c =
    rw (c.forget_shown.ensures ∙ ap unshown (sym c.reach-item.is))
    (map_over_more unshown c.args.reaches.now c.loop-reach.reaches c.loop-reach.reach-index c.reach-item.result c.loop-reach-test.true c.loop-reach.invariant c.reach-item.is)
