use Rattle.std.proofs.Common.{ap, sym, ◌∙◌}
use Rattle.std.proofs.lemmas.List.Edits.{map_over_more}
use Rattle.sb_commands.specs.Keeping.{raised}
use Rattle.sb_commands.proofs.reaches.raise_all.Goals as goal

pub loop-reach-preserved : goal.loop-reach-preserved
loop-reach-preserved c =
    rw (c.raise.ensures ∙ ap (raised c.args.found.now) (sym c.reach-item.is))
    (map_over_more (raised c.args.found.now) c.args.reaches.now c.loop-reach.reaches c.loop-reach.reach-index c.reach-item.result c.loop-reach-test.true c.loop-reach.invariant c.reach-item.is)
