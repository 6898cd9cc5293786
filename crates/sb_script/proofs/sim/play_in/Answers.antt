use Rattle.std.proofs.Common.{arith}
use Rattle.sb_script.proofs.Runs.{counted_later}
use Rattle.sb_script.proofs.Told.{plays_more}
use Rattle.sb_script.proofs.sim.play_in.Goals as goal

pub loop-world-preserved : goal.loop-world-preserved
loop-world-preserved g c =
    let before = c.loop-world.invariant in
    let bound = before.1 in
    let plays = before.2 in
    let less = c.in_ok-advance.ensures.met c.if-branch.true in (
      counted_later _ _ _ _ _ _ before.0 c.advance.ensures.counted,
      omega (arith, bound, less),
      plays_more c.args.detail plays.0 _ _ _ _ _ _ _ c.in_ok-play_line.field-0 plays.1 c.in_ok-play_line.ensures.played c.if-not-branch.false c.in_ok-explain.ensures.words,
    )
