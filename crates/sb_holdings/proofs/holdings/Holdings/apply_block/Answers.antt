use Rattle.std.proofs.Common.{◌<◌, sym, ap, subst, ◌∙◌}
use Rattle.sb_types.specs.Records.{Block}
use Rattle.sb_types.specs.Runs.{IsRun}
use Rattle.sb_holdings.specs.Held.{held_after_block}
use Rattle.sb_holdings.specs.Ends.{Fits}
use Rattle.sb_holdings.proofs.Ended.{IsBlock-delta, in_parts}
use Rattle.sb_holdings.proofs.holdings.Holdings.apply_block.Goals as goal

pub apply_parts-requires-clause-run : goal.apply_parts-requires-clause-run
apply_parts-requires-clause-run c =
    let b = c.args.block.now in
    let same = in_parts b c.owner.result.now c.floor.result c.after.result c.upto.result c.entries.result.now c.owner.ensures.owner c.floor.ensures.floor c.after.ensures.after c.upto.ensures.upto c.entries.ensures.entries in
    subst (λ (x : Block). IsRun x.after x.upto x.entries) (sym same) (IsBlock-delta b c.entries.ensures.block).run

pub apply_parts-requires-clause-order : goal.apply_parts-requires-clause-order
apply_parts-requires-clause-order c =
    let b = c.args.block.now in
    let same = in_parts b c.owner.result.now c.floor.result c.after.result c.upto.result c.entries.result.now c.owner.ensures.owner c.floor.ensures.floor c.after.ensures.after c.upto.ensures.upto c.entries.ensures.entries in
    subst (λ (x : Block). x.after < x.upto) (sym same) (IsBlock-delta b c.entries.ensures.block).order

pub returns-clause-effect : goal.returns-clause-effect
returns-clause-effect c =
    let b = c.args.block.now in
    let same = in_parts b c.owner.result.now c.floor.result c.after.result c.upto.result c.entries.result.now c.owner.ensures.owner c.floor.ensures.floor c.after.ensures.after c.upto.ensures.upto c.entries.ensures.entries in
    c.apply_parts.ensures.effect ∙ ap (λ (x : Block). held_after_block c.args.self.now x c.apply_parts.result) same

pub returns-clause-end : goal.returns-clause-end
returns-clause-end c =
    let b = c.args.block.now in
    let same = in_parts b c.owner.result.now c.floor.result c.after.result c.upto.result c.entries.result.now c.owner.ensures.owner c.floor.ensures.floor c.after.ensures.after c.upto.ensures.upto c.entries.ensures.entries in
    subst (λ (x : Block). Fits c.args.self.now x c.apply_parts.result) same c.apply_parts.ensures.end
