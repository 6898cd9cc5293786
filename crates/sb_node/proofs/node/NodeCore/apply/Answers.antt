use Rattle.std.proofs.Common.{◌≡◌, ◌+◌, List, [], ◌∷◌, length, drop, sym, ap, subst, ◌∙◌, arith, length-append}
use Rattle.std.proofs.lemmas.List.{drop_all, drop_more}
use Rattle.sb_types.specs.Records.{Block}
use Rattle.sb_holdings.specs.declared.ends.BlockEnd.{BlockEnd}
use Rattle.sb_node.specs.Cores.{Core}
use Rattle.sb_node.proofs.Turns.{Turned, turned_on, all_treated, all_replayed}
use Rattle.sb_node.proofs.node.NodeCore.apply.Goals as goal

-- after the loop no block is to come
done : (c : goal.After-new) → Turned c.args.self.now.node c.loop-block.self.node c.args.delta.now [] c.new.result
done c =
    let first = c.args.self.now.node in
    let now = c.loop-block.self.node in
    let over = subst (λ (rest : List Block). Turned first now c.blocks-blocks.result.now rest c.loop-block.ends.items) (drop_all _ _ c.loop-block-test.false) c.loop-block.invariant.turned in
    subst (λ (ends : List BlockEnd). Turned first now c.args.delta.now [] ends) (sym c.new.ensures)
    (subst (λ (blocks : List Block). Turned first now blocks [] c.loop-block.ends.items) c.blocks-blocks.ensures.blocks over)

pub returns-clause-ends : goal.returns-clause-ends
returns-clause-ends c = all_treated (done c)

pub returns-clause-ok : goal.returns-clause-ok
returns-clause-ok c = λ i. record { settings = c.loop-block.invariant.settings i; node = all_replayed (done c) i }

pub loop-block-preserved : goal.loop-block-preserved
loop-block-preserved c =
    let first = c.args.self.now.node in
    let now = c.loop-block.self.node in
    let blocks : List Block = c.blocks-blocks.result.now in
    let b = c.block-item.result in
    let rest = drop (c.loop-block.block-index + 1) blocks in
    let step : drop c.loop-block.block-index blocks ≡ b ∷ rest = drop_more blocks c.loop-block.block-index b c.loop-block-test.true ∙ ap (λ (x : Block). x ∷ rest) (sym c.block-item.is) in
    let turned = subst (λ (left : List Block). Turned first now blocks left c.loop-block.ends.items) step c.loop-block.invariant.turned in
    record {
      turned =
          subst (Turned first c.take_block-end.new.self.node blocks rest) (sym c.push_reserved.ensures.items)
          (turned_on b c.take_block-end.result turned c.take_block-end.ensures.end (ap (λ (k : Core). k.node) c.take_block-end.ensures.effect));
      settings = ap (λ (k : Core). k.settings) c.take_block-end.ensures.effect ∙ c.loop-block.invariant.settings;
      holdings = c.take_block-end.ensures.holdings;
      count = omega (arith, ap (λ (l : List BlockEnd). length l) c.push_reserved.ensures.items, length-append c.loop-block.ends.items (c.take_block-end.result ∷ []), c.loop-block.invariant.count);
      room = omega (arith, c.push_reserved.ensures.capacity, c.loop-block.invariant.room);
    }
