use Rattle.std.proofs.Common.{◌≡◌, ◌≤◌, length, drop}
use Rattle.sb_holdings.specs.Plain.{IsHoldings}
use Rattle.sb_node.proofs.Turns.{Turned}
use Rattle.sb_node.proofs.node.NodeCore.apply.Given as goal

abbrev pub invariant-loop-block : goal.invariant-loop-block
invariant-loop-block l = record {
  turned : Turned l.fn.self.node l.self.node l.blocks (drop l.block-index l.blocks) l.ends.items;
  settings : l.self.settings ≡ l.fn.self.settings;
  holdings : IsHoldings l.self.node.held;
  count : length l.ends.items ≡ l.block-index;
  room : length l.blocks ≤ l.ends.cap;
}
