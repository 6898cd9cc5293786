use Rattle.std.proofs.Common.{◌≡◌, ◌-◌, ◌≤◌, true, take, length}
use Rattle.std.specs.List.{list_all}
use Rattle.sb_world.proofs.Looking.{is_another}
use Rattle.sb_world.proofs.connection.index_of.Given as goal

abbrev pub invariant-loop-index : goal.invariant-loop-index
invariant-loop-index l = record {
  others : list_all (is_another l.number) (take l.index l.connections) ≡ true;
  within : l.index ≤ length l.connections;
}

abbrev pub decreases-loop-index : goal.decreases-loop-index
decreases-loop-index l = length l.connections - l.index
