use Rattle.std.proofs.Common.{◌≡◌, ◌-◌, ◌≤◌, true, take, length}
use Rattle.std.specs.List.{list_all}
use Rattle.sb_world.proofs.Looking.{is_other}
use Rattle.sb_world.proofs.world.place_of.Given as goal

abbrev pub invariant-loop-index : goal.invariant-loop-index
invariant-loop-index g l = record {
  others : list_all (is_other l.name) (take l.index l.places) ≡ true;
  within : l.index ≤ length l.places;
}

abbrev pub decreases-loop-index : goal.decreases-loop-index
decreases-loop-index g l = length l.places - l.index
