use Rattle.std.proofs.Common.{◌≡◌, ◌++◌, length, take}
use Rattle.std.specs.Int.{w16}
use Rattle.std.specs.List.{flat_map}
use Rattle.sb_codec.specs.Spelling.{number}
use Rattle.sb_codec.proofs.writing.write_list.Given as goal

abbrev pub invariant-loop-item : goal.invariant-loop-item
invariant-loop-item g l = l.out.items ≡ l.fn.out.items ++ (number w16 (length l.items) ++ flat_map g.T.ListItem.spelling (take l.item-index l.items))
