use Rattle.std.proofs.Common.{◌≡◌, ◌++◌, drop}
use Rattle.std.specs.List.{flat_map}
use Rattle.sb_commands.specs.Rendering.{written_line}
use Rattle.sb_commands.proofs.rendering.rendered.Given as goal

abbrev pub invariant-loop-line : goal.invariant-loop-line
invariant-loop-line l = l.out.items ++ flat_map (written_line l.rows) (drop l.line-index l.template) ≡ flat_map (written_line l.rows) l.template
