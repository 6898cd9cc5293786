use Rattle.std.proofs.Common.{◌≡◌, ◌++◌, drop, Some}
use Rattle.sb_commands.specs.Rendering.{line_text, joined}
use Rattle.sb_commands.proofs.rendering.line_text.Given as goal

abbrev pub invariant-loop-piece : goal.invariant-loop-piece
invariant-loop-piece l = joined (Some l.line.items) (line_text l.owner l.rows (drop l.piece-index l.pieces)) ≡ line_text l.owner l.rows l.pieces
