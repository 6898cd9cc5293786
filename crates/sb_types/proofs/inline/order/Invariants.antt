use Rattle.std.proofs.Common.{◌≡◌, length}
use Rattle.std.specs.Ordering.{nat_cmp}
use Rattle.std.specs.Cmp.Lexicographic.{slice_cmp}
use Rattle.sb_types.proofs.Padded.{Bytes}
use Rattle.sb_types.proofs.inline.order.Given as goal

-- what is left is in the order of the whole
abbrev pub invariant-loop-front : goal.invariant-loop-front
invariant-loop-front l = (slice_cmp nat_cmp l.left l.right ≡ slice_cmp nat_cmp l.fn.left l.fn.right) × Bytes l.left × Bytes l.right

abbrev pub decreases-loop-front : goal.decreases-loop-front
decreases-loop-front l = length l.left
