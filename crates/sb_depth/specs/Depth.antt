-- The order by count.
use Rattle.std.specs.declared.cmp.Ordering.{Ordering}
use Rattle.std.specs.Ordering.{nat_cmp, ordering_then}
use Rattle.std.specs.Cmp.Lexicographic.{slice_cmp}
use Rattle.sb_budget.specs.declared.offered.Offered.{Offered}
use Rattle.sb_budget.specs.Orders.{version_of}

-- the owner with the greater count first; of equal counts, the one whose name is first; and each owner's items by
-- version
abbrev pub by_count : Offered → Offered → Ordering
by_count x y = ordering_then (ordering_then (nat_cmp y.count x.count) (slice_cmp nat_cmp x.owner y.owner)) (nat_cmp (version_of x) (version_of y))
