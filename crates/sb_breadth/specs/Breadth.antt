-- The order by rank.
use Rattle.std.specs.declared.cmp.Ordering.{Ordering}
use Rattle.std.specs.Ordering.{nat_cmp, ordering_then}
use Rattle.std.specs.Cmp.Lexicographic.{slice_cmp}
use Rattle.sb_budget.specs.declared.offered.Offered.{Offered}

-- the smaller rank first; of equal ranks, the owner whose name is first
abbrev pub by_rank : Offered → Offered → Ordering
by_rank x y = ordering_then (nat_cmp x.rank y.rank) (slice_cmp nat_cmp x.owner y.owner)
