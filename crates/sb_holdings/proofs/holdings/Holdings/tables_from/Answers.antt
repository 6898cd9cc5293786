use Rattle.std.proofs.Common.{ℕ, List, ap, sym, subst, ◌∙◌}
use Rattle.std.specs.Ordering.{nat_cmp}
use Rattle.std.specs.Cmp.Lexicographic.{slice_cmp}
use Rattle.std.specs.List.Sorted.{IsStrictlySortedBy}
use Rattle.sb_holdings.specs.Plain.{each_shown}
use Rattle.sb_holdings.proofs.ByOwner.{names-shown}
use Rattle.sb_holdings.proofs.holdings.Holdings.tables_from.Goals as goal

pub returns-clause-tables : goal.returns-clause-tables
returns-clause-tables c = c.new.ensures ∙ ap each_shown c.holders_from.ensures.holders

pub returns-clause-ascending : goal.returns-clause-ascending
returns-clause-ascending c =
    rw c.new.ensures
    (subst (λ (names : List (List ℕ)). IsStrictlySortedBy (slice_cmp nat_cmp) names) (sym (names-shown c.holders_from.result)) c.holders_from.ensures.ascending)
