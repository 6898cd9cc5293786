use Rattle.std.proofs.Common.{ap, sym, subst, ◌∙◌}
use Rattle.std.specs.FinMap.{keys}
use Rattle.std.specs.Ordering.{nat_cmp}
use Rattle.std.specs.Cmp.Lexicographic.{slice_cmp}
use Rattle.std.specs.List.Sorted.{IsStrictlySortedBy}
use Rattle.sb_holdings.specs.Held.{Held}
use Rattle.sb_holdings.proofs.ByOwner.{keys-from}
use Rattle.sb_holdings.proofs.holdings.Holdings.owners.Goals as goal

pub returns-clause-names : goal.returns-clause-names
returns-clause-names c = c.new.ensures ∙ c.keys.ensures.rest ∙ sym (keys-from c.self.inside.me c.self.inside.holders.entries c.self.invariant.0) ∙ ap (λ (h : Held). keys h.owners) c.self.view_is

pub returns-clause-ascending : goal.returns-clause-ascending
returns-clause-ascending c = subst (IsStrictlySortedBy (slice_cmp nat_cmp)) (sym (keys-from c.self.inside.me c.self.inside.holders.entries c.self.invariant.0) ∙ ap (λ (h : Held). keys h.owners) c.self.view_is) c.self.invariant.0
