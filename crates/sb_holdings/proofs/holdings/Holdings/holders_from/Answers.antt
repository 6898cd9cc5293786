use Rattle.std.proofs.Common.{◌≡◌, ℕ, List, ap, sym, subst, ◌∙◌}
use Rattle.std.specs.Option.{MatchOption, option_copied}
use Rattle.std.specs.Map.{keys_of}
use Rattle.std.specs.Ordering.{nat_cmp}
use Rattle.std.specs.Cmp.Lexicographic.{slice_cmp}
use Rattle.std.specs.List.Sorted.{IsStrictlySortedBy}
use Rattle.std.specs.declared.ops.Bound.TheVariants.{Included, Unbounded}
use Rattle.sb_types.specs.Records.{Holder}
use Rattle.sb_holdings.specs.Plain.{is_from, holders_from}
use Rattle.sb_holdings.proofs.ByOwner.{holders-rise, entries_between-first, holders_from-held_of}
use Rattle.sb_holdings.proofs.holdings.Holdings.holders_from.Goals as goal
use Rattle.sb_holdings.proofs.holdings.Holdings.holders_from.Goals.{in-Some, in-None}

started : (c : goal.After-new) → MatchOption (option_copied c.args.first) (c.match-first.start ≡ Unbounded) (λ name. c.match-first.start ≡ Included name)
started c = elim c.match-first.branch [ in-Some w ↦ rw w.in-Some.is w.start-is | in-None w ↦ rw w.in-None.is w.start-is ]

pub returns-clause-holders : goal.returns-clause-holders
returns-clause-holders c =
    let first = option_copied c.args.first in
    let holders = c.self.inside.holders.entries in
    let is : MatchOption first (c.match-first.start ≡ Unbounded) (λ name. c.match-first.start ≡ Included name) = started c in
    c.new.ensures ∙ c.range.ensures.between tt ∙ entries_between-first first c.match-first.start is holders
    ∙ sym (holders_from-held_of c.self.inside.me holders c.self.invariant.0 first) ∙ ap (holders_from first) c.self.view_is

pub returns-clause-ascending : goal.returns-clause-ascending
returns-clause-ascending c =
    let first = option_copied c.args.first in
    let holders = c.self.inside.holders.entries in
    subst (λ (hs : List (List ℕ × Holder)). IsStrictlySortedBy (slice_cmp nat_cmp) (keys_of hs))
    (sym (returns-clause-holders c ∙ ap (holders_from first) (sym c.self.view_is) ∙ holders_from-held_of c.self.inside.me holders c.self.invariant.0 first)) (holders-rise (is_from first) holders c.self.invariant.0)
