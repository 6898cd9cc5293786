use Rattle.std.proofs.Common.{nat_eq, sym, ap, subst, ◌∙◌}
use Rattle.std.specs.List.{starts_with}
use Rattle.sb_types.specs.Records.{Entry, Table}
use Rattle.sb_table.specs.Order.{by_key, entries_with_prefix, IsRising}
use Rattle.sb_table.proofs.Keys.{IsRising-sorted, filter-sorted}
use Rattle.sb_table.proofs.entries.Entries.prefix.Goals as goal

pub under-requires : goal.under-requires
under-requires c = subst IsRising (sym (c.deref.ensures.value ∙ c.self.invariant.1)) (IsRising-sorted c.self.inside.entries.items c.self.invariant.0.run.distinct)

pub returns-clause-entries : goal.returns-clause-entries
returns-clause-entries c =
    let prefix = c.args.prefix.now in
    c.new.ensures ∙ c.under.ensures ∙ ap (entries_with_prefix prefix) (c.deref.ensures.value ∙ c.self.invariant.1)
    ∙ filter-sorted (λ (e : Entry). starts_with nat_eq e.key prefix) c.self.inside.entries.items c.self.invariant.0.run.distinct
    ∙ ap (λ (t : Table). by_key (entries_with_prefix prefix t.entries)) c.self.view_is
