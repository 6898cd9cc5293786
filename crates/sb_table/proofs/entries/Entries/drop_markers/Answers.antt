use Rattle.std.proofs.Common.{List, nat_lt, ◌||◌, sym, ap, subst, ◌∙◌}
use Rattle.sb_types.specs.Records.{Entry}
use Rattle.sb_types.specs.Runs.{live_entries, is_set}
use Rattle.sb_table.specs.Order.{by_key}
use Rattle.sb_table.specs.Plain.{IsPlainTable, plain_table}
use Rattle.sb_table.proofs.Keys.{plain-kept, filter-sorted}
use Rattle.sb_table.proofs.entries.Entries.drop_markers.Goals as goal

pub invariant_of-self : goal.invariant_of-self
invariant_of-self c =
    let es = c.self.inside.entries.items in
    let stays = λ (entry : Entry). is_set entry.slot || nat_lt c.args.floor entry.version in (
      subst (λ (l : List Entry). IsPlainTable (plain_table l)) (sym c.keep_live.ensures) (plain-kept stays es c.self.invariant.0),
      c.keep_live-2.ensures ∙ ap (live_entries c.args.floor) c.self.invariant.1 ∙ filter-sorted stays es c.self.invariant.0.run.distinct ∙ ap by_key (sym c.keep_live.ensures),
    )

pub returns-clause-table : goal.returns-clause-table
returns-clause-table c = (invariant_of-self c).0
