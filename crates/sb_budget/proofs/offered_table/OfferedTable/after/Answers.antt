use Rattle.std.proofs.Common.{◌<◌, ◌^◌, List, length, sym, ap, subst, ◌∙◌}
use Rattle.sb_types.specs.Records.{Entry, Table}
use Rattle.sb_types.specs.Runs.{newer_entries, live_entries}
use Rattle.sb_budget.proofs.OfferedLemmas.{few_live, live_above}
use Rattle.sb_budget.proofs.offered_table.OfferedTable.after.Goals as goal

pub new-requires : goal.new-requires
new-requires c =
    let s = c.self.inside in
    subst (λ (es : List Entry). length (live_entries s.floor es) < 2 ^ 63) (sym c.shared_after.ensures.entries) (few_live s.table.now c.shared_after.ensures.table s.floor c.args.version)

pub returns : goal.returns
returns c =
    let s = c.self.inside in
    record {
      entries =
          c.new.ensures ∙ ap (λ (es : List Entry). live_entries s.floor es) c.shared_after.ensures.entries ∙ live_above s.floor c.args.version s.table.now.entries
          ∙ ap (λ (t : Table). newer_entries c.args.version t.entries) c.self.view_is;
    }
