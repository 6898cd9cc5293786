use Rattle.std.proofs.Common.{sym, ap, ◌∙◌}
use Rattle.std.specs.Option.{option_map}
use Rattle.sb_types.specs.Records.{Table}
use Rattle.sb_types.specs.Runs.{entry_at}
use Rattle.sb_table.specs.Plain.{version_and_slot}
use Rattle.sb_table.proofs.Lookup.{entry_at-none}
use Rattle.sb_table.proofs.Keys.{lent, none_at, some_at}
use Rattle.sb_table.proofs.entries.Entries.get.Goals as goal

pub returns-in-Ok-clause-found : goal.returns-in-Ok-clause-found
returns-in-Ok-clause-found c =
    let es = c.self.inside.entries.items in
    let found = some_at es c.self.inside.keys.items c.args.key.now c.in-Ok.place c.index.result.now c.self.invariant.1
    (rw c.deref.ensures.value at c.in-Ok.ensures.bound) (rw c.deref.ensures.value at c.in-Ok.ensures.place) c.index.ensures c.self.invariant.0.run.distinct in
    lent c.version.result c.slot.result.now c.entry-entry.result.now c.index.result.now c.version.ensures.version c.slot.ensures.slot c.entry-entry.ensures.entry
    ∙ ap (option_map version_and_slot) (sym found)
    ∙ ap (λ (t : Table). option_map version_and_slot (entry_at c.args.key.now t.entries)) c.self.view_is

pub returns-in-Err-clause-found : goal.returns-in-Err-clause-found
returns-in-Err-clause-found c =
    let es = c.self.inside.entries.items in
    let none = none_at es c.self.inside.keys.items c.args.key.now c.in-Err.field-0 c.self.invariant.1 (rw c.deref.ensures.value at c.in-Err.ensures.place) c.self.invariant.0.run.distinct in
    sym (ap (option_map version_and_slot) (entry_at-none c.args.key.now es none))
    ∙ ap (λ (t : Table). option_map version_and_slot (entry_at c.args.key.now t.entries)) c.self.view_is
