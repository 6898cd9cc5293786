use Rattle.std.proofs.Common.{ap, sym, ◌∙◌}
use Rattle.sb_types.specs.Records.{Entry}
use Rattle.sb_table.proofs.Keys.{found_stands, replaced_at, added_at, keys_after, pushed_after, entered_after}
use Rattle.sb_table.proofs.replacing.enter.Goals as goal

pub replace-requires-clause-stands : goal.replace-requires-clause-stands
replace-requires-clause-stands c =
    found_stands c.args.entries.now.items c.args.keys.now.items c.key.result.now c.args.entry c.in-Ok.place c.requires.keys
    (rw c.deref.ensures.value at c.in-Ok.ensures.bound) (rw c.deref.ensures.value at c.in-Ok.ensures.place) (c.key.ensures.key ∙ ap (λ (e : Entry). e.key) c.entry.ensures.entry)

pub returns-in-Ok-clause-keys : goal.returns-in-Ok-clause-keys
returns-in-Ok-clause-keys c =
    keys_after c.replace.result c.args.entry c.args.entries.now.items c.replace.new.entries.items c.args.keys.now.items c.replace.new.keys.items _
    c.replace.ensures.ok c.replace.ensures.err c.requires.keys
    (replaced_at c.args.entries.now.items c.args.keys.now.items c.key.result.now c.args.entry c.in-Ok.place c.requires.keys
    (rw c.deref.ensures.value at c.in-Ok.ensures.bound) (rw c.deref.ensures.value at c.in-Ok.ensures.place) (c.key.ensures.key ∙ ap (λ (e : Entry). e.key) c.entry.ensures.entry)
    c.requires.table.run.distinct)

pub returns-in-Err-clause-ok : goal.returns-in-Err-clause-ok
returns-in-Err-clause-ok c =
    let is = added_at c.args.entries.now.items c.args.keys.now.items c.key.result.now c.args.entry c.in-Err.place c.requires.keys
    (rw c.deref.ensures.value at c.in-Err.ensures.bound) (rw c.deref.ensures.value at c.in-Err.ensures.place) (c.key.ensures.key ∙ ap (λ (e : Entry). e.key) c.entry.ensures.entry)
    c.requires.table.run.distinct in
    entered_after c.add.result _ _ _ _ (pushed_after c.add.result c.args.entry c.args.entries.now.items c.add.new.entries.items c.args.keys.now.items c.add.new.keys.items _ c.add.ensures.ok is.0)

pub returns-in-Err-clause-keys : goal.returns-in-Err-clause-keys
returns-in-Err-clause-keys c =
    let is = added_at c.args.entries.now.items c.args.keys.now.items c.key.result.now c.args.entry c.in-Err.place c.requires.keys
    (rw c.deref.ensures.value at c.in-Err.ensures.bound) (rw c.deref.ensures.value at c.in-Err.ensures.place) (c.key.ensures.key ∙ ap (λ (e : Entry). e.key) c.entry.ensures.entry)
    c.requires.table.run.distinct in
    keys_after c.add.result c.args.entry c.args.entries.now.items c.add.new.entries.items c.args.keys.now.items c.add.new.keys.items _
    (pushed_after c.add.result c.args.entry c.args.entries.now.items c.add.new.entries.items c.args.keys.now.items c.add.new.keys.items _ c.add.ensures.ok is.0)
    c.add.ensures.err c.requires.keys is.1
