use Rattle.std.proofs.Common.{◌≡◌, List, ◌++◌, Ok, sym, ap, ap₂, subst, ◌∙◌}
use Rattle.sb_types.specs.Records.{Entry, Table, Stage}
use Rattle.sb_types.specs.Runs.{newer_entries, entries_up_to, entries_with_keys, live_entries}
use Rattle.sb_table.specs.Plain.{IsPlainTable, plain_table}
use Rattle.sb_table.specs.Floors.{IsKeptTable, table_after_swap}
use Rattle.sb_table.proofs.Keeping.{kept-swapped, front-plain, both-plain, swapped-is, joined-is}
use Rattle.sb_table.proofs.table.Table.swapped.Goals as goal

pub keep_shown-requires-clause-whole : goal.keep_shown-requires-clause-whole
keep_shown-requires-clause-whole c =
    let t : Table = record { held = c.self.inside.upto; floor = c.self.inside.floor; entries = c.self.inside.entries.entries } in
    let s : Stage = record { floor = c.stage.inside.floor; progress = c.stage.inside.progress; entries = c.stage.inside.entries.entries } in
    let beyond = rw (← c.self.view_is, ← c.stage.view_is) at c.requires.beyond in
    let front = front-plain t s c.self.invariant c.stage.invariant beyond in
    subst (λ (into : Table). IsPlainTable (plain_table (into.entries ++ live_entries s.floor (entries_with_keys (entries_up_to t.held s.entries) t.entries)))) (sym c.new-entries.ensures.nothing) front

pub add_staged-requires-clause-whole : goal.add_staged-requires-clause-whole
add_staged-requires-clause-whole c =
    let t : Table = record { held = c.self.inside.upto; floor = c.self.inside.floor; entries = c.self.inside.entries.entries } in
    let s : Stage = record { floor = c.stage.inside.floor; progress = c.stage.inside.progress; entries = c.stage.inside.entries.entries } in
    let beyond = rw (← c.self.view_is, ← c.stage.view_is) at c.requires.beyond in
    let first = joined-is t s c.new-entries.result c.keep_shown.new.into c.new-entries.ensures.nothing c.in_ok-keep_shown.ensures.ok in
    subst (λ (es : List Entry). IsPlainTable (plain_table (es ++ live_entries s.floor (newer_entries t.held s.entries)))) (sym first) (both-plain t s c.self.invariant c.stage.invariant beyond)

same : (c : goal.In_ok-add_staged) → ◌≡◌ {A = Table} (table_after_swap c.args.self.now c.args.stage.now) (record { held = c.stage.inside.progress; floor = c.stage.inside.floor; entries = c.add_staged.new.into.entries })
same c =
    let t : Table = record { held = c.self.inside.upto; floor = c.self.inside.floor; entries = c.self.inside.entries.entries } in
    let s : Stage = record { floor = c.stage.inside.floor; progress = c.stage.inside.progress; entries = c.stage.inside.entries.entries } in
    let first = joined-is t s c.new-entries.result c.keep_shown.new.into c.new-entries.ensures.nothing c.in_ok-keep_shown.ensures.ok in
    ap₂ table_after_swap (sym c.self.view_is) (sym c.stage.view_is)
    ∙ swapped-is t s c.add_staged.new.into (c.in_ok-add_staged.ensures.ok ∙ ap (λ (es : List Entry). plain_table (es ++ live_entries s.floor (newer_entries t.held s.entries))) first)

pub invariant_of-result : goal.invariant_of-result
invariant_of-result c =
    let t : Table = record { held = c.self.inside.upto; floor = c.self.inside.floor; entries = c.self.inside.entries.entries } in
    let s : Stage = record { floor = c.stage.inside.floor; progress = c.stage.inside.progress; entries = c.stage.inside.entries.entries } in
    let beyond = rw (← c.self.view_is, ← c.stage.view_is) at c.requires.beyond in
    let reach = rw (← c.stage.view_is) at c.requires.reach in
    let kept = kept-swapped t s c.self.invariant c.stage.invariant beyond reach in
    subst IsKeptTable (ap₂ table_after_swap c.self.view_is c.stage.view_is ∙ same c) kept

pub returns : goal.returns
returns c = record { shown = ap (λ (t : Table). Ok t) (same c); table = invariant_of-result c }
