use Rattle.std.proofs.Common.{◌++◌, sym, ap, subst, ◌∙◌}
use Rattle.sb_types.specs.Records.{Table}
use Rattle.sb_types.specs.Runs.{newer_entries, live_entries}
use Rattle.sb_table.specs.Plain.{plain_table}
use Rattle.sb_table.specs.Floors.{is_dead}
use Rattle.sb_table.proofs.Copying.{IsCopying, copying-goes_on, later, has_room}
use Rattle.sb_table.proofs.Merging.{kept_staged, dead_staged, copies}
use Rattle.sb_table.proofs.swap.add_staged.Goals as goal

pub push_copy-requires : goal.push_copy-requires
push_copy-requires c =
    let e = c.in-Some.entry.now in
    let whole = plain_table (c.args.into.now.entries ++ live_entries c.args.floor (newer_entries c.args.upto c.args.staged.now.entries)) in
    let rest = live_entries c.args.floor c.next.new.self in
    let next = ap (live_entries c.args.floor) c.in-Some.ensures.steps ∙ kept_staged c.args.floor e c.next.new.self (sym (c.is_dead.ensures ∙ ap (is_dead c.args.floor) c.entry.ensures.entry) ∙ c.if-not-is_dead.true) in
    let copying = copies whole c.loop-entry.into next c.loop-entry.invariant in
    record { later = later whole c.loop-entry.into e rest c.requires.whole copying; room = has_room whole c.loop-entry.into e rest c.requires.whole copying }

pub loop-entry-preserved-in-Continue-1 : goal.loop-entry-preserved-in-Continue-1
loop-entry-preserved-in-Continue-1 c =
    let e = c.in-Some.entry.now in
    let whole = plain_table (c.args.into.now.entries ++ live_entries c.args.floor (newer_entries c.args.upto c.args.staged.now.entries)) in
    let rest = live_entries c.args.floor c.next.new.self in
    let next = ap (live_entries c.args.floor) c.in-Some.ensures.steps ∙ kept_staged c.args.floor e c.next.new.self (sym (c.is_dead.ensures ∙ ap (is_dead c.args.floor) c.entry.ensures.entry) ∙ c.if-not-is_dead.true) in
    let copying = copies whole c.loop-entry.into next c.loop-entry.invariant in
    subst (λ (t : Table). IsCopying whole t rest) (sym c.in_ok-push_copy.ensures.ok) (copying-goes_on whole c.loop-entry.into e rest c.requires.whole copying)

pub loop-entry-preserved : goal.loop-entry-preserved
loop-entry-preserved c =
    let whole = plain_table (c.args.into.now.entries ++ live_entries c.args.floor (newer_entries c.args.upto c.args.staged.now.entries)) in
    let next = ap (live_entries c.args.floor) c.in-Some.ensures.steps ∙ dead_staged c.args.floor c.in-Some.entry.now c.next.new.self (sym (c.is_dead.ensures ∙ ap (is_dead c.args.floor) c.entry.ensures.entry) ∙ c.if-not-is_dead.false) in
    copies whole c.loop-entry.into next c.loop-entry.invariant
