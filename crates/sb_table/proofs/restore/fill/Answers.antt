use Rattle.std.proofs.Common.{rules, List, sym, subst}
use Rattle.std.specs.Vec.Iter.{into_iter_items}
use Rattle.sb_types.specs.Records.{Entry, Table}
use Rattle.sb_table.specs.Plain.{plain_table}
use Rattle.sb_table.proofs.Copying.{IsCopying, later, has_room, copying-goes_on}
use Rattle.sb_table.proofs.restore.fill.Goals as goal

pub push_shared-requires : goal.push_shared-requires
push_shared-requires c =
    let whole = plain_table c.args.entries.items in
    let copying = subst (λ (rest : List Entry). IsCopying whole c.loop-entry.table rest) c.in-Some.ensures.steps.0 c.loop-entry.invariant in
    later whole c.loop-entry.table c.in-Some.entry (into_iter_items c.next.new.self) c.requires copying

pub loop-entry-preserved : goal.loop-entry-preserved
loop-entry-preserved c =
    let whole = plain_table c.args.entries.items in
    let rest = into_iter_items c.next.new.self in
    let copying = subst (λ (rest : List Entry). IsCopying whole c.loop-entry.table rest) c.in-Some.ensures.steps.0 c.loop-entry.invariant in
    subst (λ (t : Table). IsCopying whole t rest) (sym c.in_ok-push_shared.ensures.ok) (copying-goes_on whole c.loop-entry.table c.in-Some.entry rest c.requires copying)

pub returns-in_err-push_shared : goal.returns-in_err-push_shared
returns-in_err-push_shared c =
    let whole = plain_table c.args.entries.items in
    let copying = subst (λ (rest : List Entry). IsCopying whole c.loop-entry.table rest) c.in-Some.ensures.steps.0 c.loop-entry.invariant in
    let room = has_room whole c.loop-entry.table c.in-Some.entry (into_iter_items c.next.new.self) c.requires copying in
    search (rules, room)
