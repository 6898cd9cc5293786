use Rattle.std.proofs.Common.{◌++◌, ℕ, List, arith, sym, ap, subst, ◌∙◌}
use Rattle.sb_types.specs.Records.{Entry, Table}
use Rattle.sb_types.specs.Runs.{entries_up_to, entries_with_keys, has_key, live_entries}
use Rattle.sb_table.specs.Plain.{plain_table}
use Rattle.sb_table.specs.Floors.{is_dead}
use Rattle.sb_table.proofs.Copying.{IsCopying, copying-goes_on, later, has_room, above_all, plain-entries}
use Rattle.sb_table.proofs.Merging.{kept_shown, copies}
use Rattle.sb_table.proofs.swap.keep_shown.Goals as goal

pub loop-entry-init : goal.loop-entry-init
loop-entry-init c =
    let others = entries_up_to c.args.upto c.args.staged.now.entries in
    let all = c.into_iter-entry-iterator.ensures.into_iter_gives ∙ c.shared_after-entry-items.ensures.entries
    ∙ above_all 0 0 c.args.shown.now.entries (omega arith) c.shared_after-entry-items.ensures.table.run.ascending in
    record {
      parts = ap (λ (rest : List Entry). c.args.into.now.entries ++ live_entries c.args.floor (entries_with_keys others rest)) all;
      plain = plain-entries c.args.into.now c.requires.into;
    }

pub push_copy-requires : goal.push_copy-requires
push_copy-requires c =
    let e = c.in-Some.entry.now in
    let others = entries_up_to c.args.upto c.args.staged.now.entries in
    let whole = plain_table (c.args.into.now.entries ++ live_entries c.args.floor (entries_with_keys others c.args.shown.now.entries)) in
    let rest = live_entries c.args.floor (entries_with_keys others c.next.new.self) in
    let has = ap (λ (key : List ℕ). has_key key others) (sym (c.key.ensures.key ∙ ap (λ (x : Entry). x.key) c.entry.ensures.entry)) ∙ sym c.has_up_to.ensures.has ∙ c.if-has_up_to.true in
    let next = ap (λ (es : List Entry). live_entries c.args.floor (entries_with_keys others es)) c.in-Some.ensures.steps ∙ kept_shown c.args.floor others e c.next.new.self has (sym (c.is_dead.ensures ∙ ap (is_dead c.args.floor) c.entry-then-has_up_to.ensures.entry) ∙ c.if-not-is_dead.true) in
    let copying = copies whole c.loop-entry.into next c.loop-entry.invariant in
    record { later = later whole c.loop-entry.into e rest c.requires.whole copying; room = has_room whole c.loop-entry.into e rest c.requires.whole copying }

pub loop-entry-preserved-then-not-is_dead : goal.loop-entry-preserved-then-not-is_dead
loop-entry-preserved-then-not-is_dead c =
    let e = c.in-Some.entry.now in
    let others = entries_up_to c.args.upto c.args.staged.now.entries in
    let whole = plain_table (c.args.into.now.entries ++ live_entries c.args.floor (entries_with_keys others c.args.shown.now.entries)) in
    let rest = live_entries c.args.floor (entries_with_keys others c.next.new.self) in
    let has = ap (λ (key : List ℕ). has_key key others) (sym (c.key.ensures.key ∙ ap (λ (x : Entry). x.key) c.entry.ensures.entry)) ∙ sym c.has_up_to.ensures.has ∙ c.if-has_up_to.true in
    let next = ap (λ (es : List Entry). live_entries c.args.floor (entries_with_keys others es)) c.in-Some.ensures.steps ∙ kept_shown c.args.floor others e c.next.new.self has (sym (c.is_dead.ensures ∙ ap (is_dead c.args.floor) c.entry-then-has_up_to.ensures.entry) ∙ c.if-not-is_dead.true) in
    let copying = copies whole c.loop-entry.into next c.loop-entry.invariant in
    subst (λ (t : Table). IsCopying whole t rest) (sym c.in_ok-push_copy.ensures.ok) (copying-goes_on whole c.loop-entry.into e rest c.requires.whole copying)
