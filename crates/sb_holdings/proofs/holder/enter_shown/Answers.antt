use Rattle.std.proofs.Common.{◌≡◌, ◌<◌, length, sym, ◌∙◌, arith, rules, refl}
use Rattle.sb_table.specs.Plain.{with_entry}
use Rattle.sb_holdings.proofs.Entered.{with_entries-nil, with_entries-next, later-next, keys-so_far, keys-room, keys-full}
use Rattle.sb_holdings.proofs.holder.enter_shown.Goals as goal

pub loop-count-init : goal.loop-count-init
loop-count-init c = record { entered = sym (with_entries-nil c.args.shown.now); table = c.requires.table }

pub returns-then-is_full_for-clause-end : goal.returns-then-is_full_for-clause-end
returns-then-is_full_for-clause-end c =
    let t = c.args.shown.now in
    let u = c.loop-count.shown in
    let es = c.args.entries.now in
    let n = c.loop-count.count in
    let x = c.index-entries-count.result in
    let lt : n < length es = omega arith in (
      lt,
      keys-so_far t u es n x x.key c.loop-count.invariant.entered lt c.index-entries-count.is refl c.loop-count.invariant.table.limit,
      keys-full t u es n x c.key.result.now c.loop-count.invariant.entered lt c.index-entries-count.is c.key.ensures.key c.requires.distinct (sym c.if-is_full_for.ensures.full),
    )

pub push_shown-requires-clause-later : goal.push_shown-requires-clause-later
push_shown-requires-clause-later c =
    let x = c.index-entries-count.result in
    let lt : c.loop-count.count < length c.args.entries.now = omega arith in
    later-next c.args.shown.now c.loop-count.shown c.args.entries.now c.loop-count.count x x.key c.loop-count.invariant.entered lt c.index-entries-count.is refl c.requires.later

pub returns-then-is_err-clause-end : goal.returns-then-is_err-clause-end
returns-then-is_err-clause-end c =
    let x = c.index-entries-count.result in
    let lt : c.loop-count.count < length c.args.entries.now = omega arith in (
      lt,
      keys-room c.args.shown.now c.loop-count.shown c.args.entries.now c.loop-count.count x c.key.result.now c.loop-count.invariant.entered lt c.index-entries-count.is c.key.ensures.key
          c.requires.distinct c.loop-count.invariant.table.limit (sym c.if-is_full_for.ensures.full),
    )

pub loop-count-preserved : goal.loop-count-preserved
loop-count-preserved c =
    let x = c.index-entries-count.result in
    let lt : c.loop-count.count < length c.args.entries.now = omega arith in
    let next = with_entries-next c.args.shown.now c.loop-count.shown c.args.entries.now c.loop-count.count x x.key c.loop-count.invariant.entered lt c.index-entries-count.is refl c.requires.distinct in
    let entered : c.push_shown.new.shown ≡ with_entry c.loop-count.shown x = search rules in
    record { entered = entered ∙ next; table = search rules }
