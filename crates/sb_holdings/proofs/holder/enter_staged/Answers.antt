use Rattle.std.proofs.Common.{◌≡◌, ◌<◌, length, sym, ap, ◌∙◌, arith, rules, refl}
use Rattle.sb_table.specs.Floors.{stage_with_entry}
use Rattle.sb_holdings.proofs.Holding.{as_table, as_stage}
use Rattle.sb_holdings.proofs.Entered.{with_entries-nil, with_entries-next, later-next, keys-so_far, keys-room, keys-full}
use Rattle.sb_holdings.proofs.holder.enter_staged.Goals as goal

pub loop-number-init : goal.loop-number-init
loop-number-init c = record { entered = sym (ap as_stage (with_entries-nil (as_table c.args.stage.now))); stage = c.requires.stage }

pub returns-then-is_full_for-clause-end : goal.returns-then-is_full_for-clause-end
returns-then-is_full_for-clause-end c =
    let t = as_table c.args.stage.now in
    let u = as_table c.loop-number.stage in
    let es = c.args.entries.now in
    let n = c.loop-number.number in
    let x = c.index-entries-number.result in
    let lt : n < length es = omega arith in (
      lt,
      keys-so_far t u es n x x.key (ap as_table c.loop-number.invariant.entered) lt c.index-entries-number.is refl c.loop-number.invariant.stage.limit,
      keys-full t u es n x c.key.result.now (ap as_table c.loop-number.invariant.entered) lt c.index-entries-number.is c.key.ensures.key c.requires.distinct (sym c.if-is_full_for.ensures.full),
    )

pub push_staged-requires-clause-later : goal.push_staged-requires-clause-later
push_staged-requires-clause-later c =
    let x = c.index-entries-number.result in
    let lt : c.loop-number.number < length c.args.entries.now = omega arith in
    later-next (as_table c.args.stage.now) (as_table c.loop-number.stage) c.args.entries.now c.loop-number.number x x.key (ap as_table c.loop-number.invariant.entered) lt c.index-entries-number.is refl c.requires.later

pub returns-then-is_err-clause-end : goal.returns-then-is_err-clause-end
returns-then-is_err-clause-end c =
    let x = c.index-entries-number.result in
    let lt : c.loop-number.number < length c.args.entries.now = omega arith in (
      lt,
      keys-room (as_table c.args.stage.now) (as_table c.loop-number.stage) c.args.entries.now c.loop-number.number x c.key.result.now (ap as_table c.loop-number.invariant.entered) lt c.index-entries-number.is c.key.ensures.key
          c.requires.distinct c.loop-number.invariant.stage.limit (sym c.if-is_full_for.ensures.full),
    )

pub loop-number-preserved : goal.loop-number-preserved
loop-number-preserved c =
    let x = c.index-entries-number.result in
    let lt : c.loop-number.number < length c.args.entries.now = omega arith in
    let next = with_entries-next (as_table c.args.stage.now) (as_table c.loop-number.stage) c.args.entries.now c.loop-number.number x x.key (ap as_table c.loop-number.invariant.entered) lt c.index-entries-number.is refl c.requires.distinct in
    let entered : c.push_staged.new.stage ≡ stage_with_entry c.loop-number.stage x = search rules in
    record { entered = entered ∙ ap as_stage next; stage = search rules }
