use Rattle.std.proofs.Common.{◌≡◌, ℤ, true, false, cond, rules, int_cmp, is_eq, sym}
use Rattle.std.specs.BTreeSet.{contains}
use Rattle.sb_log.proofs.Numbering.{one_seen_more, seen_twice, whole_apart}
use Rattle.sb_log.proofs.rows.are_numbered_apart.Goals as goal

pub returns-then-not-branch-clause-whole : goal.returns-then-not-branch-clause-whole
returns-then-not-branch-clause-whole c numbered once =
    let there : contains int_cmp c.loop-row.seen c.in-Ok-Int.number ≡ true = search rules in
    absurd (seen_twice c.args.rows.now c.loop-row.row-index c.row-item.result (search rules) c.row-item.is c.in-Ok-Int.number (sym (rw c.in-Ok-Int.field-0-is at c.in-Ok-Int.ensures.ok).1)
    (contains int_cmp c.loop-row.seen) c.loop-row.invariant there once)

pub loop-row-preserved : goal.loop-row-preserved
loop-row-preserved c =
    let missing : contains int_cmp c.loop-row.seen c.in-Ok-Int.number ≡ false = search rules in
    let adds : (n : ℤ) → contains int_cmp c.add_number.new.seen n ≡ cond (is_eq (int_cmp c.in-Ok-Int.number n)) true (contains int_cmp c.loop-row.seen n) = λ n. search rules in
    one_seen_more c.args.rows.now c.loop-row.row-index c.row-item.result (search rules) c.row-item.is c.in-Ok-Int.number (sym (rw c.in-Ok-Int.field-0-is at c.in-Ok-Int.ensures.ok).1)
    (contains int_cmp c.loop-row.seen) c.loop-row.invariant (contains int_cmp c.add_number.new.seen) missing adds

pub returns-clause-apart : goal.returns-clause-apart
returns-clause-apart c _ = whole_apart c.args.rows.now c.loop-row.row-index (search rules) c.loop-row.invariant.1
