use Rattle.std.proofs.Common.{◌≡◌}
use Rattle.std.specs.List.{list_any}
use Rattle.sb_log.specs.Rows.{sets_text, has_texts}
use Rattle.sb_log.proofs.rows.has_texts.Given as goal

-- those that are left tell it
abbrev pub invariant-loop-entry : goal.invariant-loop-entry
invariant-loop-entry l = has_texts l.table ≡ list_any (λ e. sets_text e.slot) l.entry-iterator
