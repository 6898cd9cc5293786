use Rattle.std.proofs.Common.{◌≡◌, true, Option, None, drop}
use Rattle.sb_log.specs.Puts.{Stays}
use Rattle.sb_lines.specs.WrittenBack.{content_with_rows, rows_refusal}
use Rattle.sb_lines.proofs.writing_back.put_rows.Given as goal

-- the log stands as before; what is left to write makes of its content what all rows make of the content at the start, and is refused for the same reason
abbrev pub invariant-loop-row : goal.invariant-loop-row
invariant-loop-row g l =
    let old = g.L.WriteLog.seen l.fn.log in
    let new = g.L.WriteLog.seen l.log in
    Stays old new
    × (old.is_open ≡ true → new.is_open ≡ true)
    × (new.is_clean ≡ true → content_with_rows new.content (drop l.row-index l.rows) ≡ content_with_rows old.content l.rows)
    × (new.is_clean ≡ true → rows_refusal old.most new.content (drop l.row-index l.rows) ≡ rows_refusal old.most old.content l.rows)
