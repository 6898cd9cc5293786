use Rattle.std.proofs.Common.{◌≡◌, ◌∷◌, true, ◌+◌, List, drop, Err, sym, ap, subst, ◌∙◌}
use Rattle.std.proofs.lemmas.List.{drop_more}
use Rattle.std.proofs.lemmas.Result.{err_from_is_err_and}
use Rattle.sb_codec.specs.Records.{Row}
use Rattle.sb_lines.specs.WrittenBack.{rows_refusal}
use Rattle.sb_lines.proofs.Refusals.{refused_at}
use Rattle.sb_lines.proofs.writing_back.put_rows.Goals as goal

pub returns-in_err-put_row : goal.returns-in_err-put_row
returns-in_err-put_row g c =
    let p = err_from_is_err_and c.from_residual.result c.from_residual.ensures.1 in
    let old = g.L.WriteLog.seen c.args.log.now in
    let at = g.L.WriteLog.seen c.loop-row.log in
    let rows = c.args.rows.now in
    let rest = drop (c.loop-row.row-index + 1) rows in
    let left = drop_more rows c.loop-row.row-index _ c.loop-row-test.true ∙ ap (λ (x : Row). x ∷ rest) (sym c.row-item.is) in
    rw (p.1, p.2) (record {
      puts =
          refused_at old at (g.L.WriteLog.seen c.put_row.new.log) rows rest c.row-item.result c.in_err-put_row.field-0.0
          c.loop-row.invariant.0 c.loop-row.invariant.1
          (λ clean. subst (λ (l : List Row). rows_refusal old.most at.content l ≡ rows_refusal old.most old.content rows) left (c.loop-row.invariant.3 clean))
          c.in_err-put_row.ensures.puts;
    })
