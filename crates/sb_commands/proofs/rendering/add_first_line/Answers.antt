use Rattle.std.specs.Prelude.{OnOk}
use Rattle.std.proofs.Common.{◌≡◌, ap, ◌∙◌, ◌++◌, Result, Ok, Err}
use Rattle.sb_commands.specs.Rendering.{line_text, own_rows, text_or_nothing}
use Rattle.sb_commands.proofs.rendering.add_first_line.Goals as goal

so_on_ok : {A E P Q : Type 0} (result : Result A E) → OnOk result P → (P → Q) → OnOk result Q
so_on_ok (Ok a) p f = f p
so_on_ok (Err e) p f = tt

pub returns-clause-line : goal.returns-clause-line
returns-clause-line c =
    let line = c.args.pieces.now in
    let rows = c.args.rows.now in
    let owner = c.bytes-owner.ensures.text ∙ c.owner.ensures.owner in
    let own = ap (λ found. line_text c.bytes-owner.result.now found line) c.own_rows.ensures in
    let text = c.in_ok-text.ensures.text ∙ (own ∙ ap (λ name. line_text name (own_rows name rows) line) owner) in
    so_on_ok c.add_text.result c.add_text.ensures.text (λ kept. kept ∙ ap (λ found. c.args.out.now.items ++ text_or_nothing found) text)
