use Rattle.std.proofs.Common.{◌≡◌, ℕ, List, ◌++◌, ap, ap₂, ◌∙◌}
use Rattle.std.specs.Prelude.{codes}
use Rattle.serde_json.specs.Data.{string}
use Rattle.serde_json.specs.Written.{compact_text}
use Rattle.sb_codec.specs.Records.{Row}
use Rattle.sb_listing.specs.Json.{rows_data}
use Rattle.sb_http.proofs.Lines.{page_head, marked_whole, five}
use Rattle.sb_http.proofs.bodies.marked_page_line.Goals as goal

pub returns : goal.returns
returns c =
    let page = c.args.page.now in
    let mark = c.args.mark.now in
    let head = ap₂ (λ (xs ys : List ℕ). xs ++ ys) c.new-line.ensures.items (c.page_head.ensures ∙ ap page_head c.more.ensures.more) in
    let listed = c.in_ok-add_json_array.ensures.added ∙ ap₂ (λ (xs : List ℕ) (rows : List Row). xs ++ compact_text (rows_data rows)) (c.in_ok-extend_from_slice.ensures.items ∙ head) c.rows.ensures.rows in
    let named = c.in_ok-extend_from_slice-2.ensures.items ∙ ap (λ (xs : List ℕ). xs ++ codes ",\"seen\":") listed in
    let marked = c.in_ok-add_mark.ensures.added ∙ ap (λ (xs : List ℕ). xs ++ compact_text (string mark)) named in
    c.in_ok-extend_from_slice-3.ensures.items ∙ ap (λ (xs : List ℕ). xs ++ codes "}\n") marked
    ∙ five (page_head page.more) (compact_text (rows_data page.rows)) (codes ",\"seen\":") (compact_text (string mark)) (codes "}\n") ∙ marked_whole mark page
