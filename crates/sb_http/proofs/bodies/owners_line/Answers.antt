use Rattle.std.proofs.Common.{◌≡◌, ℕ, List, ◌++◌, false, map, ap, ◌∙◌}
use Rattle.std.specs.Prelude.{codes}
use Rattle.serde_json.specs.Written.{items_text}
use Rattle.sb_listing.specs.Json.{items_of}
use Rattle.sb_http.specs.Texts.{owner_data}
use Rattle.sb_http.proofs.Lines.{owners_whole}
use Rattle.sb_http.proofs.bodies.owners_line.Goals as goal

pub returns : goal.returns
returns c =
    let owners = c.args.owners.now in
    let head = ap (λ (xs : List ℕ). xs ++ codes "{\"owners\":[") c.new-line.ensures.items in
    let listed = ap (λ (xs : List ℕ). xs ++ items_text false (items_of (map owner_data owners))) (c.in_ok-extend_from_slice.ensures.items ∙ head) in
    c.in_ok-extend_from_slice-2.ensures.items ∙ ap (λ (xs : List ℕ). xs ++ codes "}\n") (c.in_ok-add_owners.ensures.added ∙ listed) ∙ owners_whole owners
