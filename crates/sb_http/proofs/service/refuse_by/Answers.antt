use Rattle.std.proofs.Common.{◌≡◌, ℕ, List, ap, refl, ◌∙◌}
use Rattle.std.proofs.lemmas.Result.{on_ok_weaker}
use Rattle.sb_http.specs.Answers.{Content, fields_for}
use Rattle.sb_http.proofs.service.refuse_by.Goals as goal

pub returns : goal.returns
returns c =
    let line = c.in_ok-fault_line in
    on_ok_weaker c.fill.result
    (λ filled. (
      (400, line.field-0.items),
      (line.ensures.0, ap (λ (text : List ℕ). (400, text)) line.ensures.1),
      record { status = filled.status; headers = filled.headers ∙ c.in_ok-add_fields.ensures.headers ∙ ap fields_for c.json_type.ensures; body = filled.body },
    ))
    c.fill.ensures.filled
