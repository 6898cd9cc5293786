use Rattle.std.proofs.Common.{◌≡◌, false, sym, ap, subst, ◌∙◌}
use Rattle.std.specs.Str.{IsUtf8}
use Rattle.std.proofs.lemmas.Result.{IfOk-weaker}
use Rattle.serde_json.specs.View.{view}
use Rattle.serde_json.specs.Written.{has_float}
use Rattle.sb_types.specs.Value.{Value}
use Rattle.sb_types.specs.Kinds.{word_of, kind_of, content_of}
use Rattle.sb_listing.specs.Json.{content_data, row_data}
use Rattle.sb_listing.proofs.Texts.{name-utf8, key-utf8, row-plain, object-row}
use Rattle.sb_listing.proofs.json.object_of.Goals as goal

pub text_of-key-requires : goal.text_of-key-requires
text_of-key-requires c = subst IsUtf8 (sym c.bytes.ensures.text) (key-utf8 c.key.result.now c.bytes.ensures.key)

pub text_of-owner-requires : goal.text_of-owner-requires
text_of-owner-requires c = subst IsUtf8 (sym c.bytes-2.ensures.text) (name-utf8 c.owner.result.now c.bytes-2.ensures.name)

pub returns-clause-object : goal.returns-clause-object
returns-clause-object c =
    let key : c.text_of-key.result.now ≡ c.args.row.now.key = c.text_of-key.ensures ∙ c.bytes.ensures.text ∙ c.key.ensures.key in
    let kind : c.kind_of-kind.result.now ≡ word_of (kind_of c.args.row.now.value) = c.kind_of-kind.ensures ∙ ap (λ (v : Value). word_of (kind_of v)) c.value.ensures.value in
    let owner : c.text_of-owner.result.now ≡ c.args.row.now.owner = c.text_of-owner.ensures ∙ c.bytes-2.ensures.text ∙ c.owner.ensures.owner in
    let value : view c.in_ok-value.value ≡ content_data (content_of c.args.row.now.value) = c.in_ok-value.ensures ∙ ap (λ (v : Value). content_data (content_of v)) c.value-2.ensures.value in
    let is = object-row c.args.row.now _ _ _ _ _ key kind owner value c.version.ensures.version in
    IfOk-weaker c.object_with.result _ _ (λ json e. e ∙ is) c.object_with.ensures
