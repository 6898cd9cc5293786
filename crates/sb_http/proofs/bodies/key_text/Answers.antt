use Rattle.std.proofs.Common.{◌≡◌, ℕ, List, sym, ap, subst, ◌∙◌, Bor, Result, Ok, Err}
use Rattle.std.specs.Prelude.{MatchResult}
use Rattle.std.specs.Result.{result_unwrap_or}
use Rattle.std.specs.Str.{IsUtf8}
use Rattle.sb_listing.proofs.Texts.{key-utf8}
use Rattle.sb_http.proofs.bodies.key_text.Goals as goal

unwrapped : {E : Type 0} (Q : E → Type 0) (r : Result (Bor (List ℕ)) E) (text : List ℕ) (d : Bor (List ℕ)) → IsUtf8 text → MatchResult r (λ s. (s.now ≡ text) × IsUtf8 text) (λ e. (IsUtf8 text → ⊥) × Q e) → (result_unwrap_or r d).now ≡ text
unwrapped Q (Ok s) text d utf8 h = h.0
unwrapped Q (Err e) text d utf8 h = absurd (h.0 utf8)

pub returns : goal.returns
returns c =
    let utf8 = subst IsUtf8 (sym c.bytes.ensures.text) (key-utf8 c.args.key.now c.bytes.ensures.key) in
    ap (λ (s : Bor (List ℕ)). s.now) c.unwrap_or.ensures ∙ unwrapped _ c.from_utf8.result c.bytes.result.now _ utf8 c.from_utf8.ensures.cases ∙ c.bytes.ensures.text
