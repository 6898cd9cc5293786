use Rattle.std.proofs.Common.{ℕ, List, ap, ◌∙◌, Bor}
use Rattle.sb_types.proofs.Utf8.{unwrapped}
use Rattle.sb_types.proofs.value.utf8_text.Goals as goal

pub returns : goal.returns
returns c =
    ap (λ (s : Bor (List ℕ)). s.now) c.unwrap_or.ensures
    ∙ unwrapped _ c.from_utf8.result c.args.text.now _ c.requires c.from_utf8.ensures.cases
