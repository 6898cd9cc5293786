use Rattle.std.proofs.Common.{ℕ, List, ap, ◌∙◌, Bor}
use Rattle.sb_types.proofs.Utf8.{addr_utf8, unwrapped}
use Rattle.sb_types.proofs.value.addr_text.Goals as goal

pub returns : goal.returns
returns c =
    ap (λ (s : Bor (List ℕ)). s.now) c.unwrap_or.ensures
    ∙ unwrapped _ c.from_utf8.result c.args.text.now _ (addr_utf8 c.args.text.now c.requires) c.from_utf8.ensures.cases
