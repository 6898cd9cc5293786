use Rattle.std.proofs.Common.{◌≡◌, ℕ, List, [], true, ap, sym, ◌∙◌}
use Rattle.std.specs.Ordering.{nat_cmp, is_le}
use Rattle.std.specs.Cmp.Lexicographic.{slice_cmp}
use Rattle.sb_types.specs.Text.{is_prefix}
use Rattle.sb_types.proofs.Starts.{start-read, start-empty, from-empty}
use Rattle.sb_types.proofs.text.Prefix.start.Goals as goal

pub returns-in-Ok : goal.returns-in-Ok
returns-in-Ok c key =
    let read : c.in-Ok.key ≡ c.args.self.now = start-read c.bytes.result.now c.in-Ok.key (sym c.in-Ok.is ∙ c.read.ensures) ∙ c.bytes.ensures.text in
    ap (λ (start : List ℕ). is_le (slice_cmp nat_cmp start key)) read

pub returns-in-Err : goal.returns-in-Err
returns-in-Err c key =
    let text = c.bytes.result.now in
    let whole : is_prefix text ≡ true = ap is_prefix c.bytes.ensures.text ∙ c.bytes.ensures.prefix in
    let empty : [] ≡ c.args.self.now = sym (start-empty text c.in-Err.field-0 whole (sym c.in-Err.is ∙ c.read.ensures)) ∙ c.bytes.ensures.text in
    from-empty key ∙ ap (λ (start : List ℕ). is_le (slice_cmp nat_cmp start key)) empty
