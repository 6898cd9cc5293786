use Rattle.std.proofs.Common.{◌≡◌, ℕ, ◌<◌, ◌^◌, Bool, true, false, not, arith, sym, subst, ap, refl, ◌∙◌, Result, Ok, Err}
use Rattle.std.specs.Prelude.{decimal, nat_lt}
use Rattle.std.specs.Str.{IsUtf8}
use Rattle.std.specs.Cmp.Lexicographic.{other_text}
use Rattle.std.proofs.lemmas.Bool.{ltb-true}
use Rattle.std.proofs.lemmas.Str.{IsUtf8-from_ascii}
use Rattle.std.proofs.lemmas.Fmt.{IsAscii-decimal, parse-decimal}
use Rattle.sb_types.proofs.value.read_weight.Goals as goal

below : (n : ℕ) → nat_lt n (2 ^ 63) ≡ true → n < 2 ^ 64
below n lt = let small : n < 2 ^ 63 = ltb-true n (2 ^ 63) lt in omega arith

differ : {E : Type 0} (r : Result ℕ E) (weight : ℕ) (e : E) {A : Type 0} → r ≡ Ok weight → r ≡ Err e → A
differ r weight e p q = absurd cc

is_false : (b : Bool) → true ≡ not b → false ≡ b
is_false true told = absurd cc
is_false false told = refl

same : {E : Type 0} (r : Result ℕ E) (m n : ℕ) → r ≡ Ok m → r ≡ Ok n → m ≡ n
same r m n p q = cc

pub returns-in_default-clause-only : goal.returns-in_default-clause-only
returns-in_default-clause-only c weight lt spelled =
    absurd (c.in_default.ensures.cases.0 (subst IsUtf8 spelled (IsUtf8-from_ascii (decimal weight) (IsAscii-decimal weight (below weight lt)))))

pub returns-in_default-parse-clause-only : goal.returns-in_default-parse-clause-only
returns-in_default-parse-clause-only c weight lt spelled =
    let parsed = parse-decimal 64 weight c.in-Ok.text.now c.parse.result (below weight lt) (below weight lt) (c.in-Ok.ensures.cases.0 ∙ sym spelled) c.parse.ensures.value.0 in
    differ c.parse.result weight c.in_default-parse.field-0 parsed c.in_default-parse.is

pub returns-then-ne-clause-only : goal.returns-then-ne-clause-only
returns-then-ne-clause-only c weight lt spelled =
    let parsed = parse-decimal 64 weight c.in-Ok.text.now c.parse.result (below weight lt) (below weight lt) (c.in-Ok.ensures.cases.0 ∙ sym spelled) c.parse.ensures.value.0 in
    let e = same c.parse.result weight c.in-Ok-parse.weight parsed c.in-Ok-parse.is in
    let printed : c.as_bytes.result.now ≡ c.args.word.now = c.as_bytes.ensures.value ∙ c.format.ensures.text ∙ ap decimal (sym e) ∙ spelled in
    absurd (other_text c.as_bytes.result.now c.args.word.now (is_false _ (c.if-ne.ensures {u = tt})) printed)

pub returns-clause-only : goal.returns-clause-only
returns-clause-only c weight lt spelled =
    let parsed = parse-decimal 64 weight c.in-Ok.text.now c.parse.result (below weight lt) (below weight lt) (c.in-Ok.ensures.cases.0 ∙ sym spelled) c.parse.ensures.value.0 in
    let e = same c.parse.result weight c.in-Ok-parse.weight parsed c.in-Ok-parse.is in
    c.weight.ensures ∙ rw (← e) (rw lt refl)
