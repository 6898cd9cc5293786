-- A text that is parted at its first such byte has the part before it first, and then the parts of what is after it.
use Rattle.std.proofs.Common.{◌≡◌, ℕ, ◌+◌, ◌<◌, ◌≤◌, Bool, true, false, List, [], ◌∷◌, length, take, drop, Option, Some, None, Result, Ok, Err, refl, sym, ap, ◌∙◌, arith}
use Rattle.std.specs.List.{position, position_or_len}
use Rattle.sb_http.specs.declared.operation.Refusal.{Refusal}
use Rattle.sb_http.specs.declared.rows_query.RowsQuery.{RowsQuery}
use Rattle.sb_http.specs.Parts.{is_byte, begun_by, all_parts, parted}
use Rattle.sb_http.specs.RowsQueries.{then_read, with_part, with_parts}

pub parts_some : (mark : ℕ) (text : List ℕ) → position_or_len (is_byte mark) text < length text
    → all_parts mark text ≡ take (position_or_len (is_byte mark) text) text ∷ all_parts mark (drop (position_or_len (is_byte mark) text + 1) text)
parts_some mark [] within = grind arith
parts_some mark (b ∷ bs) within = grind (arith, parts_some mark bs)

pub parts_none : (mark : ℕ) (text : List ℕ) → length text ≤ position_or_len (is_byte mark) text → all_parts mark text ≡ text ∷ []
parts_none mark [] beyond = refl
parts_none mark (b ∷ bs) beyond = grind (arith, parts_none mark bs)

pub parted_some : (mark : ℕ) (text part rest : List ℕ) → Some (part, rest) ≡ parted mark text → all_parts mark text ≡ part ∷ all_parts mark rest
parted_some mark text part rest is = grind (arith, parts_some mark text)

pub parted_none : (mark : ℕ) (text : List ℕ) → None ≡ parted mark text → all_parts mark text ≡ text ∷ []
parted_none mark text is = grind (arith, parts_none mark text)

read_alone : (x : Result RowsQuery Refusal) → then_read x (λ (q : RowsQuery). Ok q) ≡ x
read_alone (Ok q) = refl
read_alone (Err why) = refl

pub goes_on : (q next : RowsQuery) (text part rest : List ℕ) → Some (part, rest) ≡ parted 38 text → with_part q part ≡ Ok next
    → with_parts q (all_parts 38 text) ≡ with_parts next (all_parts 38 rest)
goes_on q next text part rest is read = ap (with_parts q) (parted_some 38 text part rest is) ∙ ap (λ (x : Result RowsQuery Refusal). then_read x (λ next. with_parts next (all_parts 38 rest))) read

pub stops : (q : RowsQuery) (why : Refusal) (text part rest : List ℕ) → Some (part, rest) ≡ parted 38 text → with_part q part ≡ Err why
    → with_parts q (all_parts 38 text) ≡ Err why
stops q why text part rest is read = ap (with_parts q) (parted_some 38 text part rest is) ∙ ap (λ (x : Result RowsQuery Refusal). then_read x (λ next. with_parts next (all_parts 38 rest))) read

pub ends : (q : RowsQuery) (text : List ℕ) → None ≡ parted 38 text → with_parts q (all_parts 38 text) ≡ with_part q text
ends q text is = ap (with_parts q) (parted_none 38 text is) ∙ read_alone (with_part q text)
