-- The spelling of a text, by its characters.
use Rattle.std.proofs.Common.{◌≡◌, ℕ, suc, ◌/◌, ◌%◌, ◌<◌, ◌≤◌, cond, List, [], ◌∷◌, ◌++◌, length, get_or, flat_map, refl, sym, ap, ap₂, ◌∙◌, arith, append-nil, append_assoc, ⊎_elim}
use Rattle.std.proofs.lemmas.Bool.{cond-false, cases_lt}
use Rattle.std.proofs.lemmas.Bool.Decides.{nat_tests}
use Rattle.std.proofs.lemmas.List.Concat.{flat_map-append}
use Rattle.std.proofs.lemmas.Str.{encode_ascii, encodes-append, inside_one, encodes-chars}
use Rattle.std.specs.Str.{chars, IsUtf8}
use Rattle.std.specs.Char.{digit_char}
use lib.Utf8.{encode, encodes}
use Rattle.sb_types.specs.Spelling.{is_escaped, printed_byte, printed_char, printed_text}

plain : (bs : List ℕ) → ((k : ℕ) → k < length bs → 128 ≤ get_or bs k 0) → printed_text bs ≡ bs
plain [] each = refl
plain (b ∷ bs) each =
    let here = each 0 (omega arith) in
    let rest = plain bs (λ k l. each (suc k) (omega arith)) in
    grind (arith, nat_tests)

wide : (c : ℕ) → 128 ≤ c → (k : ℕ) → k < length (encode c) → 128 ≤ get_or (encode c) k 0
wide c l k within = ⊎_elim
    (λ low. absurd (omega (arith, l, low, inside_one c [] (encode c) k (sym (append-nil (encode c))) within low)))
    (λ high. high)
    (cases_lt (get_or (encode c) k 0) 128)

one : (c : ℕ) → printed_text (encode c) ≡ printed_char c
one c = ⊎_elim
    (λ low. ap printed_text (encode_ascii c low) ∙ append-nil (printed_byte c) ∙ ap (λ (bs : List ℕ). cond (is_escaped c) (92 ∷ digit_char (c / 16) ∷ digit_char (c % 16) ∷ []) bs) (sym (encode_ascii c low)))
    (λ high. plain (encode c) (wide c high) ∙ sym (cond-false (is_escaped c) (92 ∷ digit_char (c / 16) ∷ digit_char (c % 16) ∷ []) (encode c) (grind (arith, nat_tests))))
    (cases_lt c 128)

pub each_char : (cs : List ℕ) → printed_text (encodes cs) ≡ flat_map printed_char cs
each_char [] = refl
each_char (c ∷ cs) = flat_map-append printed_byte (encode c) (encodes cs) ∙ ap₂ (λ (xs ys : List ℕ). xs ++ ys) (one c) (each_char cs)

pub by_chars : (bs : List ℕ) → IsUtf8 bs → flat_map printed_char (chars bs) ≡ printed_text bs
by_chars bs is = sym (each_char (chars bs)) ∙ ap printed_text (encodes-chars bs is)

pub one_more : (done rest more text : List ℕ) (c : ℕ) → encodes done ++ rest ≡ text → rest ≡ encode c ++ more → encodes (done ++ c ∷ []) ++ more ≡ text
one_more done rest more text c so_far next =
    ap (λ (bs : List ℕ). bs ++ more) (encodes-append done (c ∷ []) ∙ ap (λ (bs : List ℕ). encodes done ++ bs) (append-nil (encode c)))
    ∙ append_assoc (encodes done) (encode c) more ∙ ap (λ (bs : List ℕ). encodes done ++ bs) (sym next) ∙ so_far

pub none_left : (done rest text : List ℕ) → encodes done ++ rest ≡ text → length rest ≡ 0 → flat_map printed_char done ≡ printed_text text
none_left done [] text whole none = sym (each_char done) ∙ ap printed_text (sym (append-nil (encodes done)) ∙ whole)
none_left done (x ∷ xs) text whole none = absurd (omega (arith, none))
