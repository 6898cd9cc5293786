-- Which texts are UTF-8.
use Rattle.std.proofs.Common.{◌≡◌, ℕ, ◌<◌, ◌≤◌, Bool, true, false, List, refl, sym, arith, Bor, Result, Ok, Err}
use Rattle.std.specs.Prelude.{MatchResult, nat_le, is_ok}
use Rattle.std.specs.Result.{result_unwrap_or}
use Rattle.std.specs.Str.{IsUtf8, is_utf8}
use Rattle.std.proofs.lemmas.Bool.{and_parts, leb-true}
use Rattle.std.proofs.lemmas.List.Sums.{AllPass-from_list_all}
use Rattle.std.proofs.lemmas.Str.{IsUtf8-from_ascii, IsUtf8-from_is_utf8, is_utf8-from_IsUtf8}
use Rattle.std.proofs.lemmas.Str.Ascii.{IsAscii-from_all}
use Rattle.sb_types.specs.Text.{is_addr, is_addr_byte, is_text}

is_ascii_byte : (byte : ℕ) → is_addr_byte byte ≡ true → byte < 128
is_ascii_byte byte printing = let most : byte ≤ 126 = leb-true byte 126 (and_parts (nat_le 33 byte) (nat_le byte 126) printing).1 in omega arith

-- an address is ASCII
pub addr_utf8 : (text : List ℕ) → is_addr text ≡ true → IsUtf8 text
addr_utf8 text addr =
    let each = AllPass-from_list_all is_addr_byte text (and_parts _ _ addr).1 in
    IsUtf8-from_ascii text (IsAscii-from_all text (λ k d l. is_ascii_byte _ (each k d l)))

pub text_utf8 : (text : List ℕ) → is_text text ≡ true → IsUtf8 text
text_utf8 text valid = IsUtf8-from_is_utf8 text (and_parts _ _ valid).1

-- what is made of bytes that are UTF-8
pub unwrapped : {E : Type 0} (Q : E → Type 0) (r : Result (Bor (List ℕ)) E) (text : List ℕ) (d : Bor (List ℕ)) → IsUtf8 text → MatchResult r (λ s. (s.now ≡ text) × IsUtf8 text) (λ e. (IsUtf8 text → ⊥) × Q e) → (result_unwrap_or r d).now ≡ text
unwrapped Q (Ok s) text d utf8 h = h.0
unwrapped Q (Err e) text d utf8 h = absurd (h.0 utf8)

never : (text : List ℕ) (b : Bool) → is_utf8 text ≡ b → (IsUtf8 text → ⊥) → b ≡ false
never text true is other = absurd (other (IsUtf8-from_is_utf8 text is))
never text false is other = refl

-- the test that it is made
pub tested : {E : Type 0} (Q : E → Type 0) (r : Result (Bor (List ℕ)) E) (text : List ℕ) → MatchResult r (λ s. (s.now ≡ text) × IsUtf8 text) (λ e. (IsUtf8 text → ⊥) × Q e) → is_ok r ≡ is_utf8 text
tested Q (Ok s) text h = sym (is_utf8-from_IsUtf8 text h.1)
tested Q (Err e) text h = sym (never text (is_utf8 text) refl h.0)
