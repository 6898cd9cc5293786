-- Reading a value at the beginning of bytes.
use Rattle.std.specs.Prelude.{ℕ, zero, suc, Bool, ◌==◌, ◌<◌, nat_lt, if◌then◌else◌, List, [], ◌∷◌, length, slice_index, take, drop, Option, Some, None}
use Rattle.std.specs.Option.{option_and_then}
use Rattle.std.specs.Int.{Width, w16, byte_len, from_be_bytes}

abbrev pub AreBytes : List ℕ → Type 0
AreBytes bytes = (i : ℕ) → slice_index bytes i < 256

-- a value that is read at the beginning of bytes, and the bytes after it; or nothing
abbrev pub Field : Type 0 → Type 0
Field A = List ℕ → Option (A × List ℕ)

-- nothing is read
abbrev pub none_field : {A : Type 0} → Field A
none_field bytes = None

-- the value, from no bytes
abbrev pub given_field : {A : Type 0} → A → Field A
given_field x bytes = Some (x, bytes)

-- a field, and after it the field that its value asks for
abbrev pub lead_field : {A B : Type 0} → Field A → (A → Field B) → Field B
lead_field first next bytes = option_and_then (λ x. next x.0 x.1) (first bytes)

-- what is made of a field's value
abbrev pub made_field : {A B : Type 0} → (A → B) → Field A → Field B
made_field make field = lead_field field (λ x. given_field (make x))

-- two fields
abbrev pub then_field : {A B : Type 0} → Field A → Field B → Field (A × B)
then_field first second = lead_field first (λ x. made_field (λ y. (x, y)) second)

-- a field whose value passes a test
abbrev pub where_field : {A : Type 0} → (A → Bool) → Field A → Field A
where_field test field = lead_field field (λ x. if test x then given_field x else none_field)

-- the same field this many times
unfoldable pub times_field : {A : Type 0} → Field A → ℕ → Field (List A)
times_field field zero = given_field []
times_field field (suc n) = lead_field field (λ x. made_field (λ xs. x ∷ xs) (times_field field n))

unfoldable pub byte_field : Field ℕ
byte_field [] = None
byte_field (byte ∷ bytes) = Some (byte, bytes)

-- this many bytes
unfoldable pub bytes_field : ℕ → Field (List ℕ)
bytes_field count bytes = if nat_lt (length bytes) count then None else Some (take count bytes, drop count bytes)

-- a number of the width, high byte first
unfoldable pub number_field : Width → Field ℕ
number_field w = made_field (from_be_bytes w) (bytes_field (byte_len w))

-- a length byte, and that many bytes
unfoldable pub text_field : Field (List ℕ)
text_field = lead_field byte_field bytes_field

-- a length of two bytes, and that many bytes
unfoldable pub long_text_field : Field (List ℕ)
long_text_field = lead_field (number_field w16) bytes_field

-- a count, and a field as many times
unfoldable pub list_field : {A : Type 0} → Field A → Field (List A)
list_field field = lead_field (number_field w16) (times_field field)

-- the field of a tag
abbrev pub case_field : {A : Type 0} → List (ℕ × Field A) → ℕ → Field A
case_field [] tag = none_field
case_field (c ∷ cases) tag = if tag == c.0 then c.1 else case_field cases tag

-- a tag byte, and the field of that tag
abbrev pub tagged_field : {A : Type 0} → List (ℕ × Field A) → Field A
tagged_field cases = lead_field byte_field (case_field cases)

-- the value of a field that takes all bytes; else nothing
abbrev pub whole_value : {A : Type 0} → Field A → List ℕ → Option A
whole_value field bytes = option_and_then (λ x. if length x.1 == 0 then Some x.0 else None) (field bytes)
