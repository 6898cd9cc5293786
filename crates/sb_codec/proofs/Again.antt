-- What is spelled so is read, whatever stands behind it.
use Rattle.std.proofs.Common.{◌≡◌, ℕ, ◌^◌, ◌<◌, Bool, true, false, ltb, List, [], ◌∷◌, ◌++◌, length, Some, refl, append_assoc, arith, length-append}
use Rattle.std.specs.List.{flat_map, AllByRecursion}
use Rattle.std.specs.Int.{Width, byte_len, to_be_bytes}
use Rattle.std.proofs.lemmas.Bool.{le-ltb}
use Rattle.std.proofs.lemmas.List.{take_at, drop_at}
use Rattle.sb_codec.specs.Spelling.{number, text, long_text, list}
use Rattle.sb_codec.specs.Fields.{Field, given_field, lead_field, made_field, then_field, where_field, times_field, byte_field, bytes_field, number_field, text_field, long_text_field, list_field, case_field, tagged_field}
use Rattle.sb_codec.proofs.Taken.{IsWide, wide16}

pub record Again {A : Type 0} (field : Field A) (spelled : List ℕ) (x : A) : Type 0 where
  pub read : (rest : List ℕ) → field (spelled ++ rest) ≡ Some (x, rest)

pub given_again : {A : Type 0} (x : A) → Again (given_field x) [] x
given_again x = record { read = λ rest. refl }

pub lead_again : {A B : Type 0} {first : Field A} {a b : List ℕ} {x : A} {y : B} (next : A → Field B) → Again first a x → Again (next x) b y → Again (lead_field first next) (a ++ b) y
lead_again {a = a} {b = b} next one two = record { read = λ rest. rw (append_assoc a b rest, one.read (b ++ rest)) (two.read rest) }

pub made_again : {A B : Type 0} {field : Field A} {a : List ℕ} {x : A} (make : A → B) → Again field a x → Again (made_field make field) a (make x)
made_again make one = record { read = λ rest. rw (one.read rest) refl }

pub then_again : {A B : Type 0} {first : Field A} {second : Field B} {a b : List ℕ} {x : A} {y : B} → Again first a x → Again second b y → Again (then_field first second) (a ++ b) (x, y)
then_again {second = second} {x = x} one two = lead_again (λ x. made_field (λ y. (x, y)) second) one (made_again (λ y. (x, y)) two)

pub where_again : {A : Type 0} {field : Field A} {a : List ℕ} {x : A} (test : A → Bool) → test x ≡ true → Again field a x → Again (where_field test field) a x
where_again test passes one = record { read = λ rest. rw (one.read rest, passes) refl }

pub times_again : {A : Type 0} {P : A → Type 0} {field : Field A} {s : A → List ℕ} → ((x : A) → P x → Again field (s x) x) → (xs : List A) → AllByRecursion P xs → Again (times_field field (length xs)) (flat_map s xs) xs
unfolding times_field
times_again each [] all = given_again []
times_again {field = field} each (x ∷ xs) all = lead_again (λ x. made_field (λ xs. x ∷ xs) (times_field field (length xs))) (each x all.0) (made_again (λ xs. x ∷ xs) (times_again each xs all.1))

pub byte_again : (n : ℕ) → Again byte_field (n ∷ []) n
unfolding byte_field
byte_again n = record { read = λ rest. refl }

pub bytes_again : (xs : List ℕ) (n : ℕ) → length xs ≡ n → Again (bytes_field n) xs xs
unfolding bytes_field
bytes_again xs n len = record {
  read = λ rest.
      let long : ltb (length (xs ++ rest)) n ≡ false = le-ltb _ _ (omega (arith, length-append xs rest)) in
      rw (long, take_at xs rest n len, drop_at xs rest n len) refl;
}

pub number_again : {w : Width} {limit : ℕ} → IsWide w limit → (n : ℕ) → n < limit → Again (number_field w) (number w n) n
unfolding number number_field
number_again {w} wide n lt = record { read = λ rest. rw ((bytes_again (to_be_bytes w n) (byte_len w) (wide.len n)).read rest, wide.again n lt) refl }

pub text_again : (t : List ℕ) → Again text_field (text t) t
unfolding text_field
text_again t = lead_again bytes_field (byte_again (length t)) (bytes_again t (length t) refl)

pub long_text_again : (t : List ℕ) → length t < 2 ^ 16 → Again long_text_field (long_text t) t
unfolding long_text_field
long_text_again t lt = lead_again bytes_field (number_again wide16 (length t) lt) (bytes_again t (length t) refl)

pub list_again : {A : Type 0} {P : A → Type 0} {field : Field A} {s : A → List ℕ} → ((x : A) → P x → Again field (s x) x) → (xs : List A) → length xs < 2 ^ 16 → AllByRecursion P xs → Again (list_field field) (list s xs) xs
unfolding list_field
list_again {field = field} each xs lt all = lead_again (times_field field) (number_again wide16 (length xs) lt) (times_again each xs all)

pub tagged_again : {A : Type 0} {b : List ℕ} {x : A} (cases : List (ℕ × Field A)) (tag : ℕ) → Again (case_field cases tag) b x → Again (tagged_field cases) (tag ∷ b) x
tagged_again cases tag one = lead_again (case_field cases) (byte_again tag) one
