-- What is read fits, and the bytes are its spelling with the rest behind it.
use Rattle.std.proofs.Common.{◌≡◌, ℕ, zero, suc, ◌+◌, ◌^◌, ◌<◌, ◌≤◌, Bool, true, false, ◌==◌, ltb, if◌then◌else◌, List, [], ◌∷◌, ◌++◌, length, take, drop, Option, Some, None, refl, sym, ap, subst, ◌∙◌, append_assoc, arith, inl, inr}
use Rattle.std.specs.Option.{option_and_then}
use Rattle.std.specs.List.{flat_map, AllByRecursion}
use Rattle.std.specs.Int.{Width, w16, w64, byte_len, from_be_bytes, to_be_bytes}
use Rattle.std.proofs.lemmas.Bool.{cases_lt, ltb-false, eqb-true}
use Rattle.std.proofs.lemmas.List.{append-nil, take-append-drop, length-take, get_or-append-add, get_or-take, get_or_past}
use Rattle.std.proofs.lemmas.Option.{some_pair_parts}
use Rattle.std.proofs.lemmas.Nat.{be_bytes_2, be_bytes_8, from_be_bytes-to_be_bytes_2, from_be_bytes-to_be_bytes_8}
use Rattle.sb_codec.specs.Spelling.{number, text, long_text, list}
pub use Rattle.sb_codec.specs.Fields.{AreBytes}
use Rattle.sb_codec.specs.Fields.{Field, none_field, given_field, lead_field, made_field, then_field, where_field, times_field, byte_field, bytes_field, number_field, text_field, long_text_field, list_field, case_field, tagged_field}

pub record Takes {A : Type 0} (Fits : A → Type 0) (spell : A → List ℕ) (field : Field A) : Type 0 where
  pub parts : (bytes : List ℕ) (x : A) (rest : List ℕ) → AreBytes bytes → field bytes ≡ Some (x, rest) → Fits x × (bytes ≡ spell x ++ rest)

behind : (bytes front rest : List ℕ) → bytes ≡ front ++ rest → AreBytes bytes → AreBytes rest
behind bytes front rest e h i = rw (← get_or-append-add front rest i 0, ← e) (h (length front + i))

some_parts : {A B : Type 0} (next : A → Option B) (read : Option A) (y : B) → option_and_then next read ≡ Some y → (x : A) × (read ≡ Some x) × (next x ≡ Some y)
some_parts next None y e = absurd cc
some_parts next (Some x) y e = (x, refl, e)

-- ---- a value of no bytes, and a field that leads to another

pub given_takes : {A : Type 0} {P : A → Type 0} {s : A → List ℕ} (x : A) → P x → s x ≡ [] → Takes P s (given_field x)
given_takes {A} {P} {s} x fits empty = record {
  parts = λ bytes y rest are e.
      let same = some_pair_parts x y bytes rest e in
      (subst P same.0 fits, same.1 ∙ ap (λ (front : List ℕ). front ++ rest) (sym empty ∙ ap s same.0));
}

pub none_takes : {A : Type 0} {P : A → Type 0} {s : A → List ℕ} → Takes P s none_field
none_takes = record { parts = λ bytes y rest are e. absurd cc }

pub lead_takes : {A B : Type 0} {P : A → Type 0} {Q : B → Type 0} {s : A → List ℕ} {t : B → List ℕ} {first : Field A} {next : A → Field B} (spell : B → List ℕ)
    → Takes P s first → ((x : A) → P x → Takes (λ y. Q y × (spell y ≡ s x ++ t y)) t (next x)) → Takes Q spell (lead_field first next)
lead_takes {A} {B} {P} {Q} {s} {t} {first} {next} spell one two = record {
  parts = λ bytes y rest are e.
      let a = some_parts (λ (x : A × List ℕ). next x.0 x.1) (first bytes) (y, rest) e in
      let x = a.0.0 in
      let mid = a.0.1 in
      let front = one.parts bytes x mid are a.1 in
      let back = (two x front.0).parts mid y rest (behind bytes (s x) mid front.1 are) a.2 in
      (back.0.0, front.1 ∙ ap (λ (z : List ℕ). s x ++ z) back.1 ∙ sym (append_assoc (s x) (t y) rest) ∙ ap (λ (z : List ℕ). z ++ rest) (sym back.0.1));
}

pub fits_takes : {A : Type 0} {P Q : A → Type 0} {s : A → List ℕ} {field : Field A} → Takes P s field → ((x : A) → P x → Q x) → Takes Q s field
fits_takes one more = record { parts = λ bytes x rest are e. let p = one.parts bytes x rest are e in (more x p.0, p.1) }

-- ---- the rest stands on these

pub made_takes : {A B : Type 0} {P : A → Type 0} {Q : B → Type 0} {s : A → List ℕ} {spell : B → List ℕ} {field : Field A} (make : A → B)
    → Takes P s field → ((x : A) → P x → Q (make x) × (spell (make x) ≡ s x)) → Takes Q spell (made_field make field)
made_takes {A} {B} {P} {Q} {s} {spell} make one more =
    lead_takes {t = λ y. []} spell one (λ x fits. given_takes (make x) ((more x fits).0, (more x fits).1 ∙ sym (append-nil (s x))) refl)

pub then_takes : {A B : Type 0} {P : A → Type 0} {Q : B → Type 0} {s : A → List ℕ} {t : B → List ℕ} {first : Field A} {second : Field B}
    → Takes P s first → Takes Q t second → Takes (λ x. P x.0 × Q x.1) (λ x. s x.0 ++ t x.1) (then_field first second)
then_takes {s = s} {t = t} one two = lead_takes {t = λ x. t x.1} (λ x. s x.0 ++ t x.1) one (λ x p. made_takes (λ y. (x, y)) two (λ y q. (((p, q), refl), refl)))

pub chosen_takes : {A : Type 0} {P : A → Type 0} {s : A → List ℕ} {one two : Field A} (b : Bool) → (b ≡ true → Takes P s one) → (b ≡ false → Takes P s two) → Takes P s (if b then one else two)
chosen_takes true h k = h refl
chosen_takes false h k = k refl

pub where_takes : {A : Type 0} {P : A → Type 0} {s : A → List ℕ} {field : Field A} {test : A → Bool} → Takes P s field → Takes (λ x. P x × (test x ≡ true)) s (where_field test field)
where_takes {A} {P} {s} {field} {test} one =
    lead_takes {t = λ y. []} s one (λ x fits. chosen_takes (test x) (λ passes. given_takes x ((fits, passes), sym (append-nil (s x))) refl) (λ fails. none_takes))

pub times_takes : {A : Type 0} {P : A → Type 0} {s : A → List ℕ} {field : Field A} (n : ℕ) → Takes P s field → Takes (λ xs. (length xs ≡ n) × AllByRecursion P xs) (flat_map s) (times_field field n)
unfolding times_field
times_takes zero one = given_takes [] (refl, tt) refl
times_takes {s = s} (suc n) one =
    lead_takes {t = λ xs. flat_map s (drop 1 xs)} (flat_map s) one (λ x p. made_takes (λ xs. x ∷ xs) (times_takes n one) (λ xs h. (((ap suc h.0, (p, h.1)), refl), refl)))

-- ---- bytes and numbers

pub byte_takes : Takes (λ n. n < 256) (λ n. n ∷ []) byte_field
unfolding byte_field
byte_takes = record {
  parts = λ bytes x rest are e.
      elim bytes as (λ bytes. AreBytes bytes → byte_field bytes ≡ Some (x, rest) → (x < 256) × (bytes ≡ x ∷ rest)) [
        | [] ↦ λ are e. absurd cc
        | byte ∷ others ↦ λ are e. let same = some_pair_parts byte x others rest e in (rw (← same.0) (are 0), rw (same.0, same.1) refl)
      ] are e;
}

not_none : {A : Type 0} (b : Bool) (x y : A) → (if b then None else Some x) ≡ Some y → (b ≡ false) × (x ≡ y)
not_none true x y e = absurd cc
not_none false x y e = (refl, cc)

AreBytes-take : (n : ℕ) (bytes : List ℕ) → AreBytes bytes → AreBytes (take n bytes)
AreBytes-take n bytes are i =
    elim (cases_lt i n) [
      | inl lt ↦ rw (get_or-take n bytes i 0 lt) (are i)
      | inr le ↦ rw (get_or_past (take n bytes) i 0 (omega (arith, length-take n bytes))) (omega arith)
    ]

pub bytes_takes : (n : ℕ) → Takes (λ xs. (length xs ≡ n) × AreBytes xs) (λ xs. xs) (bytes_field n)
unfolding bytes_field
bytes_takes n = record {
  parts = λ bytes x rest are e.
      let found = not_none (ltb (length bytes) n) (take n bytes, drop n bytes) (x, rest) e in
      let long : n ≤ length bytes = ltb-false _ _ found.0 in
      let fits : (length (take n bytes) ≡ n) × AreBytes (take n bytes) = (omega (arith, length-take n bytes), AreBytes-take n bytes are) in
      subst (λ (p : List ℕ × List ℕ). ((length p.0 ≡ n) × AreBytes p.0) × (bytes ≡ p.0 ++ p.1)) found.1 (fits, sym (take-append-drop n bytes));
}

-- the numbers of a width are those below its limit
pub record IsWide (w : Width) (limit : ℕ) : Type 0 where
  pub len : (n : ℕ) → length (to_be_bytes w n) ≡ byte_len w
  pub below : (bytes : List ℕ) → AreBytes bytes → from_be_bytes w bytes < limit
  pub back : (bytes : List ℕ) → length bytes ≡ byte_len w → AreBytes bytes → to_be_bytes w (from_be_bytes w bytes) ≡ bytes
  pub again : (n : ℕ) → n < limit → from_be_bytes w (to_be_bytes w n) ≡ n

pub wide16 : IsWide w16 (2 ^ 16)
wide16 = record {
  len = λ n. refl;
  below = λ bytes are. omega (arith, are 0, are 1);
  back = λ bytes len are. be_bytes_2 bytes _ len are refl;
  again = from_be_bytes-to_be_bytes_2;
}

pub wide64 : IsWide w64 (2 ^ 64)
wide64 = record {
  len = λ n. refl;
  below = λ bytes are. omega (arith, are 0, are 1, are 2, are 3, are 4, are 5, are 6, are 7);
  back = λ bytes len are. be_bytes_8 bytes _ len are refl;
  again = from_be_bytes-to_be_bytes_8;
}

pub number_takes : {w : Width} {limit : ℕ} → IsWide w limit → Takes (λ n. n < limit) (number w) (number_field w)
unfolding number number_field
number_takes {w} wide = made_takes (from_be_bytes w) (bytes_takes (byte_len w)) (λ bytes fits. (wide.below bytes fits.1, wide.back bytes fits.0 fits.1))

-- ---- texts, lists and tags

pub text_takes : Takes (λ t. length t < 256) text text_field
unfolding text_field
text_takes = lead_takes text byte_takes (λ n lt. fits_takes (bytes_takes n) (λ t fits. (rw fits.0 lt, ap (λ (k : ℕ). k ∷ t) fits.0)))

pub long_text_takes : Takes (λ t. length t < 2 ^ 16) long_text long_text_field
unfolding long_text_field
long_text_takes = lead_takes long_text (number_takes wide16) (λ n lt. fits_takes (bytes_takes n) (λ t fits. (rw fits.0 lt, ap (λ (k : ℕ). number w16 k ++ t) fits.0)))

pub list_takes : {A : Type 0} {P : A → Type 0} {s : A → List ℕ} {field : Field A} → Takes P s field → Takes (λ xs. (length xs < 2 ^ 16) × AllByRecursion P xs) (list s) (list_field field)
unfolding list_field
list_takes {s = s} one =
    lead_takes (list s) (number_takes wide16) (λ n lt. fits_takes (times_takes n one) (λ xs fits. ((rw fits.0 lt, fits.1), ap (λ (k : ℕ). number w16 k ++ flat_map s xs) fits.0)))

-- a field for the values that are spelled with this tag
abbrev pub TakesCase : {A : Type 0} → (A → Type 0) → (A → List ℕ) → ℕ × Field A → Type 0
TakesCase Fits spell c = Takes (λ x. Fits x × (spell x ≡ c.0 ∷ drop 1 (spell x))) (λ x. drop 1 (spell x)) c.1

case_takes : {A : Type 0} {P : A → Type 0} {spell : A → List ℕ} (cases : List (ℕ × Field A)) (tag : ℕ) → AllByRecursion (TakesCase P spell) cases → TakesCase P spell (tag, case_field cases tag)
case_takes [] tag all = none_takes
case_takes {P = P} {spell = spell} (c ∷ cases) tag all =
    chosen_takes (tag == c.0) (λ same. fits_takes all.0 (λ x fits. (fits.0, rw (eqb-true tag c.0 same) fits.1))) (λ other. case_takes cases tag all.1)

pub tagged_takes : {A : Type 0} {P : A → Type 0} {spell : A → List ℕ} (cases : List (ℕ × Field A)) → AllByRecursion (TakesCase P spell) cases → Takes P spell (tagged_field cases)
tagged_takes {spell = spell} cases all = lead_takes spell byte_takes (λ tag lt. case_takes cases tag all)

pub made_case : {A B : Type 0} {P : A → Type 0} {Q : B → Type 0} {s : A → List ℕ} {spell : B → List ℕ} {field : Field A} (tag : ℕ) (make : A → B)
    → Takes P s field → ((x : A) → P x → Q (make x) × (spell (make x) ≡ tag ∷ s x)) → TakesCase Q spell (tag, made_field make field)
made_case tag make one more =
    made_takes make one (λ x fits. let e = (more x fits).1 in (((more x fits).0, e ∙ ap (λ (back : List ℕ). tag ∷ back) (sym (ap (drop 1) e))), ap (drop 1) e))

pub given_case : {A : Type 0} {P : A → Type 0} {spell : A → List ℕ} (tag : ℕ) (x : A) → P x → spell x ≡ tag ∷ [] → TakesCase P spell (tag, given_field x)
given_case tag x fits e = given_takes x (fits, e ∙ ap (λ (back : List ℕ). tag ∷ back) (sym (ap (drop 1) e))) (ap (drop 1) e)
