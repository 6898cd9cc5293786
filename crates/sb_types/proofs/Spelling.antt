-- The spelling of a text is read from the front in one way.
use Rattle.std.proofs.Common.{◌≡◌, ◌≢◌, ℕ, ◌/◌, ◌%◌, ◌<◌, ◌≤◌, Bool, true, false, not, ◌&&◌, cond, List, [], ◌∷◌, ◌++◌, ◌⊎◌, inl, inr, ⊎_elim, length, refl, sym, ap, ap₂, ◌∙◌, arith, append_assoc, length-append}
use Rattle.std.proofs.lemmas.Bool.{false≢true}
use Rattle.std.proofs.lemmas.Bool.Decides.{nat_tests}
use Rattle.std.proofs.lemmas.List.Folds.{list_all-append}
use Rattle.std.specs.Char.{digit_char}
use Rattle.sb_types.specs.Spelling.{is_control, is_escaped, printed_byte, printed_text, is_one_line}

pub digit_same : (m n : ℕ) → digit_char m ≡ digit_char n → m ≡ n
digit_same m n same = grind (arith, nat_tests)

-- how the front of a list was spelled
abbrev pub Front : ℕ → List ℕ → List ℕ → Type 0
Front b rest word =
    ((is_escaped b ≡ false) × (word ≡ b ∷ rest))
    ⊎ ((is_escaped b ≡ true) × (word ≡ 92 ∷ digit_char (b / 16) ∷ digit_char (b % 16) ∷ rest))

pub front : (b : ℕ) (rest word : List ℕ) → word ≡ printed_byte b ++ rest → Front b rest word
front b rest word is = of (is_escaped b) refl is
  where
    of : (t : Bool) → is_escaped b ≡ t → word ≡ cond t (92 ∷ digit_char (b / 16) ∷ digit_char (b % 16) ∷ []) (b ∷ []) ++ rest → Front b rest word
    of true e w = inr (e, w)
    of false e w = inl (e, w)

front_same : (a b : ℕ) (x y word : List ℕ) → Front a x word → Front b y word → (a ≡ b) × (x ≡ y)
front_same a b x y word (inl p) (inl q) = let both = sym p.1 ∙ q.1 in (cc, cc)
front_same a b x y word (inl p) (inr q) = let both = sym p.1 ∙ q.1 in let first : a ≡ 92 = cc in absurd (false≢true (sym p.0 ∙ ap is_escaped first))
front_same a b x y word (inr p) (inl q) = let both = sym p.1 ∙ q.1 in let first : 92 ≡ b = cc in absurd (false≢true (sym q.0 ∙ ap is_escaped (sym first)))
front_same a b x y word (inr p) (inr q) =
    let both = sym p.1 ∙ q.1 in
    let high : digit_char (a / 16) ≡ digit_char (b / 16) = cc in
    let low : digit_char (a % 16) ≡ digit_char (b % 16) = cc in
    (omega (arith, digit_same (a / 16) (b / 16) high, digit_same (a % 16) (b % 16) low), cc)

pub parted : (a b : ℕ) (x y : List ℕ) → printed_byte a ++ x ≡ printed_byte b ++ y → (a ≡ b) × (x ≡ y)
parted a b x y is = front_same a b x y (printed_byte a ++ x) (front a x _ refl) (front b y _ is)

never_empty : (b : ℕ) (x : List ℕ) → printed_byte b ++ x ≡ [] → ⊥
never_empty b x is = ⊎_elim (λ p. let none = sym p.1 in absurd (cc)) (λ p. let none = sym p.1 in absurd (cc)) (front b x [] (sym is))

pub texts_apart : (a b : List ℕ) → printed_text a ≡ printed_text b → a ≡ b
texts_apart [] [] is = refl
texts_apart [] (y ∷ ys) is = absurd (never_empty y (printed_text ys) (sym is))
texts_apart (x ∷ xs) [] is = absurd (never_empty x (printed_text xs) is)
texts_apart (x ∷ xs) (y ∷ ys) is =
    let p = parted x y (printed_text xs) (printed_text ys) is in
    ap₂ (λ (n : ℕ) (ns : List ℕ). n ∷ ns) p.0 (texts_apart xs ys p.1)

-- a text whose spelling begins so goes on so
abbrev pub GoesOn : List ℕ → List ℕ → List ℕ → Type 0
GoesOn front rest text = (behind : List ℕ) × (text ≡ front ++ behind) × (rest ≡ printed_text behind)

pub goes_on : (front rest text : List ℕ) → printed_text front ++ rest ≡ printed_text text → GoesOn front rest text
goes_on [] rest text is = (text, refl, is)
goes_on (x ∷ xs) rest [] is = absurd (never_empty x (printed_text xs ++ rest) (sym (append_assoc (printed_byte x) (printed_text xs) rest) ∙ is))
goes_on (x ∷ xs) rest (y ∷ ys) is =
    let p = parted x y (printed_text xs ++ rest) (printed_text ys) (sym (append_assoc (printed_byte x) (printed_text xs) rest) ∙ is) in
    let more = goes_on xs rest ys p.1 in
    (more.0, ap₂ (λ (n : ℕ) (ns : List ℕ). n ∷ ns) (sym p.0) more.1, more.2)

-- where no byte is spelled in front of what is left, no text is spelled
pub not_read : (front rest text word : List ℕ) → word ≡ printed_text front ++ rest → 0 < length rest → ((byte : ℕ) (more : List ℕ) → rest ≢ printed_byte byte ++ more) → word ≡ printed_text text → ⊥
not_read front rest text word so_far some none whole =
    let more = goes_on front rest text (sym so_far ∙ whole) in
    of more.0 more.2
  where
    of : (behind : List ℕ) → rest ≡ printed_text behind → ⊥
    of [] is = absurd (omega (arith, some, ap length is))
    of (y ∷ ys) is = none y (printed_text ys) is

-- where something is left behind as many bytes as a text has at most, no such text is spelled
pub too_long : (front rest text word : List ℕ) (most : ℕ) → word ≡ printed_text front ++ rest → 0 < length rest → length front ≡ most → length text ≤ most → word ≡ printed_text text → ⊥
too_long front rest text word most so_far some full short whole =
    let more = goes_on front rest text (sym so_far ∙ whole) in
    of more.0 more.1 more.2
  where
    of : (behind : List ℕ) → text ≡ front ++ behind → rest ≡ printed_text behind → ⊥
    of [] at is = absurd (omega (arith, some, ap length is))
    of (y ∷ ys) at is = absurd (omega (arith, full, short, ap length at, length-append front (y ∷ ys)))

-- ---- a spelling has no control byte

shown_digit : (n : ℕ) → n < 16 → not (is_control (digit_char n)) ≡ true
shown_digit n low = grind (arith, nat_tests)

one_byte : (b : ℕ) → is_one_line (printed_byte b) ≡ true
one_byte b = of (is_escaped b) refl
  where
    of : (t : Bool) → is_escaped b ≡ t → is_one_line (cond t (92 ∷ digit_char (b / 16) ∷ digit_char (b % 16) ∷ []) (b ∷ [])) ≡ true
    of true e =
        let small : b < 128 = grind (arith, nat_tests) in
        ap₂ (λ (x y : Bool). x && (y && true)) (shown_digit (b / 16) (omega (arith, small))) (shown_digit (b % 16) (omega arith))
    of false e = grind (arith, nat_tests)

pub one_line : (text : List ℕ) → is_one_line (printed_text text) ≡ true
one_line [] = refl
one_line (b ∷ bs) = list_all-append (λ (byte : ℕ). not (is_control byte)) (printed_byte b) (printed_text bs) ∙ ap₂ (λ (x y : Bool). x && y) (one_byte b) (one_line bs)
