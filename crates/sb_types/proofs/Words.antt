-- The words of values, and the line that they make.
use Rattle.std.proofs.Common.{◌≡◌, ℕ, ◌<◌, ◌^◌, Bool, true, false, not, ◌&&◌, ◌%◌, ◌+◌, ◌≤◌, List, [], ◌∷◌, ◌++◌, length, get_or, refl, sym, ap, ap₂, ◌∙◌, arith, true≢false}
use Rattle.std.specs.Prelude.{codes, decimal, nat_lt, ◌==◌}
use Rattle.std.specs.Str.Parse.{digits_value}
use Rattle.std.proofs.lemmas.Bool.{and_parts, ltb-true}
use Rattle.std.proofs.lemmas.Bool.Decides.{nat_tests}
use Rattle.std.proofs.lemmas.Fmt.{decimal_is_IsNumeral, decimal_by_steps}
use Rattle.std.proofs.lemmas.List.Folds.{list_all-append}
use Rattle.std.specs.List.{list_all}
use Rattle.sb_types.specs.Value.{Value, Addr, Weight, Flag, Text, is_value, is_word, flag_word, words_of, line_of}
use Rattle.sb_types.specs.Text.{is_addr_byte}
use Rattle.sb_types.specs.Spelling.{is_control, is_one_line, printed_text}
use Rattle.sb_types.proofs.Spelling.{texts_apart, one_line}

-- texts without a space that stand before the first space of one text are one
no_space : (byte : ℕ) (text : List ℕ) → is_word (byte ∷ text) ≡ true → byte ≡ 32 → ⊥
no_space byte text word space =
    let here : not (byte == 32) ≡ true = (and_parts (not (byte == 32)) (is_word text) word).0 in
    true≢false (sym here ∙ ap (λ n. not (n == 32)) space)

cut_once : (xs rest kind word : List ℕ) → is_word xs ≡ true → is_word kind ≡ true → xs ++ 32 ∷ rest ≡ kind ++ 32 ∷ word → (xs ≡ kind) × (rest ≡ word)
cut_once [] rest [] word xw kw same = (refl, cc)
cut_once [] rest (k ∷ ks) word xw kw same = absurd (no_space k ks kw cc)
cut_once (x ∷ xs) rest [] word xw kw same = absurd (no_space x xs xw cc)
cut_once (x ∷ xs) rest (k ∷ ks) word xw kw same =
    let later : xs ++ 32 ∷ rest ≡ ks ++ 32 ∷ word = cc in
    let first : x ≡ k = cc in
    let tail : (xs ≡ ks) × (rest ≡ word) = cut_once xs rest ks word (and_parts _ _ xw).1 (and_parts _ _ kw).1 later in
    (ap₂ (λ (a : ℕ) (b : List ℕ). a ∷ b) first tail.0, tail.1)

pair_of : (a b kind word : List ℕ) → (a ≡ kind) × (b ≡ word) → ◌≡◌ {A = List ℕ × List ℕ} (a, b) (kind, word)
pair_of a b kind word same = cc

pub line_cut : (a : Value) (kind word : List ℕ) → is_word kind ≡ true → line_of a ≡ kind ++ 32 ∷ word → words_of a ≡ (kind, word)
line_cut (Addr text) kind word kw same = pair_of _ _ _ _ (cut_once (codes "addr") text kind word refl kw same)
line_cut (Weight weight) kind word kw same = pair_of _ _ _ _ (cut_once (codes "weight") (decimal weight) kind word refl kw same)
line_cut (Flag flag) kind word kw same = pair_of _ _ _ _ (cut_once (codes "flag") (flag_word flag) kind word refl kw same)
line_cut (Text text) kind word kw same = pair_of _ _ _ _ (cut_once (codes "text") (printed_text text) kind word refl kw same)

abbrev first_of : List ℕ × List ℕ → ℕ
first_of words = get_or words.0 0 0

abbrev second_of : List ℕ × List ℕ → List ℕ
second_of words = words.1

decimals_apart : (m n : ℕ) → nat_lt m (2 ^ 63) ≡ true → nat_lt n (2 ^ 63) ≡ true → decimal m ≡ decimal n → m ≡ n
decimals_apart m n lm ln same =
    let m_small : m < 2 ^ 63 = ltb-true m (2 ^ 63) lm in
    let n_small : n < 2 ^ 63 = ltb-true n (2 ^ 63) ln in
    sym (decimal_is_IsNumeral m (omega arith)).1 ∙ ap (digits_value 10) same ∙ (decimal_is_IsNumeral n (omega arith)).1

flags_apart : (a b : Bool) → flag_word a ≡ flag_word b → a ≡ b
flags_apart true true same = refl
flags_apart true false same = absurd (omega (arith, ap length same))
flags_apart false true same = absurd (omega (arith, ap length same))
flags_apart false false same = refl

pub words_apart : (a b : Value) → is_value a ≡ true → is_value b ≡ true → words_of a ≡ words_of b → a ≡ b
words_apart (Addr s) (Addr t) va vb same = ap Addr (ap second_of same)
words_apart (Addr s) (Weight n) va vb same = absurd (omega (arith, ap first_of same))
words_apart (Addr s) (Flag f) va vb same = absurd (omega (arith, ap first_of same))
words_apart (Addr s) (Text t) va vb same = absurd (omega (arith, ap first_of same))
words_apart (Weight m) (Addr t) va vb same = absurd (omega (arith, ap first_of same))
words_apart (Weight m) (Weight n) va vb same = ap Weight (decimals_apart m n va vb (ap second_of same))
words_apart (Weight m) (Flag f) va vb same = absurd (omega (arith, ap first_of same))
words_apart (Weight m) (Text t) va vb same = absurd (omega (arith, ap first_of same))
words_apart (Flag e) (Addr t) va vb same = absurd (omega (arith, ap first_of same))
words_apart (Flag e) (Weight n) va vb same = absurd (omega (arith, ap first_of same))
words_apart (Flag e) (Flag f) va vb same = ap Flag (flags_apart e f (ap second_of same))
words_apart (Flag e) (Text t) va vb same = absurd (omega (arith, ap first_of same))
words_apart (Text s) (Addr t) va vb same = absurd (omega (arith, ap first_of same))
words_apart (Text s) (Weight n) va vb same = absurd (omega (arith, ap first_of same))
words_apart (Text s) (Flag f) va vb same = absurd (omega (arith, ap first_of same))
words_apart (Text s) (Text t) va vb same = ap Text (texts_apart s t (ap second_of same))

-- ---- a printed value has no control byte

printing : (text : List ℕ) → list_all is_addr_byte text ≡ true → is_one_line text ≡ true
printing [] all = refl
printing (b ∷ bs) all =
    let both = and_parts (is_addr_byte b) (list_all is_addr_byte bs) all in
    let here : is_addr_byte b ≡ true = both.0 in
    let first : not (is_control b) ≡ true = grind (arith, nat_tests) in
    ap₂ (λ (x y : Bool). x && y) first (printing bs both.1)

abbrev HasDigits : ℕ → List ℕ → Type 0
HasDigits n ds = is_one_line ds ≡ true

one_digit : (n : ℕ) → n < 10 → is_one_line ((48 + n) ∷ []) ≡ true
one_digit n low = grind (arith, nat_tests)

one_more : (n : ℕ) (ds : List ℕ) → 10 ≤ n → is_one_line ds ≡ true → is_one_line (ds ++ ((48 + n % 10) ∷ [])) ≡ true
one_more n ds many all =
    list_all-append (λ (byte : ℕ). not (is_control byte)) ds ((48 + n % 10) ∷ []) ∙ ap₂ (λ (x y : Bool). x && y) all (one_digit (n % 10) (omega arith))

numeral : (n : ℕ) → n < 2 ^ 64 → is_one_line (decimal n) ≡ true
numeral n low = decimal_by_steps HasDigits one_digit one_more n low

flag_line : (flag : Bool) → is_one_line (flag_word flag) ≡ true
flag_line true = refl
flag_line false = refl

pub values_line : (a : Value) → is_value a ≡ true → is_one_line (line_of a) ≡ true
values_line (Addr text) valid = printing text (and_parts _ _ valid).1
values_line (Weight weight) valid = let small : weight < 2 ^ 63 = ltb-true weight (2 ^ 63) valid in numeral weight (omega arith)
values_line (Flag flag) valid = flag_line flag
values_line (Text text) valid = one_line text
