-- The table of the kinds: what holds of every kind, and of every value by its kind.
use Rattle.std.proofs.Common.{◌≡◌, ◌≢◌, ℕ, ◌<◌, ◌≤◌, ◌^◌, ◌⊎◌, inl, inr, Bool, true, false, ◌&&◌, cond, List, [], ◌∷◌, length, Option, Some, None, Result, Ok, Err, refl, sym, ap, subst, ◌∙◌, arith}
use Rattle.std.specs.Prelude.{nat_le, ◌==◌, find, option_map}
use Rattle.std.specs.List.{list_all}
use Rattle.std.specs.Str.{is_utf8}
use Rattle.std.proofs.lemmas.Bool.{and_parts, leb-true, ltb-true, eqb-true}
use Rattle.sb_types.specs.declared.fault.Fault.{Fault}
use Rattle.sb_types.specs.declared.fault.Fault.TheVariants.{BadValue}
use Rattle.sb_types.specs.declared.kind.Kind.{Kind}
use Rattle.sb_types.specs.declared.kind.Kind.TheVariants as kinds
use Rattle.sb_types.specs.declared.format.TheConstants.{TAG_REMOVED, VALUE_LENGTH_MOST}
use Rattle.sb_types.specs.declared.limits.TheConstants.{ADDR_MOST, TEXT_MOST}
use Rattle.sb_types.specs.Faults.{Gives}
use Rattle.sb_types.specs.Text.{is_between, is_addr_byte}
use Rattle.sb_types.specs.Lengths.{value_length}
use Rattle.sb_types.specs.Value.{Value, Addr, Weight, Flag, Text, is_value, words_of}
use Rattle.sb_types.specs.Kinds.{word_in, text_in, number_in, truth_in, all_kinds, word_of, tag_of, form_of, kind_of, content_of, made_value, kind_of_tag, form_in, value_of, content_word, content_length, Fits}
use Rattle.sb_types.specs.Kinds as contents
use Rattle.sb_types.proofs.Utf8.{addr_utf8, text_utf8}

-- ---- tags

pub tag_again : (kind : Kind) → kind_of_tag (tag_of kind) ≡ Some kind
tag_again kinds.Addr = refl
tag_again kinds.Weight = refl
tag_again kinds.Flag = refl
tag_again kinds.Text = refl

chosen : {X : Type 0} (b : Bool) (y x : X) (rest : Option X) → cond b (Some y) rest ≡ Some x → ((b ≡ true) × (y ≡ x)) ⊎ (rest ≡ Some x)
chosen true y x rest e = inl (refl, cc)
chosen false y x rest e = inr e

found : {X : Type 0} (test : X → Bool) (xs : List X) (x : X) → find test xs ≡ Some x → test x ≡ true
found test [] x e = absurd cc
found test (y ∷ ys) x e =
    elim (chosen (test y) y x (find test ys) e) [
      | inl here ↦ sym (ap test here.1) ∙ here.0
      | inr later ↦ found test ys x later
    ]

pub tag_found : (tag : ℕ) (kind : Kind) → kind_of_tag tag ≡ Some kind → tag_of kind ≡ tag
tag_found tag kind e = sym (eqb-true tag (tag_of kind) (found (λ (k : Kind). tag == tag_of k) all_kinds kind e))

no_kind : (kind : Kind) → ◌≡◌ {A = Option Kind} (Some kind) None → ⊥
no_kind kind e = absurd cc

pub tag_missed : (tag : ℕ) → kind_of_tag tag ≡ None → (kind : Kind) → tag_of kind ≢ tag
tag_missed tag none kind same = no_kind kind (sym (tag_again kind) ∙ ap kind_of_tag same ∙ none)

pub tag_below : (kind : Kind) → tag_of kind < 256
tag_below kinds.Addr = omega arith
tag_below kinds.Weight = omega arith
tag_below kinds.Flag = omega arith
tag_below kinds.Text = omega arith

pub tag_not_removed : (kind : Kind) → (tag_of kind == TAG_REMOVED) ≡ false
tag_not_removed kinds.Addr = refl
tag_not_removed kinds.Weight = refl
tag_not_removed kinds.Flag = refl
tag_not_removed kinds.Text = refl

-- ---- a value and its two parts

pub form_again : (value : Value) → form_in (content_of value) ≡ form_of (kind_of value)
form_again (Addr text) = refl
form_again (Weight weight) = refl
form_again (Flag flag) = refl
form_again (Text text) = refl

pub made_again : (value : Value) → made_value (kind_of value) (content_of value) ≡ Some value
made_again (Addr text) = refl
made_again (Weight weight) = refl
made_again (Flag flag) = refl
made_again (Text text) = refl

pub words_by_table : (value : Value) → ◌≡◌ {A = List ℕ × List ℕ} (words_of value) (word_of (kind_of value), content_word (content_of value))
words_by_table (Addr text) = refl
words_by_table (Weight weight) = refl
words_by_table (Flag flag) = refl
words_by_table (Text text) = refl

pub length_by_table : (value : Value) → value_length value ≡ content_length (content_of value)
length_by_table (Addr text) = refl
length_by_table (Weight weight) = refl
length_by_table (Flag flag) = refl
length_by_table (Text text) = refl

-- the value has these parts
abbrev pub HasParts : Kind → contents.Content → Value → Type 0
HasParts kind content value = (kind_of value ≡ kind) × (content_of value ≡ content)

word_is : (content : contents.Content) (text : List ℕ) → word_in content ≡ Some text → contents.Word text ≡ content
word_is (contents.Word word) text e = cc
word_is (contents.Text word) text e = absurd cc
word_is (contents.Number number) text e = absurd cc
word_is (contents.Truth truth) text e = absurd cc

text_is : (content : contents.Content) (text : List ℕ) → text_in content ≡ Some text → contents.Text text ≡ content
text_is (contents.Word word) text e = absurd cc
text_is (contents.Text word) text e = cc
text_is (contents.Number number) text e = absurd cc
text_is (contents.Truth truth) text e = absurd cc

number_is : (content : contents.Content) (number : ℕ) → number_in content ≡ Some number → contents.Number number ≡ content
number_is (contents.Word word) number e = absurd cc
number_is (contents.Text word) number e = absurd cc
number_is (contents.Number other) number e = cc
number_is (contents.Truth truth) number e = absurd cc

truth_is : (content : contents.Content) (truth : Bool) → truth_in content ≡ Some truth → contents.Truth truth ≡ content
truth_is (contents.Word word) truth e = absurd cc
truth_is (contents.Text word) truth e = absurd cc
truth_is (contents.Number number) truth e = absurd cc
truth_is (contents.Truth other) truth e = cc

-- what was made of an option came of its value
mapped : {A B : Type 0} (make : A → B) (option : Option A) (y : B) → option_map make option ≡ Some y → (x : A) × (option ≡ Some x) × (y ≡ make x)
mapped make None y e = absurd cc
mapped make (Some x) y e = (x, refl, cc)

made_parts : (kind : Kind) (content : contents.Content) (value : Value) → made_value kind content ≡ Some value → HasParts kind content value
made_parts kinds.Addr content value e = let m = mapped Addr (word_in content) value e in (ap kind_of m.2, ap content_of m.2 ∙ word_is content m.0 m.1)
made_parts kinds.Weight content value e = let m = mapped Weight (number_in content) value e in (ap kind_of m.2, ap content_of m.2 ∙ number_is content m.0 m.1)
made_parts kinds.Flag content value e = let m = mapped Flag (truth_in content) value e in (ap kind_of m.2, ap content_of m.2 ∙ truth_is content m.0 m.1)
made_parts kinds.Text content value e = let m = mapped Text (text_in content) value e in (ap kind_of m.2, ap content_of m.2 ∙ text_is content m.0 m.1)

-- ---- limits

few_bytes : (most : ℕ) (text : List ℕ) (rest : Bool) → (is_between 1 most (length text) && rest) ≡ true → length text ≤ most
few_bytes most text rest fits = leb-true (length text) most (and_parts (nat_le 1 (length text)) (nat_le (length text) most) (and_parts (is_between 1 most (length text)) rest fits).0).1

pub content_fits : (value : Value) → is_value value ≡ true → Fits (content_of value)
content_fits (Addr text) fits = let few = few_bytes ADDR_MOST text (list_all is_addr_byte text) fits in (omega arith, addr_utf8 text fits)
content_fits (Weight weight) fits = ltb-true weight (2 ^ 63) fits
content_fits (Flag flag) fits = tt
content_fits (Text text) fits = let few = few_bytes TEXT_MOST text (is_utf8 text) fits in (omega arith, text_utf8 text fits)

pub length_most : (value : Value) → is_value value ≡ true → value_length value ≤ VALUE_LENGTH_MOST
length_most (Addr text) fits = let few = few_bytes ADDR_MOST text (list_all is_addr_byte text) fits in omega arith
length_most (Weight weight) fits = omega arith
length_most (Flag flag) fits = omega arith
length_most (Text text) fits = let few = few_bytes TEXT_MOST text (is_utf8 text) fits in omega arith

-- ---- values within their limits

pub value_again : (value : Value) → is_value value ≡ true → value_of (kind_of value) (content_of value) ≡ Ok value
value_again value fits = ap contents.within_limits (made_again value) ∙ ap (λ (b : Bool). let r : Result Value Fault = cond b (Ok value) (Err BadValue) in r) fits

tested : (b : Bool) (made value : Value) → is_value made ≡ b → ◌≡◌ {A = Result Value Fault} (cond b (Ok made) (Err BadValue)) (Ok value) → ◌≡◌ {A = Option Value} (Some made) (Some value) × (is_value value ≡ true)
tested true made value is e = let same : made ≡ value = cc in (ap Some same, sym (ap is_value same) ∙ is)
tested false made value is e = absurd cc

value_made : (made : Option Value) (value : Value) → contents.within_limits made ≡ Ok value → (made ≡ Some value) × (is_value value ≡ true)
value_made None value e = absurd cc
value_made (Some made) value e = tested (is_value made) made value refl e

pub value_parts : (kind : Kind) (content : contents.Content) (value : Value) → value_of kind content ≡ Ok value → HasParts kind content value × (is_value value ≡ true)
value_parts kind content value e = let made = value_made (made_value kind content) value e in (made_parts kind content value made.0, made.1)

-- ---- a result that is the wanted one

gives_itself : {X : Type 0} (result : Result X Fault) → Gives result result
gives_itself (Ok x) = refl
gives_itself (Err fault) = λ other. refl

pub gives_same : {X : Type 0} (result want : Result X Fault) → result ≡ want → Gives result want
gives_same result want same = subst (Gives result) same (gives_itself result)
