-- What is read of the spelling of a text.
use Rattle.std.proofs.Common.{◌≡◌, ◌≢◌, ℕ, Bool, true, false, cond, List, Result, Ok, Err, refl, sym, ap, subst, ◌∙◌}
use Rattle.std.specs.Prelude.{IfOk, IfErr, codes}
use Rattle.sb_types.specs.declared.fault.Fault.{Fault}
use Rattle.sb_types.specs.declared.fault.Fault.TheVariants.{NoMemory, BadValue}
use Rattle.sb_types.specs.Faults.{Gives}
use Rattle.sb_types.specs.Text.{is_text}
use Rattle.sb_types.specs.Spelling.{printed_text}
use Rattle.sb_types.specs.Value.{Value, Text, is_value, words_of, IsSpelled}
use Rattle.sb_types.proofs.Spelling.{texts_apart}

by_test : {P : Type 0} (b : Bool) → (b ≡ true → P) → (b ≡ false → P) → P
by_test true on_true on_false = on_true refl
by_test false on_true on_false = on_false refl

two_words : (v w : List ℕ) → v ≡ w → ◌≡◌ {A = List ℕ × List ℕ} (codes "text", v) (codes "text", w)
two_words v w same = cc

same_ok : {x y : Value} → ◌≡◌ {A = Result Value Fault} (Ok x) (Ok y) → x ≡ y
same_ok e = cc

module _ (word text : List ℕ) (spelled : word ≡ printed_text text) (result : Result Value Fault) (exact : Gives result (cond (is_text text) (Ok (Text text)) (Err BadValue))) (refused : is_text text ≡ false → result ≡ Err BadValue) where
  given : is_text text ≡ true → Gives result (Ok (Text text))
  given is = subst (λ (b : Bool). Gives result (cond b (Ok (Text text)) (Err BadValue))) is exact

  abbrev Found : Value → Type 0
  Found value = (is_value value ≡ true) × (words_of value ≡ (codes "text", word))

  found_in : (r : Result Value Fault) → is_text text ≡ true → Gives r (Ok (Text text)) → IfOk r Found
  found_in (Ok x) is gives = subst Found (same_ok gives) (is, two_words (printed_text text) word (sym spelled))
  found_in (Err fault) is gives = tt

  pub read_found : IfOk result Found
  read_found = by_test (is_text text) (λ is. found_in result is (given is)) (λ other. subst (λ (r : Result Value Fault). IfOk r Found) (sym (refused other)) tt)

  pub read_only : (other : List ℕ) → is_text other ≡ true → printed_text other ≡ word → Gives result (Ok (Text other))
  read_only other is printed =
      let same = texts_apart text other (sym spelled ∙ sym printed) in
      subst (λ (t : List ℕ). Gives result (Ok (Text t))) same (given (ap is_text same ∙ is))

  abbrev IsBad : Fault → Type 0
  IsBad fault = fault ≢ NoMemory → fault ≡ BadValue

  bad_in : (r : Result Value Fault) → Gives r (Ok (Text text)) → IfErr r IsBad
  bad_in (Ok x) gives = tt
  bad_in (Err fault) gives = λ other. absurd (let e = gives other in cc)

  pub read_fault : IfErr result IsBad
  read_fault = by_test (is_text text) (λ is. bad_in result (given is)) (λ other. subst (λ (r : Result Value Fault). IfErr r IsBad) (sym (refused other)) (λ _. refl))

  abbrev Wants : Fault → Type 0
  Wants fault = fault ≡ NoMemory → IsSpelled word

  wants_in : (r : Result Value Fault) → is_text text ≡ true → IfErr r Wants
  wants_in (Ok x) is = tt
  wants_in (Err fault) is = λ _. (text, is, sym spelled)

  pub read_memory : IfErr result Wants
  read_memory = by_test (is_text text) (λ is. wants_in result is) (λ other. subst (λ (r : Result Value Fault). IfErr r Wants) (sym (refused other)) (λ none. absurd (let e : BadValue ≡ NoMemory = none in cc)))
