-- What is found of a name.
use Rattle.std.proofs.Common.{◌≡◌, ℕ, Bool, true, false, cond, nat_eq, List, [], ◌∷◌, Option, Some, IfSome, refl, sym, ap, subst, ◌∙◌}
use Rattle.std.specs.Prelude.{unwrap_or}
use Rattle.std.specs.Cmp.Lexicographic.{pointwise}
use Rattle.std.proofs.lemmas.Cmp.{nat_list_eq_equiv}
use Rattle.sb_types.proofs.Texts.{same_text, text_same}
use Rattle.sb_log.specs.Puts.{IsSure}
use Rattle.sb_world.specs.Places.{Place, place_at, with_place, IsClean, AreSure}
use Rattle.sb_world.specs.States.{put_at}

-- what is the value of an option, whatever stands for none
some_is : {X : Type 0} (x y : X) → Some x ≡ Some y → x ≡ y
some_is x y e = ap (λ o. unwrap_or o x) e

pub found_me : (ps : List Place) (name : List ℕ) (p : Place) → place_at ps name ≡ Some p → p.me ≡ name
found_me [] name p found = absurd (cc)
found_me (x ∷ ps) name p found = go (pointwise nat_eq x.me name) refl found (found_me ps name p)
  where
    go : (b : Bool) → pointwise nat_eq x.me name ≡ b → cond b (Some x) (place_at ps name) ≡ Some p → (place_at ps name ≡ Some p → p.me ≡ name) → p.me ≡ name
    go true is found rest = sym (ap (λ (q : Place). q.me) (some_is x p found)) ∙ same_text x.me name is
    go false is found rest = rest found

-- a value of one name, and that of every other
pub put_same : {X : Type 0} (f : List ℕ → X) (name : List ℕ) (x : X) → put_at f name x name ≡ x
put_same f name x = rw (text_same name name refl) refl

pub put_other : {X : Type 0} (f : List ℕ → X) (name other : List ℕ) (x : X) → pointwise nat_eq other name ≡ false → put_at f name x other ≡ f other
put_other f name other x is = rw is refl

module _ (name : List ℕ) (p q : Place) (me : q.me ≡ name) where
  -- in place of the node of a name another is found, and of every other name what was found before
  pub placed : (ps : List Place) → place_at ps name ≡ Some p → (other : List ℕ) →
      place_at (with_place ps name q) other ≡ cond (pointwise nat_eq other name) (Some q) (place_at ps other)
  placed [] found other = absurd (cc)
  placed (x ∷ ps) found other = go (pointwise nat_eq x.me name) refl found (λ f. placed ps f other)
    where
      first : (b : Bool) → cond b (Some q) (place_at ps other) ≡ cond b (Some q) (cond b (Some x) (place_at ps other))
      first true = refl
      first false = refl

      both : (b c : Bool) → pointwise nat_eq x.me other ≡ b → pointwise nat_eq other name ≡ c → pointwise nat_eq x.me name ≡ false →
          cond b (Some x) (cond c (Some q) (place_at ps other)) ≡ cond c (Some q) (cond b (Some x) (place_at ps other))
      both true true one two not = let is : pointwise nat_eq x.me name ≡ true = text_same x.me name (same_text x.me other one ∙ same_text other name two) in absurd (cc)
      both true false one two not = refl
      both false true one two not = refl
      both false false one two not = refl

      go : (b : Bool) → pointwise nat_eq x.me name ≡ b → cond b (Some x) (place_at ps name) ≡ Some p →
          (place_at ps name ≡ Some p → place_at (with_place ps name q) other ≡ cond (pointwise nat_eq other name) (Some q) (place_at ps other)) →
          place_at (cond b (q ∷ ps) (x ∷ with_place ps name q)) other ≡ cond (pointwise nat_eq other name) (Some q) (cond (pointwise nat_eq x.me other) (Some x) (place_at ps other))
      go true is found rest =
          let old : pointwise nat_eq x.me other ≡ pointwise nat_eq other name = ap (λ n. pointwise nat_eq n other) (same_text x.me name is) ∙ nat_list_eq_equiv.symm name other in
          let new : pointwise nat_eq q.me other ≡ pointwise nat_eq other name = ap (λ n. pointwise nat_eq n other) me ∙ nat_list_eq_equiv.symm name other in
          rw (old, new) (first (pointwise nat_eq other name))
      go false is found rest = rw (rest found) (both (pointwise nat_eq x.me other) (pointwise nat_eq other name) refl refl is)

  -- what holds of the other, and of the nodes of other names, holds of each afterwards
  pub each_placed : (P : Place → Type 0) (ps : List Place) → place_at ps name ≡ Some p → P q →
      ((other : List ℕ) → pointwise nat_eq other name ≡ false → IfSome (place_at ps other) P) → (other : List ℕ) → IfSome (place_at (with_place ps name q) other) P
  each_placed P ps found new old other = rw (placed ps found other) (go (pointwise nat_eq other name) refl)
    where
      go : (b : Bool) → pointwise nat_eq other name ≡ b → IfSome (cond b (Some q) (place_at ps other)) P
      go true is = new
      go false is = old other is

  pub placed_there : (ps : List Place) → place_at ps name ≡ Some p → place_at (with_place ps name q) name ≡ Some q
  placed_there ps found = placed ps found name ∙ ap (λ b. cond b (Some q) (place_at ps name)) (text_same name name refl)

  -- a store that is trusted was trusted before
  pub clean_before : (ps : List Place) → place_at ps name ≡ Some p → (q.log.is_clean ≡ true → p.log.is_clean ≡ true) → IsClean (with_place ps name q) → IsClean ps
  clean_before ps found before clean other = go (pointwise nat_eq other name) refl
    where
      here : q.log.is_clean ≡ true
      here = subst (λ (o : Option Place). IfSome o (λ r. r.log.is_clean ≡ true)) (placed_there ps found) (clean name)

      go : (b : Bool) → pointwise nat_eq other name ≡ b → IfSome (place_at ps other) (λ r. r.log.is_clean ≡ true)
      go true is = subst (λ (o : Option Place). IfSome o (λ r. r.log.is_clean ≡ true)) (sym (ap (place_at ps) (same_text other name is) ∙ found)) (before here)
      go false is =
          subst (λ (o : Option Place). IfSome o (λ r. r.log.is_clean ≡ true)) (placed ps found other ∙ ap (λ b. cond b (Some q) (place_at ps other)) is) (clean other)

  -- stores that are sure stay so
  pub sure_after : (ps : List Place) → place_at ps name ≡ Some p → (IsSure p.log → IsSure q.log) → AreSure ps → AreSure (with_place ps name q)
  sure_after ps found after sure =
      each_placed (λ r. IsSure r.log) ps found (after (subst (λ (o : Option Place). IfSome o (λ r. IsSure r.log)) found (sure name))) (λ other not. sure other)

  pub clean_there : (ps : List Place) → place_at ps name ≡ Some p → IsClean (with_place ps name q) → q.log.is_clean ≡ true
  clean_there ps found clean = subst (λ (o : Option Place). IfSome o (λ r. r.log.is_clean ≡ true)) (placed_there ps found) (clean name)
