-- Where the keys behind a key begin.
use Rattle.std.proofs.Common.{◌≡◌, ℕ, Bool, true, false, List, refl, sym, ap, ap₂, subst, ◌∙◌, nat_eq}
use Rattle.std.proofs.lemmas.Cmp.{nat_list_cmp_total}
use Rattle.std.specs.List.{starts_with}
use Rattle.std.specs.Ordering.{is_lt, is_le, ordering_reverse}
use Rattle.std.specs.declared.cmp.Ordering.{Ordering}
use Rattle.std.specs.declared.cmp.Ordering.TheVariants.{Less, Equal, Greater}
use Rattle.std.specs.FinMap.{slice_cmp-IsAntisymmetric, nat_cmp-IsAntisymmetric}
use Rattle.sb_types.proofs.Texts.{Less-from_is_lt, text_le-text_lt, starts-behind}
use Rattle.sb_views.proofs.ByText.{by_text}

lt-le : (a b c : List ℕ) → is_lt (by_text a b) ≡ true → is_le (by_text b c) ≡ true → is_lt (by_text a c) ≡ true
lt-le a b c ab bc = go (by_text b c) refl bc
  where
    go : (r : Ordering) → by_text b c ≡ r → is_le r ≡ true → is_lt (by_text a c) ≡ true
    go Less is h = ap is_lt (nat_list_cmp_total.trans a b c (Less-from_is_lt (by_text a b) ab) is)
    go Equal is h = let same : b ≡ c = slice_cmp-IsAntisymmetric nat_cmp-IsAntisymmetric b c is in subst (λ (d : List ℕ). is_lt (by_text a d) ≡ true) same ab
    go Greater is h = absurd (cc)

turned : (r s : Ordering) → s ≡ ordering_reverse r → is_lt r ≡ false → is_le s ≡ true
turned Less s back not_less = absurd (cc)
turned Equal s back not_less = ap is_le back
turned Greater s back not_less = ap is_le back

le-from_not_lt : (a b : List ℕ) → is_lt (by_text b a) ≡ false → is_le (by_text a b) ≡ true
le-from_not_lt a b not_less = turned (by_text b a) (by_text a b) (nat_list_cmp_total.antisymm a b) not_less

-- all that begins so stands behind a key that comes before it
pub key-first : (key prefix other : List ℕ) → is_lt (by_text key prefix) ≡ true → starts_with nat_eq other prefix ≡ true → is_le (by_text prefix other) ≡ is_lt (by_text key other)
key-first key prefix other less starts =
    let from = starts-behind other prefix starts in
    from ∙ sym (lt-le key prefix other less from)

lt-le_weak : (r : Ordering) → is_lt r ≡ true → is_le r ≡ true
lt-le_weak Less h = refl
lt-le_weak Equal h = absurd (cc)
lt-le_weak Greater h = absurd (cc)

-- what stands behind a key that does not come before it does not either
pub prefix-first : (key prefix other : List ℕ) → is_lt (by_text key prefix) ≡ false → is_lt (by_text key other) ≡ true → is_le (by_text prefix other) ≡ true
prefix-first key prefix other not_less behind =
    lt-le_weak (by_text prefix other) (text_le-text_lt prefix key other (le-from_not_lt prefix key not_less) behind)

-- what a comparison of texts tells
pub tested : (a b x y : List ℕ) (order : Ordering) (less answer : Bool) → x ≡ a → y ≡ b → order ≡ by_text x y → less ≡ is_lt order → less ≡ answer → is_lt (by_text a b) ≡ answer
tested a b x y order less answer first second is tells answers =
    ap₂ (λ (v w : List ℕ). is_lt (by_text v w)) (sym first) (sym second) ∙ ap is_lt (sym is) ∙ sym tells ∙ answers
