-- The order of texts, and which are one.
use Rattle.std.proofs.Common.{◌≡◌, ℕ, true, false, List, [], ◌∷◌, refl, sym, ap, ◌∙◌, nat_eq, arith}
use Rattle.std.proofs.lemmas.Bool.Decides.{nat_tests}
use Rattle.std.specs.List.{starts_with}
use Rattle.std.specs.declared.cmp.Ordering.{Ordering}
use Rattle.std.specs.declared.cmp.Ordering.TheVariants.{Less, Equal, Greater}
use Rattle.std.specs.FinMap.{slice_cmp-IsAntisymmetric, nat_cmp-IsAntisymmetric}
use Rattle.std.specs.Ordering.{nat_cmp, is_lt, is_le, is_eq, ordering_reverse}
use Rattle.std.specs.Cmp.Lexicographic.{pointwise, pointwise_decides, slice_cmp, texts_ties}
use Rattle.std.specs.Cmp.{unsigned_Decides}
use Rattle.std.proofs.lemmas.Cmp.{nat_list_cmp_total, tied_itself}
use Rattle.sb_types.specs.Limits.{text_lt}

pub Less-from_is_lt : (r : Ordering) → is_lt r ≡ true → r ≡ Less
Less-from_is_lt Less h = refl
Less-from_is_lt Equal h = absurd (cc)
Less-from_is_lt Greater h = absurd (cc)

pub Less-from_text_lt : (a b : List ℕ) → text_lt a b ≡ true → slice_cmp nat_cmp a b ≡ Less
Less-from_text_lt a b h = Less-from_is_lt (slice_cmp nat_cmp a b) h

pub text_lt-same : (a : List ℕ) → text_lt a a ≡ false
text_lt-same a = ap is_lt (tied_itself nat_list_cmp_total a)

pub text_lt-trans : (a b c : List ℕ) → text_lt a b ≡ true → text_lt b c ≡ true → text_lt a c ≡ true
text_lt-trans a b c ab bc =
    ap is_lt (nat_list_cmp_total.trans a b c (Less-from_text_lt a b ab) (Less-from_text_lt b c bc))

flipped : (r s : Ordering) → s ≡ ordering_reverse r → is_lt r ≡ false → is_eq r ≡ false → is_lt s ≡ true
flipped Less s back not_less not_equal = absurd (cc)
flipped Equal s back not_less not_equal = absurd (cc)
flipped Greater s back not_less not_equal = ap is_lt back

pub text_lt-other : (a b : List ℕ) → text_lt a b ≡ false → pointwise nat_eq a b ≡ false → text_lt b a ≡ true
text_lt-other a b not_less apart =
    flipped (slice_cmp nat_cmp a b) (slice_cmp nat_cmp b a) (nat_list_cmp_total.antisymm b a) not_less (sym (texts_ties a b) ∙ apart)

asymmetric : (r s : Ordering) → s ≡ ordering_reverse r → is_lt r ≡ true → is_lt s ≡ false
asymmetric Less s back less = ap is_lt back
asymmetric Equal s back less = absurd (cc)
asymmetric Greater s back less = absurd (cc)

pub text_lt-back : (a b : List ℕ) → text_lt a b ≡ true → text_lt b a ≡ false
text_lt-back a b less = asymmetric (slice_cmp nat_cmp a b) (slice_cmp nat_cmp b a) (nat_list_cmp_total.antisymm b a) less

-- at most the one, which is below the other
pub text_le-text_lt : (a b c : List ℕ) → is_le (slice_cmp nat_cmp a b) ≡ true → text_lt b c ≡ true → text_lt a c ≡ true
text_le-text_lt a b c ab bc = go (slice_cmp nat_cmp a b) refl ab
  where
    go : (r : Ordering) → slice_cmp nat_cmp a b ≡ r → is_le r ≡ true → text_lt a c ≡ true
    go Less is h = ap is_lt (nat_list_cmp_total.trans a b c is (Less-from_text_lt b c bc))
    go Equal is h = let same = slice_cmp-IsAntisymmetric nat_cmp-IsAntisymmetric a b is in rw same bc
    go Greater is h = absurd (cc)

pub apart-from_Less : (a b : List ℕ) → slice_cmp nat_cmp a b ≡ Less → pointwise nat_eq a b ≡ false
apart-from_Less a b h = texts_ties a b ∙ ap is_eq h

pub apart-from_Greater : (a b : List ℕ) → slice_cmp nat_cmp a b ≡ Greater → pointwise nat_eq a b ≡ false
apart-from_Greater a b h = texts_ties a b ∙ ap is_eq h

pub same-from_Equal : (a b : List ℕ) → slice_cmp nat_cmp a b ≡ Equal → pointwise nat_eq a b ≡ true
same-from_Equal a b h = texts_ties a b ∙ ap is_eq h

pub same_text : (a b : List ℕ) → pointwise nat_eq a b ≡ true → a ≡ b
same_text a b = (pointwise_decides unsigned_Decides a b).0

pub text_same : (a b : List ℕ) → a ≡ b → pointwise nat_eq a b ≡ true
text_same a b = (pointwise_decides unsigned_Decides a b).1

-- a text does not come before what it begins with
pub starts-behind : (text start : List ℕ) → starts_with nat_eq text start ≡ true → is_le (slice_cmp nat_cmp start text) ≡ true
starts-behind [] [] starts = refl
starts-behind (t ∷ ts) [] starts = refl
starts-behind [] (s ∷ ss) starts = absurd (cc)
starts-behind (t ∷ ts) (s ∷ ss) starts = grind (arith, nat_tests, starts-behind ts ss)

-- what comes between a start and a text that begins so begins so
pub starts-between : (start between text : List ℕ) → is_le (slice_cmp nat_cmp start between) ≡ true → text_lt text between ≡ false → starts_with nat_eq text start ≡ true
    → starts_with nat_eq between start ≡ true
starts-between [] between text from upto starts = refl
starts-between (s ∷ ss) [] text from upto starts = absurd (cc)
starts-between (s ∷ ss) (b ∷ bs) [] from upto starts = absurd (cc)
starts-between (s ∷ ss) (b ∷ bs) (t ∷ ts) from upto starts = grind (arith, nat_tests, starts-between ss bs ts)
