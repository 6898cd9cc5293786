-- Texts compared by words of eight bytes, with the zeros that lie behind them.
use Rattle.std.proofs.Common.{◌≡◌, ℕ, zero, suc, ◌+◌, ◌*◌, ◌-◌, ◌≤◌, ◌<◌, List, [], ◌∷◌, ◌++◌, length, get_or, take, drop, refl, sym, ap, subst, ◌∙◌, arith, length-append, Less, Equal, Greater, nat_cmp, w64}
use Rattle.std.specs.Int.{from_be_bytes}
use Rattle.std.proofs.lemmas.List.{length-replicate, length-take-le, take-append-drop}
use Rattle.std.proofs.Math.ListN.{replicate}
use Rattle.std.specs.Cmp.Lexicographic.{slice_cmp}
use Rattle.std.specs.declared.cmp.Ordering.{Ordering}
use Rattle.std.specs.Ordering.{ordering_then, MatchOrdering}
use Rattle.std.specs.Cmp.{ranks}

abbrev pub Bytes : List ℕ → Type 0
Bytes xs = (i : ℕ) → get_or xs i 0 < 256

-- the number that the bytes spell behind n, the greatest first
abbrev pub spelled : ℕ → List ℕ → ℕ
spelled n [] = n
spelled n (b ∷ ys) = spelled (n * 256 + b) ys

below : (x y : ℕ) (r : Ordering) → MatchOrdering r (x < y) (x ≡ y) (y < x) → x < y → r ≡ Less
below x y Less h l = refl
below x y Equal h l = let e : x ≡ y = h in absurd (omega arith)
below x y Greater h l = let e : y < x = h in absurd (omega arith)

level : (x : ℕ) (r : Ordering) → MatchOrdering r (x < x) (x ≡ x) (x < x) → r ≡ Equal
level x Less h = let e : x < x = h in absurd (omega arith)
level x Equal h = refl
level x Greater h = let e : x < x = h in absurd (omega arith)

above : (x y : ℕ) (r : Ordering) → MatchOrdering r (x < y) (x ≡ y) (y < x) → y < x → r ≡ Greater
above x y Less h l = let e : x < y = h in absurd (omega arith)
above x y Equal h l = let e : x ≡ y = h in absurd (omega arith)
above x y Greater h l = refl

rises : (a b : ℕ) (us vs : List ℕ) → length us ≡ length vs → Bytes us → a < b → spelled a us < spelled b vs
rises a b [] [] e h l = l
rises a b [] (v ∷ vs) e h l = absurd (omega arith)
rises a b (u ∷ us) [] e h l = absurd (omega arith)
rises a b (u ∷ us) (v ∷ vs) e h l =
    let small : u < 256 = h 0 in
    rises (a * 256 + u) (b * 256 + v) us vs (omega arith) (λ i. h (suc i)) (omega arith)

-- fronts of one length are compared as the numbers that they spell, and then what lies behind them
pub by_number : (n : ℕ) (us vs xs ys : List ℕ) → length us ≡ length vs → Bytes us → Bytes vs → slice_cmp nat_cmp (us ++ xs) (vs ++ ys) ≡ ordering_then (nat_cmp (spelled n us) (spelled n vs)) (slice_cmp nat_cmp xs ys)
by_number n [] [] xs ys e g h = ap (λ r. ordering_then r (slice_cmp nat_cmp xs ys)) (sym (level n _ (ranks n n)))
by_number n [] (v ∷ vs) xs ys e g h = absurd (omega arith)
by_number n (u ∷ us) [] xs ys e g h = absurd (omega arith)
by_number n (u ∷ us) (v ∷ vs) xs ys e g h = by (nat_cmp u v) refl (ranks u v) (by_number (n * 256 + u) us vs xs ys (omega arith) (λ i. g (suc i)) (λ i. h (suc i)))
  where
    here : (r : Ordering) → nat_cmp u v ≡ r → ordering_then (nat_cmp u v) (slice_cmp nat_cmp (us ++ xs) (vs ++ ys)) ≡ ordering_then r (slice_cmp nat_cmp (us ++ xs) (vs ++ ys))
    here r p = ap (λ o. ordering_then o (slice_cmp nat_cmp (us ++ xs) (vs ++ ys))) p

    Later : Type 0
    Later = slice_cmp nat_cmp (us ++ xs) (vs ++ ys) ≡ ordering_then (nat_cmp (spelled (n * 256 + u) us) (spelled (n * 256 + u) vs)) (slice_cmp nat_cmp xs ys)

    by : (r : Ordering) → nat_cmp u v ≡ r → MatchOrdering r (u < v) (u ≡ v) (v < u) → Later → ordering_then (nat_cmp u v) (slice_cmp nat_cmp (us ++ xs) (vs ++ ys)) ≡ ordering_then (nat_cmp (spelled (n * 256 + u) us) (spelled (n * 256 + v) vs)) (slice_cmp nat_cmp xs ys)
    by Less p l later =
        let under : u < v = l in
        here Less p ∙ ap (λ o. ordering_then o (slice_cmp nat_cmp xs ys)) (sym (below (spelled (n * 256 + u) us) (spelled (n * 256 + v) vs) (nat_cmp (spelled (n * 256 + u) us) (spelled (n * 256 + v) vs)) (ranks (spelled (n * 256 + u) us) (spelled (n * 256 + v) vs)) (rises (n * 256 + u) (n * 256 + v) us vs (omega arith) (λ i. g (suc i)) (omega arith))))
    by Greater p l later =
        let over : v < u = l in
        here Greater p ∙ ap (λ o. ordering_then o (slice_cmp nat_cmp xs ys)) (sym (above (spelled (n * 256 + u) us) (spelled (n * 256 + v) vs) (nat_cmp (spelled (n * 256 + u) us) (spelled (n * 256 + v) vs)) (ranks (spelled (n * 256 + u) us) (spelled (n * 256 + v) vs)) (rises (n * 256 + v) (n * 256 + u) vs us (omega arith) (λ i. h (suc i)) (omega arith))))
    by Equal p l later =
        let same : u ≡ v = l in
        here Equal p ∙ subst (λ z. slice_cmp nat_cmp (us ++ xs) (vs ++ ys) ≡ ordering_then (nat_cmp (spelled (n * 256 + u) us) (spelled (n * 256 + z) vs)) (slice_cmp nat_cmp xs ys)) same later

-- zeros are above nothing
zeros_first : (p : ℕ) (ys : List ℕ) → length ys ≡ p → ordering_then (slice_cmp nat_cmp (replicate p 0) ys) Less ≡ Less
zeros_first zero [] e = refl
zeros_first zero (y ∷ ys) e = absurd (omega arith)
zeros_first (suc p) [] e = absurd (omega arith)
zeros_first (suc p) (y ∷ ys) e = by (nat_cmp 0 y) (ranks 0 y) (zeros_first p ys (omega arith))
  where
    by : (r : Ordering) → MatchOrdering r (0 < y) (0 ≡ y) (y < 0) → ordering_then (slice_cmp nat_cmp (replicate p 0) ys) Less ≡ Less → ordering_then (ordering_then r (slice_cmp nat_cmp (replicate p 0) ys)) Less ≡ Less
    by Less l later = refl
    by Equal l later = later
    by Greater l later = let over : y < 0 = l in absurd (omega arith)

zeros_last : (p : ℕ) (ys : List ℕ) → length ys ≡ p → ordering_then (slice_cmp nat_cmp ys (replicate p 0)) Greater ≡ Greater
zeros_last zero [] e = refl
zeros_last zero (y ∷ ys) e = absurd (omega arith)
zeros_last (suc p) [] e = absurd (omega arith)
zeros_last (suc p) (y ∷ ys) e = by (nat_cmp y 0) (ranks y 0) (zeros_last p ys (omega arith))
  where
    by : (r : Ordering) → MatchOrdering r (y < 0) (y ≡ 0) (0 < y) → ordering_then (slice_cmp nat_cmp ys (replicate p 0)) Greater ≡ Greater → ordering_then (ordering_then r (slice_cmp nat_cmp ys (replicate p 0))) Greater ≡ Greater
    by Less l later = let under : y < 0 = l in absurd (omega arith)
    by Equal l later = later
    by Greater l later = refl

zeros_level : (p : ℕ) → slice_cmp nat_cmp (replicate {A = ℕ} p 0) (replicate {A = ℕ} p 0) ≡ Equal
zeros_level zero = refl
zeros_level (suc p) = ap (λ r. ordering_then r (slice_cmp nat_cmp (replicate {A = ℕ} p 0) (replicate {A = ℕ} p 0))) (level 0 (nat_cmp 0 0) (ranks 0 0)) ∙ zeros_level p

next_too : (x y : ℕ) → nat_cmp (suc x) (suc y) ≡ nat_cmp x y
next_too x y = by (nat_cmp x y) (ranks x y)
  where
    by : (r : Ordering) → MatchOrdering r (x < y) (x ≡ y) (y < x) → nat_cmp (suc x) (suc y) ≡ r
    by Less l = let under : x < y = l in below _ _ _ (ranks (suc x) (suc y)) (omega arith)
    by Equal l = let same : x ≡ y = l in subst (λ z. nat_cmp (suc x) (suc z) ≡ Equal) same (level (suc x) _ (ranks (suc x) (suc x)))
    by Greater l = let over : y < x = l in above _ _ _ (ranks (suc x) (suc y)) (omega arith)

-- texts that are filled up to one length are compared as such, and then by their lengths
pub padded : (p q : ℕ) (xs ys : List ℕ) → length xs + p ≡ length ys + q → ordering_then (slice_cmp nat_cmp (xs ++ replicate p 0) (ys ++ replicate q 0)) (nat_cmp (length xs) (length ys)) ≡ slice_cmp nat_cmp xs ys
padded p q [] [] e =
    let same : p ≡ q = omega arith in
    subst (λ r. ordering_then (slice_cmp nat_cmp (replicate {A = ℕ} p 0) (replicate {A = ℕ} r 0)) (nat_cmp 0 0) ≡ Equal) same
    (ap (λ r. ordering_then r (nat_cmp 0 0)) (zeros_level p) ∙ level 0 (nat_cmp 0 0) (ranks 0 0))
padded p q [] (b ∷ ys) e =
    ap (ordering_then (slice_cmp nat_cmp (replicate p 0) (b ∷ ys ++ replicate q 0))) (below _ _ _ (ranks 0 (length (b ∷ ys))) (omega arith))
    ∙ zeros_first p (b ∷ ys ++ replicate q 0) (omega (arith, length-append (b ∷ ys) (replicate {A = ℕ} q 0), length-replicate {A = ℕ} q 0))
padded p q (a ∷ xs) [] e =
    ap (ordering_then (slice_cmp nat_cmp (a ∷ xs ++ replicate p 0) (replicate q 0))) (above _ _ _ (ranks (length (a ∷ xs)) 0) (omega arith))
    ∙ zeros_last q (a ∷ xs ++ replicate p 0) (omega (arith, length-append (a ∷ xs) (replicate {A = ℕ} p 0), length-replicate {A = ℕ} p 0))
padded p q (a ∷ xs) (b ∷ ys) e = by (nat_cmp a b) (padded p q xs ys (omega arith))
  where
    Later : Type 0
    Later = ordering_then (slice_cmp nat_cmp (xs ++ replicate p 0) (ys ++ replicate q 0)) (nat_cmp (length xs) (length ys)) ≡ slice_cmp nat_cmp xs ys

    by : (r : Ordering) → Later → ordering_then (ordering_then r (slice_cmp nat_cmp (xs ++ replicate p 0) (ys ++ replicate q 0))) (nat_cmp (suc (length xs)) (suc (length ys))) ≡ ordering_then r (slice_cmp nat_cmp xs ys)
    by Less later = refl
    by Equal later = ap (ordering_then (slice_cmp nat_cmp (xs ++ replicate p 0) (ys ++ replicate q 0))) (next_too (length xs) (length ys)) ∙ later
    by Greater later = refl

-- the number of eight bytes
pub word_spelled : (ys : List ℕ) → length ys ≡ 8 → from_be_bytes w64 ys ≡ spelled 0 ys
word_spelled (a ∷ b ∷ c ∷ d ∷ e ∷ f ∷ g ∷ h ∷ []) l = omega arith
word_spelled [] l = absurd (omega arith)
word_spelled (a ∷ []) l = absurd (omega arith)
word_spelled (a ∷ b ∷ []) l = absurd (omega arith)
word_spelled (a ∷ b ∷ c ∷ []) l = absurd (omega arith)
word_spelled (a ∷ b ∷ c ∷ d ∷ []) l = absurd (omega arith)
word_spelled (a ∷ b ∷ c ∷ d ∷ e ∷ []) l = absurd (omega arith)
word_spelled (a ∷ b ∷ c ∷ d ∷ e ∷ f ∷ []) l = absurd (omega arith)
word_spelled (a ∷ b ∷ c ∷ d ∷ e ∷ f ∷ g ∷ []) l = absurd (omega arith)
word_spelled (a ∷ b ∷ c ∷ d ∷ e ∷ f ∷ g ∷ h ∷ i ∷ is) l = absurd (omega arith)

front_bytes : (n : ℕ) (xs : List ℕ) → Bytes xs → Bytes (take n xs)
front_bytes zero [] h i = h i
front_bytes zero (x ∷ xs) h zero = omega arith
front_bytes zero (x ∷ xs) h (suc i) = omega arith
front_bytes (suc n) [] h i = h i
front_bytes (suc n) (x ∷ xs) h zero = h zero
front_bytes (suc n) (x ∷ xs) h (suc i) = front_bytes n xs (λ j. h (suc j)) i

-- the first eight bytes are compared as numbers, and then what lies behind them
pub by_word : (us vs : List ℕ) → 8 ≤ length us → 8 ≤ length vs → Bytes us → Bytes vs → slice_cmp nat_cmp us vs ≡ ordering_then (nat_cmp (from_be_bytes w64 (take 8 us)) (from_be_bytes w64 (take 8 vs))) (slice_cmp nat_cmp (drop 8 us) (drop 8 vs))
by_word us vs k l g h =
    sym whole
    ∙ by_number 0 (take 8 us) (take 8 vs) (drop 8 us) (drop 8 vs) (long us k ∙ sym (long vs l)) (front_bytes 8 us g) (front_bytes 8 vs h)
    ∙ ap (λ x. ordering_then (nat_cmp x (spelled 0 (take 8 vs))) (slice_cmp nat_cmp (drop 8 us) (drop 8 vs))) (sym (word_spelled (take 8 us) (long us k)))
    ∙ ap (λ y. ordering_then (nat_cmp (from_be_bytes w64 (take 8 us)) y) (slice_cmp nat_cmp (drop 8 us) (drop 8 vs))) (sym (word_spelled (take 8 vs) (long vs l)))
  where
    long : (xs : List ℕ) → 8 ≤ length xs → length (take 8 xs) ≡ 8
    long xs m = length-take-le 8 xs m

    whole : slice_cmp nat_cmp (take 8 us ++ drop 8 us) (take 8 vs ++ drop 8 vs) ≡ slice_cmp nat_cmp us vs
    whole = ap (λ xs. slice_cmp nat_cmp xs (take 8 vs ++ drop 8 vs)) (take-append-drop 8 us) ∙ ap (slice_cmp nat_cmp us) (take-append-drop 8 vs)

pub rest_bytes : (n : ℕ) (xs : List ℕ) → Bytes xs → Bytes (drop n xs)
rest_bytes zero [] h = h
rest_bytes zero (x ∷ xs) h = h
rest_bytes (suc n) [] h = h
rest_bytes (suc n) (x ∷ xs) h = rest_bytes n xs (λ j. h (suc j))

-- a text, its first eight bytes, and what lies behind them
abbrev pub Parted : List ℕ → List ℕ → List ℕ → Type 0
Parted us front behind = (front ≡ take 8 us) × (behind ≡ drop 8 us) × (length behind + 8 ≡ length us)

parted_by : (us vs a b x y : List ℕ) → a ≡ take 8 us → x ≡ drop 8 us → b ≡ take 8 vs → y ≡ drop 8 vs → slice_cmp nat_cmp us vs ≡ ordering_then (nat_cmp (from_be_bytes w64 (take 8 us)) (from_be_bytes w64 (take 8 vs))) (slice_cmp nat_cmp (drop 8 us) (drop 8 vs)) → slice_cmp nat_cmp us vs ≡ ordering_then (nat_cmp (from_be_bytes w64 a) (from_be_bytes w64 b)) (slice_cmp nat_cmp x y)
parted_by us vs a b x y e f g k h =
    subst (λ z. slice_cmp nat_cmp us vs ≡ ordering_then (nat_cmp (from_be_bytes w64 z) (from_be_bytes w64 b)) (slice_cmp nat_cmp x y)) (sym e)
    (subst (λ z. slice_cmp nat_cmp us vs ≡ ordering_then (nat_cmp (from_be_bytes w64 (take 8 us)) (from_be_bytes w64 z)) (slice_cmp nat_cmp x y)) (sym g)
    (subst (λ z. slice_cmp nat_cmp us vs ≡ ordering_then (nat_cmp (from_be_bytes w64 (take 8 us)) (from_be_bytes w64 (take 8 vs))) (slice_cmp nat_cmp z y)) (sym f)
    (subst (λ z. slice_cmp nat_cmp us vs ≡ ordering_then (nat_cmp (from_be_bytes w64 (take 8 us)) (from_be_bytes w64 (take 8 vs))) (slice_cmp nat_cmp (drop 8 us) z)) (sym k) h)))

by_parts : (us vs a b x y : List ℕ) → Bytes us → Bytes vs → Parted us a x → Parted vs b y → slice_cmp nat_cmp us vs ≡ ordering_then (nat_cmp (from_be_bytes w64 a) (from_be_bytes w64 b)) (slice_cmp nat_cmp x y)
by_parts us vs a b x y g h p q = parted_by us vs a b x y p.0 p.1 q.0 q.1 (by_word us vs (omega (arith, p.2)) (omega (arith, q.2)) g h)

settled : (r t : Ordering) → (r ≡ Equal → ⊥) → ordering_then r t ≡ r
settled Less t h = refl
settled Equal t h = absurd (h refl)
settled Greater t h = refl

-- unequal numbers of the first eight bytes settle it
pub unequal : (us vs a b x y : List ℕ) (r : Ordering) → Bytes us → Bytes vs → Parted us a x → Parted vs b y → r ≡ nat_cmp (from_be_bytes w64 a) (from_be_bytes w64 b) → (r ≡ Equal → ⊥) → r ≡ slice_cmp nat_cmp us vs
unequal us vs a b x y r g h p q e n =
    sym (by_parts us vs a b x y g h p q ∙ ap (λ o. ordering_then o (slice_cmp nat_cmp x y)) (sym e) ∙ settled r (slice_cmp nat_cmp x y) n)

-- equal ones leave it to the rest
pub equal : (us vs a b x y : List ℕ) → Bytes us → Bytes vs → Parted us a x → Parted vs b y → nat_cmp (from_be_bytes w64 a) (from_be_bytes w64 b) ≡ Equal → slice_cmp nat_cmp x y ≡ slice_cmp nat_cmp us vs
equal us vs a b x y g h p q e =
    sym (by_parts us vs a b x y g h p q ∙ ap (λ o. ordering_then o (slice_cmp nat_cmp x y)) e)

pub rest_of_bytes : (us a x : List ℕ) → Bytes us → Parted us a x → Bytes x
rest_of_bytes us a x g p = subst Bytes (sym p.1) (rest_bytes 8 us g)

-- a text that lies at the front of its cells, and zeros behind it
abbrev pub Cells : ℕ → ℕ → List ℕ → Type 0
Cells cap m us = (m ≤ cap) × (length us ≡ cap) × (us ≡ take m us ++ replicate (cap - m) 0)

-- such texts are compared as their cells, and then by their lengths
pub by_cells : (cap m n : ℕ) (us vs : List ℕ) → Cells cap m us → Cells cap n vs → ordering_then (slice_cmp nat_cmp us vs) (nat_cmp m n) ≡ slice_cmp nat_cmp (take m us) (take n vs)
by_cells cap m n us vs p q =
    ap (λ z. ordering_then (slice_cmp nat_cmp z vs) (nat_cmp m n)) p.2
    ∙ ap (λ z. ordering_then (slice_cmp nat_cmp (take m us ++ replicate (cap - m) 0) z) (nat_cmp m n)) q.2
    ∙ ap (λ z. ordering_then (slice_cmp nat_cmp (take m us ++ replicate (cap - m) 0) (take n vs ++ replicate (cap - n) 0)) (nat_cmp z n)) (sym (long m us p))
    ∙ ap (λ z. ordering_then (slice_cmp nat_cmp (take m us ++ replicate (cap - m) 0) (take n vs ++ replicate (cap - n) 0)) (nat_cmp (length (take m us)) z)) (sym (long n vs q))
    ∙ padded (cap - m) (cap - n) (take m us) (take n vs) (even m us p ∙ sym (even n vs q))
  where
    long : (k : ℕ) (xs : List ℕ) → Cells cap k xs → length (take k xs) ≡ k
    long k xs c = length-take-le k xs (omega (arith, c.0, c.1))

    even : (k : ℕ) (xs : List ℕ) → Cells cap k xs → length (take k xs) + (cap - k) ≡ cap
    even k xs c = omega (arith, long k xs c, c.0)

-- unequal cells settle it
pub unequal_cells : (cap m n : ℕ) (us vs : List ℕ) → Cells cap m us → Cells cap n vs → (slice_cmp nat_cmp us vs ≡ Equal → ⊥) → slice_cmp nat_cmp us vs ≡ slice_cmp nat_cmp (take m us) (take n vs)
unequal_cells cap m n us vs p q h = sym (settled (slice_cmp nat_cmp us vs) (nat_cmp m n) h) ∙ by_cells cap m n us vs p q

-- equal cells leave it to the lengths
pub equal_cells : (cap m n : ℕ) (us vs : List ℕ) → Cells cap m us → Cells cap n vs → slice_cmp nat_cmp us vs ≡ Equal → nat_cmp m n ≡ slice_cmp nat_cmp (take m us) (take n vs)
equal_cells cap m n us vs p q e = sym (ap (λ r. ordering_then r (nat_cmp m n)) e) ∙ by_cells cap m n us vs p q
