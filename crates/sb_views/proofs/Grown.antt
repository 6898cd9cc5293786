-- One table that grows.
use Rattle.std.proofs.Common.{◌≡◌, ℕ, ◌≤◌, ◌<◌, Bool, true, false, cond, not, ◌&&◌, ◌||◌, nat_lt, List, [], ◌∷◌, ◌++◌, filter, inl, inr, ⊎_elim, refl, sym, ap, ap₂, ◌∙◌, arith, append_assoc, ltb-true, lt-ltb}
use Rattle.std.proofs.lemmas.Bool.{cond-true, false_from_ne_true, or_cases, or_left, or_right}
use Rattle.std.proofs.lemmas.List.Elements.{filter-append, filter_agree}
use Rattle.sb_types.specs.Records.{Entry, Table}
use Rattle.sb_types.specs.Runs.{Stands, IsTable, has_key, newer_entries, entries_without_keys, entries_after}
use Rattle.sb_types.proofs.Standing.{right, of_above, of_entered, in_entered, keyed, has}
use Rattle.sb_table.proofs.ByKey.{none_left}
use Rattle.sb_holdings.proofs.Entering.{one_by_one}
use Rattle.sb_table.proofs.Order.{run_upto}
use Rattle.sb_views.specs.Growing.{IsGrown}

-- ---- tests on entries

all_kept : (p : Entry → Bool) (es : List Entry) → ((e : Entry) → Stands es e → p e ≡ true) → filter p es ≡ es
all_kept p [] each = refl
all_kept p (x ∷ xs) each =
    cond-true (p x) (x ∷ filter p xs) (filter p xs) (each x (inl refl)) ∙ ap (λ (ys : List Entry). x ∷ ys) (all_kept p xs (λ e s. each e (inr s)))

sifted : (p : Entry → Bool) (b : Bool) (x : Entry) (xs : List Entry) → filter p (cond b (x ∷ xs) xs) ≡ cond (b && p x) (x ∷ filter p xs) (filter p xs)
sifted p true x xs = refl
sifted p false x xs = refl

pub twice : (p q : Entry → Bool) (xs : List Entry) → filter p (filter q xs) ≡ filter (λ x. q x && p x) xs
twice p q [] = refl
twice p q (x ∷ xs) = sifted p (q x) x (filter q xs) ∙ ap (λ (r : List Entry). cond (q x && p x) (x ∷ r) r) (twice p q xs)

and-swapped : (a b : Bool) → (a && b) ≡ (b && a)
and-swapped true true = refl
and-swapped true false = refl
and-swapped false true = refl
and-swapped false false = refl

swapped : (p q : Entry → Bool) (xs : List Entry) → filter p (filter q xs) ≡ filter q (filter p xs)
swapped p q xs = twice p q xs ∙ filter_agree (λ x. q x && p x) (λ x. p x && q x) (λ x. and-swapped (q x) (p x)) xs ∙ sym (twice q p xs)

-- ---- entering twice

both_ways : (a b : Bool) → (a ≡ true → b ≡ true) → (b ≡ true → a ≡ true) → a ≡ b
both_ways true b there back = sym (there refl)
both_ways false true there back = back refl
both_ways false false there back = refl

has_key-entered : (key : List ℕ) (es others : List Entry) → has_key key (entries_after es others) ≡ (has_key key es || has_key key others)
has_key-entered key es others =
    both_ways (has_key key (entries_after es others)) (has_key key es || has_key key others)
    (λ there. let k = keyed key (entries_after es others) there in
    ⊎_elim (λ s. or_left (has_key key es) (has_key key others) (has key es k.0 s k.2)) (λ s. or_right (has_key key es) (has_key key others) (has key others k.0 s k.2)) (of_entered es others k.0 k.1))
    (λ there. ⊎_elim
    (λ here. let k = keyed key es here in
    ⊎_elim (λ s. has key (entries_after es others) k.0 s k.2) (λ o. has key (entries_after es others) o.0 (right (entries_without_keys others es) others o.0 o.1) (o.2 ∙ k.2)) (in_entered es others k.0 k.1))
    (λ here. let k = keyed key others here in has key (entries_after es others) k.0 (right (entries_without_keys others es) others k.0 k.1) k.2)
    (or_cases (has_key key es) (has_key key others) there))

neither : (a b c : Bool) → c ≡ (a || b) → (not a && not b) ≡ not c
neither true b c e = ap not (sym e)
neither false b c e = ap not (sym e)

entered-twice : (es early bs : List Entry) → entries_after (entries_after es early) bs ≡ entries_after es (entries_after early bs)
entered-twice es early bs =
    let fewer : entries_without_keys bs (entries_without_keys early es) ≡ entries_without_keys (entries_after early bs) es =
    twice (λ x. not (has_key x.key bs)) (λ x. not (has_key x.key early)) es
    ∙ filter_agree (λ x. not (has_key x.key early) && not (has_key x.key bs)) (λ x. not (has_key x.key (entries_after early bs)))
    (λ x. neither (has_key x.key early) (has_key x.key bs) (has_key x.key (entries_after early bs)) (has_key-entered x.key early bs)) es in
    ap (λ (xs : List Entry). xs ++ bs) (filter-append (λ x. not (has_key x.key bs)) (entries_without_keys early es) early)
    ∙ append_assoc (entries_without_keys bs (entries_without_keys early es)) (entries_without_keys bs early) bs
    ∙ ap (λ (xs : List Entry). xs ++ entries_after early bs) fewer

above-entered : (v : ℕ) (es bs : List Entry) → ((e : Entry) → Stands bs e → v < e.version) → newer_entries v (entries_after es bs) ≡ entries_after (newer_entries v es) bs
above-entered v es bs each =
    filter-append (λ e. nat_lt v e.version) (entries_without_keys bs es) bs
    ∙ ap₂ (λ (xs ys : List Entry). xs ++ ys) (swapped (λ e. nat_lt v e.version) (λ e. not (has_key e.key bs)) es)
    (all_kept (λ e. nat_lt v e.version) bs (λ e s. lt-ltb v e.version (each e s)))

-- ---- one table

-- with others entered above the version, the entries are still the first ones with those above it entered
more-entered : (held : ℕ) (first second third others : List Entry) → second ≡ entries_after first (newer_entries held second) → third ≡ entries_after second others
    → ((e : Entry) → Stands others e → held < e.version) → third ≡ entries_after first (newer_entries held third)
more-entered held first second third others grown step each =
    let early = newer_entries held second in
    let new : newer_entries held third ≡ entries_after early others = ap (λ (es : List Entry). newer_entries held es) step ∙ above-entered held second others each in
    step ∙ ap (λ (es : List Entry). entries_after es others) grown ∙ entered-twice first early others ∙ ap (λ (es : List Entry). entries_after first es) (sym new)

pub grown-self : (t : Table) → IsTable t → IsGrown t t
grown-self t is =
    let none : newer_entries t.held t.entries ≡ [] =
    none_left (λ e. nat_lt t.held e.version) t.entries
    (λ e s. false_from_ne_true (nat_lt t.held e.version) (λ more. absurd (omega (arith, ltb-true t.held e.version more, run_upto e is.run s)))) in
    record {
      held = omega arith;
      floor = omega arith;
      grown = λ _. one_by_one t.entries [] refl ∙ ap (λ (es : List Entry). entries_after t.entries es) (sym none);
    }

-- a table with others entered, where its floor stays; they are above all that it holds
pub grown-entered : (t u : Table) (others : List Entry) → IsTable t → t.held ≤ u.held → t.floor ≤ u.floor → (u.floor ≡ t.floor → u.entries ≡ entries_after t.entries others)
    → ((e : Entry) → Stands others e → t.held < e.version) → IsGrown t u
grown-entered t u others is held floor step each =
    record { held = held; floor = floor; grown = λ same. more-entered t.held t.entries t.entries u.entries others ((grown-self t is).grown refl) (step same) each }

pub grown-further : (t u w : Table) → IsGrown t u → IsGrown u w → IsGrown t w
grown-further t u w first second =
    record {
      held = omega (arith, first.held, second.held);
      floor = omega (arith, first.floor, second.floor);
      grown = λ same.
          let stayed : u.floor ≡ t.floor = omega (arith, first.floor, second.floor, same) in
          let stays : w.floor ≡ u.floor = omega (arith, stayed, same) in
          more-entered t.held t.entries u.entries w.entries (newer_entries u.held w.entries) (first.grown stayed) (second.grown stays)
          (λ e s. omega (arith, first.held, (of_above u.held w.entries e s).1));
    }
