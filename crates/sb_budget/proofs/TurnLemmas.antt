-- What owners offer in turns.
use Rattle.std.proofs.Common.{◌≡◌, ℕ, zero, suc, ◌<◌, true, false, Option, Some, None, IfSome, List, [], ◌∷◌, ◌++◌, length, get_or, set, map, nat_eq, ◌⊎◌, inl, inr, refl, sym, ap, subst, ◌∙◌, arith, append-nil, append_assoc, length-append}
use Rattle.std.specs.Prelude.{IsPermutation, swap, All}
use Rattle.std.specs.Cmp.Lexicographic.{pointwise}
use Rattle.std.proofs.lemmas.Bool.{cases_Bool, cond-true, cond-false}
use Rattle.std.proofs.lemmas.List.{map-append}
use Rattle.std.proofs.lemmas.List.Elements.{All-cons, recursion_from_All}
use Rattle.sb_types.specs.Runs.{Stands}
use Rattle.std.proofs.lemmas.List.Sorted.{IsPermutation-refl, IsPermutation-cons, IsPermutation-trans, IsPermutation-append_comm, IsPermutation-append_left, IsPermutation-append_right, IsPermutation-keeps, IsPermutation-sym, All-permutation}
use Rattle.sb_budget.specs.declared.offered.Offered.{Offered}
use Rattle.sb_budget.specs.declared.turns.Turns.{Turns}
use Rattle.sb_budget.specs.declared.turns.Turns.TheVariants as turns
use Rattle.sb_budget.specs.Offers.{Item, of_owner, block_from, block_of}
use Rattle.sb_budget.specs.Orders.{offered_by}
use Rattle.sb_budget.specs.Cut.{item_of, items_of_all, owners_of, blocks_of, delta_frame_length}
use Rattle.sb_budget.specs.BlocksByOwner.{lowered_of}
use Rattle.sb_budget.specs.Making.{Making, IsFrontOf, AfterNext, IsTaking}
use Rattle.sb_budget.specs.Parts.{Part, part_of, all_of}
use Rattle.sb_budget.specs.Turns.{parts_after_turn, first_turns, in_turns}
use Rattle.sb_budget.proofs.GatherLemmas.{map_same, left_more, of_owner_items, all_at}
use Rattle.sb_budget.proofs.HonestLemmas.{mapped_from}

all_append : (ps qs : List Part) → all_of (ps ++ qs) ≡ all_of ps ++ all_of qs
all_append [] qs = refl
all_append (p ∷ ps) qs = ap (λ r. p.next ∷ (p.later ++ r)) (all_append ps qs) ∙ sym (append_assoc (p.next ∷ p.later) (all_of ps) (all_of qs))

-- nothing is lost
rejoined_all : (turn : Turns) (others : List Part) (os : List Offered) → IsPermutation (os ++ all_of others) (all_of (parts_after_turn turn others os))
rejoined_all turn others [] = IsPermutation-refl (all_of others)
rejoined_all turns.First others (o ∷ os) = IsPermutation-refl (o ∷ (os ++ all_of others))
rejoined_all turns.Last others (o ∷ os) =
    subst (IsPermutation ((o ∷ os) ++ all_of others)) (ap (λ r. all_of others ++ r) (sym (append-nil (o ∷ os))) ∙ sym (all_append others (record { next = o; later = os } ∷ [])))
    (IsPermutation-append_comm (o ∷ os) (all_of others))

pub rejoined_length : (turn : Turns) (others : List Part) (os : List Offered) → length (os ++ all_of others) ≡ length (all_of (parts_after_turn turn others os))
rejoined_length turn others [] = refl
rejoined_length turns.First others (o ∷ os) = refl
rejoined_length turns.Last others (o ∷ os) =
    let part : Part = record { next = o; later = os } in
    omega (arith, length-append (o ∷ os) (all_of others), ap (λ (l : List Offered). length l) (all_append others (part ∷ [])), length-append (all_of others) (all_of (part ∷ [])), ap (λ (l : List Offered). length l) (append-nil (o ∷ os)))

-- a turn
pub in_turns_step : (turn : Turns) (p : Part) (others : List Part) → in_turns turn (p ∷ others) ≡ p.next ∷ in_turns turn (parts_after_turn turn others p.later)
in_turns_step turn p others = ap (λ n. p.next ∷ first_turns turn n (parts_after_turn turn others p.later)) (rejoined_length turn others p.later)

moved : (turn : Turns) (n : ℕ) (owners : List Part) → length (all_of owners) ≡ n → IsPermutation (all_of owners) (first_turns turn n owners)
moved turn zero [] e = IsPermutation-refl []
moved turn zero (p ∷ others) e = absurd (omega (arith, e))
moved turn (suc n) [] e = IsPermutation-refl []
moved turn (suc n) (p ∷ others) e =
    let rest = parts_after_turn turn others p.later in
    IsPermutation-cons p.next (p.later ++ all_of others) (first_turns turn n rest)
    (IsPermutation-trans (p.later ++ all_of others) (all_of rest) (first_turns turn n rest) (rejoined_all turn others p.later)
    (moved turn n rest (omega (arith, e, rejoined_length turn others p.later))))

pub in_turns_all : (turn : Turns) (owners : List Part) → IsPermutation (all_of owners) (in_turns turn owners)
in_turns_all turn owners = moved turn (length (all_of owners)) owners refl

-- one owner after another
whole : (n : ℕ) (owners : List Part) → length (all_of owners) ≡ n → first_turns turns.First n owners ≡ all_of owners
whole zero [] e = refl
whole zero (p ∷ others) e = absurd (omega (arith, e))
whole (suc n) [] e = refl
whole (suc n) (p ∷ others) e = ap (λ r. p.next ∷ r) (go p.later (whole n (parts_after_turn turns.First others p.later) (omega (arith, e, rejoined_length turns.First others p.later))))
  where
    go : (os : List Offered) → first_turns turns.First n (parts_after_turn turns.First others os) ≡ all_of (parts_after_turn turns.First others os) → first_turns turns.First n (parts_after_turn turns.First others os) ≡ os ++ all_of others
    go [] e = e
    go (o ∷ os) e = e

pub in_turns_first : (owners : List Part) → in_turns turns.First owners ≡ all_of owners
in_turns_first owners = whole (length (all_of owners)) owners refl

-- ---- owners in another order

three : (xs ys zs : List Offered) → IsPermutation (xs ++ (ys ++ zs)) (ys ++ (xs ++ zs))
three xs ys zs =
    subst (λ l. IsPermutation l (ys ++ (xs ++ zs))) (append_assoc xs ys zs)
    (subst (IsPermutation ((xs ++ ys) ++ zs)) (append_assoc ys xs zs) (IsPermutation-append_left zs (xs ++ ys) (ys ++ xs) (IsPermutation-append_comm xs ys)))

-- an owner in the place of another, which stands in front
exchanged : (qs : List Part) (k : ℕ) (d x : Part) → k < length qs → IsPermutation (all_of (d ∷ qs)) (all_of (get_or qs k x ∷ set qs k d))
exchanged [] k d x l = absurd (omega arith)
exchanged (q ∷ qs) zero d x l = three (d.next ∷ d.later) (q.next ∷ q.later) (all_of qs)
exchanged (q ∷ qs) (suc k) d x l =
    let g = get_or qs k x in
    IsPermutation-trans (all_of (d ∷ q ∷ qs)) (all_of (q ∷ d ∷ qs)) (all_of (g ∷ q ∷ set qs k d))
    (three (d.next ∷ d.later) (q.next ∷ q.later) (all_of qs))
    (IsPermutation-trans (all_of (q ∷ d ∷ qs)) (all_of (q ∷ g ∷ set qs k d)) (all_of (g ∷ q ∷ set qs k d))
    (IsPermutation-append_right (q.next ∷ q.later) (all_of (d ∷ qs)) (all_of (g ∷ set qs k d)) (exchanged qs k d x (omega arith)))
    (three (q.next ∷ q.later) (g.next ∷ g.later) (all_of (set qs k d))))

-- two of them exchanged
swapped : (qs : List Part) (i j : ℕ) (x : Part) → i < length qs → j < length qs → IsPermutation (all_of qs) (all_of (set (set qs i (get_or qs j x)) j (get_or qs i x)))
swapped [] i j x l k = absurd (omega arith)
swapped (q ∷ qs) zero zero x l k = IsPermutation-refl (all_of (q ∷ qs))
swapped (q ∷ qs) zero (suc j) x l k = exchanged qs j q x (omega arith)
swapped (q ∷ qs) (suc i) zero x l k = exchanged qs i q x (omega arith)
swapped (q ∷ qs) (suc i) (suc j) x l k =
    IsPermutation-append_right (q.next ∷ q.later) (all_of qs) (all_of (set (set qs i (get_or qs j x)) j (get_or qs i x))) (swapped qs i j x (omega arith) (omega arith))

swapped_places : (qs : List Part) (i j : ℕ) → i < length qs → j < length qs → IsPermutation (all_of qs) (all_of (swap qs i j))
swapped_places [] i j l k = absurd (omega arith)
swapped_places (q ∷ qs) i j l k = swapped (q ∷ qs) i j q l k

-- they offer the same
pub parts_moved : (ps qs : List Part) → IsPermutation ps qs → IsPermutation (all_of ps) (all_of qs)
parts_moved ps qs moved =
    IsPermutation-keeps ps (λ rs. IsPermutation (all_of ps) (all_of rs)) (IsPermutation-refl (all_of ps))
    (λ rs i j l k so_far. IsPermutation-trans (all_of ps) (all_of rs) (all_of (swap rs i j)) so_far (swapped_places rs i j l k)) qs moved

-- ---- a delta in the making, as owners take turns

-- what was taken, and what is still to come in turns, are all
abbrev pub IsTurn : ℕ → Turns → List Offered → List Part → Making → Type 0
IsTurn budget turn all owners making = (front : List Offered) × (front ++ in_turns turn owners ≡ all) × IsFrontOf budget (items_of_all front) making

-- what is left behind in another order is the same
all_apart : (owner : List ℕ) (xs : List Offered) → offered_by owner xs ≡ [] → All (λ (x : Offered). pointwise nat_eq x.owner owner ≡ false) xs
all_apart owner [] none = λ k d l. absurd (omega (arith, l))
all_apart owner (x ∷ xs) none = go (cases_Bool (pointwise nat_eq x.owner owner)) (λ rest. all_apart owner xs rest)
  where
    no_item : (y : Offered) (ys : List Offered) → y ∷ ys ≡ [] → ⊥
    no_item y ys e = cc

    go : ((pointwise nat_eq x.owner owner ≡ true) ⊎ (pointwise nat_eq x.owner owner ≡ false)) → (offered_by owner xs ≡ [] → All (λ (y : Offered). pointwise nat_eq y.owner owner ≡ false) xs) → All (λ (y : Offered). pointwise nat_eq y.owner owner ≡ false) (x ∷ xs)
    go (inl t) later = absurd (no_item x (offered_by owner xs) (sym (cond-true _ _ _ t) ∙ none))
    go (inr f) later = All-cons (λ (y : Offered). pointwise nat_eq y.owner owner ≡ false) x xs f (later (sym (cond-false _ _ _ f) ∙ none))

none_apart : (owner : List ℕ) (xs : List Offered) → All (λ (x : Offered). pointwise nat_eq x.owner owner ≡ false) xs → offered_by owner xs ≡ []
none_apart owner [] apart = refl
none_apart owner (x ∷ xs) apart = cond-false _ _ _ (apart 0 x (omega arith)) ∙ none_apart owner xs (λ k d l. apart (suc k) d (omega (arith, l)))

none_moved : (owner : List ℕ) (xs ys : List Offered) → IsPermutation xs ys → offered_by owner xs ≡ [] → offered_by owner ys ≡ []
none_moved owner xs ys moved none = none_apart owner ys (All-permutation (λ (x : Offered). pointwise nat_eq x.owner owner ≡ false) xs ys moved (all_apart owner xs none))

same_left : (owner : List ℕ) (part : List Item) (xs ys : List Offered) → IsPermutation xs ys → block_from owner part (of_owner owner (items_of_all xs)) ≡ block_from owner part (of_owner owner (items_of_all ys))
same_left owner part xs ys moved =
    ap (block_from owner part) (of_owner_items owner xs) ∙ go (offered_by owner xs) (offered_by owner ys) refl refl ∙ sym (ap (block_from owner part) (of_owner_items owner ys))
  where
    no_item : (y : Offered) (zs : List Offered) → [] ≡ y ∷ zs → ⊥
    no_item y zs e = cc

    some : (part : List Item) (a b : Offered) (os qs : List Offered) → block_from owner part (items_of_all (a ∷ os)) ≡ block_from owner part (items_of_all (b ∷ qs))
    some [] a b os qs = refl
    some (i ∷ is) a b os qs = refl

    go : (os qs : List Offered) → offered_by owner xs ≡ os → offered_by owner ys ≡ qs → block_from owner part (items_of_all os) ≡ block_from owner part (items_of_all qs)
    go [] [] p q = refl
    go [] (b ∷ qs) p q = absurd (no_item b qs (sym (none_moved owner xs ys moved p) ∙ q))
    go (a ∷ os) [] p q = absurd (no_item a os (sym (none_moved owner ys xs (IsPermutation-sym xs ys moved) q) ∙ p))
    go (a ∷ os) (b ∷ qs) p q = some part a b os qs

pub left_moved : (front : List Item) (xs ys : List Offered) → IsPermutation xs ys → blocks_of front (items_of_all xs) ≡ blocks_of front (items_of_all ys)
left_moved front xs ys moved =
    map_same (λ owner. block_of owner front (items_of_all xs)) (λ owner. block_of owner front (items_of_all ys)) (owners_of front) (λ owner s. same_left owner (of_owner owner front) xs ys moved)

-- an owner's items are left behind
items_stand : (owner : List ℕ) (os : List Offered) → ((o : Offered) → Stands os o → o.owner ≡ owner) → (i : Item) → Stands (items_of_all os) i → i.owner ≡ owner
items_stand owner os same i s =
    let from = mapped_from item_of os i s in
    sym (ap (λ (x : Item). x.owner) from.2) ∙ same from.0 from.1

pub left_part : (p : Part) (front left : List Item) → All (λ item. item.owner ≡ p.next.owner) p.later →
    map (λ b. lowered_of p.next.owner b) (blocks_of front left) ≡ blocks_of front (left ++ items_of_all (p.next ∷ p.later))
left_part p front left same =
    left_more p.next.owner front left (items_of_all (p.next ∷ p.later)) (item_of p.next) (inl refl) (items_stand p.next.owner (p.next ∷ p.later) each)
  where
    each : (o : Offered) → Stands (p.next ∷ p.later) o → o.owner ≡ p.next.owner
    each o (inl e) = ap (λ (x : Offered). x.owner) (sym e)
    each o (inr s) = all_at (λ (item : Offered). item.owner ≡ p.next.owner) p.later o (recursion_from_All (λ (item : Offered). item.owner ≡ p.next.owner) p.later same) s

module _ (budget : ℕ) (turn : Turns) (all : List Offered) (p : Part) (others : List Part) (making : Making) (is : IsTurn budget turn all (p ∷ others) making) where
  rest : List Offered
  rest = in_turns turn (parts_after_turn turn others p.later)

  all_again : is.0 ++ p.next ∷ rest ≡ all
  unfolding rest
  all_again = ap (λ r. is.0 ++ r) (sym (in_turns_step turn p others)) ∙ is.1

  pub turn_taken : (new : Making) → AfterNext budget (items_of_all is.0) (item_of p.next) true new → IsTurn budget turn all (parts_after_turn turn others p.later) new
  unfolding rest
  turn_taken new after = (
    is.0 ++ p.next ∷ [],
    append_assoc is.0 (p.next ∷ []) rest ∙ all_again,
    subst (λ (l : List Item). IsFrontOf budget l new) (sym (map-append item_of is.0 (p.next ∷ []))) after,
  )

  -- where the next item does not fit, and all are left
  pub turn_left : (same new : Making) → AfterNext budget (items_of_all is.0) (item_of p.next) false same → new.blocks ≡ blocks_of (items_of_all is.0) (items_of_all (all_of (p ∷ others))) → IsTaking budget (items_of_all all) true new
  unfolding rest
  turn_left same new after left = record {
    most = after.0.most;
    front = items_of_all is.0;
    next = item_of p.next;
    rest = items_of_all rest;
    whole = sym (map-append item_of is.0 (p.next ∷ rest)) ∙ ap items_of_all all_again;
    some = after.1;
    blocks =
        left ∙ left_moved (items_of_all is.0) (all_of (p ∷ others)) (in_turns turn (p ∷ others)) (in_turns_all turn (p ∷ others))
        ∙ ap (λ (l : List Offered). blocks_of (items_of_all is.0) (items_of_all l)) (in_turns_step turn p others);
    fits = omega (arith, after.0.room, ap delta_frame_length after.0.blocks);
    full = after.2;
  }

-- where no owner is left
pub turn_ends : (budget : ℕ) (turn : Turns) (all : List Offered) (owners : List Part) (making : Making) → IsTurn budget turn all owners making → owners ≡ [] → IsTaking budget (items_of_all all) false making
turn_ends budget turn all owners making is none =
    let whole : is.0 ≡ all = sym (append-nil is.0) ∙ ap (λ (ps : List Part). is.0 ++ in_turns turn ps) (sym none) ∙ is.1 in
    subst (λ (l : List Offered). IsFrontOf budget (items_of_all l) making) whole is.2

-- who stands where after a turn
none_some : (q : Part) → None ≡ Some q → ⊥
none_some q e = cc

pub none_later : (turn : Turns) (others : List Part) (os : List Offered) → ((q : Part) → part_of os ≡ Some q → ⊥) → parts_after_turn turn others os ≡ others
none_later turn others [] none = refl
none_later turn others (o ∷ os) none = absurd (none (record { next = o; later = os }) refl)

pub later_first : (others : List Part) (os : List Offered) (q : Part) → part_of os ≡ Some q → parts_after_turn turns.First others os ≡ q ∷ others
later_first others [] q e = absurd (none_some q e)
later_first others (o ∷ os) q e = subst (λ (r : Option Part). IfSome r (λ z. parts_after_turn turns.First others (o ∷ os) ≡ z ∷ others)) e refl

pub later_last : (others : List Part) (os : List Offered) (q : Part) → part_of os ≡ Some q → parts_after_turn turns.Last others os ≡ others ++ q ∷ []
later_last others [] q e = absurd (none_some q e)
later_last others (o ∷ os) q e = subst (λ (r : Option Part). IfSome r (λ z. parts_after_turn turns.Last others (o ∷ os) ≡ others ++ z ∷ [])) e refl
