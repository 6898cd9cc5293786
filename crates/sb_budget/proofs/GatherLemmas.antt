-- The items of a front gathered by owner, and the blocks that they make.
use Rattle.std.proofs.Common.{◌≡◌, ℕ, ◌≤◌, zero, suc, Bool, true, false, cond, List, [], ◌∷◌, ◌++◌, map, inl, inr, ⊎_elim, refl, sym, ap, ap₂, subst, ◌∙◌, arith, Ordering, Less, Equal, Greater, nat_eq, append-nil, append_assoc, true≢false, ◌⊎◌}
use Rattle.std.specs.Prelude.{sum_by, All}
use Rattle.std.specs.List.{AllByRecursion}
use Rattle.std.specs.Ordering.{match_ordering}
use Rattle.std.specs.Cmp.Lexicographic.{pointwise}
use Rattle.std.proofs.lemmas.Bool.{and_parts, cond-true, cond-false, false_from_ne_true, cases_Bool}
use Rattle.std.proofs.lemmas.Cmp.{nat_list_cmp_total}
use Rattle.std.proofs.lemmas.List.Elements.{filter-append, filter_map-append}
use Rattle.std.proofs.lemmas.List.Sums.{fold_push, sum_by-cons}
use Rattle.sb_types.specs.Records.{Entry, Block}
use Rattle.sb_types.specs.Runs.{Stands}
use Rattle.sb_types.specs.Lengths.{block_length}
use Rattle.sb_types.specs.Limits.{are_owners_above, text_lt}
use Rattle.sb_types.proofs.Texts.{Less-from_text_lt, same_text, text_same}
use Rattle.sb_budget.specs.declared.offered.Offered.{Offered}
use Rattle.sb_budget.specs.Offers.{Item, of_owner, entries_of, block_from, block_of}
use Rattle.sb_budget.specs.Orders.{offered_by}
use Rattle.sb_budget.specs.Cut.{item_of, items_of_all, with_name, owners_of, blocks_of}
use Rattle.sb_budget.specs.BlocksByOwner.{block_with_entry, block_of_item, block_to_last_entry, lowered_of}
use Rattle.sb_budget.proofs.NameLemmas.{unnamed_none, named_some}
use Rattle.sb_budget.proofs.PlaceLemmas.{text_cmp, joined, are_ordered, same_from_Equal, Equal_from_same, lt_from_Less, ordered_above, joined_ordered, joined_no_less}

abbrev is_of : List ℕ → Item → Bool
is_of owner item = pointwise nat_eq item.owner owner

pub map_same : {A B : Type 0} (f g : A → B) (xs : List A) → ((x : A) → Stands xs x → f x ≡ g x) → map f xs ≡ map g xs
map_same f g [] same = refl
map_same f g (x ∷ xs) same = ap₂ (λ a b. a ∷ b) (same x (inl refl)) (map_same f g xs (λ y s. same y (inr s)))

mapped_same : {A B C : Type 0} (g : B → C) (f : A → B) (h : A → C) (xs : List A) → ((x : A) → Stands xs x → g (f x) ≡ h x) → map g (map f xs) ≡ map h xs
mapped_same g f h [] same = refl
mapped_same g f h (x ∷ xs) same = ap₂ (λ a b. a ∷ b) (same x (inl refl)) (mapped_same g f h xs (λ y s. same y (inr s)))

-- ---- what a front has of an owner, as the block that it would make

abbrev first_or : (Item → ℕ) → List Item → ℕ
first_or f [] = 0
first_or f (i ∷ is) = f i

abbrev part_block : List ℕ → List Item → Block
part_block owner part =
    record { owner = owner; floor = first_or (λ i. i.floor) part; after = first_or (λ i. i.after) part; upto = first_or (λ i. i.upto) part; entries = entries_of part }

abbrev part_of : List Item → List ℕ → Block
part_of front owner = part_block owner (of_owner owner front)

abbrev pub gathered : List Item → List Block
gathered front = map (part_of front) (owners_of front)

whole_block : (owner : List ℕ) (part : List Item) → block_from owner part [] ≡ part_block owner part
whole_block owner [] = refl
whole_block owner (i ∷ is) = refl

pub gathered_is : (front : List Item) → blocks_of front [] ≡ gathered front
gathered_is front = map_same (λ owner. block_of owner front []) (part_of front) (owners_of front) (λ owner s. whole_block owner (of_owner owner front))

-- ---- one more item

by_push : (owner : List ℕ) (front : List Item) (x : Item) → of_owner owner (front ++ x ∷ []) ≡ of_owner owner front ++ cond (is_of owner x) (x ∷ []) []
by_push owner front x = filter-append (is_of owner) front (x ∷ [])

less_apart : (a b : List ℕ) → text_cmp a b ≡ Less → a ≡ b → ⊥
less_apart a b less same = let tied = Equal_from_same a b same in cc

greater_apart : (a b : List ℕ) → text_cmp a b ≡ Greater → a ≡ b → ⊥
greater_apart a b greater same = let tied = Equal_from_same a b same in cc

greater_not_less : (a b : List ℕ) → text_cmp a b ≡ Greater → text_cmp a b ≡ Less → ⊥
greater_not_less a b greater less = cc

above_apart : (f : List ℕ → Block) → ((m : List ℕ) → (f m).owner ≡ m) → (last : List ℕ) (ns : List (List ℕ)) (m : List ℕ) → are_owners_above last (map f ns) ≡ true → Stands ns m → text_lt last m ≡ true
above_apart f names last [] m up s = absurd s
above_apart f names last (n ∷ ns) m up (inl p) = subst (λ z. text_lt last z ≡ true) (names n ∙ p) (and_parts _ _ up).0
above_apart f names last (n ∷ ns) m up (inr s) =
    let first : text_lt last (f n).owner ≡ true = (and_parts _ _ up).0 in
    lt_from_Less last m (nat_list_cmp_total.trans last (f n).owner m (Less-from_text_lt last (f n).owner first) (Less-from_text_lt (f n).owner m (above_apart f names (f n).owner ns m (and_parts _ _ up).1 s)))

grown_part : (owner : List ℕ) (part : List Item) (x y : Item) → Stands part y → part_block owner (part ++ x ∷ []) ≡ block_with_entry (part_block owner part) x.entry
grown_part owner [] x y s = absurd s
grown_part owner (i ∷ is) x y s =
    ap (λ (es : List Entry). record { owner = owner; floor = i.floor; after = i.after; upto = i.upto; entries = es }) (filter_map-append (λ (j : Item). j.entry) (i ∷ is) (x ∷ []))

module _ (front : List Item) (x : Item) where
  part_other : (owner : List ℕ) → (owner ≡ x.owner → ⊥) → part_of (front ++ x ∷ []) owner ≡ part_of front owner
  part_other owner other =
      let none : is_of owner x ≡ false = false_from_ne_true _ (λ t. other (sym (same_text x.owner owner t))) in
      ap (part_block owner) (by_push owner front x ∙ ap (λ r. of_owner owner front ++ r) (cond-false _ (x ∷ []) [] none) ∙ append-nil (of_owner owner front))

  own_part : of_owner x.owner (front ++ x ∷ []) ≡ of_owner x.owner front ++ x ∷ []
  own_part = by_push x.owner front x ∙ ap (λ r. of_owner x.owner front ++ r) (cond-true _ (x ∷ []) [] (text_same x.owner x.owner refl))

  part_own : (y : Item) → Stands (of_owner x.owner front) y → part_of (front ++ x ∷ []) x.owner ≡ block_with_entry (part_of front x.owner) x.entry
  part_own y s = ap (part_block x.owner) own_part ∙ grown_part x.owner (of_owner x.owner front) x y s

  part_new : of_owner x.owner front ≡ [] → part_of (front ++ x ∷ []) x.owner ≡ block_of_item x
  part_new none = ap (part_block x.owner) (own_part ∙ ap (λ (p : List Item). p ++ x ∷ []) none)

  step : (ns : List (List ℕ)) → are_ordered (map (part_of front) ns) ≡ true → ((Stands ns x.owner → ⊥) → of_owner x.owner front ≡ []) → (Stands ns x.owner → (y : Item) × Stands (of_owner x.owner front) y) →
      map (part_of (front ++ x ∷ [])) (with_name x.owner ns) ≡ joined x (map (part_of front) ns)
  step [] up fresh some = ap (λ b. b ∷ []) (part_new (fresh (λ none. absurd none)))
  step (n ∷ ns) up fresh some = go (text_cmp n x.owner) refl (λ f. step ns (ordered_above n (map (part_of front) ns) up) f (λ s. some (inr s)))
    where
      go : (r : Ordering) → text_cmp n x.owner ≡ r → (((Stands ns x.owner → ⊥) → of_owner x.owner front ≡ []) → map (part_of (front ++ x ∷ [])) (with_name x.owner ns) ≡ joined x (map (part_of front) ns)) →
          map (part_of (front ++ x ∷ [])) (match_ordering r (n ∷ with_name x.owner ns) (n ∷ ns) (x.owner ∷ n ∷ ns))
          ≡ match_ordering r (part_of front n ∷ joined x (map (part_of front) ns)) (block_with_entry (part_of front n) x.entry ∷ map (part_of front) ns) (block_of_item x ∷ part_of front n ∷ map (part_of front) ns)
      go Less e rest =
          let other : n ≡ x.owner → ⊥ = less_apart n x.owner e in
          ap₂ (λ a b. a ∷ b) (part_other n other) (rest (λ missing. fresh (λ s. ⊎_elim other missing s)))
      go Equal e rest =
          let same = same_from_Equal n x.owner e in
          let there = some (inl same) in
          ap₂ (λ a b. a ∷ b)
          (subst (λ m. part_of (front ++ x ∷ []) m ≡ block_with_entry (part_of front m) x.entry) (sym same) (part_own there.0 there.1))
          (map_same (part_of (front ++ x ∷ [])) (part_of front) ns (λ m s. part_other m (λ back. less_apart n m (Less-from_text_lt n m (above_apart (part_of front) (λ _. refl) n ns m up s)) (same ∙ sym back))))
      go Greater e rest =
          let missing : Stands (n ∷ ns) x.owner → ⊥ = λ s. ⊎_elim (greater_apart n x.owner e) (λ t. greater_not_less n x.owner e (Less-from_text_lt n x.owner (above_apart (part_of front) (λ _. refl) n ns x.owner up t))) s in
          ap₂ (λ a b. a ∷ b) (part_new (fresh missing))
          (map_same (part_of (front ++ x ∷ [])) (part_of front) (n ∷ ns) (λ m s. part_other m (λ back. missing (subst (Stands (n ∷ ns)) back s))))

  pub gathered_push : are_ordered (gathered front) ≡ true → gathered (front ++ x ∷ []) ≡ joined x (gathered front)
  gathered_push up =
      ap (map (part_of (front ++ x ∷ []))) (fold_push (λ names (i : Item). with_name i.owner names) [] front x)
      ∙ step (owners_of front) up (unnamed_none (λ (i : Item). i.owner) front x.owner) (named_some (λ (i : Item). i.owner) front x.owner)

ordered_more : (done more : List Item) → are_ordered (gathered done) ≡ true → are_ordered (gathered (done ++ more)) ≡ true
ordered_more done [] up = rw append-nil up
ordered_more done (x ∷ xs) up =
    rw (← append_assoc done (x ∷ []) xs) (ordered_more (done ++ x ∷ []) xs (ap are_ordered (gathered_push done x up) ∙ joined_ordered x (gathered done) up))

pub all_ordered : (front : List Item) → are_ordered (gathered front) ≡ true
all_ordered front = ordered_more [] front refl

-- a longer front takes no less
gathered_grows : (done more : List Item) → sum_by block_length (gathered done) ≤ sum_by block_length (gathered (done ++ more))
gathered_grows done [] = rw append-nil (omega arith)
gathered_grows done (x ∷ xs) =
    rw (← append_assoc done (x ∷ []) xs) (omega (arith, gathered_grows (done ++ x ∷ []) xs, joined_no_less x (gathered done), ap (sum_by block_length) (gathered_push done x (all_ordered done))))

-- ---- what is left behind

-- it takes no bytes
rest_length : (owner : List ℕ) (part others : List Item) → block_length (block_from owner part others) ≡ block_length (block_from owner part [])
rest_length owner [] others = refl
rest_length owner (i ∷ is) [] = refl
rest_length owner (i ∷ is) (j ∷ js) = refl

same_sums : (f g : List ℕ → Block) (ns : List (List ℕ)) → ((m : List ℕ) → block_length (f m) ≡ block_length (g m)) → sum_by block_length (map f ns) ≡ sum_by block_length (map g ns)
same_sums f g [] same = refl
same_sums f g (n ∷ ns) same = omega (arith, sum_by-cons block_length (f n) (map f ns), sum_by-cons block_length (g n) (map g ns), same n, same_sums f g ns same)

pub left_length : (front left : List Item) → sum_by block_length (blocks_of front left) ≡ sum_by block_length (blocks_of front [])
left_length front left = same_sums (λ owner. block_of owner front left) (λ owner. block_of owner front []) (owners_of front) (λ m. rest_length m (of_owner m front) (of_owner m left))

pub front_grows : (front more left : List Item) → sum_by block_length (blocks_of front []) ≤ sum_by block_length (blocks_of (front ++ more) left)
front_grows front more left =
    omega (
      arith,
      gathered_grows front more,
      ap (sum_by block_length) (gathered_is front),
      ap (sum_by block_length) (gathered_is (front ++ more)),
      left_length (front ++ more) left,
    )

pub owner_is : (owner : List ℕ) (part rest : List Item) → (block_from owner part rest).owner ≡ owner
owner_is owner [] rest = refl
owner_is owner (i ∷ is) [] = refl
owner_is owner (i ∷ is) (j ∷ js) = refl

lowered_part : (owner : List ℕ) (part others more : List Item) (y z : Item) → Stands part y → Stands more z → block_to_last_entry (block_from owner part others) ≡ block_from owner part (others ++ more)
lowered_part owner [] others more y z s t = absurd s
lowered_part owner (i ∷ is) others [] y z s t = absurd t
lowered_part owner (i ∷ is) [] (m ∷ ms) y z s t = refl
lowered_part owner (i ∷ is) (j ∷ js) (m ∷ ms) y z s t = refl

keep_all : (owner : List ℕ) (items : List Item) → ((i : Item) → Stands items i → i.owner ≡ owner) → of_owner owner items ≡ items
keep_all owner [] same = refl
keep_all owner (i ∷ is) same = cond-true _ _ _ (text_same i.owner owner (same i (inl refl))) ∙ ap (λ r. i ∷ r) (keep_all owner is (λ x s. same x (inr s)))

keep_none : (owner : List ℕ) (items : List Item) → ((i : Item) → Stands items i → i.owner ≡ owner → ⊥) → of_owner owner items ≡ []
keep_none owner [] other = refl
keep_none owner (i ∷ is) other = cond-false _ _ _ (false_from_ne_true _ (λ t. other i (inl refl) (same_text i.owner owner t))) ∙ keep_none owner is (λ x s. other x (inr s))

-- an owner's items are left behind too
module _ (owner : List ℕ) (front left more : List Item) (z : Item) (stands : Stands more z) (same : (i : Item) → Stands more i → i.owner ≡ owner) where
  left_one : (m : List ℕ) (y : Item) → Stands (of_owner m front) y → lowered_of owner (block_of m front left) ≡ block_of m front (left ++ more)
  left_one m y s = go (cases_Bool (pointwise nat_eq m owner))
    where
      others : of_owner m (left ++ more) ≡ of_owner m left ++ of_owner m more
      others = filter-append (is_of m) left more

      test : pointwise nat_eq (block_of m front left).owner owner ≡ pointwise nat_eq m owner
      test = ap (λ (o : List ℕ). pointwise nat_eq o owner) (owner_is m (of_owner m front) (of_owner m left))

      go : ((pointwise nat_eq m owner ≡ true) ⊎ (pointwise nat_eq m owner ≡ false)) → lowered_of owner (block_of m front left) ≡ block_of m front (left ++ more)
      go (inl t) =
          let this : m ≡ owner = same_text m owner t in
          cond-true _ _ _ (test ∙ t)
          ∙ lowered_part m (of_owner m front) (of_owner m left) more y z s stands
          ∙ ap (block_from m (of_owner m front)) (ap (λ r. of_owner m left ++ r) (sym (keep_all m more (λ i u. same i u ∙ sym this))) ∙ sym others)
      go (inr f) =
          cond-false _ _ _ (test ∙ f)
          ∙ ap (block_from m (of_owner m front))
          (sym (append-nil (of_owner m left)) ∙ ap (λ r. of_owner m left ++ r) (sym (keep_none m more (λ i u this. true≢false (sym (text_same m owner (sym this ∙ same i u)) ∙ f)))) ∙ sym others)

  pub left_more : map (λ b. lowered_of owner b) (blocks_of front left) ≡ blocks_of front (left ++ more)
  left_more = mapped_same (λ b. lowered_of owner b) (λ m. block_of m front left) (λ m. block_of m front (left ++ more)) (owners_of front) (λ m s.
      let some = named_some (λ (i : Item). i.owner) front m s in
      left_one m some.0 some.1)

-- ---- of what is offered

pub of_owner_items : (owner : List ℕ) (xs : List Offered) → of_owner owner (items_of_all xs) ≡ items_of_all (offered_by owner xs)
of_owner_items owner [] = refl
of_owner_items owner (x ∷ xs) = go (pointwise nat_eq x.owner owner) (of_owner_items owner xs)
  where
    go : (b : Bool) → of_owner owner (items_of_all xs) ≡ items_of_all (offered_by owner xs) →
        cond b (item_of x ∷ of_owner owner (items_of_all xs)) (of_owner owner (items_of_all xs)) ≡ items_of_all (cond b (x ∷ offered_by owner xs) (offered_by owner xs))
    go true rest = ap (λ r. item_of x ∷ r) rest
    go false rest = rest

-- ---- what holds of each

pub all_at : {X : Type 0} (P : X → Type 0) (xs : List X) (x : X) → AllByRecursion P xs → Stands xs x → P x
all_at P [] x all s = absurd s
all_at P (y ∷ ys) x all (inl p) = subst P p all.0
all_at P (y ∷ ys) x all (inr s) = all_at P ys x all.1 s

pub all_from : {X : Type 0} (P : X → Type 0) (xs : List X) → ((x : X) → Stands xs x → P x) → All P xs
all_from P [] each k d l = absurd (omega arith)
all_from P (x ∷ xs) each zero d l = each x (inl refl)
all_from P (x ∷ xs) each (suc k) d l = all_from P xs (λ y s. each y (inr s)) k d (omega arith)

pub all_mapped : {X Y : Type 0} (P : Y → Type 0) (f : X → Y) (xs : List X) → ((x : X) → Stands xs x → P (f x)) → All P (map f xs)
all_mapped P f [] each k d l = absurd (omega arith)
all_mapped P f (x ∷ xs) each zero d l = each x (inl refl)
all_mapped P f (x ∷ xs) each (suc k) d l = all_mapped P f xs (λ y s. each y (inr s)) k d (omega arith)
