-- The longest front that fits, by one item after another.
use Rattle.std.proofs.Common.{◌≡◌, ℕ, ◌+◌, ◌<◌, ◌≤◌, ◌-◌, ◌*◌, Bool, true, false, List, [], ◌∷◌, ◌++◌, length, map, take, drop, ◌⊎◌, inl, inr, refl, sym, ap, ap₂, subst, ◌∙◌, arith, append-nil, append_assoc, length-append, Option, Some, None, true≢false, nat_lt}
use Rattle.std.specs.Prelude.{sum_by, All}
use Rattle.std.specs.List.{cons_option}
use Rattle.std.specs.Option.{SomeIff}
use Rattle.std.proofs.Math.Seq.{take-append-add, take-append_seam, drop-append_seam, take-length, drop-length}
use Rattle.std.proofs.lemmas.Bool.{and_parts, and_from, le-leb, lt-ltb, ltb-true, cases_lt}
use Rattle.std.proofs.lemmas.List.{length_push, take_at}
use Rattle.std.proofs.lemmas.List.Elements.{filter_map-append, filter-append}
use Rattle.std.proofs.lemmas.List.Sums.{sum_by-cons}
use Rattle.sb_types.specs.declared.limits.TheConstants.{PAYLOAD_MOST, BUDGET_MOST, ENTRIES_MOST}
use Rattle.sb_types.specs.Records.{Entry, Block}
use Rattle.sb_types.specs.Runs.{Stands, IsRun, are_ascending, last_version}
use Rattle.sb_types.specs.Lengths.{entry_length, entries_length, block_length, delta_length}
use Rattle.sb_types.specs.Text.{is_name}
use Rattle.sb_types.specs.Limits.{are_owners_above, are_block_parts, are_delta_blocks, text_lt}
use Rattle.sb_table.proofs.Order.{run_front}
use Rattle.sb_budget.specs.declared.offered.Offered.{Offered}
use Rattle.sb_budget.specs.Offers.{Item, of_owner, entries_of, block_from, block_of}
use Rattle.sb_budget.specs.Orders.{offered_by}
use Rattle.sb_budget.specs.Cut.{item_of, items_of_all, entries_in, owners_of, blocks_of, delta_at, delta_frame_length, IsPart, IsCut, CanCut}
use Rattle.sb_budget.specs.BlocksByOwner.{lowered_of, HasParts}
use Rattle.sb_budget.specs.Making.{Making, left_by, IsFrontOf, IsStopped, IsTaking}
use Rattle.sb_budget.proofs.NameLemmas.{named_some, each_named}
use Rattle.sb_budget.proofs.GatherLemmas.{left_length, front_grows, left_more, of_owner_items, all_mapped}

-- ---- the front is the longest

front_within : (front rest items : List Item) → front ++ rest ≡ items → length front ≤ length items
front_within front rest items whole = omega (arith, ap (λ (l : List Item). length l) whole, length-append front rest)

frame_left : (front left : List Item) → delta_frame_length (blocks_of front left) ≡ delta_frame_length (blocks_of front [])
frame_left front left = omega (arith, left_length front left)

pub cut_of_all : (budget : ℕ) (items : List Item) (making : Making) → IsFrontOf budget items making → IsCut budget items making.blocks
cut_of_all budget items making is = record {
  count = length items;
  within = omega arith;
  blocks = is.blocks ∙ ap₂ blocks_of (sym (take-length items)) (sym (drop-length items));
  fits = omega (arith, is.room);
  longest = λ n l k. absurd (omega (arith, l, k));
}

-- every longer front takes as much as the next
longer : (front : List Item) (next : Item) (rest : List Item) (n : ℕ) → length front < n →
    delta_frame_length (blocks_of (front ++ next ∷ []) []) ≤ delta_frame_length (delta_at n (front ++ next ∷ rest))
longer front next rest n l =
    let items = front ++ next ∷ rest in
    let more = take (n - length (front ++ next ∷ [])) rest in
    let count : n ≡ length (front ++ next ∷ []) + (n - length (front ++ next ∷ [])) = omega (arith, length_push front next) in
    let these : take n items ≡ (front ++ next ∷ []) ++ more =
    ap (take n) (sym (append_assoc front (next ∷ []) rest)) ∙ ap (λ k. take k ((front ++ next ∷ []) ++ rest)) count ∙ take-append-add (front ++ next ∷ []) rest (n - length (front ++ next ∷ [])) in
    omega (arith, front_grows (front ++ next ∷ []) more (drop n items), ap (λ (f : List Item). sum_by block_length (blocks_of f (drop n items))) these)

pub cut_stopped : (budget : ℕ) (items : List Item) (making : Making) → IsStopped budget items making → IsCut budget items making.blocks
cut_stopped budget items making is = record {
  count = length is.front;
  within = front_within is.front (is.next ∷ is.rest) items is.whole;
  blocks =
      is.blocks
      ∙ ap₂ blocks_of
      (sym (take-append_seam is.front (is.next ∷ is.rest)) ∙ ap (take (length is.front)) is.whole)
      (sym (drop-append_seam is.front (is.next ∷ is.rest)) ∙ ap (drop (length is.front)) is.whole);
  fits = omega (arith, is.fits, ap delta_frame_length is.blocks, frame_left is.front (is.next ∷ is.rest));
  longest = λ n l k.
      omega (arith, is.full, longer is.front is.next is.rest n l, ap (λ (i : List Item). delta_frame_length (delta_at n i)) is.whole);
}

pub cut_taken : (budget : ℕ) (items : List Item) (full : Bool) (making : Making) → IsTaking budget items full making → IsCut budget items making.blocks
cut_taken budget items false making is = cut_of_all budget items making is
cut_taken budget items true making is = cut_stopped budget items making is

-- something is sent where there is something
some_named : (ns : List (List ℕ)) (n : List ℕ) → Stands ns n → 0 < length ns
some_named [] n s = absurd s
some_named (m ∷ ms) n s = omega arith

blocks_some : (front left : List Item) → 0 < length front → 0 < length (blocks_of front left)
blocks_some [] left some = absurd (omega (arith, some))
blocks_some (i ∷ is) left some = mapped_some (λ owner. block_of owner (i ∷ is) left) (owners_of (i ∷ is)) (some_named (owners_of (i ∷ is)) i.owner (each_named (λ (x : Item). x.owner) [] (i ∷ is) i (inl refl)))
  where
    mapped_some : (f : List ℕ → Block) (ns : List (List ℕ)) → 0 < length ns → 0 < length (map f ns)
    mapped_some f [] some = absurd (omega (arith, some))
    mapped_some f (n ∷ ns) some = omega arith

pub some_taken : (budget : ℕ) (items : List Item) (full : Bool) (making : Making) → IsTaking budget items full making → 0 < length items → 0 < length making.blocks
some_taken budget items false making is some = subst (λ (bs : List Block). 0 < length bs) (sym is.blocks) (blocks_some items [] some)
some_taken budget items true making is some = subst (λ (bs : List Block). 0 < length bs) (sym is.blocks) (blocks_some is.front (is.next ∷ is.rest) is.some)

-- ---- items that are left

-- what is left of an owner once an item did not fit
pub stopped_here : (budget : ℕ) (items : List Item) (next : Item) (making : Making) → IsFrontOf budget items making → 0 < length items → budget < delta_frame_length (blocks_of (items ++ next ∷ []) []) →
    IsStopped budget (items ++ next ∷ []) (left_by next.owner making)
stopped_here budget items next making is some full = record {
  most = is.most;
  front = items;
  next = next;
  rest = [];
  whole = refl;
  some = some;
  blocks = ap (map (λ b. lowered_of next.owner b)) is.blocks ∙ left_more next.owner items [] (next ∷ []) next (inl refl) (own next);
  fits = omega (arith, is.room, ap delta_frame_length is.blocks);
  full = full;
}
  where
    own : (next i : Item) → Stands (next ∷ []) i → i.owner ≡ next.owner
    own next i (inl same) = sym (ap (λ (x : Item). x.owner) same)
    own next i (inr none) = absurd none

pub stopped_before : (budget : ℕ) (items : List Item) (next : Item) (making : Making) → IsStopped budget items making → IsStopped budget (items ++ next ∷ []) (left_by next.owner making)
stopped_before budget items next making is = record {
  most = is.most;
  front = is.front;
  next = is.next;
  rest = is.rest ++ next ∷ [];
  whole = sym (append_assoc is.front (is.next ∷ is.rest) (next ∷ [])) ∙ ap (λ l. l ++ next ∷ []) is.whole;
  some = is.some;
  blocks = ap (map (λ b. lowered_of next.owner b)) is.blocks ∙ left_more next.owner is.front (is.next ∷ is.rest) (next ∷ []) next (inl refl) (own next);
  fits = is.fits;
  full = is.full;
}
  where
    own : (next i : Item) → Stands (next ∷ []) i → i.owner ≡ next.owner
    own next i (inl same) = sym (ap (λ (x : Item). x.owner) same)
    own next i (inr none) = absurd none

-- ---- what was gathered is a delta

pub entries_items : (xs : List Offered) → entries_of (items_of_all xs) ≡ entries_in xs
entries_items [] = refl
entries_items (x ∷ xs) = ap (cons_option x.entry) (entries_items xs)

ten_each : (es : List Entry) → 10 * length es ≤ entries_length es
ten_each [] = omega arith
ten_each (e ∷ es) = omega (arith, sum_by-cons entry_length e es, ten_each es)

one_of_sum : {X : Type 0} (f : X → Block) (xs : List X) (x : X) → Stands xs x → block_length (f x) ≤ sum_by block_length (map f xs)
one_of_sum f [] x s = absurd s
one_of_sum f (y ∷ ys) x (inl p) = omega (arith, sum_by-cons block_length (f y) (map f ys), ap (λ z. block_length (f z)) p)
one_of_sum f (y ∷ ys) x (inr s) = omega (arith, sum_by-cons block_length (f y) (map f ys), one_of_sum f ys x s)

rises_on : (before : ℕ) (es : List Entry) → are_ascending before es ≡ true → before ≤ last_version before es
rises_on before [] up = omega arith
rises_on before (e ∷ es) up =
    let p = and_parts (nat_lt before e.version) (are_ascending e.version es) up in
    omega (arith, ltb-true before e.version p.0, rises_on e.version es p.1)

rises : (before : ℕ) (es : List Entry) → are_ascending before es ≡ true → 1 ≤ length es → before < last_version before es
rises before [] up some = absurd (omega (arith, some))
rises before (e ∷ es) up some =
    let p = and_parts (nat_lt before e.version) (are_ascending e.version es) up in
    omega (arith, ltb-true before e.version p.0, rises_on e.version es p.1)

-- one owner's block, of a front of its items
module _ (owner : List ℕ) (floor after upto : ℕ) (o : Offered) (os : List Offered) (is : IsPart floor after upto (o ∷ os)) (more others : List Item) (same : (item_of o ∷ more) ++ others ≡ items_of_all (o ∷ os)) where
  heads : (o.floor ≡ floor) × (o.after ≡ after) × (o.upto ≡ upto)
  heads = is.each 0 o (omega arith)

  all_entries : entries_of (item_of o ∷ more) ++ entries_of others ≡ entries_in (o ∷ os)
  all_entries = sym (filter_map-append (λ (i : Item). i.entry) (item_of o ∷ more) others) ∙ ap entries_of same ∙ entries_items (o ∷ os)

  run : IsRun after (last_version after (entries_of (item_of o ∷ more))) (entries_of (item_of o ∷ more))
  run =
      let es = entries_of (item_of o ∷ more) in
      let front : take (length es) (entries_in (o ∷ os)) ≡ es = ap (take (length es)) (sym all_entries) ∙ take_at es (entries_of others) (length es) refl in
      subst (λ l. IsRun after (last_version after l) l) front (run_front (length es) is.run)

  order : after < upto
  order = is.order (nonempty o os)
    where
      nonempty : (x : Offered) (xs : List Offered) → x ∷ xs ≡ [] → ⊥
      nonempty x xs e = cc

  -- where others are left, one of these has an entry
  some : (j : Item) (js : List Item) → others ≡ j ∷ js → 1 ≤ length (entries_of (item_of o ∷ more))
  some j js left = go o.entry refl
    where
      go : (e : Option Entry) → o.entry ≡ e → 1 ≤ length (cons_option e (entries_of more))
      go (Some e) h = omega arith
      go None h =
          let one : length (items_of_all (o ∷ os)) ≡ 1 = ap (λ (l : List Offered). length (items_of_all l)) (is.alone o (inl refl) h) in
          absurd (omega (arith, one, ap (λ (l : List Item). length l) same, length-append (item_of o ∷ more) others, ap (λ (l : List Item). length l) left))

  block_takes : (rest : List Item) → entries_length (entries_of (item_of o ∷ more)) ≤ block_length (block_from owner (item_of o ∷ more) rest)
  block_takes [] = omega arith
  block_takes (j ∷ js) = omega arith

  good : entries_length (entries_of (item_of o ∷ more)) ≤ 65536 → (reach : ℕ) → after < reach → last_version after (entries_of (item_of o ∷ more)) ≤ reach → are_block_parts after reach (entries_of (item_of o ∷ more)) ≡ true
  good small reach more_than most =
      let es = entries_of (item_of o ∷ more) in
      let few : length es ≤ ENTRIES_MOST = omega (arith, ten_each es, small) in
      and_from _ _ (and_from _ _ (and_from _ _ (and_from _ _ (le-leb (length es) ENTRIES_MOST few) (lt-ltb after reach more_than)) run.ascending) (le-leb (last_version after es) reach most)) run.distinct

  parts_block : block_length (block_from owner (item_of o ∷ more) others) ≤ 65536 → HasParts (block_from owner (item_of o ∷ more) others)
  parts_block small = go others refl (omega (arith, small, block_takes others))
    where
      go : (rest : List Item) → others ≡ rest → entries_length (entries_of (item_of o ∷ more)) ≤ 65536 → HasParts (block_from owner (item_of o ∷ more) rest)
      go [] none least =
          let es = entries_of (item_of o ∷ more) in
          let all : es ≡ entries_in (o ∷ os) = sym (append-nil es) ∙ ap (λ l. es ++ entries_of l) (sym none) ∙ all_entries in
          ap₂ (λ a u. are_block_parts a u es) heads.1 heads.2 ∙ good least upto order (omega (arith, is.run.most, ap (last_version after) all))
      go (j ∷ js) left least =
          let es = entries_of (item_of o ∷ more) in
          ap (λ a. are_block_parts a (last_version a es) es) heads.1 ∙ good least (last_version after es) (rises after es run.ascending (some j js left)) (omega arith)

parts_of : (owner : List ℕ) (floor after upto : ℕ) (os : List Offered) (part others : List Item) (y : Item) → IsPart floor after upto os → part ++ others ≡ items_of_all os → Stands part y →
    block_length (block_from owner part others) ≤ 65536 → HasParts (block_from owner part others)
parts_of owner floor after upto os [] others y is same s small = absurd s
parts_of owner floor after upto [] (i ∷ more) others y is same s small = absurd (no_item i (more ++ others) same)
  where
    no_item : (x : Item) (xs : List Item) → x ∷ xs ≡ [] → ⊥
    no_item x xs e = cc
parts_of owner floor after upto (o ∷ os) (i ∷ more) others y is same s small =
    let first : item_of o ≡ i = cc in
    subst (λ (x : Item). (x ∷ more) ++ others ≡ items_of_all (o ∷ os) → block_length (block_from owner (x ∷ more) others) ≤ 65536 → HasParts (block_from owner (x ∷ more) others)) first
    (λ whole least. parts_block owner floor after upto o os is more others whole least) same small

module _ (offered : List Offered) (can : CanCut offered) (front left : List Item) (whole : front ++ left ≡ items_of_all offered) where
  both : (owner : List ℕ) → of_owner owner front ++ of_owner owner left ≡ items_of_all (offered_by owner offered)
  both owner = sym (filter-append _ front left) ∙ ap (of_owner owner) whole ∙ of_owner_items owner offered

  blocks_parts : sum_by block_length (blocks_of front left) ≤ 65536 → All HasParts (blocks_of front left)
  blocks_parts small = all_mapped HasParts (λ owner. block_of owner front left) (owners_of front) (λ owner s.
      let part = can owner in
      let some = named_some (λ (i : Item). i.owner) front owner s in
      parts_of owner part.0 part.1 part.2 (offered_by owner offered) (of_owner owner front) (of_owner owner left) some.0 part.3 (both owner) some.1
      (omega (arith, small, one_of_sum (λ owner. block_of owner front left) (owners_of front) owner s)))

pub taken_fits : (budget : ℕ) (items : List Item) (full : Bool) (making : Making) → IsTaking budget items full making → delta_frame_length making.blocks ≤ BUDGET_MOST
taken_fits budget items false making is = omega (arith, is.room, is.most)
taken_fits budget items true making is = omega (arith, is.fits, is.most, ap delta_frame_length is.blocks, frame_left is.front (is.next ∷ is.rest))

pub taken_parts : (budget : ℕ) (offered : List Offered) (full : Bool) (making : Making) → CanCut offered → IsTaking budget (items_of_all offered) full making → All HasParts making.blocks
taken_parts budget offered false making can is =
    let small = taken_fits budget (items_of_all offered) false making is in
    subst (All HasParts) (sym is.blocks)
    (blocks_parts offered can (items_of_all offered) [] (append-nil (items_of_all offered)) (omega (arith, small, ap (sum_by block_length) is.blocks)))
taken_parts budget offered true making can is =
    let small = taken_fits budget (items_of_all offered) true making is in
    subst (All HasParts) (sym is.blocks)
    (blocks_parts offered can is.front (is.next ∷ is.rest) is.whole (omega (arith, small, ap (sum_by block_length) is.blocks)))

pub is_delta_of : (blocks : List Block) → delta_frame_length blocks ≤ BUDGET_MOST → are_owners_above [] blocks ≡ true → are_delta_blocks blocks ≡ true
is_delta_of blocks fits ascending = and_from _ _ ascending (le-leb (delta_length blocks) PAYLOAD_MOST (omega (arith, fits)))

pub room_short : (r : Option ℕ) (cost room : ℕ) → SomeIff r (cost ≤ room) (room - cost) → ((x : ℕ) → r ≡ Some x → ⊥) → room < cost
room_short None cost room none other = absurd_or (cases_lt room cost)
  where
    absurd_or : (room < cost) ⊎ (cost ≤ room) → room < cost
    absurd_or (inl l) = l
    absurd_or (inr l) = absurd (none l)
room_short (Some x) cost room is other = absurd (other x refl)

-- a name is behind the empty text
pub name_above : (owner : List ℕ) → is_name owner ≡ true → text_lt [] owner ≡ true
name_above [] named = absurd (true≢false (sym named))
name_above (x ∷ xs) named = refl
