-- An item put to its owner's block among blocks in order of their owners.
use Rattle.std.proofs.Common.{◌≡◌, ℕ, zero, suc, ◌+◌, ◌-◌, ◌<◌, ◌≤◌, Bool, true, false, nat_eq, if◌then◌else◌, List, [], ◌∷◌, ◌++◌, length, get_or, set, inl, inr, refl, sym, ap, ap₂, ◌∙◌, arith, add-one, append-nil, Option, Some, None, Result, Ok, Err, Ordering, Less, Equal, Greater, is_lt}
use Rattle.std.specs.Prelude.{sum_by, insert, map}
use Rattle.std.specs.List.{cons_option}
use Rattle.std.specs.Option.{option_map_or}
use Rattle.std.specs.Ordering.{nat_cmp, is_eq, ordering_index, ordering_reverse, match_ordering}
use Rattle.std.specs.Cmp.Lexicographic.{slice_cmp, pointwise, texts_ties}
use Rattle.std.specs.List.Sorted.{IsSearchInRange, IsBinarySearchResult, IsSortedBy}
use Rattle.std.proofs.lemmas.Bool.{and_parts, and_from, cond-true, cond-false, cases_lt}
use Rattle.std.proofs.lemmas.Cmp.{nat_list_cmp_total, tied_itself}
use Rattle.std.proofs.Math.ListN.{length-set}
use Rattle.std.proofs.lemmas.List.Edits.{length-insert}
use Rattle.std.proofs.lemmas.List.Sorted.{searchable_from_sorted}
use Rattle.std.proofs.lemmas.List.Sums.{sum_by-cons, sum_by-set, sum_by-insert, sum_by_push}
use Rattle.sb_types.specs.Records.{Entry, Block}
use Rattle.sb_types.specs.Lengths.{entry_length, entries_length, block_length}
use Rattle.sb_types.specs.Limits.{text_lt, are_owners_above}
use Rattle.sb_types.proofs.Texts.{Less-from_text_lt, text_lt-back, same_text, same-from_Equal, apart-from_Less, apart-from_Greater}
use Rattle.sb_budget.specs.Offers.{Item}
use Rattle.sb_budget.specs.BlocksByOwner.{block_with_entry, block_of_item, blocks_with_item, cost_of, block_to_last_entry, lowered_of}

abbrev pub text_cmp : List ℕ → List ℕ → Ordering
text_cmp = slice_cmp nat_cmp

-- the item joined to its owner's block, or as a new block in its place
abbrev pub joined : Item → List Block → List Block
joined o [] = block_of_item o ∷ []
joined o (b ∷ bs) = match_ordering (text_cmp b.owner o.owner) (b ∷ joined o bs) (block_with_entry b o.entry ∷ bs) (block_of_item o ∷ b ∷ bs)

pub same_from_Equal : (a b : List ℕ) → text_cmp a b ≡ Equal → a ≡ b
same_from_Equal a b tied = same_text a b (texts_ties a b ∙ ap is_eq tied)

pub Equal_from_same : (a b : List ℕ) → a ≡ b → text_cmp a b ≡ Equal
Equal_from_same a b same = ap (text_cmp a) (sym same) ∙ tied_itself nat_list_cmp_total a

pub lt_from_Less : (a b : List ℕ) → text_cmp a b ≡ Less → text_lt a b ≡ true
lt_from_Less a b e = ap is_lt e

pub lt_from_Greater : (a b : List ℕ) → text_cmp a b ≡ Greater → text_lt b a ≡ true
lt_from_Greater a b e = ap is_lt (nat_list_cmp_total.antisymm b a ∙ ap ordering_reverse e)

-- ---- where the owner's block stands

first_below : (last : List ℕ) (bs : List Block) (i : ℕ) (d : Block) → are_owners_above last bs ≡ true → i < length bs → text_lt last (get_or bs i d).owner ≡ true
first_below last [] i d up l = absurd (omega arith)
first_below last (b ∷ bs) zero d up l = (and_parts _ _ up).0
first_below last (b ∷ bs) (suc i) d up l =
    let p = and_parts (text_lt last b.owner) (are_owners_above b.owner bs) up in
    lt_from_Less last (get_or bs i d).owner (nat_list_cmp_total.trans last b.owner (get_or bs i d).owner (Less-from_text_lt last b.owner p.0) (Less-from_text_lt b.owner (get_or bs i d).owner (first_below b.owner bs i d p.1 (omega arith))))

next_below : (last : List ℕ) (bs : List Block) (k : ℕ) (d : Block) → are_owners_above last bs ≡ true → suc k < length bs → text_lt (get_or bs k d).owner (get_or bs (suc k) d).owner ≡ true
next_below last [] k d up l = absurd (omega arith)
next_below last (b ∷ bs) zero d up l = first_below b.owner bs 0 d (and_parts _ _ up).1 (omega arith)
next_below last (b ∷ bs) (suc k) d up l = next_below b.owner bs k d (and_parts _ _ up).1 (omega arith)

owners_sorted : (last : List ℕ) (bs : List Block) → are_owners_above last bs ≡ true → IsSortedBy (λ (a b : Block). is_lt (text_cmp a.owner b.owner)) bs
owners_sorted last bs up k d low l = rw add-one (text_lt-back (get_or bs k d).owner (get_or bs (suc k) d).owner (next_below last bs k d up (omega arith)))

inserted : (o : Item) (bs : List Block) (i : ℕ) → i ≤ length bs →
    ((k : ℕ) (d : Block) → k < i → text_cmp (get_or bs k d).owner o.owner ≡ Less) →
    ((k : ℕ) (d : Block) → i ≤ k → k < length bs → text_cmp (get_or bs k d).owner o.owner ≡ Greater) →
    insert bs i (block_of_item o) ≡ joined o bs
inserted o [] zero l below above = refl
inserted o [] (suc i) l below above = absurd (omega arith)
inserted o (b ∷ bs) zero l below above = ap (λ r. match_ordering r (b ∷ joined o bs) (block_with_entry b o.entry ∷ bs) (block_of_item o ∷ b ∷ bs)) (sym (above 0 b (omega arith) (omega arith)))
inserted o (b ∷ bs) (suc i) l below above =
    ap (λ r. b ∷ r) (inserted o bs i (omega arith) (λ k d h. below (suc k) d (omega arith)) (λ k d h t. above (suc k) d (omega arith) (omega arith)))
    ∙ ap (λ r. match_ordering r (b ∷ joined o bs) (block_with_entry b o.entry ∷ bs) (block_of_item o ∷ b ∷ bs)) (sym (below 0 b (omega arith)))

grown_at : (o : Item) (last : List ℕ) (bs : List Block) (i : ℕ) (d : Block) → are_owners_above last bs ≡ true → i < length bs → text_cmp (get_or bs i d).owner o.owner ≡ Equal →
    set bs i (block_with_entry (get_or bs i d) o.entry) ≡ joined o bs
grown_at o last [] i d up l tied = absurd (omega arith)
grown_at o last (b ∷ bs) zero d up l tied = ap (λ r. match_ordering r (b ∷ joined o bs) (block_with_entry b o.entry ∷ bs) (block_of_item o ∷ b ∷ bs)) (sym tied)
grown_at o last (b ∷ bs) (suc i) d up l tied =
    let p = and_parts (text_lt last b.owner) (are_owners_above b.owner bs) up in
    let less : text_cmp b.owner o.owner ≡ Less = Less-from_text_lt b.owner o.owner (ap (text_lt b.owner) (sym (same_from_Equal (get_or bs i d).owner o.owner tied)) ∙ first_below b.owner bs i d p.1 (omega arith)) in
    ap (λ r. b ∷ r) (grown_at o b.owner bs i d p.1 (omega arith) tied)
    ∙ ap (λ r. match_ordering r (b ∷ joined o bs) (block_with_entry b o.entry ∷ bs) (block_of_item o ∷ b ∷ bs)) (sym less)

-- what is put where a search says is joined
pub placed_is_joined : (o : Item) (bs : List Block) (place : Result ℕ ℕ) → are_owners_above [] bs ≡ true → IsSearchInRange place (length bs) →
    IsBinarySearchResult (λ (b : Block). text_cmp b.owner o.owner) bs place → blocks_with_item place o bs ≡ joined o bs
placed_is_joined o bs (Ok i) up l found = grown_at o [] bs i (block_of_item o) up l (found (block_of_item o))
placed_is_joined o bs (Err i) up l found =
    let point = found (searchable_from_sorted nat_list_cmp_total (λ (b : Block). b.owner) bs o.owner (owners_sorted [] bs up)) in
    inserted o bs i l (λ k d h. point.0 k d (omega arith) h) point.1

-- ---- a place after all owners

less_from_index : (r : Ordering) → ordering_index r ≤ 0 → r ≡ Less
less_from_index Less l = refl
less_from_index Equal l = absurd (omega (arith, l))
less_from_index Greater l = absurd (omega (arith, l))

same_block : (bs : List Block) (i : ℕ) (d e : Block) → i < length bs → get_or bs i d ≡ get_or bs i e
same_block [] i d e lt = absurd (omega (arith, lt))
same_block (b ∷ bs) zero d e lt = refl
same_block (b ∷ bs) (suc i) d e lt = same_block bs i d e (omega (arith, lt))

pub after_last : (owner : List ℕ) (bs : List Block) (last : Block) → 0 < length bs → last ≡ get_or bs (length bs - 1) last → text_cmp last.owner owner ≡ Less →
    IsBinarySearchResult (λ (b : Block). text_cmp b.owner owner) bs (Err (length bs))
after_last owner bs last some is less =
    λ rise. (
      λ k d low lt.
          let same : text_cmp (get_or bs (length bs - 1) d).owner owner ≡ Less = ap (λ (b : Block). text_cmp b.owner owner) (same_block bs (length bs - 1) d last (omega (arith, some)) ∙ sym is) ∙ less in
          less_from_index _ (omega (arith, rise k (length bs - 1) d (omega (arith, lt)) (omega (arith, some)), ap ordering_index same)),
      λ k d low lt. absurd (omega (arith, low, lt)),
    )

-- ---- what the item adds

one_more : (es : List Entry) (e : Option Entry) → entries_length (es ++ cons_option e []) ≡ entries_length es + option_map_or (λ x. entry_length x) e 0
one_more es None = omega (arith, ap (λ (l : List Entry). entries_length l) (append-nil es))
one_more es (Some e) = sum_by_push entry_length es e

pub placed_length : (o : Item) (bs : List Block) (place : Result ℕ ℕ) → IsSearchInRange place (length bs) → sum_by block_length (blocks_with_item place o bs) ≡ sum_by block_length bs + cost_of o place
placed_length o bs (Ok i) l =
    let b = get_or bs i (block_of_item o) in
    omega (arith, sum_by-set block_length bs i (block_with_entry b o.entry) (block_of_item o) l, one_more b.entries o.entry)
placed_length o bs (Err i) l = omega (arith, sum_by-insert block_length bs i (block_of_item o), one_more [] o.entry)

pub placed_some : (o : Item) (bs : List Block) (place : Result ℕ ℕ) → IsSearchInRange place (length bs) → 0 < length (blocks_with_item place o bs)
placed_some o bs (Ok i) l = omega (arith, length-set bs i (block_with_entry (get_or bs i (block_of_item o)) o.entry))
placed_some o bs (Err i) l = omega (arith, length-insert bs i (block_of_item o))

-- ---- the owners' order

module _ (o : Item) where
  pub joined_above : (last : List ℕ) (bs : List Block) → text_lt last o.owner ≡ true → are_owners_above last bs ≡ true → are_owners_above last (joined o bs) ≡ true
  joined_above last [] t up = and_from _ _ t refl
  joined_above last (b ∷ bs) t up = go (text_cmp b.owner o.owner) refl (λ l. joined_above b.owner bs l (and_parts (text_lt last b.owner) _ up).1)
    where
      go : (r : Ordering) → text_cmp b.owner o.owner ≡ r → (text_lt b.owner o.owner ≡ true → are_owners_above b.owner (joined o bs) ≡ true) →
          are_owners_above last (match_ordering r (b ∷ joined o bs) (block_with_entry b o.entry ∷ bs) (block_of_item o ∷ b ∷ bs)) ≡ true
      go Less e rest = and_from _ _ (and_parts _ _ up).0 (rest (lt_from_Less b.owner o.owner e))
      go Equal e rest = up
      go Greater e rest = and_from _ _ t (and_from _ _ (lt_from_Greater b.owner o.owner e) (and_parts (text_lt last b.owner) (are_owners_above b.owner bs) up).1)

-- each owner is above the one before
abbrev pub are_ordered : List Block → Bool
are_ordered [] = true
are_ordered (b ∷ bs) = are_owners_above b.owner bs

pub ordered_above : (last : List ℕ) (bs : List Block) → are_owners_above last bs ≡ true → are_ordered bs ≡ true
ordered_above last [] up = refl
ordered_above last (b ∷ bs) up = (and_parts (text_lt last b.owner) _ up).1

pub joined_ordered : (o : Item) (bs : List Block) → are_ordered bs ≡ true → are_ordered (joined o bs) ≡ true
joined_ordered o [] up = refl
joined_ordered o (b ∷ bs) up = go (text_cmp b.owner o.owner) refl
  where
    go : (r : Ordering) → text_cmp b.owner o.owner ≡ r → are_ordered (match_ordering r (b ∷ joined o bs) (block_with_entry b o.entry ∷ bs) (block_of_item o ∷ b ∷ bs)) ≡ true
    go Less e = joined_above o b.owner bs (lt_from_Less b.owner o.owner e) up
    go Equal e = up
    go Greater e = and_from _ _ (lt_from_Greater b.owner o.owner e) up

pub joined_no_less : (o : Item) (bs : List Block) → sum_by block_length bs ≤ sum_by block_length (joined o bs)
joined_no_less o [] = omega arith
joined_no_less o (b ∷ bs) = go (text_cmp b.owner o.owner) (joined_no_less o bs)
  where
    go : (r : Ordering) → sum_by block_length bs ≤ sum_by block_length (joined o bs) → sum_by block_length (b ∷ bs) ≤ sum_by block_length (match_ordering r (b ∷ joined o bs) (block_with_entry b o.entry ∷ bs) (block_of_item o ∷ b ∷ bs))
    go Less more = omega (arith, sum_by-cons block_length b bs, sum_by-cons block_length b (joined o bs))
    go Equal more = omega (arith, sum_by-cons block_length b bs, sum_by-cons block_length (block_with_entry b o.entry) bs, one_more b.entries o.entry)
    go Greater more = omega (arith, sum_by-cons block_length (block_of_item o) (b ∷ bs))

-- ---- where an owner's block is lowered

first_lowered : (owner : List ℕ) (b : Block) → text_cmp b.owner owner ≡ Equal → lowered_of owner b ≡ block_to_last_entry b
first_lowered owner b tied = cond-true _ _ _ (same-from_Equal b.owner owner tied)

first_stays : (owner : List ℕ) (b : Block) → pointwise nat_eq b.owner owner ≡ false → lowered_of owner b ≡ b
first_stays owner b other = cond-false _ _ _ other

-- nobody's block is the owner's
none_lowered : (owner : List ℕ) (bs : List Block) → ((k : ℕ) (d : Block) → k < length bs → pointwise nat_eq (get_or bs k d).owner owner ≡ false) → map (λ b. lowered_of owner b) bs ≡ bs
none_lowered owner [] other = refl
none_lowered owner (b ∷ bs) other = ap₂ (λ c cs. c ∷ cs) (first_stays owner b (other 0 b (omega arith))) (none_lowered owner bs (λ k d l. other (suc k) d (omega arith)))

lowered_at : (owner last : List ℕ) (bs : List Block) (i : ℕ) (d : Block) → are_owners_above last bs ≡ true → i < length bs → text_cmp (get_or bs i d).owner owner ≡ Equal →
    set bs i (block_to_last_entry (get_or bs i d)) ≡ map (λ b. lowered_of owner b) bs
lowered_at owner last [] i d up l tied = absurd (omega arith)
lowered_at owner last (b ∷ bs) zero d up l tied =
    let above = (and_parts (text_lt last b.owner) (are_owners_above b.owner bs) up).1 in
    let same : b.owner ≡ owner = same_from_Equal b.owner owner tied in
    ap₂ (λ c cs. c ∷ cs) (sym (first_lowered owner b tied))
    (sym (none_lowered owner bs (λ k e m. apart-from_Greater (get_or bs k e).owner owner (behind k e (ap (λ o. text_lt o (get_or bs k e).owner) (sym same) ∙ first_below b.owner bs k e above m)))))
  where
    behind : (k : ℕ) (e : Block) → text_lt owner (get_or bs k e).owner ≡ true → text_cmp (get_or bs k e).owner owner ≡ Greater
    behind k e t = nat_list_cmp_total.antisymm (get_or bs k e).owner owner ∙ ap ordering_reverse (Less-from_text_lt owner (get_or bs k e).owner t)
lowered_at owner last (b ∷ bs) (suc i) d up l tied =
    let p = and_parts (text_lt last b.owner) (are_owners_above b.owner bs) up in
    let less : text_cmp b.owner owner ≡ Less = Less-from_text_lt b.owner owner (ap (text_lt b.owner) (sym (same_from_Equal (get_or bs i d).owner owner tied)) ∙ first_below b.owner bs i d p.1 (omega arith)) in
    ap₂ (λ c cs. c ∷ cs) (sym (first_stays owner b (apart-from_Less b.owner owner less))) (lowered_at owner b.owner bs i d p.1 (omega arith) tied)

-- what is lowered where a search finds it
pub lowered_found : (owner : List ℕ) (bs : List Block) (i : ℕ) (d : Block) → are_owners_above [] bs ≡ true → i < length bs →
    IsBinarySearchResult (λ (b : Block). text_cmp b.owner owner) bs (Ok i) → set bs i (block_to_last_entry (get_or bs i d)) ≡ map (λ b. lowered_of owner b) bs
lowered_found owner bs i d up l found = lowered_at owner [] bs i d up l (found d)

pub lowered_missing : (owner : List ℕ) (bs : List Block) (i : ℕ) → are_owners_above [] bs ≡ true → i ≤ length bs →
    IsBinarySearchResult (λ (b : Block). text_cmp b.owner owner) bs (Err i) → map (λ b. lowered_of owner b) bs ≡ bs
lowered_missing owner bs i up l found =
    let point = found (searchable_from_sorted nat_list_cmp_total (λ (b : Block). b.owner) bs owner (owners_sorted [] bs up)) in
    none_lowered owner bs (λ k d m. elim (cases_lt k i) [
      | inl below ↦ apart-from_Less (get_or bs k d).owner owner (point.0 k d (omega arith) below)
      | inr above ↦ apart-from_Greater (get_or bs k d).owner owner (point.1 k d above m)
    ])

-- the owners stay
pub lowered_above : (owner last : List ℕ) (bs : List Block) → are_owners_above last bs ≡ true → are_owners_above last (map (λ b. lowered_of owner b) bs) ≡ true
lowered_above owner last [] up = refl
lowered_above owner last (b ∷ bs) up =
    let p = and_parts (text_lt last b.owner) (are_owners_above b.owner bs) up in
    let same : (lowered_of owner b).owner ≡ b.owner = go (pointwise nat_eq b.owner owner) in
    and_from _ _ (ap (text_lt last) same ∙ p.0) (ap (λ o. are_owners_above o (map (λ c. lowered_of owner c) bs)) same ∙ lowered_above owner b.owner bs p.1)
  where
    go : (t : Bool) → (if t then block_to_last_entry b else b).owner ≡ b.owner
    go true = refl
    go false = refl
