-- The longest front of rows that fits a budget.
use Rattle.std.proofs.Common.{◌≡◌, ℕ, suc, zero, ◌+◌, ◌-◌, ◌≤◌, ◌<◌, ◌⊎◌, inl, inr, Option, Some, None, true, false, List, [], ◌∷◌, ◌++◌, length, take, map, refl, sym, ap, ap₂, subst, ◌∙◌, arith, sum_by, length-append, append-nil, append_assoc}
use Rattle.std.proofs.lemmas.Bool.{lt-ltb, le-ltb, and_from, and_parts, cases_lt}
use Rattle.std.specs.Option.{SomeIff}
use Rattle.std.proofs.lemmas.List.{take_at}
use Rattle.std.proofs.lemmas.List.Sums.{sum_by-cons, sum_by-append}
use Rattle.std.specs.List.{list_all}
use Rattle.sb_codec.specs.Records.{Row, rows_of}
use Rattle.sb_codec.specs.Limits.{is_row}
use Rattle.sb_codec.specs.Lengths.{row_length}
use Rattle.sb_views.specs.LiveRows as live
use Rattle.sb_query.specs.Pages.{message_row, rows_frame_length, IsLongestPage}

-- what a refused subtraction tells
pub room-short : (r : Option ℕ) (cost room size : ℕ) → SomeIff r (cost ≤ room) (room - cost) → ((x : ℕ) → r ≡ Some x → ⊥) → cost ≡ size → room < size
room-short None cost room size none other is = go (cases_lt room cost)
  where
    go : (room < cost) ⊎ (cost ≤ room) → room < size
    go (inl less) = omega arith
    go (inr le) = absurd (none le)
room-short (Some x) cost room size some other is = absurd (other x refl)

take-all : (rows : List Row) → take (length rows) rows ≡ rows
take-all rows = ap (take (length rows)) (sym (append-nil rows)) ∙ take_at rows [] (length rows) refl

-- a longer front has the row behind the front as well
one-more : (front : List Row) (row : Row) (rest : List Row) (n : ℕ) → length front < n
    → sum_by row_length front + row_length row ≤ sum_by row_length (take n (front ++ row ∷ rest))
one-more front row rest zero longer = absurd (omega arith)
one-more [] row rest (suc m) longer = omega (arith, sum_by-cons row_length row (take m rest))
one-more (x ∷ xs) row rest (suc m) longer =
    omega (arith, sum_by-cons row_length x xs, sum_by-cons row_length x (take m (xs ++ row ∷ rest)), one-more xs row rest m (omega arith))

-- the row behind the front does not fit
pub page-cut : (budget room : ℕ) (front : List Row) (row : Row) (rest asked : List Row) → front ++ row ∷ rest ≡ asked
    → rows_frame_length front + room ≡ budget → room < row_length row → IsLongestPage budget asked (rows_of true front)
page-cut budget room front row rest asked whole frame short =
    let size : length front + suc (length rest) ≡ length asked = sym (length-append front (row ∷ rest)) ∙ ap length whole in
    record {
      count = length front;
      within = omega arith;
      rows = sym (take_at front (row ∷ rest) (length front) refl) ∙ ap (take (length front)) whole;
      more = sym (lt-ltb (length front) (length asked) (omega arith));
      fits = omega arith;
      longest = λ n longer within.
          let more : sum_by row_length front + row_length row ≤ sum_by row_length (take n asked) =
          subst (λ (all : List Row). sum_by row_length front + row_length row ≤ sum_by row_length (take n all)) whole (one-more front row rest n longer) in
          omega arith;
    }

-- all rows fit
pub page-whole : (budget room : ℕ) (front asked : List Row) → front ≡ asked → rows_frame_length front + room ≡ budget → IsLongestPage budget asked (rows_of false front)
page-whole budget room front asked whole frame =
    let size : length front ≡ length asked = ap length whole in
    record {
      count = length front;
      within = omega arith;
      rows = sym (take-all front) ∙ ap (take (length front)) whole;
      more = sym (le-ltb (length front) (length asked) (omega arith));
      fits = omega arith;
      longest = λ n longer within. absurd (omega arith);
    }

all-more : (rows : List Row) (row : Row) → list_all is_row rows ≡ true → is_row row ≡ true → list_all is_row (rows ++ row ∷ []) ≡ true
all-more [] row each good = and_from (is_row row) true good refl
all-more (r ∷ rs) row each good =
    let parts = and_parts (is_row r) (list_all is_row rs) each in
    and_from (is_row r) (list_all is_row (rs ++ row ∷ [])) parts.0 (all-more rs row parts.1 good)

some-rows : (rows : List Row) → 10 < rows_frame_length rows → 0 < length rows
some-rows [] long = absurd (omega arith)
some-rows (r ∷ rs) long = omega arith

-- what was gathered, and what is left to read
pub record IsGathering (budget : ℕ) (asked : List live.LiveRow) (rows : List Row) (room : ℕ) (rest : List live.LiveRow) : Type 0 where
  pub made : rows ++ map message_row rest ≡ map message_row asked
  pub frame : rows_frame_length rows + room ≡ budget
  pub each : list_all is_row rows ≡ true

module _ (budget : ℕ) (asked : List live.LiveRow) where
  pub gathering-begins : (rows : List Row) (room : ℕ) (rest : List live.LiveRow) → rows ≡ [] → 10 + room ≡ budget → rest ≡ asked → IsGathering budget asked rows room rest
  gathering-begins rows room rest none size all = record {
    made = ap₂ (λ (xs : List Row) (ys : List live.LiveRow). xs ++ map message_row ys) none all;
    frame = ap (λ (xs : List Row). rows_frame_length xs + room) none ∙ size;
    each = ap (list_all is_row) none;
  }

  module _ (rows : List Row) (room : ℕ) (old : List live.LiveRow) (is : IsGathering budget asked rows room old) where
    -- the next row, told
    module _ (row : live.LiveRow) (rest : List live.LiveRow) (next : old ≡ row ∷ rest) (copy : Row) (told : copy ≡ message_row row) where
      with-next : rows ++ copy ∷ map message_row rest ≡ map message_row asked
      with-next = ap (λ (r : Row). rows ++ r ∷ map message_row rest) told ∙ ap (λ (l : List live.LiveRow). rows ++ map message_row l) (sym next) ∙ is.made

      pub gathering-more : (new : List Row) (left : ℕ) → new ≡ rows ++ copy ∷ [] → row_length copy + left ≡ room → is_row copy ≡ true → IsGathering budget asked new left rest
      gathering-more new left pushed size good =
          let longer : sum_by row_length new ≡ sum_by row_length rows + sum_by row_length (copy ∷ []) =
          ap (sum_by row_length) pushed ∙ sum_by-append row_length rows (copy ∷ []) in
          let one : sum_by row_length (copy ∷ []) ≡ row_length copy = omega (arith, sum_by-cons row_length copy []) in
          let frame = is.frame in
          record {
            made = ap (λ (xs : List Row). xs ++ map message_row rest) pushed ∙ append_assoc rows (copy ∷ []) (map message_row rest) ∙ with-next;
            frame = omega arith;
            each = ap (list_all is_row) pushed ∙ all-more rows copy is.each good;
          }

      pub gathering-cut : room < row_length copy → IsLongestPage budget (map message_row asked) (rows_of true rows)
      gathering-cut short = page-cut budget room rows copy (map message_row rest) (map message_row asked) with-next is.frame short

      -- a frame of the least budget has room for any row
      pub gathering-some : 1024 ≤ budget → row_length copy ≤ 621 → room < row_length copy → 0 < length rows
      gathering-some least most short = let frame = is.frame in some-rows rows (omega arith)

    pub gathering-whole : old ≡ [] → IsLongestPage budget (map message_row asked) (rows_of false rows)
    gathering-whole none =
        page-whole budget room rows (map message_row asked) (sym (append-nil rows) ∙ ap (λ (l : List live.LiveRow). rows ++ map message_row l) (sym none) ∙ is.made) is.frame

    pub whole-some : old ≡ [] → 0 < length (map message_row asked) → 0 < length rows
    whole-some none some =
        let all : rows ≡ map message_row asked = sym (append-nil rows) ∙ ap (λ (l : List live.LiveRow). rows ++ map message_row l) (sym none) ∙ is.made in
        subst (λ (xs : List Row). 0 < length xs) (sym all) some
