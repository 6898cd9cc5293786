-- Rows of a page ascend, as an answer asks for.
use Rattle.std.proofs.Common.{◌≡◌, ℕ, suc, zero, ◌≤◌, Bool, true, false, ◌&&◌, nat_le, List, [], ◌∷◌, take, map, if◌then◌else◌, Result, Ok, Err, refl, sym, ap, subst, ◌∙◌, arith}
use Rattle.std.proofs.lemmas.Bool.{and_from, and_parts, le-leb}
use Rattle.std.specs.List.{list_all}
use Rattle.std.specs.Ordering.{nat_cmp, is_lt, ordering_then}
use Rattle.std.specs.Cmp.Lexicographic.{slice_cmp}
use Rattle.std.specs.declared.cmp.Ordering.TheVariants.{Less}
use Rattle.sb_types.specs.Text.{is_name, is_key}
use Rattle.sb_types.specs.Value.{is_value}
use Rattle.sb_types.specs.declared.fault.Fault.{Fault}
use Rattle.sb_types.specs.declared.fault.Fault.TheVariants.{Malformed}
use Rattle.sb_types.specs.declared.format.TheConstants.{KIND_ROWS}
use Rattle.sb_codec.specs.declared.message.ask.Ask.{Ask}
use Rattle.sb_codec.specs.Records.{Row, Rows, rows_of}
use Rattle.sb_codec.specs.Lengths.{rows_length}
use Rattle.sb_codec.specs.Limits.{is_row, is_version, are_rows_above, are_page_rows}
use Rattle.sb_types.specs.declared.limits.TheConstants.{PAYLOAD_MOST}
use Rattle.sb_views.specs.NodeViews.{NodeView}
use Rattle.sb_views.specs.LiveRows as live
use Rattle.sb_views.proofs.Rising.{ascending}
use Rattle.sb_query.specs.Pages.{message_row, asked_rows, rows_frame_length, IsLongestPage}

-- the second place is behind the first
abbrev is_above : List ℕ → List ℕ → Row → Bool
is_above owner key r = is_lt (ordering_then (slice_cmp nat_cmp owner r.owner) (slice_cmp nat_cmp key r.key))

tail-ascends : (x : live.LiveRow) (xs : List live.LiveRow) → live.AreAscending (x ∷ xs) → live.AreAscending xs
tail-ascends x xs up = λ i j d less within. up (suc i) (suc j) d (omega arith) (omega arith)

next-above : (x y : live.LiveRow) (rest : List live.LiveRow) → live.AreAscending (x ∷ y ∷ rest) → is_above x.owner x.key (message_row y) ≡ true
next-above x y rest up = up 0 1 x (omega arith) (omega arith)

above-told : (owner key : List ℕ) (xs : List live.LiveRow) (n : ℕ) → live.AreAscending xs
    → ((x : live.LiveRow) (rest : List live.LiveRow) → xs ≡ x ∷ rest → is_above owner key (message_row x) ≡ true)
    → are_rows_above owner key (take n (map message_row xs)) ≡ true
above-told owner key xs zero up first = refl
above-told owner key [] (suc n) up first = refl
above-told owner key (x ∷ xs) (suc n) up first =
    and_from (is_above owner key (message_row x)) (are_rows_above x.owner x.key (take n (map message_row xs))) (first x xs refl)
    (above-told x.owner x.key xs n (tail-ascends x xs up) (λ y rest is. next-above x y rest (subst (λ (ys : List live.LiveRow). live.AreAscending (x ∷ ys)) is up)))

name-above : (owner : List ℕ) → is_name owner ≡ true → slice_cmp nat_cmp [] owner ≡ Less
name-above [] is = absurd (cc)
name-above (b ∷ bs) is = refl

first-part : (a b c d : Bool) → (a && b && c && d) ≡ true → a ≡ true
first-part true b c d is = refl
first-part false b c d is = is

row-above : (r : Row) → is_row r ≡ true → is_above [] [] r ≡ true
row-above r is =
    let less = name-above r.owner (first-part (is_name r.owner) (is_key r.key) (is_version r.version) (is_value r.value) is) in
    rw less refl

above-start : (xs : List live.LiveRow) (n : ℕ) → live.AreAscending xs → list_all is_row (take n (map message_row xs)) ≡ true → are_rows_above [] [] (take n (map message_row xs)) ≡ true
above-start xs zero up each = refl
above-start [] (suc n) up each = refl
above-start (x ∷ xs) (suc n) up each =
    above-told [] [] (x ∷ xs) (suc n) up (λ y rest is. head-above x xs y rest is (row-above (message_row x) (and_parts (is_row (message_row x)) (list_all is_row (take n (map message_row xs))) each).0))
  where
    head-above : (x : live.LiveRow) (xs : List live.LiveRow) (y : live.LiveRow) (rest : List live.LiveRow) → x ∷ xs ≡ y ∷ rest → is_above [] [] (message_row x) ≡ true → is_above [] [] (message_row y) ≡ true
    head-above x xs y rest is above = let same : x ≡ y = cc in subst (λ (z : live.LiveRow). is_above [] [] (message_row z) ≡ true) same above

-- such a front makes a page
pub page-rows : (budget : ℕ) (more : Bool) (rows : List Row) (xs : List live.LiveRow) → budget ≤ 65536 → live.AreAscending xs
    → IsLongestPage budget (map message_row xs) (rows_of more rows) → list_all is_row rows ≡ true → are_page_rows rows ≡ true
page-rows budget more rows xs most up page each =
    let front : rows ≡ take page.count (map message_row xs) = page.rows in
    let above : are_rows_above [] [] (take page.count (map message_row xs)) ≡ true = above-start xs page.count up (ap (list_all is_row) (sym front) ∙ each) in
    let within : rows_frame_length rows ≤ budget = page.fits in
    and_from (are_rows_above [] [] rows) (nat_le (rows_length rows) PAYLOAD_MOST) (ap (are_rows_above [] []) front ∙ above) (le-leb (rows_length rows) PAYLOAD_MOST (omega arith))

module _ (budget : ℕ) (more : Bool) (rows : List Row) (ask : Ask) (page : NodeView) (asked : List live.LiveRow) (read : asked ≡ live.rows_behind ask.after ask.owner ask.prefix page)
    (front : IsLongestPage budget (map message_row asked) (rows_of more rows)) where
  pub answered-front : IsLongestPage budget (asked_rows ask page) (rows_of more rows)
  answered-front = subst (λ (xs : List live.LiveRow). IsLongestPage budget (map message_row xs) (rows_of more rows)) read front

  -- so the page is made
  pub answered : (result : Result Rows Fault) → budget ≤ 65536 → list_all is_row rows ≡ true
      → result ≡ (if are_page_rows rows then Ok (rows_of more rows) else Err (Malformed KIND_ROWS)) → result ≡ Ok (rows_of more rows)
  answered result most each made =
      let up : live.AreAscending asked = subst live.AreAscending (sym read) (ascending ask.after ask.owner ask.prefix page) in
      let good : are_page_rows rows ≡ true = page-rows budget more rows asked most up front each in
      made ∙ ap (λ (b : Bool). if b then Ok (rows_of more rows) else Err (Malformed KIND_ROWS)) good
