-- Page after page, and what all of them hold.
use Rattle.std.proofs.Common.{◌≡◌, ℕ, ◌+◌, Bool, true, false, not, nat_le, ◌&&◌, List, [], ◌∷◌, ◌++◌, length, drop, Option, Some, None, refl, sym, ap, subst, ◌∙◌}
use Rattle.std.proofs.lemmas.List.{append_assoc, length-append, take-append-drop, take_all}
use Rattle.std.proofs.lemmas.Bool.{ltb-false, and_parts}
use Rattle.std.specs.List.{flat_map, list_all}
use Rattle.std.specs.Option.{is_some}
use Rattle.std.specs.Ordering.{nat_cmp, is_lt, ordering_then}
use Rattle.std.specs.Cmp.Lexicographic.{slice_cmp}
use Rattle.sb_codec.specs.Limits.{is_row, is_page, are_page_rows, are_rows_above}
use Rattle.sb_types.specs.declared.limits.TheConstants.{PAYLOAD_MOST}
use Rattle.sb_codec.specs.Lengths.{rows_length}
use Rattle.sb_codec.specs.declared.message.ask.Ask.{Ask}
use Rattle.sb_codec.specs.Records.{Row, Rows}
use Rattle.sb_views.specs.NodeViews.{NodeView}
use Rattle.sb_views.specs.LiveRows.{is_behind}
use Rattle.sb_query.specs.Pages.{live_row, asked_rows, IsLongestPage}
use Rattle.sb_query.specs.Paging.{Act, asks, Turns, AsksBehind, Leads, Lists, IsPlaceBehind, are_rows_behind, ends_or_has_rows, goes_on}
use Rattle.sb_query.proofs.Following.{pages-follow}

pub first-case : (after : Option (List ℕ × List ℕ)) (row : Row) (rest : List Row) (more : Bool) → are_rows_above row.owner row.key rest ≡ true
    → (are_rows_behind after (row ∷ rest) && ends_or_has_rows more (row ∷ rest)) ≡ is_behind after (live_row row)
first-case None row rest true above = refl
first-case None row rest false above = refl
first-case (Some place) row rest more above = both more (is_behind (Some place) (live_row row)) (are_rows_above row.owner row.key rest) above
  where
    both : (more first others : Bool) → others ≡ true → ((first && others) && ends_or_has_rows more (row ∷ rest)) ≡ first
    both true true true is = refl
    both true false true is = refl
    both false true true is = refl
    both false false true is = refl
    both more first false is = absurd (cc)

-- where the first row of a page lies behind a place, all do
pub first_behind : (after : Option (List ℕ × List ℕ)) (page : Rows) (row : Row) (rest : List Row) → is_page page ≡ true → page.rows ≡ row ∷ rest
    → goes_on after page ≡ is_behind after (live_row row)
first_behind after page row rest is rows =
    let limits = and_parts (list_all is_row page.rows) (are_page_rows page.rows) is in
    let ascend = and_parts (are_rows_above [] [] page.rows) (nat_le (rows_length page.rows) PAYLOAD_MOST) limits.1 in
    let laid : are_rows_above [] [] (row ∷ rest) ≡ true = subst (λ (rs : List Row). are_rows_above [] [] rs ≡ true) rows ascend.0 in
    let others = and_parts (is_lt (ordering_then (slice_cmp nat_cmp [] row.owner) (slice_cmp nat_cmp [] row.key))) (are_rows_above row.owner row.key rest) laid in
    rw rows (first-case after row rest page.more others.1)

none-case : (after : Option (List ℕ × List ℕ)) (more : Bool) → (are_rows_behind after [] && ends_or_has_rows more []) ≡ not more
none-case None true = refl
none-case None false = refl
none-case (Some place) true = refl
none-case (Some place) false = refl

-- a page without rows goes on where it says that none follow
pub none_behind : (after : Option (List ℕ × List ℕ)) (page : Rows) → page.rows ≡ [] → goes_on after page ≡ not page.more
none_behind after page rows = rw rows (none-case after page.more)

pub behind-is : (ask : Ask) (page : Rows) (place : List ℕ × List ℕ) → IsPlaceBehind page (Some place) → AsksBehind ask page (record { owner = ask.owner; prefix = ask.prefix; after = Some place })
behind-is ask page place (front, last, more, rows, is) = record {
  front = front;
  last = last;
  more = more;
  rows = rows;
  next_is = ap (λ (p : List ℕ × List ℕ). record { owner = ask.owner; prefix = ask.prefix; after = Some p }) is;
}

module _ {S : Type 0} (step : S → Act → S → Type 0) where
  -- one more page
  pub leads-on : (old : S) (ask : Ask) (pages : List Rows) (mid : S) (next : Ask) (page : Rows) (new : S) (behind : Ask)
      → Leads step old ask pages mid next → Turns step mid next page new → AsksBehind next page behind → Leads step old ask (pages ++ page ∷ []) new behind
  leads-on old ask [] mid next page new behind leads turns asked =
      let first : Turns step old ask page new = subst (λ (a : Ask). Turns step old a page new) leads.1 (subst (λ (s : S). Turns step s next page new) leads.0 turns) in
      let second : AsksBehind ask page behind = subst (λ (a : Ask). AsksBehind a page behind) leads.1 asked in
      (new, behind, first, second, (refl, refl))
  leads-on old ask (p ∷ ps) mid next page new behind (m, b, t, a, more) turns asked = (m, b, t, a, leads-on m b ps mid next page new behind more turns asked)

  -- pages that were asked for lead on, where more follow behind the next one
  pub leads-further : (old : S) (asked : Ask) (n : ℕ) (mid : S) (ask : Ask) (new : S) (place : Option (List ℕ × List ℕ))
      → ((pages : List Rows) × Leads step old asked pages mid ask × (length pages ≡ n)) → ((page : Rows) × Turns step mid ask page new × IsPlaceBehind page place) → is_some place ≡ true
      → (pages : List Rows) × Leads step old asked pages new (record { owner = ask.owner; prefix = ask.prefix; after = place }) × (length pages ≡ n + 1)
  leads-further old asked n mid ask new None before turned some = absurd (cc)
  leads-further old asked n mid ask new (Some place) (pages, leads, count) (page, turns, behind) some =
      (pages ++ page ∷ [], leads-on old asked pages mid ask page new _ leads turns (behind-is ask page place behind), length-append pages (page ∷ []) ∙ ap (λ (k : ℕ). k + 1) count)

  module _ (view : NodeView) (answers : (old new : S) (ask : Ask) (page : Rows) → step old (asks ask page) new → (budget : ℕ) × IsLongestPage budget (asked_rows ask view) page) where
    -- a page and what is asked for behind it are what was asked for
    page-then : (old new : S) (ask : Ask) (page : Rows) (behind : Ask) → Turns step old ask page new → AsksBehind ask page behind → asked_rows ask view ≡ page.rows ++ asked_rows behind view
    page-then old new ask page behind turns asked =
        let (budget, longest) = answers old turns.answered ask page turns.asks in
        let whole = asked_rows ask view in
        let rest = drop longest.count whole in
        let split : whole ≡ page.rows ++ rest = sym (take-append-drop longest.count whole) ∙ ap (λ (front : List Row). front ++ rest) (sym longest.rows) in
        let laid : whole ≡ asked.front ++ asked.last ∷ rest = split ∙ ap (λ (front : List Row). front ++ rest) asked.rows ∙ append_assoc asked.front (asked.last ∷ []) rest in
        let left : asked_rows behind view ≡ rest = ap (λ (a : Ask). asked_rows a view) asked.next_is ∙ pages-follow ask view asked.front asked.last rest laid in
        split ∙ ap (λ (behind : List Row). page.rows ++ behind) (sym left)

    last-then : (old new : S) (ask : Ask) (page : Rows) → Turns step old ask page new → page.more ≡ false → page.rows ≡ asked_rows ask view
    last-then old new ask page turns none =
        let (budget, longest) = answers old turns.answered ask page turns.asks in
        let whole = asked_rows ask view in
        longest.rows ∙ take_all longest.count whole (ltb-false longest.count (length whole) (sym longest.more ∙ none))

    all-of : (old : S) (ask : Ask) (pages : List Rows) (mid : S) (next : Ask) → Leads step old ask pages mid next → asked_rows ask view ≡ flat_map (λ (p : Rows). p.rows) pages ++ asked_rows next view
    all-of old ask [] mid next leads = sym (ap (λ (a : Ask). asked_rows a view) leads.1)
    all-of old ask (p ∷ ps) mid next (m, b, t, a, more) =
        page-then old m ask p b t a ∙ ap (λ (rest : List Row). p.rows ++ rest) (all-of m b ps mid next more) ∙ sym (append_assoc p.rows (flat_map (λ (q : Rows). q.rows) ps) (asked_rows next view))

    pub lists-all : (old new : S) (ask : Ask) (pages : List Rows) (last : Rows) → Lists step old ask pages last new → flat_map (λ (p : Rows). p.rows) pages ++ last.rows ≡ asked_rows ask view
    lists-all old new ask pages last lists =
        ap (λ (rest : List Row). flat_map (λ (p : Rows). p.rows) pages ++ rest) (last-then lists.before new lists.next last lists.turns lists.none_follow)
        ∙ sym (all-of old ask pages lists.before lists.next lists.leads)
