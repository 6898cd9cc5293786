-- The content that a log's tables hold.
use Rattle.std.proofs.Common.{◌≡◌, ℕ, ◌<◌, ◌≤◌, max, Bool, true, false, ◌&&◌, ◌||◌, cond, nat_lt, nat_le, List, [], ◌∷◌, length, Result, Ok, Err, OnOk, refl, sym, ap, subst, ◌∙◌, arith}
use Rattle.std.proofs.lemmas.Bool.{and_parts, leb-true, ltb-false}
use Rattle.std.proofs.lemmas.Bool.Decides.{nat_tests}
use Rattle.std.specs.List.{list_all}
use Rattle.std.specs.Prelude.{IfOk, IsOk}
use Rattle.sqlite_value.specs.Order.{Row}
use Rattle.sqlite_trees.specs.Tree.{Trees}
use Rattle.sqlite_catalog.specs.Listing.{IsSound}
use Rattle.sb_types.specs.declared.fault.Fault.{Fault}
use Rattle.sb_types.specs.declared.limits.TheConstants.{VERSION_MOST}
use Rattle.sb_types.specs.Records.{Entry, Table}
use Rattle.sb_types.specs.Runs.{are_ascending, entries_after, is_set, last_version, live_entries, entries_without_keys}
use Rattle.sb_types.proofs.Live.{live-above, live-live}
use Rattle.sb_table.specs.Plain.{IsPlainTable, plain_table, with_entry, is_full_for}
use Rattle.sb_table.specs.Floors.{IsKeptTable, table_at_floor}
use Rattle.sb_table.specs.Contents.{IsContent}
use Rattle.sb_table.proofs.Ascent.{last_version-push, last_version-filter}
use Rattle.sb_table.proofs.Keeping.{kept-with_entry, kept-raised}
use Rattle.sb_table.proofs.Merging.{length-filter_le}
use Rattle.sb_table.proofs.Plain.{IsPlainTable-with_entry, plain_table-entered}
use Rattle.sb_log.specs.Rows.{AreRowsOf, Enters, Drops, CanSay, is_kept, number_of, last_in, floor_in, content_by, content_of}
use Rattle.sb_log.specs.Form.{newest_form, log_schema}
use Rattle.sb_log.specs.Opening.{IsNamedIn}
use Rattle.sb_log.specs.Puts.{content_after_purge}
use Rattle.sb_log.specs.Standing.{HoldsContent}
use Rattle.sb_log.proofs.Naming.{one_named, cell}
use Rattle.sb_log.proofs.Unique.{plain_is, entries_are}

-- what the row of meta says
pub said : (form : ℕ) (owner cluster : List ℕ) (last floor : ℕ) (metas : List Row) → IsNamedIn form owner cluster last floor metas → (last_in metas ≡ last) × (floor_in metas ≡ floor)
said form owner cluster last floor metas named =
    let one = one_named form owner cluster last floor metas named in (
      ap last_in one.1 ∙ ap number_of (cell form owner cluster last floor one.0 one.2 4),
      ap floor_in one.1 ∙ ap number_of (cell form owner cluster last floor one.0 one.2 5),
    )

content_is : (form : ℕ) (owner cluster : List ℕ) (last floor : ℕ) (t : Table) (metas rows : List Row) → IsNamedIn form owner cluster last floor metas → AreRowsOf t rows
    → content_of metas rows ≡ content_by last floor t.entries
content_is form owner cluster last floor t metas rows named are =
    let says = said form owner cluster last floor metas named in
    λ i. content_by (says.0 i) (says.1 i) (entries_are rows t are i)

pub holds_is : (owner cluster : List ℕ) (content : Table) (entries : List Entry) (db : Trees) → HoldsContent owner cluster content entries db → content_of (db 0) (db 1) ≡ content
holds_is owner cluster content entries db holds =
    content_is 2 owner cluster holds.last content.floor (plain_table entries) (db 0) (db 1) holds.named holds.rows ∙ sym holds.is

-- ---- what can be said

last_from : (a b : ℕ) (es : List Entry) → last_version a es ≤ max a (last_version b es)
last_from a b [] = omega arith
last_from a b (x ∷ xs) = omega arith

-- without the removals up to the floor the last entry is as late, or no later than the floor
last_live : (floor before : ℕ) (es : List Entry) → last_version before es ≤ max floor (last_version before (live_entries floor es))
last_live floor before [] = omega arith
last_live floor before (x ∷ xs) = grind (arith, nat_tests, last_live floor x.version xs, last_from x.version before (live_entries floor xs))

most_in : (before : ℕ) (es : List Entry) → before ≤ VERSION_MOST → list_all is_kept es ≡ true → last_version before es ≤ VERSION_MOST
most_in before [] le kept = le
most_in before (e ∷ es) le kept =
    let parts = and_parts _ _ kept in most_in e.version es (leb-true e.version VERSION_MOST (and_parts _ _ parts.0).1) parts.1

pub kept_most : (result : Result Table Fault) → IfOk result IsPlainTable → IfOk result (λ t. list_all is_kept t.entries ≡ true) → IfOk result (λ t. t.held ≤ VERSION_MOST)
kept_most (Ok t) plain kept = let most = most_in 0 t.entries (omega arith) kept in omega (arith, plain.last, most)
kept_most (Err fault) plain kept = tt

pub never_err : (result : Result Table Fault) (fault : Fault) → IsOk result → result ≡ Err fault → ⊥
never_err (Ok t) fault ok is = cc
never_err (Err other) fault ok is = absurd (cc)

-- what a log of these entries can say makes a content of them
pub said_content : (last floor : ℕ) (es : List Entry) → CanSay last floor es → IsKeptTable (content_by last floor es) → IsContent (content_by last floor es)
said_content last floor es can kept = record { table = kept; held = omega (arith, can.reach, last_live floor 0 es) }

pub holds_content : (owner cluster : List ℕ) (content : Table) (entries : List Entry) (db : Trees) → HoldsContent owner cluster content entries db → IsContent content
holds_content owner cluster content entries db holds =
    subst IsContent (sym holds.is) (said_content holds.last content.floor entries holds.can (subst IsKeptTable holds.is holds.table))

pub holds_most : (owner cluster : List ℕ) (content : Table) (entries : List Entry) (db : Trees) → HoldsContent owner cluster content entries db → content.held ≤ VERSION_MOST
holds_most owner cluster content entries db holds =
    let most = most_in 0 entries (omega arith) holds.rows.kept in omega (arith, ap (λ (t : Table). t.held) holds.is, holds.can.most, most)

-- a content can say itself
pub says_again : (t : Table) → IsContent t → t.held ≤ VERSION_MOST → CanSay t.held t.floor t.entries
says_again t is most = record { order = is.table.is.floor; reach = is.held; most = most }

pub content_again : (t : Table) → IsKeptTable t → content_by t.held t.floor t.entries ≡ t
content_again t kept =
    let held : max t.held (last_version 0 t.entries) ≡ t.held = omega (arith, kept.is.run.most) in
    λ i. record { held = held i; floor = t.floor; entries = kept.is.live i }

-- so it stays one with an entry, and with a higher floor
pub entered_content : (t new : Table) (e : Entry) → new ≡ with_entry t e → IsKeptTable new → IsContent new
entered_content t new e is kept =
    let last : last_version 0 (entries_after t.entries (e ∷ [])) ≡ e.version = last_version-push 0 (entries_without_keys (e ∷ []) t.entries) e in
    let reach = subst (λ (u : Table). last_version 0 u.entries ≡ e.version) (sym is) last in
    record { table = kept; held = omega (arith, ap (λ (u : Table). u.held) is, reach) }

pub raised_content : (floor : ℕ) (t new : Table) → IsContent t → t.floor ≤ floor → new ≡ table_at_floor t.held floor t → IsKeptTable new → IsContent new
raised_content floor t new is rises same kept =
    subst IsContent (sym same) (record { table = subst IsKeptTable same kept; held = omega (arith, is.held, rises, last_live floor 0 t.entries) })

-- ---- the test of what is said

module _ (last floor greatest : ℕ) (t : Table) (plain : IsPlainTable t) (is : greatest ≡ t.held) where
  pub said_so : (nat_le floor last && (nat_le last VERSION_MOST && nat_le last (max floor greatest))) ≡ true → CanSay last floor t.entries
  said_so all =
      let parts = and_parts _ _ all in
      let more = and_parts _ _ parts.1 in
      let reach = leb-true last (max floor greatest) more.1 in
      record { order = leb-true floor last parts.0; reach = omega (arith, reach, is, plain.last); most = leb-true last VERSION_MOST more.0 }

  module _ (new : Table) (same : new ≡ table_at_floor (max last greatest) floor t) where
    content_made : new ≡ content_by last floor t.entries
    content_made = same ∙ (λ i. record { held = max last ((is ∙ plain.last) i); floor = floor; entries = live_entries floor t.entries })

    pub content_kept : CanSay last floor t.entries → IsKeptTable new → IsContent new
    content_kept can kept = subst IsContent (sym content_made) (said_content last floor t.entries can (subst IsKeptTable content_made kept))

-- ---- without a floor

no_floor : (es : List Entry) → are_ascending 0 es ≡ true → content_by 0 0 es ≡ plain_table es
no_floor es up =
    let most : max 0 (last_version 0 es) ≡ last_version 0 es = omega arith in
    let all : live_entries 0 es ≡ es = live-above 0 0 es (omega arith) up in
    λ i. record { held = most i; floor = 0; entries = all i }

pub kept_plain : (t : Table) → IsPlainTable t → IsKeptTable t
kept_plain t plain = record {
  is = record {
    run = plain.run;
    floor = omega (arith, plain.floor);
    live = ap (λ (n : ℕ). live_entries n t.entries) plain.floor ∙ live-above 0 0 t.entries (omega arith) plain.run.ascending;
  };
  limit = plain.limit;
}

pub plain_is_content : (t : Table) → IsPlainTable t → IsContent t
plain_is_content t plain = record { table = kept_plain t plain; held = omega (arith, plain.last) }

pub holds_plain : (owner cluster : List ℕ) (t : Table) (db : Trees) → IsNamedIn newest_form owner cluster 0 0 (db 0) → AreRowsOf t (db 1) → HoldsContent owner cluster t t.entries db
holds_plain owner cluster t db named are = record {
  last = 0;
  named = subst (λ (n : ℕ). IsNamedIn newest_form owner cluster 0 n (db 0)) (sym are.plain.floor) named;
  can = record { order = omega (arith, are.plain.floor); reach = omega arith; most = omega arith };
  rows = subst (λ (u : Table). AreRowsOf u (db 1)) (plain_is t are.plain) are;
  table = kept_plain t are.plain;
  is = plain_is t are.plain ∙ sym (no_floor t.entries are.plain.run.ascending) ∙ ap (λ (n : ℕ). content_by 0 n t.entries) (sym are.plain.floor);
}

pub plain_content : (owner cluster : List ℕ) (t : Table) (db : Trees) → IsNamedIn newest_form owner cluster 0 0 (db 0) → AreRowsOf t (db 1) → content_of (db 0) (db 1) ≡ t
plain_content owner cluster t db named are = holds_is owner cluster t t.entries db (holds_plain owner cluster t db named are)

-- ---- as it is opened

none_dead : (floor : ℕ) (es : List Entry) → length es ≤ length (live_entries floor es) → live_entries floor es ≡ es
none_dead floor [] most = refl
none_dead floor (x ∷ xs) most = go (is_set x.slot || nat_lt floor x.version) most (none_dead floor xs)
  where
    go : (b : Bool) → length (x ∷ xs) ≤ length (cond b (x ∷ live_entries floor xs) (live_entries floor xs)) → (length xs ≤ length (live_entries floor xs) → live_entries floor xs ≡ xs) → cond b (x ∷ live_entries floor xs) (live_entries floor xs) ≡ x ∷ xs
    go true le rest = ap (λ (l : List Entry). x ∷ l) (rest (omega (arith, le)))
    go false le rest = absurd (omega (arith, le, length-filter_le (λ e. is_set e.slot || nat_lt floor e.version) xs))

-- where as many entries live as have rows, all live
pub all_live : (last floor : ℕ) (found t : Table) → t ≡ content_by last floor found.entries → nat_lt (length t.entries) (length found.entries) ≡ false → live_entries floor found.entries ≡ found.entries
all_live last floor found t is few =
    let same : length t.entries ≡ length (live_entries floor found.entries) = ap (λ (u : Table). length u.entries) is in
    none_dead floor found.entries (omega (arith, same, ltb-false (length t.entries) (length found.entries) few))

module _ (owner cluster : List ℕ) (last floor : ℕ) (found : Table) (plain : IsPlainTable found) (can : CanSay last floor found.entries) (db : Trees)
    (named : IsNamedIn newest_form owner cluster last floor (db 0)) (rows : AreRowsOf (plain_table (live_entries floor found.entries)) (db 1)) where
  cleared_is : content_by last floor found.entries ≡ content_by last floor (live_entries floor found.entries)
  cleared_is =
      let less = last_version-filter (λ e. is_set e.slot || nat_lt floor e.version) 0 0 found.entries (omega arith) plain.run.ascending in
      let held : max last (last_version 0 found.entries) ≡ max last (last_version 0 (live_entries floor found.entries)) = omega (arith, less, can.order, last_live floor 0 found.entries) in
      let twice : live_entries floor found.entries ≡ live_entries floor (live_entries floor found.entries) = sym (live-live floor found.entries) in
      λ i. record { held = held i; floor = floor; entries = twice i }

  -- once no removal up to the floor has a row
  pub cleared_holds : (t : Table) → t ≡ content_by last floor found.entries → IsContent t → HoldsContent owner cluster t t.entries db
  cleared_holds t is content =
      subst (λ (u : Table). HoldsContent owner cluster u u.entries db) (sym is) (record {
        last = last;
        named = named;
        can = record { order = can.order; reach = omega (arith, can.reach, last_live floor 0 found.entries); most = can.most };
        rows = rows;
        table = subst IsKeptTable is content.table;
        is = cleared_is;
      })

-- ---- with an entry

module _ (owner cluster : List ℕ) (content : Table) (db : Trees) (holds : HoldsContent owner cluster content content.entries db) where
  held_is : content.held ≡ max holds.last (last_version 0 content.entries)
  held_is = ap (λ (t : Table). t.held) holds.is

  module _ (e : Entry) (later : content.held < e.version) (room : is_full_for e.key content.entries ≡ false) where
    kept : IsKeptTable (with_entry content e)
    kept = kept-with_entry content e holds.table later room

    plain : IsPlainTable (with_entry (plain_table content.entries) e)
    plain = IsPlainTable-with_entry (plain_table content.entries) e holds.rows.plain (omega (arith, held_is, later)) room

    entered_is : with_entry content e ≡ content_by holds.last content.floor (entries_after content.entries (e ∷ []))
    entered_is =
        let last : last_version 0 (entries_after content.entries (e ∷ [])) ≡ e.version = last_version-push 0 (entries_without_keys (e ∷ []) content.entries) e in
        let held : e.version ≡ max holds.last (last_version 0 (entries_after content.entries (e ∷ []))) = omega (arith, last, held_is, later) in
        let all : entries_after content.entries (e ∷ []) ≡ live_entries content.floor (entries_after content.entries (e ∷ [])) = sym kept.is.live in
        λ i. record { held = held i; floor = content.floor; entries = all i }

    pub entered_holds : (after : Trees) → Enters e (db 1) (after 1) → after 0 ≡ db 0 → HoldsContent owner cluster (with_entry content e) (with_entry content e).entries after
    entered_holds after enters same = record {
      last = holds.last;
      named = subst (IsNamedIn newest_form owner cluster holds.last content.floor) (sym same) holds.named;
      can =
          let last : last_version 0 (entries_after content.entries (e ∷ [])) ≡ e.version = last_version-push 0 (entries_without_keys (e ∷ []) content.entries) e in
          record { order = holds.can.order; reach = omega (arith, last, held_is, later); most = holds.can.most };
      rows = subst (λ (t : Table). AreRowsOf t (after 1)) (sym (plain_table-entered content.entries e)) (enters (plain_table content.entries) plain holds.rows);
      table = kept;
      is = entered_is;
    }

  -- ---- with a higher floor

  module _ (floor : ℕ) (rises : content.floor ≤ floor) (order : floor ≤ content.held) where
    purged_is : content_after_purge floor content ≡ table_at_floor content.held floor content
    purged_is = go (nat_le floor content.floor) refl
      where
        go : (b : Bool) → nat_le floor content.floor ≡ b → cond b content (table_at_floor content.held floor content) ≡ table_at_floor content.held floor content
        go true le =
            let same : content.floor ≡ floor = omega (arith, leb-true floor content.floor le, rises) in
            let all : content.entries ≡ live_entries floor content.entries = sym holds.table.is.live ∙ ap (λ (n : ℕ). live_entries n content.entries) same in
            λ i. record { held = content.held; floor = same i; entries = all i }
        go false gt = refl

    abbrev lives : Entry → Bool
    lives e = is_set e.slot || nat_lt floor e.version

    is : IsContent content
    is = holds_content owner cluster content content.entries db holds

    least : last_version 0 (live_entries floor content.entries) ≤ content.held
    least = omega (arith, last_version-filter lives 0 0 content.entries (omega arith) holds.table.is.run.ascending, holds.table.is.run.most)

    module _ (after : Trees) (named : IsNamedIn newest_form owner cluster content.held floor (after 0)) where
      -- the removals up to it may still have rows
      pub raised_holds : (es : List Entry) → live_entries floor es ≡ live_entries floor content.entries → last_version 0 es ≤ content.held → content.held ≤ max floor (last_version 0 es) → AreRowsOf (plain_table es) (after 1)
          → HoldsContent owner cluster (content_after_purge floor content) es after
      raised_holds es same most reach rows =
          let held : content.held ≡ max content.held (last_version 0 es) = omega (arith, most) in
          subst (λ (t : Table). HoldsContent owner cluster t es after) (sym purged_is) (record {
            last = content.held;
            named = named;
            can = record { order = order; reach = reach; most = holds_most owner cluster content content.entries db holds };
            rows = rows;
            table = kept-raised content.held floor content holds.table (omega arith) order;
            is = λ i. record { held = held i; floor = floor; entries = sym same i };
          })

      -- the rows are as before
      pub floored_holds : after 1 ≡ db 1 → HoldsContent owner cluster (content_after_purge floor content) content.entries after
      floored_holds same =
          raised_holds content.entries refl (omega (arith, holds.table.is.run.most)) (omega (arith, is.held, rises)) (subst (λ (rows : List Row). AreRowsOf (plain_table content.entries) rows) (sym same) holds.rows)

      pub purged_holds : Drops floor (db 1) (after 1) → HoldsContent owner cluster (content_after_purge floor content) (content_after_purge floor content).entries after
      purged_holds drops =
          subst (λ (es : List Entry). HoldsContent owner cluster (content_after_purge floor content) es after) (sym (ap (λ (t : Table). t.entries) purged_is))
          (raised_holds (live_entries floor content.entries) (live-live floor content.entries) least (omega (arith, is.held, rises, last_live floor 0 content.entries)) (drops (plain_table content.entries) holds.rows))

    -- ---- by two statements, of which the first says the floor and the second takes the rows out

    module _ (held : ℕ) (held_same : content.held ≡ held) where
      says : (db' : Trees) → IsNamedIn newest_form owner cluster held floor (db' 0) → IsNamedIn newest_form owner cluster content.held floor (db' 0)
      says db' named = subst (λ (n : ℕ). IsNamedIn newest_form owner cluster n floor (db' 0)) (sym held_same) named

      abbrev pub Leaves : Trees → Type 0
      Leaves left = IsSound log_schema left × ((entries : List Entry) × HoldsContent owner cluster (content_after_purge floor content) entries left)

      pub first_leaves : (left : Trees) → IsSound log_schema left × ((left 1 ≡ db 1) × IsNamedIn newest_form owner cluster held floor (left 0)) → Leaves left
      first_leaves left did = (did.0, (content.entries, floored_holds left (says left did.1.1) did.1.0))

      module _ (mid : Trees) (rows : mid 1 ≡ db 1) (named : IsNamedIn newest_form owner cluster held floor (mid 0)) where
        dropped : (after : Trees) → Drops floor (mid 1) (after 1) → after 0 ≡ mid 0 → HoldsContent owner cluster (content_after_purge floor content) (content_after_purge floor content).entries after
        dropped after drops meta =
            purged_holds after (subst (IsNamedIn newest_form owner cluster content.held floor) (sym meta) (says mid named)) (subst (λ (before : List Row). Drops floor before (after 1)) rows drops)

        pub second_holds : {E : Type 0} (result : Result (Unit {0}) E) (after : Trees) → OnOk result (Drops floor (mid 1) (after 1) × (after 0 ≡ mid 0))
            → OnOk result (HoldsContent owner cluster (content_after_purge floor content) (content_after_purge floor content).entries after)
        second_holds (Ok done) after did = dropped after did.0 did.1
        second_holds (Err cause) after did = tt

        pub second_leaves : (left : Trees) → IsSound log_schema left × (Drops floor (mid 1) (left 1) × (left 0 ≡ mid 0)) → Leaves left
        second_leaves left did = (did.0, ((content_after_purge floor content).entries, dropped left did.1.0 did.1.1))
