-- From what the statement by which a log begins behind a version does to what a log promises of it.
use Rattle.std.proofs.Common.{None, ◌≡◌, ◌≢◌, ◌⊎◌, inl, inr, ℕ, ◌<◌, ◌≤◌, ◌+◌, max, Bool, true, false, ◌==◌, ◌||◌, cond, nat_lt, true≢false, List, [], ◌∷◌, Result, Ok, Err, OnOk, IsTrue, refl, sym, ap, subst, ◌∙◌, arith}
use Rattle.std.proofs.lemmas.Bool.{and_parts, ltb-true}
use Rattle.std.proofs.lemmas.Bool.Decides.{nat_tests}
use Rattle.sqlite_value.specs.Order.{Row}
use Rattle.sqlite_trees.specs.declared.store.Store.{Ghosts}
use Rattle.sqlite_trees.specs.Tree.{Trees}
use Rattle.sqlite_trees.specs.View.{doubt}
use Rattle.sqlite_trees.proofs.Doubt.{clean_of, no_doubt}
use Rattle.sqlite.specs.Held.{Held, state}
use Rattle.sqlite.specs.State.{HasCleanDisk}
use Rattle.sqlite_catalog.specs.Listing.{IsSound}
use Rattle.sb_types.specs.declared.fault.Fault.{Fault}
use Rattle.sb_types.specs.declared.fault.Fault.TheVariants.{BadSetting, Closed, StoreFailed, OutOfTurn}
use Rattle.sb_types.specs.declared.limits.TheConstants.{VERSION_MOST}
use Rattle.sb_types.specs.Records.{Entry, Table}
use Rattle.sb_types.specs.Runs.{are_ascending, last_version}
use Rattle.sb_table.specs.Plain.{plain_table}
use Rattle.sb_table.specs.Floors.{IsKeptTable, table_at_floor}
use Rattle.sb_table.specs.Contents.{IsContent}
use Rattle.sb_log.specs.Form.{newest_form, log_schema}
use Rattle.sb_log.specs.Records.{Log}
use Rattle.sb_log.specs.Rows.{AreRowsOf}
use Rattle.sb_log.specs.Opening.{IsNamedIn}
use Rattle.sb_log.specs.Puts.{Stays, Begins, begin_fault, nothing_up_to}
use Rattle.sb_log.specs.Standing.{IsReady, HoldsContent, IsKept, MayLeave}
use Rattle.sb_log.specs.Sql.{SqlView, log_in}
use Rattle.sb_log.proofs.Contents.{holds_is}
use Rattle.sb_log.proofs.Keeping.{found_in, same_fault, settles}

-- ---- the content

-- the last of ascending versions is the greatest
pub last_least : (last : ℕ) (es : List Entry) → are_ascending last es ≡ true → last ≤ last_version last es
last_least last [] up = omega arith
last_least last (x ∷ xs) up =
    let parts = and_parts (nat_lt last x.version) (are_ascending x.version xs) up in omega (arith, ltb-true last x.version parts.0, last_least x.version xs parts.1)

no_entries : (es : List Entry) → are_ascending 0 es ≡ true → last_version 0 es ≤ 0 → es ≡ []
no_entries [] up most = refl
no_entries (x ∷ xs) up most =
    let parts = and_parts (nat_lt 0 x.version) (are_ascending x.version xs) up in
    absurd (omega (arith, ltb-true 0 x.version parts.0, last_least x.version xs parts.1, most))

-- a table that holds up to no version is empty
pub nothing_held : (t : Table) → IsKeptTable t → t.held ≡ 0 → t ≡ plain_table []
nothing_held t kept none =
    let entries : t.entries ≡ [] = no_entries t.entries kept.is.run.ascending (omega (arith, none, kept.is.run.most)) in
    let floor : t.floor ≡ 0 = omega (arith, none, kept.is.floor) in
    λ i. record { held = none i; floor = floor i; entries = entries i }

-- so it is once it is raised
pub raised_nothing : (after : ℕ) (t : Table) → IsContent t → t.held ≡ 0 → table_at_floor after after t ≡ nothing_up_to after
raised_nothing after t is none = ap (table_at_floor after after) (nothing_held t is.table none)

nothing_kept : (after : ℕ) → IsKeptTable (nothing_up_to after)
nothing_kept after = record {
  is = record { run = record { ascending = refl; most = omega arith; distinct = refl }; floor = omega arith; live = refl };
  limit = omega arith;
}

pub nothing_content : (after : ℕ) → IsContent (nothing_up_to after)
nothing_content after = record { table = nothing_kept after; held = omega arith }

-- the tables that held nothing, with this last version, which is the floor
pub begins_in : (owner cluster : List ℕ) (after : ℕ) (db now : Trees) → after ≤ VERSION_MOST → HoldsContent owner cluster (plain_table []) [] db → now 1 ≡ db 1 → IsNamedIn newest_form owner cluster after after (now 0)
    → HoldsContent owner cluster (nothing_up_to after) [] now
begins_in owner cluster after db now most holds same named =
    let held : after ≡ max after 0 = omega arith in
    record {
      last = after;
      named = named;
      can = record { order = omega arith; reach = omega arith; most = most };
      rows = subst (λ (rows : List Row). AreRowsOf (plain_table []) rows) (sym same) holds.rows;
      table = nothing_kept after;
      is = λ i. record { held = held i; floor = after; entries = [] };
    }

pub begins_by : {E : Type 0} (owner cluster : List ℕ) (after : ℕ) (db now : Trees) → after ≤ VERSION_MOST → HoldsContent owner cluster (plain_table []) [] db → (result : Result (Unit {0}) E)
    → OnOk result ((now 1 ≡ db 1) × IsNamedIn newest_form owner cluster after after (now 0)) → OnOk result (HoldsContent owner cluster (nothing_up_to after) [] now)
begins_by owner cluster after db now most holds (Ok done) did = begins_in owner cluster after db now most holds did.0 did.1
begins_by owner cluster after db now most holds (Err cause) did = tt

-- ---- of any log that stands, and has this content

inside : (after : ℕ) → 1 ≤ after → after ≤ VERSION_MOST → ((after == 0) || nat_lt VERSION_MOST after) ≡ false
inside after low high = grind (arith, nat_tests)

module _ (old : Log) (up : old.is_open ≡ true) (table : Table) (shown : old.is_clean ≡ true → old.content ≡ table) (after : ℕ) where
  refuses_to_begin : (fault : Fault) → fault ≢ Closed → fault ≢ StoreFailed → fault ≡ begin_fault after table → Begins old after (Err fault) old
  refuses_to_begin fault open_fault kept_fault reason =
      record {
        stays = record { owner = refl; cluster = refl; most = refl; clean = λ c. c; sure = λ s. s };
        closed = (λ e. absurd (open_fault (same_fault e)), λ shut. absurd (true≢false (sym up ∙ shut)));
        done = tt;
        refused = record {
          reason = λ clean _. reason ∙ ap (begin_fault after) (sym (shown clean));
          unchanged = λ _. refl;
          closes = λ e. absurd (kept_fault e);
        };
      }

  pub outside_limits : ((after == 0) || nat_lt VERSION_MOST after) ≡ true → Begins old after (Err BadSetting) old
  outside_limits is =
      refuses_to_begin BadSetting (λ e. cc) (λ e. cc) (sym (ap (λ (b : Bool). cond b BadSetting (cond (table.held == 0) StoreFailed (OutOfTurn (table.held + 1)))) is))

  has_writes : 0 < table.held → (table.held == 0) ≡ false
  has_writes some = grind (arith, nat_tests)

  pub out_of_turn : 1 ≤ after → after ≤ VERSION_MOST → 0 < table.held → Begins old after (Err (OutOfTurn (table.held + 1))) old
  out_of_turn low high some =
      refuses_to_begin (OutOfTurn (table.held + 1)) (λ e. cc) (λ e. cc)
      (sym (
      ap (λ (b : Bool). cond b BadSetting (cond (table.held == 0) StoreFailed (OutOfTurn (table.held + 1)))) (inside after low high)
      ∙ ap (λ (b : Bool). cond b StoreFailed (OutOfTurn (table.held + 1))) (has_writes some)
      ))

  module _ (low : 1 ≤ after) (high : after ≤ VERSION_MOST) (kept : IsKeptTable table) (none : table.held ≡ 0) (new : Log) (stays : Stays old new) where
    pub begins : new.is_open ≡ true → (new.is_clean ≡ true → new.content ≡ nothing_up_to after) → Begins old after (Ok tt) new
    begins still content =
        record {
          stays = stays;
          closed = (λ e. absurd (cc), λ shut. absurd (true≢false (sym up ∙ shut)));
          done = record { is_open = still; limits = (low, high); none = λ clean. shown (stays.clean clean) ∙ nothing_held table kept none; content = content };
          refused = tt;
        }

    store_failed : begin_fault after table ≡ StoreFailed
    store_failed =
        ap (λ (b : Bool). cond b BadSetting (cond (table.held == 0) StoreFailed (OutOfTurn (table.held + 1)))) (inside after low high)
        ∙ ap (λ (n : ℕ). cond (n == 0) StoreFailed (OutOfTurn (n + 1))) none

    pub fails_to_begin : new.is_open ≡ false → Begins old after (Err StoreFailed) new
    fails_to_begin shut =
        record {
          stays = stays;
          closed = (λ e. absurd (cc), λ shut. absurd (true≢false (sym up ∙ shut)));
          done = tt;
          refused = record {
            reason = λ clean _. sym (ap (begin_fault after) (shown (stays.clean clean)) ∙ store_failed);
            unchanged = λ other. absurd (other refl);
            closes = λ _. shut;
          };
        }

-- ---- of one in a database

module _ {S : Type 0} (g : Ghosts S) (settled : (s : S) (db : Trees) → IsTrue (g.view s).is_open → g.recovers s db → db ≡ (g.view s).committed) (owner cluster : List ℕ) (most : ℕ) (is_open : Bool) (up : is_open ≡ true)
    (conn : Held S) (table : Table) (kept : IsKept g owner cluster conn table is_open) (is : IsContent table) (after : ℕ) where
  abbrev view : Bool → Held S → SqlView S
  view b h = record { owner = owner; cluster = cluster; most = most; is_open = b; cause = None; conn = h }

  abbrev before : Log
  before = log_in g (view is_open conn)

  shown : (g.view conn.store).is_clean ≡ true → before.content ≡ table
  shown clean = holds_is owner cluster table table.entries (g.view conn.store).trees (kept up (no_doubt _ clean)).1

  pub sql_outside_limits : ((after == 0) || nat_lt VERSION_MOST after) ≡ true → Begins before after (Err BadSetting) before
  sql_outside_limits = outside_limits before up table shown after

  pub sql_out_of_turn : 1 ≤ after → after ≤ VERSION_MOST → 0 < table.held → Begins before after (Err (OutOfTurn (table.held + 1))) before
  sql_out_of_turn = out_of_turn before up table shown after

  module _ (low : 1 ≤ after) (high : after ≤ VERSION_MOST) (none : table.held ≡ 0) (conn' : Held S) (clean_stays : doubt (g.view conn.store).is_clean ≤ doubt (g.view conn'.store).is_clean) where
    was_clean : (g.view conn'.store).is_clean ≡ true → (g.view conn.store).is_clean ≡ true
    was_clean now = let none' = no_doubt _ now in clean_of _ (omega (arith, clean_stays, none'))

    stays : (b : Bool) → Stays before (log_in g (view b conn'))
    stays b = record { owner = refl; cluster = refl; most = refl; clean = was_clean; sure = λ s. absurd (cc) }

    pub sql_fails_to_begin : Begins before after (Err StoreFailed) (log_in g (view false conn'))
    sql_fails_to_begin = fails_to_begin before up table shown after low high is.table none (log_in g (view false conn')) (stays false) refl

    was_empty : (g.view conn.store).is_clean ≡ true → HoldsContent owner cluster (plain_table []) [] (g.view conn.store).trees
    was_empty clean =
        subst (λ (t : Table). HoldsContent owner cluster t t.entries (g.view conn.store).trees) (nothing_held table is.table none) (kept up (no_doubt _ clean)).1

    -- what `begin_after` does
    abbrev BeginsIt : Type 0
    BeginsIt = HasCleanDisk (state g conn') → IsReady (state g conn) → (owner' cluster' : List ℕ) → HoldsContent owner' cluster' (plain_table []) [] (state g conn).now.trees
        → HoldsContent owner' cluster' (nothing_up_to after) [] (state g conn').now.trees

    now_holds : BeginsIt → (g.view conn'.store).is_clean ≡ true → HoldsContent owner cluster (nothing_up_to after) [] (g.view conn'.store).trees
    now_holds did clean = did (no_doubt _ clean) (kept up (no_doubt _ (was_clean clean))).0 owner cluster (was_empty (was_clean clean))

    pub sql_begins : BeginsIt → Begins before after (Ok tt) (log_in g (view is_open conn'))
    sql_begins did =
        begins before up table shown after low high is.table none (log_in g (view is_open conn')) (stays is_open) up
        (λ clean. holds_is owner cluster (nothing_up_to after) [] (g.view conn'.store).trees (now_holds did clean))

    pub kept_behind : (table' : Table) → table' ≡ nothing_up_to after → BeginsIt
        → (HasCleanDisk (state g conn') → IsReady (state g conn) → (owner' cluster' : List ℕ) → HoldsContent owner' cluster' (plain_table []) [] (state g conn).now.trees → IsReady (state g conn'))
        → IsKept g owner cluster conn' table' is_open
    kept_behind table' same did ready _ clean =
        let now = clean_of _ clean in
        let stands = kept up (no_doubt _ (was_clean now)) in (
          ready clean stands.0 owner cluster (was_empty (was_clean now)),
          subst (λ (t : Table). HoldsContent owner cluster t t.entries (g.view conn'.store).trees) (sym same) (now_holds did now),
        )

    pub survives_begin : (HasCleanDisk (state g conn') → IsReady (state g conn) → (owner' cluster' : List ℕ) → HoldsContent owner' cluster' (plain_table []) [] (state g conn).now.trees → (db : Trees) → g.recovers conn'.store db
        → g.recovers conn.store db ⊎ (IsSound log_schema db × HoldsContent owner' cluster' (nothing_up_to after) [] db))
        → (g.view conn'.store).is_clean ≡ true → (left : Table) → MayLeave g owner cluster conn' left → (left ≡ before.content) ⊎ (left ≡ nothing_up_to after)
    survives_begin crash clean left may =
        let stands = kept up (no_doubt _ (was_clean clean)) in
        elim (crash (no_doubt _ clean) stands.0 owner cluster (was_empty (was_clean clean)) may.0 may.1) [
          | inl was ↦ inl (settles g settled owner cluster conn table is_open kept (was_clean clean) up left (may.0, was, may.2))
          | inr did ↦ inr (found_in g settled owner cluster (nothing_up_to after) [] may.0 did.0 did.1 left may.2)
        ]
