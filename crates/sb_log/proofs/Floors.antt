-- From what the statements that raise a floor do to what a log promises of it.
use Rattle.std.proofs.Common.{None, ◌≡◌, ◌⊎◌, inl, inr, ℕ, ◌<◌, ◌≤◌, Bool, true, false, cond, nat_lt, nat_le, true≢false, List, [], ◌∷◌, Ok, Err, IsTrue, refl, sym, ap, subst, ◌∙◌, arith}
use Rattle.std.proofs.lemmas.Bool.{le-leb, lt-ltb, leb-true, ltb-true}
use Rattle.std.proofs.lemmas.Bool.Decides.{nat_tests}
use Rattle.sqlite_trees.specs.declared.store.Store.{Ghosts}
use Rattle.sqlite_trees.specs.Tree.{Trees}
use Rattle.sqlite_trees.specs.View.{doubt}
use Rattle.sqlite_trees.proofs.Doubt.{clean_of, no_doubt}
use Rattle.sqlite.specs.Held.{Held, state}
use Rattle.sqlite.specs.State.{HasCleanDisk}
use Rattle.sqlite_catalog.specs.Listing.{IsSound}
use Rattle.sb_types.specs.declared.fault.Fault.TheVariants.{StoreFailed, FloorTooHigh}
use Rattle.sb_types.specs.Records.{Entry, Table}
use Rattle.sb_types.specs.Runs.{live_entries}
use Rattle.sb_types.proofs.Live.{live-live}
use Rattle.sb_table.specs.Floors.{IsKeptTable, table_at_floor}
use Rattle.sb_table.specs.Contents.{IsContent}
use Rattle.sb_log.specs.Form.{log_schema}
use Rattle.sb_log.specs.Records.{Log}
use Rattle.sb_log.specs.Puts.{Stays, IsSure, Purges, content_after_purge}
use Rattle.sb_log.specs.Standing.{IsReady, HoldsContent, IsKept, MayLeave}
use Rattle.sb_log.specs.Sql.{SqlView, log_in}
use Rattle.sb_log.proofs.Contents.{holds_is}
use Rattle.sb_log.proofs.Keeping.{found_in, settles}

-- ---- what a higher floor leaves

lower : (floor more : ℕ) (es : List Entry) → floor ≤ more → live_entries floor (live_entries more es) ≡ live_entries more es
lower floor more [] le = refl
lower floor more (x ∷ xs) le = grind (arith, nat_tests, lower floor more xs le)

-- no removal up to the floor
pub purged_gone : (floor : ℕ) (t : Table) → IsKeptTable t → live_entries floor (content_after_purge floor t).entries ≡ (content_after_purge floor t).entries
purged_gone floor t kept = go (nat_le floor t.floor) refl
  where
    go : (b : Bool) → nat_le floor t.floor ≡ b → live_entries floor (cond b t (table_at_floor t.held floor t)).entries ≡ (cond b t (table_at_floor t.held floor t)).entries
    go true le =
        ap (live_entries floor) (sym kept.is.live) ∙ lower floor t.floor t.entries (leb-true floor t.floor le) ∙ kept.is.live
    go false gt = live-live floor t.entries

pub purged_same : (floor : ℕ) (t : Table) → floor ≤ t.floor → content_after_purge floor t ≡ t
purged_same floor t le = ap (λ (b : Bool). cond b t (table_at_floor t.held floor t)) (le-leb floor t.floor le)

pub purged_raised : (floor : ℕ) (t : Table) → t.floor < floor → content_after_purge floor t ≡ table_at_floor t.held floor t
purged_raised floor t gt = go (nat_le floor t.floor) refl
  where
    go : (b : Bool) → nat_le floor t.floor ≡ b → cond b t (table_at_floor t.held floor t) ≡ table_at_floor t.held floor t
    go true le = absurd (omega (arith, gt, leb-true floor t.floor le))
    go false more = refl

-- ---- of any log that stands, and has this content

module _ (old : Log) (up : old.is_open ≡ true) (table : Table) (is : IsContent table) (shown : old.is_clean ≡ true → old.content ≡ table) (floor : ℕ) where
  ok_open : ◌≡◌ {A = Bool} old.is_open false → ⊥
  ok_open shut = absurd (true≢false (sym up ∙ shut))

  -- it is above the last version
  pub too_high : table.held < floor → Purges old floor (Err FloorTooHigh) old
  too_high high =
      record {
        stays = record { owner = refl; cluster = refl; most = refl; clean = λ c. c; sure = λ s. s };
        closed = (λ e. absurd (cc), λ shut. absurd (ok_open shut));
        idle = λ clean _ le.
            let held = ap (λ (t : Table). t.held) (shown clean) in
            let same = ap (λ (t : Table). t.floor) (shown clean) in
            absurd (omega (arith, high, le, same, is.table.is.floor));
        done = tt;
        refused = record {
          reason = λ clean _. sym (ap (λ (b : Bool). cond b FloorTooHigh StoreFailed) (ap (λ (t : Table). nat_lt t.held floor) (shown clean) ∙ lt-ltb table.held floor high));
          unchanged = λ _. refl;
          closes = λ e. absurd (cc);
          sure = λ _ e. cc;
        };
      }

  -- it is not above the present one
  pub as_high : floor ≤ table.floor → Purges old floor (Ok tt) old
  as_high le =
      record {
        stays = record { owner = refl; cluster = refl; most = refl; clean = λ c. c; sure = λ s. s };
        closed = (λ e. absurd (cc), λ shut. absurd (ok_open shut));
        idle = λ _ _ _. (refl, refl);
        done = record {
          is_open = up;
          fits = λ clean. let held = ap (λ (t : Table). t.held) (shown clean) in omega (arith, le, held, is.table.is.floor);
          content = λ clean. sym (purged_same floor old.content (let same = ap (λ (t : Table). t.floor) (shown clean) in omega (arith, le, same)));
          gone = λ clean.
              subst (λ (t : Table). live_entries floor t.entries ≡ t.entries) (sym (shown clean))
              (subst (λ (t : Table). live_entries floor t.entries ≡ t.entries) (purged_same floor table le) (purged_gone floor table is.table));
        };
        refused = tt;
      }

  module _ (fits : floor ≤ table.held) (higher : table.floor < floor) (new : Log) (stays : Stays old new) where
    never_idle : old.is_clean ≡ true → floor ≤ old.content.floor → ⊥
    never_idle clean le = let same = ap (λ (t : Table). t.floor) (shown clean) in omega (arith, le, same, higher)

    -- it is raised
    pub raises : new.is_open ≡ true → (new.is_clean ≡ true → new.content ≡ content_after_purge floor table) → Purges old floor (Ok tt) new
    raises still content =
        record {
          stays = stays;
          closed = (λ e. absurd (cc), λ shut. absurd (ok_open shut));
          idle = λ clean _ le. absurd (never_idle clean le);
          done = record {
            is_open = still;
            fits = λ clean. let held = ap (λ (t : Table). t.held) (shown (stays.clean clean)) in omega (arith, fits, held);
            content = λ clean. content clean ∙ ap (content_after_purge floor) (sym (shown (stays.clean clean)));
            gone = λ clean. subst (λ (t : Table). live_entries floor t.entries ≡ t.entries) (sym (content clean)) (purged_gone floor table is.table);
          };
          refused = tt;
        }

    -- the store failed
    pub fails_to_raise : new.is_open ≡ false → (IsSure old → ⊥) → Purges old floor (Err StoreFailed) new
    fails_to_raise shut unsure =
        record {
          stays = stays;
          closed = (λ e. absurd (cc), λ shut. absurd (ok_open shut));
          idle = λ clean _ le. absurd (never_idle clean le);
          done = tt;
          refused = record {
            reason = λ clean _. sym (ap (λ (b : Bool). cond b FloorTooHigh StoreFailed) (ap (λ (t : Table). nat_lt t.held floor) (shown (stays.clean clean)) ∙ not_above));
            unchanged = λ other. absurd (other refl);
            closes = λ _. shut;
            sure = λ s. absurd (unsure s);
          };
        }
      where
        not_above : nat_lt table.held floor ≡ false
        not_above = go (nat_lt table.held floor) refl
          where
            go : (b : Bool) → nat_lt table.held floor ≡ b → b ≡ false
            go true lt = absurd (let more = ltb-true table.held floor lt in omega (arith, more, fits))
            go false ge = refl

-- ---- of one in a database

module _ {S : Type 0} (g : Ghosts S) (settled : (s : S) (db : Trees) → IsTrue (g.view s).is_open → g.recovers s db → db ≡ (g.view s).committed) (owner cluster : List ℕ) (most : ℕ) (is_open : Bool) (up : is_open ≡ true)
    (conn : Held S) (table : Table) (kept : IsKept g owner cluster conn table is_open) (is : IsContent table) where
  abbrev view : Bool → Held S → SqlView S
  view b h = record { owner = owner; cluster = cluster; most = most; is_open = b; cause = None; conn = h }

  abbrev before : Log
  before = log_in g (view is_open conn)

  shown : (g.view conn.store).is_clean ≡ true → before.content ≡ table
  shown clean = holds_is owner cluster table table.entries (g.view conn.store).trees (kept up (no_doubt _ clean)).1

  pub holds_too_high : (floor : ℕ) → table.held < floor → Purges before floor (Err FloorTooHigh) before
  holds_too_high floor high = too_high before up table is shown floor high

  pub holds_as_high : (floor : ℕ) → floor ≤ table.floor → Purges before floor (Ok tt) before
  holds_as_high floor le = as_high before up table is shown floor le

  -- its tables hold just that
  pub still_holds : HasCleanDisk (state g conn) → HoldsContent owner cluster before.content before.content.entries (g.view conn.store).trees
  still_holds clean =
      subst (λ (t : Table). HoldsContent owner cluster t t.entries (g.view conn.store).trees) (sym (shown (clean_of _ clean))) (kept up clean).1

  module _ (floor : ℕ) (fits : floor ≤ table.held) (higher : table.floor < floor) (conn' : Held S) (clean_stays : doubt (g.view conn.store).is_clean ≤ doubt (g.view conn'.store).is_clean) where
    was_clean : (g.view conn'.store).is_clean ≡ true → (g.view conn.store).is_clean ≡ true
    was_clean now = let none = no_doubt _ now in clean_of _ (omega (arith, clean_stays, none))

    stays : (b : Bool) → Stays before (log_in g (view b conn'))
    stays b = record { owner = refl; cluster = refl; most = refl; clean = was_clean; sure = λ s. absurd (cc) }

    pub sql_fails : Purges before floor (Err StoreFailed) (log_in g (view false conn'))
    sql_fails = fails_to_raise before up table is shown floor fits higher (log_in g (view false conn')) (stays false) refl (λ s. absurd (cc))

    -- what `raise_floor` does
    abbrev RaisesIt : Type 0
    RaisesIt = HasCleanDisk (state g conn') → IsReady (state g conn) → (owner' cluster' : List ℕ) (content : Table) → HoldsContent owner' cluster' content content.entries (state g conn).now.trees
        → content.held ≡ table.held → content.floor ≤ floor → HoldsContent owner' cluster' (content_after_purge floor content) (content_after_purge floor content).entries (state g conn').now.trees

    now_holds : RaisesIt → (g.view conn'.store).is_clean ≡ true → HoldsContent owner cluster (content_after_purge floor table) (content_after_purge floor table).entries (g.view conn'.store).trees
    now_holds did clean =
        let stands = kept up (no_doubt _ (was_clean clean)) in did (no_doubt _ clean) stands.0 owner cluster table stands.1 refl (omega (arith, higher))

    now_shown : RaisesIt → (g.view conn'.store).is_clean ≡ true → (log_in g (view is_open conn')).content ≡ content_after_purge floor table
    now_shown did clean = holds_is owner cluster (content_after_purge floor table) (content_after_purge floor table).entries (g.view conn'.store).trees (now_holds did clean)

    pub sql_raises : RaisesIt → Purges before floor (Ok tt) (log_in g (view is_open conn'))
    sql_raises did = raises before up table is shown floor fits higher (log_in g (view is_open conn')) (stays is_open) up (now_shown did)

    pub holds_raised : RaisesIt → HasCleanDisk (state g conn')
        → HoldsContent owner cluster (log_in g (view is_open conn')).content (log_in g (view is_open conn')).content.entries (g.view conn'.store).trees
    holds_raised did clean =
        let now = clean_of _ clean in
        subst (λ (t : Table). HoldsContent owner cluster t t.entries (g.view conn'.store).trees) (sym (now_shown did now)) (now_holds did now)

    pub kept_raised : (table' : Table) → table' ≡ table_at_floor table.held floor table → RaisesIt
        → (HasCleanDisk (state g conn') → IsReady (state g conn) → (owner' cluster' : List ℕ) (content : Table) → HoldsContent owner' cluster' content content.entries (state g conn).now.trees → IsReady (state g conn'))
        → IsKept g owner cluster conn' table' is_open
    kept_raised table' same did ready _ clean =
        let now = clean_of _ clean in
        let stands = kept up (no_doubt _ (was_clean now)) in (
          ready clean stands.0 owner cluster table stands.1,
          subst (λ (t : Table). HoldsContent owner cluster t t.entries (g.view conn'.store).trees) (purged_raised floor table higher ∙ sym same) (now_holds did now),
        )

    pub survives_raise : (HasCleanDisk (state g conn') → IsReady (state g conn) → (owner' cluster' : List ℕ) (content : Table) → HoldsContent owner' cluster' content content.entries (state g conn).now.trees
        → content.held ≡ table.held → content.floor ≤ floor → (db : Trees) → g.recovers conn'.store db
        → g.recovers conn.store db ⊎ (IsSound log_schema db × ((entries : List Entry) × HoldsContent owner' cluster' (content_after_purge floor content) entries db)))
        → (g.view conn'.store).is_clean ≡ true → (left : Table) → MayLeave g owner cluster conn' left → (left ≡ before.content) ⊎ (left ≡ content_after_purge floor before.content)
    survives_raise crash clean left may =
        let stands = kept up (no_doubt _ (was_clean clean)) in
        elim (crash (no_doubt _ clean) stands.0 owner cluster table stands.1 refl (omega (arith, higher)) may.0 may.1) [
          | inl was ↦ inl (settles g settled owner cluster conn table is_open kept (was_clean clean) up left (may.0, was, may.2))
          | inr did ↦ inr (
              found_in g settled owner cluster (content_after_purge floor table) did.1.0 may.0 did.0 did.1.1 left may.2
              ∙ ap (content_after_purge floor) (sym (shown (was_clean clean)))
              )
        ]
