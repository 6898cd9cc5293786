-- A table with a floor stays one.
use Rattle.std.proofs.Common.{◌≡◌, ℕ, ◌≤◌, ◌<◌, true, false, Bool, List, ◌++◌, [], ◌∷◌, ◌&&◌, ◌||◌, nat_lt, nat_le, if◌then◌else◌, length, Result, Ok, Err, OnOk, OnErr, refl, sym, ap, subst, ◌∙◌, arith, lt-ltb}
use Rattle.std.proofs.lemmas.Bool.{and_from, and_parts, leb-true}
use Rattle.sb_types.specs.declared.fault.Fault.{Fault}
use Rattle.sb_types.specs.declared.fault.Fault.TheVariants.{TableFull}
use Rattle.sb_types.specs.Faults.{Gives}
use Rattle.sb_types.specs.declared.limits.TheConstants.{KEYS_MOST}
use Rattle.sb_types.specs.Records.{Entry, Table, Stage}
use Rattle.sb_types.specs.Runs.{IsRun, newer_entries, entries_up_to, entries_with_keys, entries_after, has_key, is_set, live_entries, are_ascending, are_distinct, last_version}
use Rattle.sb_types.proofs.Live.{live-live, live-above, live-entered}
use Rattle.sb_table.specs.Plain.{IsPlainTable, plain_table, with_entry, is_full_for}
use Rattle.sb_table.specs.Floors.{IsKeptTable, IsKeptStage, are_live, are_table_entries, merged_entries, table_at_floor, stage_with_entry, table_after_swap}
use Rattle.sb_table.proofs.Order.{run_kept, run_entered}
use Rattle.sb_table.proofs.Enter.{length-entered}
use Rattle.sb_table.proofs.Plain.{IsPlainTable-with_entry}
use Rattle.sb_table.proofs.Merging.{length-filter_le, swapped_run, length-swapped, live-merged, plain-run}

abbrev lives : ℕ → Entry → Bool
lives floor entry = is_set entry.slot || nat_lt floor entry.version

run_further : {a u v : ℕ} {es : List Entry} → u ≤ v → IsRun a u es → IsRun a v es
run_further {a} {u} {v} {es} l r = record { ascending = r.ascending; most = omega (arith, r.most, l); distinct = r.distinct }

pub kept-raised : (upto floor : ℕ) (t : Table) → IsKeptTable t → t.held ≤ upto → floor ≤ upto → IsKeptTable (table_at_floor upto floor t)
kept-raised upto floor t kept further order = record {
  is = record {
    run = run_further further (run_kept (lives floor) kept.is.run);
    floor = order;
    live = live-live floor t.entries;
  };
  limit = omega (arith, kept.limit, length-filter_le (lives floor) t.entries);
}

module _ (t : Table) (s : Stage) where
  module _ (kept : IsKeptTable t) (staged : IsKeptStage s) (beyond : t.held ≤ s.progress) where
    pub kept-swapped : s.floor ≤ s.progress → IsKeptTable (table_after_swap t s)
    kept-swapped reach = record {
      is = record {
        run = swapped_run kept.is.run staged.run s.floor beyond;
        floor = reach;
        live = live-live s.floor (merged_entries t.held s.entries t.entries);
      };
      limit = omega (arith, staged.limit, length-swapped kept.is.run staged.run s.floor);
    }

    whole : IsPlainTable (plain_table (live_entries s.floor (merged_entries t.held s.entries t.entries)))
    whole = plain-run (swapped_run kept.is.run staged.run s.floor beyond) (omega (arith, staged.limit, length-swapped kept.is.run staged.run s.floor))

    pub front-plain : IsPlainTable (plain_table (live_entries s.floor (entries_with_keys (entries_up_to t.held s.entries) t.entries)))
    front-plain = plain-run (run_kept (lives s.floor) (run_kept (λ entry. has_key entry.key (entries_up_to t.held s.entries)) kept.is.run))
        (omega (arith, kept.limit, length-filter_le (lives s.floor) (entries_with_keys (entries_up_to t.held s.entries) t.entries), length-filter_le (λ entry. has_key entry.key (entries_up_to t.held s.entries)) t.entries))

    pub both-plain : IsPlainTable (plain_table (live_entries s.floor (entries_with_keys (entries_up_to t.held s.entries) t.entries) ++ live_entries s.floor (newer_entries t.held s.entries)))
    both-plain = subst (λ (es : List Entry). IsPlainTable (plain_table es)) (live-merged s.floor t.held s.entries t.entries) whole

  pub joined-is : (new into : Table) → new ≡ plain_table [] → into ≡ plain_table (new.entries ++ live_entries s.floor (entries_with_keys (entries_up_to t.held s.entries) t.entries))
      → into.entries ≡ live_entries s.floor (entries_with_keys (entries_up_to t.held s.entries) t.entries)
  joined-is new into empty is =
      ap (λ (u : Table). u.entries) is ∙ ap (λ (u : Table). u.entries ++ live_entries s.floor (entries_with_keys (entries_up_to t.held s.entries) t.entries)) empty

  pub swapped-is : (into : Table) → into ≡ plain_table (live_entries s.floor (entries_with_keys (entries_up_to t.held s.entries) t.entries) ++ live_entries s.floor (newer_entries t.held s.entries))
      → ◌≡◌ {A = Table} (table_after_swap t s) (record { held = s.progress; floor = s.floor; entries = into.entries })
  swapped-is into is =
      ap (λ (es : List Entry). let u : Table = record { held = s.progress; floor = s.floor; entries = es } in u)
      (live-merged s.floor t.held s.entries t.entries ∙ sym (ap (λ (u : Table). u.entries) is))

one_run : (held : ℕ) (e : Entry) → held < e.version → IsRun held e.version (e ∷ [])
one_run held e l = record { ascending = and_from _ _ (lt-ltb held e.version l) refl; most = omega arith; distinct = refl }

pub kept-with_entry : (t : Table) (e : Entry) → IsKeptTable t → t.held < e.version → is_full_for e.key t.entries ≡ false → IsKeptTable (with_entry t e)
kept-with_entry t e kept later room =
    let one = one_run t.held e later in
    record {
      is = record {
        run = run_entered kept.is.run one;
        floor = omega (arith, kept.is.floor, later);
        live = live-entered t.floor t.entries (e ∷ []) kept.is.live (live-above t.floor t.held (e ∷ []) kept.is.floor one.ascending);
      };
      limit = length-entered e t.entries KEYS_MOST kept.limit room;
    }

kept-stage_with_entry : (s : Stage) (e : Entry) → IsKeptStage s → s.progress < e.version → is_full_for e.key s.entries ≡ false → IsKeptStage (stage_with_entry s e)
kept-stage_with_entry s e kept later room = record { run = run_entered kept.run (one_run s.progress e later); limit = length-entered e s.entries KEYS_MOST kept.limit room }

abbrev table_of : ℕ → ℕ → List Entry → Table
table_of held floor es = record { held = held; floor = floor; entries = es }

abbrev stage_of : ℕ → ℕ → List Entry → Stage
stage_of floor progress es = record { floor = floor; progress = progress; entries = es }

-- where a push went well there was room
pub had_room : (r : Result (Unit {0}) Fault) (full : Bool) → Gives r (if full then Err TableFull else Ok tt) → OnOk r (full ≡ false)
had_room (Ok u) true gives = absurd (cc)
had_room (Ok u) false gives = refl
had_room (Err fault) full gives = tt

-- what `push` leaves, whichever way it ends
pub kept-pushed : (r : Result (Unit {0}) Fault) (old : Table) (new : Table) (e : Entry) (upto floor : ℕ) (n : ℕ)
    → OnOk r ((new.entries ≡ entries_after old.entries (e ∷ [])) × (n ≡ e.version)) → OnErr r ((new ≡ old) × (n ≡ upto))
    → IsKeptTable (record { held = upto; floor = floor; entries = old.entries }) → upto < e.version → OnOk r (is_full_for e.key old.entries ≡ false)
    → IsKeptTable (record { held = n; floor = floor; entries = new.entries })
kept-pushed (Ok u) old new e upto floor n ok err kept later room =
    rw (ok.0, ok.1) (kept-with_entry (table_of upto floor old.entries) e kept later room)
kept-pushed (Err fault) old new e upto floor n ok err kept later room = rw (ap (λ (t : Table). t.entries) err.0, err.1) kept

-- a table that has no floor has none then
pub plain-pushed : (r : Result (Unit {0}) Fault) (old : Table) (new : Table) (e : Entry) (upto floor : ℕ) (n : ℕ)
    → OnOk r ((new.entries ≡ entries_after old.entries (e ∷ [])) × (n ≡ e.version)) → OnErr r ((new ≡ old) × (n ≡ upto))
    → IsPlainTable (record { held = upto; floor = floor; entries = old.entries }) → upto < e.version → OnOk r (is_full_for e.key old.entries ≡ false)
    → IsPlainTable (record { held = n; floor = floor; entries = new.entries })
plain-pushed (Ok u) old new e upto floor n ok err plain later room =
    rw (ok.0, ok.1) (IsPlainTable-with_entry (table_of upto floor old.entries) e plain later room)
plain-pushed (Err fault) old new e upto floor n ok err plain later room = rw (ap (λ (t : Table). t.entries) err.0, err.1) plain

pub kept-stage_pushed : (r : Result (Unit {0}) Fault) (old : Table) (new : Table) (e : Entry) (progress floor : ℕ) (n : ℕ)
    → OnOk r ((new.entries ≡ entries_after old.entries (e ∷ [])) × (n ≡ e.version)) → OnErr r ((new ≡ old) × (n ≡ progress))
    → IsKeptStage (record { floor = floor; progress = progress; entries = old.entries }) → progress < e.version → OnOk r (is_full_for e.key old.entries ≡ false)
    → IsKeptStage (record { floor = floor; progress = n; entries = new.entries })
kept-stage_pushed (Ok u) old new e progress floor n ok err kept later room =
    rw (ok.0, ok.1) (kept-stage_with_entry (stage_of floor progress old.entries) e kept later room)
kept-stage_pushed (Err fault) old new e progress floor n ok err kept later room = rw (ap (λ (t : Table). t.entries) err.0, err.1) kept

live-are_live : (floor : ℕ) (es : List Entry) → are_live floor es ≡ true → live_entries floor es ≡ es
live-are_live floor [] each = refl
live-are_live floor (x ∷ xs) each = grind (arith, live-are_live floor xs)

pub kept-restored : (upto floor : ℕ) (es : List Entry) → are_table_entries upto floor es ≡ true → length es ≤ KEYS_MOST → IsKeptTable (table_of upto floor es)
kept-restored upto floor es are few =
    let whole = and_parts (nat_le floor upto) _ are in
    let parts = and_parts (are_ascending 0 es && (nat_le (last_version 0 es) upto && are_live floor es)) (are_distinct es) whole.1 in
    let rising = and_parts (are_ascending 0 es) _ parts.0 in
    let within = and_parts (nat_le (last_version 0 es) upto) (are_live floor es) rising.1 in
    record {
      is = record {
        run = record { ascending = rising.0; most = leb-true (last_version 0 es) upto within.0; distinct = parts.1 };
        floor = leb-true floor upto whole.0;
        live = live-are_live floor es within.1;
      };
      limit = few;
    }
