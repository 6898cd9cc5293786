-- A table stays one when an entry is entered.
use Rattle.std.proofs.Common.{◌≡◌, ℕ, ◌<◌, false, List, [], ◌∷◌, ◌++◌, Result, Ok, Err, refl, sym, ap, subst, ◌∙◌, arith, not, OnOk, OnErr}
use Rattle.sb_types.specs.declared.fault.Fault.{Fault}
use Rattle.sb_types.specs.declared.limits.TheConstants.{KEYS_MOST}
use Rattle.sb_types.specs.Records.{Entry, Table}
use Rattle.sb_types.specs.Runs.{entries_after, has_key, last_version, entries_without_keys}
use Rattle.sb_table.specs.Plain.{IsPlainTable, plain_table, with_entry, is_full_for}
use Rattle.sb_table.proofs.Ascent.{are_ascending-filter, are_ascending-push, last_version-filter, last_version-push}
use Rattle.sb_table.proofs.Enter.{are_distinct-entered, length-entered}

pub plain_table-entered : (es : List Entry) (e : Entry) → plain_table (entries_after es (e ∷ [])) ≡ with_entry (plain_table es) e
plain_table-entered es e =
    ap (λ (n : ℕ). let t : Table = record { held = n; floor = 0; entries = entries_after es (e ∷ []) } in t) (last_version-push 0 (entries_without_keys (e ∷ []) es) e)

pub IsPlainTable-with_entry : (t : Table) (e : Entry) → IsPlainTable t → t.held < e.version → is_full_for e.key t.entries ≡ false → IsPlainTable (with_entry t e)
IsPlainTable-with_entry t e plain later room =
    let keeps = λ (x : Entry). not (has_key x.key (e ∷ [])) in
    let kept = entries_without_keys (e ∷ []) t.entries in
    let last : last_version 0 (kept ++ e ∷ []) ≡ e.version = last_version-push 0 kept e in
    let up = plain.run.ascending in
    let below : last_version 0 kept < e.version = omega (arith, last_version-filter keeps 0 0 t.entries (omega arith) up, plain.last, later) in
    record {
      run = record {
        ascending = are_ascending-push 0 kept e (are_ascending-filter keeps 0 0 t.entries (omega arith) up) below;
        most = omega (arith, last);
        distinct = are_distinct-entered t.entries e plain.run.distinct;
      };
      floor = plain.floor;
      last = sym last;
      limit = length-entered e t.entries KEYS_MOST plain.limit room;
    }

pub nothing_plain : IsPlainTable (plain_table [])
nothing_plain = record { run = record { ascending = refl; most = omega arith; distinct = refl }; floor = refl; last = refl; limit = omega arith }

-- what `push` leaves, whichever way it ends
pub IsPlainTable-pushed : (r : Result (Unit {0}) Fault) (old new : List Entry) (e : Entry) → OnOk r (new ≡ entries_after old (e ∷ [])) → OnErr r (new ≡ old)
    → IsPlainTable (plain_table old) → last_version 0 old < e.version → is_full_for e.key old ≡ false → IsPlainTable (plain_table new)
IsPlainTable-pushed (Ok u) old new e ok err plain later room =
    subst IsPlainTable (sym (ap plain_table ok ∙ plain_table-entered old e)) (IsPlainTable-with_entry (plain_table old) e plain later room)
IsPlainTable-pushed (Err fault) old new e ok err plain later room = subst IsPlainTable (sym (ap plain_table err)) plain

pub plain_table-pushed : (r : Result (Unit {0}) Fault) (old new : List Entry) (e : Entry) → OnOk r (new ≡ entries_after old (e ∷ [])) → OnOk r (plain_table new ≡ with_entry (plain_table old) e)
plain_table-pushed (Ok u) old new e ok = ap plain_table ok ∙ plain_table-entered old e
plain_table-pushed (Err fault) old new e ok = tt
