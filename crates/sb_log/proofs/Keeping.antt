-- From what the statements of a log in a database do to what a log promises.
use Rattle.std.proofs.Common.{◌≡◌, ◌≢◌, ◌⊎◌, inl, inr, ℕ, ◌<◌, ◌≤◌, Bool, true, false, cond, nat_le, true≢false, List, Option, Some, None, Result, Ok, Err, IsTrue, refl, sym, ap, subst, ◌∙◌, arith}
use Rattle.sqlite_trees.specs.declared.store.Store.{Ghosts}
use Rattle.sqlite_value.specs.Order.{Row}
use Rattle.sqlite_trees.specs.Tree.{Trees}
use Rattle.sqlite_trees.specs.View.{doubt}
use Rattle.sqlite_trees.proofs.Doubt.{clean_of, no_doubt}
use Rattle.sqlite.specs.Held.{Held, state}
use Rattle.sqlite.specs.State.{HasCleanDisk}
use Rattle.sqlite.specs.Effect.{Database}
use Rattle.sqlite_catalog.specs.Listing.{IsSound}
use Rattle.sqlite_schema.specs.declared.schema.Schema.{Schema}
use Rattle.sb_types.specs.declared.entry.Slot.{Slot}
use Rattle.sb_types.specs.declared.fault.Fault.{Fault}
use Rattle.sb_log.specs.declared.cause.LogError.{LogError}
use Rattle.sb_log.specs.declared.cause.LogError.TheVariants as other
use Rattle.sb_log.specs.Cause.{fault_of, IsReadingFault}
use Rattle.sb_types.specs.declared.fault.Fault.TheVariants.{NoMemory, TableFull, VersionsSpent, NothingThere, Closed, StoreFailed, LogDamaged}
use Rattle.sb_types.specs.Records.{Entry, Table}
use Rattle.sb_table.specs.Plain.{plain_table, with_entry, is_full_for}
use Rattle.sb_table.specs.Contents.{IsContent}
use Rattle.sb_log.specs.Records.{Committed, Log}
use Rattle.sb_log.specs.Puts.{is_idle, Puts, Loads, refusal, next_entry, next_content, IsReason}
use Rattle.sb_log.specs.Form.{newest_form, log_schema}
use Rattle.sb_log.specs.Rows.{AreRowsOf, CanSay, Enters, content_by, content_of}
use Rattle.sb_log.specs.Opening.{IsNamed, IsNamedIn}
use Rattle.sb_log.specs.Standing.{IsReady, HoldsContent, IsKept, Finds, MayLeave}
use Rattle.sb_log.specs.Sql.{SqlView, log_in}
use Rattle.sb_log.proofs.Contents.{holds_is, holds_content, holds_most, says_again, content_again, entered_holds}
use Rattle.sb_log.proofs.Refusals.{has_room}
use Rattle.sb_log.proofs.Unique.{one_table}

pub same_fault : {A : Type 0} {a b : Fault} → ◌≡◌ {A = Result A Fault} (Err a) (Err b) → a ≡ b
same_fault e = cc

pub read_fault : (e : LogError) (fault : Fault) → e ≡ other.Fault fault → IsReadingFault e → fault_of e ≢ StoreFailed
read_fault (other.Store cause) fault is reading stored = absurd (cc)
read_fault (other.Fault met) fault is (inl memory) stored = cc
read_fault (other.Fault met) fault is (inr damaged) stored = cc

pub never_closed : {A : Type 0} (a : A) → ◌≡◌ {A = Result A Fault} (Ok a) (Err Closed) → ⊥
never_closed a e = absurd (cc)

-- a write that is refused is refused for one of these
pub other_reasons : (most : ℕ) (t : Table) (key : List ℕ) (slot : Slot) (fault : Fault) → refusal most t key slot ≡ Some fault → (fault ≢ Closed) × (fault ≢ StoreFailed)
other_reasons most t key slot fault is = go (is_idle t key slot) (is_full_for key t.entries) (nat_le most t.held) is
  where
    go : (idle full spent : Bool) → cond idle (Some NothingThere) (cond full (Some TableFull) (cond spent (Some VersionsSpent) None)) ≡ Some fault → (fault ≢ Closed) × (fault ≢ StoreFailed)
    go true full spent is = (λ e. cc, λ e. cc)
    go false true spent is = (λ e. cc, λ e. cc)
    go false false true is = (λ e. cc, λ e. cc)
    go false false false is = absurd (cc)

-- of any log that stands
module _ (old : Log) (up : old.is_open ≡ true) (key : List ℕ) (slot : Slot) where
  refuses_reason : (fault : Fault) → fault ≢ Closed → fault ≢ StoreFailed → IsReason (refusal old.most old.content key slot) fault → Puts old key slot (Err fault) old
  refuses_reason fault open_fault kept_fault reason =
      record {
        stays = record { owner = refl; cluster = refl; most = refl; clean = λ c. c; sure = λ s. s };
        closed = (λ e. absurd (open_fault (same_fault e)), λ shut. absurd (true≢false (sym up ∙ shut)));
        kept = tt;
        refused = record { reason = λ _ _. reason; unchanged = λ _. refl; closes = λ e. absurd (kept_fault e); sure = λ _. kept_fault };
      }

  pub log_refuses : (fault : Fault) → ((f : Fault) → refusal old.most old.content key slot ≡ Some f → fault ≡ f) → (refusal old.most old.content key slot ≡ None → fault ≡ NoMemory) → Puts old key slot (Err fault) old
  log_refuses fault known memory = go (refusal old.most old.content key slot) refl
    where
      go : (o : Option Fault) → refusal old.most old.content key slot ≡ o → Puts old key slot (Err fault) old
      go (Some f) is =
          let others = other_reasons old.most old.content key slot f is in
          let same = known f is in
          refuses_reason fault (λ e. others.0 (sym same ∙ e)) (λ e. others.1 (sym same ∙ e)) (subst (λ (o : Option Fault). IsReason o fault) (sym is) same)
      go None is =
          let same = memory is in
          refuses_reason fault (λ e. let c : NoMemory ≡ Closed = sym same ∙ e in cc) (λ e. let c : NoMemory ≡ StoreFailed = sym same ∙ e in cc)
          (subst (λ (o : Option Fault). IsReason o fault) (sym is) (inl same))

module _ {S : Type 0} (g : Ghosts S) (settled : (s : S) (db : Trees) → IsTrue (g.view s).is_open → g.recovers s db → db ≡ (g.view s).committed) (owner cluster : List ℕ) where
  in_two : (table : Table) (last floor : ℕ) (rows : List Row) → IsNamedIn newest_form owner cluster last floor rows → CanSay last floor table.entries → IsNamed owner cluster table last floor rows
  in_two table last floor rows named can = (2, inr refl, named, can)

  pub found_in : (content : Table) (entries : List Entry) (db : Trees) → IsSound log_schema db → HoldsContent owner cluster content entries db → (left : Table) → Finds owner cluster db left → left ≡ content
  found_in content entries db sound holds left finds =
      finds holds.last content.floor (plain_table entries) sound (in_two (plain_table entries) holds.last content.floor (db 0) holds.named holds.can) holds.rows ∙ holds_is owner cluster content entries db holds

  -- after a crash what a log that stands holds is found
  left_is : (conn : Held S) (table : Table) → IsReady (state g conn) → HoldsContent owner cluster table table.entries (state g conn).now.trees → (left : Table) → MayLeave g owner cluster conn left → left ≡ table
  left_is conn table ready holds left may =
      let same : may.0 ≡ (state g conn).now.trees = settled conn.store may.0 ready.is_open may.1 ∙ sym (ap (λ (d : Database). d.trees) ready.settled) in
      found_in table table.entries (state g conn).now.trees (subst (λ (s : Schema). IsSound s (state g conn).now.trees) ready.schema ready.sound) holds left (subst (λ (trees : Trees). Finds owner cluster trees left) same may.2)

  pub settles : (conn : Held S) (table : Table) (is_open : Bool) → IsKept g owner cluster conn table is_open → (g.view conn.store).is_clean ≡ true → is_open ≡ true
      → (left : Table) → MayLeave g owner cluster conn left → left ≡ content_of ((g.view conn.store).trees 0) ((g.view conn.store).trees 1)
  settles conn table is_open kept clean up left may =
      let stands = kept up (no_doubt _ clean) in left_is conn table stands.0 stands.1 left may ∙ sym (holds_is owner cluster table table.entries (g.view conn.store).trees stands.1)

  module _ (most : ℕ) (is_open : Bool) (up : is_open ≡ true) (conn : Held S) (table : Table) (kept : IsKept g owner cluster conn table is_open) where
    abbrev pub view_with : Bool → Held S → SqlView S
    view_with b h = record { owner = owner; cluster = cluster; most = most; is_open = b; cause = None; conn = h }

    abbrev before : Log
    before = log_in g (view_with is_open conn)

    -- its content is the table
    shown : (g.view conn.store).is_clean ≡ true → before.content ≡ table
    shown clean = holds_is owner cluster table table.entries (g.view conn.store).trees (kept up (no_doubt _ clean)).1

    module _ (key : List ℕ) (slot : Slot) where
      -- it is tested on what the log holds
      tested : (g.view conn.store).is_clean ≡ true → refusal most before.content key slot ≡ refusal most table key slot
      tested clean = ap (λ (t : Table). refusal most t key slot) (shown clean)

      pub refuses_known : (fault : Fault) → refusal most table key slot ≡ Some fault → Puts before key slot (Err fault) before
      refuses_known fault is =
          let others = other_reasons most table key slot fault is in
          record {
            stays = record { owner = refl; cluster = refl; most = refl; clean = λ c. c; sure = λ s. absurd (cc) };
            closed = (λ e. absurd (others.0 (let f : fault ≡ Closed = cc in f)), λ shut. absurd (true≢false (sym up ∙ shut)));
            kept = tt;
            refused = record {
              reason = λ clean _. subst (λ (o : Option Fault). IsReason o fault) (sym (tested clean ∙ is)) refl;
              unchanged = λ _. refl;
              closes = λ e. absurd (others.1 e);
              sure = λ _. others.1;
            };
          }

      pub refuses_memory : refusal most table key slot ≡ None → Puts before key slot (Err NoMemory) before
      refuses_memory is =
          record {
            stays = record { owner = refl; cluster = refl; most = refl; clean = λ c. c; sure = λ s. absurd (cc) };
            closed = (λ e. absurd (cc), λ shut. absurd (true≢false (sym up ∙ shut)));
            kept = tt;
            refused = record {
              reason = λ clean _. subst (λ (o : Option Fault). IsReason o NoMemory) (sym (tested clean ∙ is)) (inl refl);
              unchanged = λ _. refl;
              closes = λ e. absurd (cc);
              sure = λ _ e. cc;
            };
          }

      pub refuses : (fault : Fault) → ((f : Fault) → refusal most table key slot ≡ Some f → fault ≡ f) → (refusal most table key slot ≡ None → fault ≡ NoMemory) → Puts before key slot (Err fault) before
      refuses fault known memory = go (refusal most table key slot) refl
        where
          go : (o : Option Fault) → refusal most table key slot ≡ o → Puts before key slot (Err fault) before
          go (Some f) is = subst (λ (x : Fault). Puts before key slot (Err x) before) (sym (known f is)) (refuses_known f is)
          go None is = subst (λ (x : Fault). Puts before key slot (Err x) before) (sym (memory is)) (refuses_memory is)

      module _ (conn' : Held S) (clean_stays : doubt (g.view conn.store).is_clean ≤ doubt (g.view conn'.store).is_clean) where
        was_clean : (g.view conn'.store).is_clean ≡ true → (g.view conn.store).is_clean ≡ true
        was_clean now = let none = no_doubt _ now in clean_of _ (omega (arith, clean_stays, none))

        pub fails : refusal most table key slot ≡ None → Puts before key slot (Err StoreFailed) (log_in g (view_with false conn'))
        fails is =
            record {
              stays = record { owner = refl; cluster = refl; most = refl; clean = was_clean; sure = λ s. absurd (cc) };
              closed = (λ e. absurd (cc), λ shut. absurd (true≢false (sym up ∙ shut)));
              kept = tt;
              refused = record {
                reason = λ clean _. subst (λ (o : Option Fault). IsReason o StoreFailed) (sym (tested (was_clean clean) ∙ is)) (inr refl);
                unchanged = λ other. absurd (other refl);
                closes = λ _. refl;
                sure = λ s. absurd (cc);
              };
            }

        module _ (e : Entry) (entry : e ≡ next_entry table key slot) (fits : refusal most table key slot ≡ None) where
          later : table.held < e.version
          later = omega (arith, ap (λ (x : Entry). x.version) entry)

          room : is_full_for e.key table.entries ≡ false
          room = subst (λ (k : List ℕ). is_full_for k table.entries ≡ false) (sym (ap (λ (x : Entry). x.key) entry)) (has_room most table key slot fits)

          -- with the content before it
          entered_is : (g.view conn.store).is_clean ≡ true → with_entry table e ≡ next_content before key slot
          entered_is clean = ap (with_entry table) entry ∙ ap (λ (t : Table). with_entry t (next_entry t key slot)) (sym (shown clean))

          abbrev EntersRow : Type 0
          EntersRow = HasCleanDisk (state g conn') → IsReady (state g conn) → Enters e ((state g conn).now.trees 1) ((state g conn').now.trees 1)

          abbrev SparesMeta : Type 0
          SparesMeta = HasCleanDisk (state g conn') → IsReady (state g conn) → (state g conn').now.trees 0 ≡ (state g conn).now.trees 0

          now_holds : EntersRow → SparesMeta → (g.view conn'.store).is_clean ≡ true → HoldsContent owner cluster (with_entry table e) (with_entry table e).entries (g.view conn'.store).trees
          now_holds enters meta clean =
              let stands = kept up (no_doubt _ (was_clean clean)) in
              entered_holds owner cluster table (g.view conn.store).trees stands.1 e later room (g.view conn'.store).trees (enters (no_doubt _ clean) stands.0) (meta (no_doubt _ clean) stands.0)

          pub keeps : (c : Committed) → c ≡ record { owner = owner; entry = e } → EntersRow → SparesMeta → Puts before key slot (Ok c) (log_in g (view_with is_open conn'))
          keeps c is enters meta =
              record {
                stays = record { owner = refl; cluster = refl; most = refl; clean = was_clean; sure = λ s. absurd (cc) };
                closed = (λ e. absurd (never_closed c e), λ shut. absurd (true≢false (sym up ∙ shut)));
                kept = record {
                  is_open = up;
                  owner = ap (λ (x : Committed). x.owner) is;
                  fits = λ clean. tested (was_clean clean) ∙ fits;
                  entry = λ clean. ap (λ (x : Committed). x.entry) is ∙ entry ∙ ap (λ (t : Table). next_entry t key slot) (sym (shown (was_clean clean)));
                  content = λ clean.
                      holds_is owner cluster (with_entry table e) (with_entry table e).entries (g.view conn'.store).trees (now_holds enters meta clean)
                      ∙ sym (λ i. with_entry (shown (was_clean clean) i) (is i).entry);
                };
                refused = tt;
              }

          pub now_kept : (table' : Table) → table' ≡ with_entry table e → EntersRow → (HasCleanDisk (state g conn') → IsReady (state g conn) → IsReady (state g conn')) → SparesMeta
              → IsKept g owner cluster conn' table' is_open
          now_kept table' is enters ready meta _ clean =
              let clean' = clean_of _ clean in (
                ready clean (kept up (no_doubt _ (was_clean clean'))).0,
                subst (λ (t : Table). HoldsContent owner cluster t t.entries (g.view conn'.store).trees) (sym is) (now_holds enters meta clean'),
              )

          pub survives : (HasCleanDisk (state g conn') → IsReady (state g conn) → (db : Trees) → g.recovers conn'.store db
              → g.recovers conn.store db ⊎ (IsSound log_schema db × (Enters e ((state g conn).now.trees 1) (db 1) × (db 0 ≡ (state g conn).now.trees 0))))
              → (g.view conn'.store).is_clean ≡ true → (left : Table) → MayLeave g owner cluster conn' left → (left ≡ before.content) ⊎ (left ≡ next_content before key slot)
          survives crash clean left may =
              let stands = kept up (no_doubt _ (was_clean clean)) in
              elim (crash (no_doubt _ clean) stands.0 may.0 may.1) [
                | inl was ↦ inl (settles conn table is_open kept (was_clean clean) up left (may.0, was, may.2))
                | inr put ↦ inr (
                    found_in (with_entry table e) (with_entry table e).entries may.0 put.0
                    (entered_holds owner cluster table (g.view conn.store).trees stands.1 e later room may.0 put.1.0 put.1.1) left may.2
                    ∙ entered_is (was_clean clean)
                    )
              ]

    -- ---- reading it again

    module _ (conn' : Held S) (clean_stays : doubt (g.view conn.store).is_clean ≤ doubt (g.view conn'.store).is_clean) where
      still_clean : (g.view conn'.store).is_clean ≡ true → (g.view conn.store).is_clean ≡ true
      still_clean now = let none = no_doubt _ now in clean_of _ (omega (arith, clean_stays, none))

      abbrev Read : Type 0
      Read = HasCleanDisk (state g conn') → IsReady (state g conn) → IsReady (state g conn') × ((state g conn').now ≡ (state g conn).now)

      same_content : Read → (g.view conn'.store).is_clean ≡ true → content_of ((g.view conn'.store).trees 0) ((g.view conn'.store).trees 1) ≡ before.content
      same_content read clean = ap (λ (d : Database). content_of (d.trees 0) (d.trees 1)) (read (no_doubt _ clean) (kept up (no_doubt _ (still_clean clean))).0).1

      pub still_kept : Read → IsKept g owner cluster conn' table is_open
      still_kept read _ clean =
          let was = still_clean (clean_of _ clean) in
          let stands = kept up (no_doubt _ was) in
          let now = read clean stands.0 in
          (now.0, subst (λ (d : Database). HoldsContent owner cluster table table.entries d.trees) (sym now.1) stands.1)

      -- what is read is the content of the same rows
      abbrev ReadsAs : Table → Type 0
      ReadsAs t = HasCleanDisk (state g conn') → IsReady (state g conn) → (found : Table) × AreRowsOf found ((state g conn).now.trees 1) × (t ≡ content_by table.held table.floor found.entries)

      pub gives : (t : Table) → IsContent t → Read → ReadsAs t → Loads before (Ok t) (log_in g (view_with is_open conn'))
      gives t is read reads =
          record {
            stays = record { owner = refl; cluster = refl; most = refl; clean = still_clean; sure = λ s. absurd (cc) };
            closed = (λ e. absurd (never_closed t e), λ shut. absurd (true≢false (sym up ∙ shut)));
            given = record {
              is_open = up;
              is = is;
              same = λ clean.
                  let was = still_clean clean in
                  let stands = kept up (no_doubt _ was) in
                  let found = reads (no_doubt _ clean) stands.0 in
                  let same : found.0 ≡ plain_table table.entries = one_table ((state g conn).now.trees 1) (plain_table table.entries) found.0 stands.1.rows found.1 in
                  found.2 ∙ ap (λ (u : Table). content_by table.held table.floor u.entries) same ∙ content_again table stands.1.table ∙ sym (shown was);
              content = same_content read;
            };
            failed = tt;
          }

      pub gives_no_memory : Read → Loads before (Err NoMemory) (log_in g (view_with is_open conn'))
      gives_no_memory read =
          record {
            stays = record { owner = refl; cluster = refl; most = refl; clean = still_clean; sure = λ s. absurd (cc) };
            closed = (λ e. absurd (cc), λ shut. absurd (true≢false (sym up ∙ shut)));
            given = tt;
            failed = record {
              reason = λ _. inl refl;
              is_open = λ _. refl;
              content = λ _. same_content read;
              closes = λ e. absurd (elim e [ inl f ↦ cc | inr f ↦ cc ]);
              unchanged = λ e. absurd (cc);
              sure = λ _. inl refl;
            };
          }

      pub gives_nothing : Loads before (Err StoreFailed) (log_in g (view_with false conn'))
      gives_nothing =
          record {
            stays = record { owner = refl; cluster = refl; most = refl; clean = still_clean; sure = λ s. absurd (cc) };
            closed = (λ e. absurd (cc), λ shut. absurd (true≢false (sym up ∙ shut)));
            given = tt;
            failed = record {
              reason = λ _. inr (inl refl);
              is_open = λ e. absurd (cc);
              content = λ e. absurd (cc);
              closes = λ _. refl;
              unchanged = λ e. absurd (cc);
              sure = λ s. absurd (cc);
            };
          }

      gives_damage : (g.view conn'.store).is_clean ≡ false → Loads before (Err LogDamaged) (log_in g (view_with false conn'))
      gives_damage broken =
          record {
            stays = record { owner = refl; cluster = refl; most = refl; clean = still_clean; sure = λ s. absurd (cc) };
            closed = (λ e. absurd (cc), λ shut. absurd (true≢false (sym up ∙ shut)));
            given = tt;
            failed = record {
              reason = λ _. inr (inr (refl, broken));
              is_open = λ e. absurd (cc);
              content = λ e. absurd (cc);
              closes = λ _. refl;
              unchanged = λ e. absurd (cc);
              sure = λ s. absurd (cc);
            };
          }

      abbrev TakesNoneForDamage : Type 0
      TakesNoneForDamage =
          HasCleanDisk (state g conn') → IsReady (state g conn) → (t : Table) → AreRowsOf t ((state g conn).now.trees 1) → CanSay table.held table.floor t.entries
          → ⊥

      -- where a row is taken for damage, the store broke its promise
      broke : TakesNoneForDamage → (g.view conn'.store).is_clean ≡ false
      broke whole = go (g.view conn'.store).is_clean refl
        where
          go : (b : Bool) → (g.view conn'.store).is_clean ≡ b → b ≡ false
          go false is = refl
          go true is =
              let stands = kept up (no_doubt _ (still_clean is)) in
              let trees = (g.view conn.store).trees in
              let can = says_again table (holds_content owner cluster table table.entries trees stands.1) (holds_most owner cluster table table.entries trees stands.1) in
              absurd (whole (no_doubt _ is) stands.0 (plain_table table.entries) stands.1.rows can)

      pub gives_damaged : TakesNoneForDamage → Loads before (Err LogDamaged) (log_in g (view_with false conn'))
      gives_damaged whole = gives_damage (broke whole)

      -- what a crash leaves now, it left before
      pub same_left : (HasCleanDisk (state g conn') → IsReady (state g conn) → (db : Trees) → g.recovers conn'.store db → g.recovers conn.store db)
          → (g.view conn'.store).is_clean ≡ true → (left : Table) → MayLeave g owner cluster conn' left → left ≡ before.content
      same_left crash clean left may =
          let was = still_clean clean in
          settles conn table is_open kept was up left (may.0, crash (no_doubt _ clean) (kept up (no_doubt _ was)).0 may.0 may.1, may.2)
