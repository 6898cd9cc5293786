-- A table as it is offered to a peer.
use Rattle.std.proofs.Common.{◌≡◌, ℕ, ◌≤◌, ◌<◌, ◌^◌, Bool, true, false, ◌&&◌, ◌||◌, List, ◌∷◌, length, nat_lt, refl, sym, ap, ◌∙◌, arith}
use Rattle.std.proofs.lemmas.Bool.{cond-true, cond-false}
use Rattle.std.proofs.lemmas.List.Elements.{filter_agree}
use Rattle.sb_types.specs.declared.entry.Write.{Write}
use Rattle.sb_types.specs.Records.{Entry, Table}
use Rattle.sb_types.specs.Runs.{newer_entries, is_set, live_entries, IsTable}
use Rattle.sb_types.specs.Writes.{Holds}
use Rattle.sb_types.proofs.Live.{live-live}
use Rattle.sb_table.specs.Floors.{IsKeptTable, table_at_floor}
use Rattle.sb_table.proofs.Copying.{above_all}
use Rattle.sb_table.proofs.Merging.{length-filter_le}
use Rattle.sb_table.proofs.Order.{run_kept}
use Rattle.sb_holdings.specs.Held.{empty_holder}
use Rattle.sb_holdings.proofs.Entering.{filter-filter}
use Rattle.sb_holdings.proofs.Telling.{tells_live, tells_raised}
use Rattle.sb_digest.specs.Digests.{Digest, held_in, floor_in}
use Rattle.sb_digest.proofs.Telling.{start-least, start-most, start-own}
use Rattle.sb_budget.specs.Available.{offered_table}

-- ---- tombstones that are left out

and-swapped : (a b : Bool) → (a && b) ≡ (b && a)
and-swapped true true = refl
and-swapped true false = refl
and-swapped false true = refl
and-swapped false false = refl

-- which of the two tests comes first changes nothing
pub live_above : (floor version : ℕ) (es : List Entry) → live_entries floor (newer_entries version es) ≡ newer_entries version (live_entries floor es)
live_above floor version es =
    filter-filter (λ x. is_set x.slot || nat_lt floor x.version) (λ x. nat_lt version x.version) es
    ∙ filter_agree (λ x. nat_lt version x.version && (is_set x.slot || nat_lt floor x.version)) (λ x. (is_set x.slot || nat_lt floor x.version) && nat_lt version x.version)
    (λ x. and-swapped (nat_lt version x.version) (is_set x.slot || nat_lt floor x.version)) es
    ∙ sym (filter-filter (λ x. nat_lt version x.version) (λ x. is_set x.slot || nat_lt floor x.version) es)

-- a tombstone that goes, and an entry that stays
pub first_gone : (floor : ℕ) (e : Entry) (es : List Entry) → (is_set e.slot || nat_lt floor e.version) ≡ false → live_entries floor (e ∷ es) ≡ live_entries floor es
first_gone floor e es gone = cond-false (is_set e.slot || nat_lt floor e.version) (e ∷ live_entries floor es) (live_entries floor es) gone

pub first_stays : (floor : ℕ) (e : Entry) (es : List Entry) → (is_set e.slot || nat_lt floor e.version) ≡ true → live_entries floor (e ∷ es) ≡ e ∷ live_entries floor es
first_stays floor e es stays = cond-true (is_set e.slot || nat_lt floor e.version) (e ∷ live_entries floor es) (live_entries floor es) stays

-- ---- the entries of a kept table

module _ (t : Table) (kept : IsKeptTable t) (floor : ℕ) where
  pub few_live : (version : ℕ) → length (live_entries floor (newer_entries version t.entries)) < 2 ^ 63
  few_live version = omega (arith, kept.limit, length-filter_le (λ e. nat_lt version e.version) t.entries, length-filter_le (λ e. is_set e.slot || nat_lt floor e.version) (newer_entries version t.entries))

  -- under its own floor all are offered above version 0
  pub all_live : floor ≡ t.floor → length t.entries ≡ length (newer_entries 0 (live_entries floor t.entries))
  all_live own =
      let same : live_entries floor t.entries ≡ t.entries = ap (λ (n : ℕ). live_entries n t.entries) own ∙ kept.is.live in
      ap (λ (es : List Entry). length es) (sym (above_all 0 0 t.entries (omega arith) kept.is.run.ascending) ∙ ap (newer_entries 0) (sym same))

-- ---- the offered table

-- under its own floor it is as it is
pub under-own : (t : Table) → IsTable t → table_at_floor t.held t.floor t ≡ t
under-own t is = ap (λ (es : List Entry). let u : Table = record { held = t.held; floor = t.floor; entries = es } in u) is.live

module _ (digest : Digest) (owner : List ℕ) (t : Table) (is : IsTable t) where
  pub offered_is : IsTable (offered_table digest owner t)
  offered_is =
      let floor = floor_in digest owner t.floor t.held in
      record {
        run = run_kept (λ e. is_set e.slot || nat_lt floor e.version) is.run;
        floor = start-most digest owner t.floor t.held is.floor;
        live = live-live floor t.entries;
      }

  pub offered_holds : (writes : List Write) → Holds writes t → Holds writes (offered_table digest owner t)
  offered_holds writes h = tells_live (tells_raised (floor_in digest owner t.floor t.held) (start-least digest owner t.floor t.held is.floor) (start-most digest owner t.floor t.held is.floor) is.run h)

  pub offered_own : t.floor ≤ held_in digest owner → offered_table digest owner t ≡ t
  offered_own far = ap (λ (floor : ℕ). table_at_floor t.held floor t) (start-own digest owner t.floor t.held far) ∙ under-own t is

-- of an owner that is not held nothing is offered
pub offered_nothing : (digest : Digest) (owner : List ℕ) → offered_table digest owner empty_holder.shown ≡ empty_holder.shown
offered_nothing digest owner = ap (λ (floor : ℕ). table_at_floor 0 floor empty_holder.shown) (start-own digest owner 0 0 (omega arith))
