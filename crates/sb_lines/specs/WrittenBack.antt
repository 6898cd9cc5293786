-- What a log holds once rows were written back into it, and why it refuses them.
use Rattle.std.specs.Prelude.{◌≡◌, ◌≢◌, ◌⊎◌, ℕ, true, false, List, [], ◌∷◌, Option, Some, None, Result, IfErr, OnOk}
use Rattle.sb_types.specs.declared.entry.Slot.{Slot}
use Rattle.sb_types.specs.declared.entry.Slot.TheVariants.{Set}
use Rattle.sb_types.specs.declared.fault.Fault.{Fault}
use Rattle.sb_types.specs.declared.fault.Fault.TheVariants.{NoMemory, Closed, StoreFailed}
use Rattle.sb_types.specs.Records.{Table}
use Rattle.sb_table.specs.Plain.{with_entry}
use Rattle.sb_codec.specs.Records.{Row}
use Rattle.sb_log.specs.Records.{Log}
use Rattle.sb_log.specs.Puts.{Stays, IsSure, refusal, next_entry, content_after_purge}

-- the content with the key and value of a row, under the next version
abbrev pub content_with_row : Table → Row → Table
content_with_row content x = with_entry content (next_entry content x.key (Set x.value))

-- the content with each of the rows, in their order
abbrev pub content_with_rows : Table → List Row → Table
content_with_rows content [] = content
content_with_rows content (x ∷ xs) = content_with_rows (content_with_row content x) xs

-- the first of two reasons
abbrev pub first_reason : Option Fault → Option Fault → Option Fault
first_reason (Some fault) other = Some fault
first_reason None other = other

-- why the first row that is refused is refused
abbrev pub rows_refusal : ℕ → Table → List Row → Option Fault
rows_refusal most content [] = None
rows_refusal most content (x ∷ xs) = first_reason (refusal most content x.key (Set x.value)) (rows_refusal most (content_with_row content x) xs)

-- where the log stands, it has this reason to refuse the rows, or memory or its store failed
abbrev pub IsRowsReason : Log → List Row → Fault → Log → Type 0
IsRowsReason old rows fault new =
    new.is_clean ≡ true → old.is_open ≡ true → (rows_refusal old.most old.content rows ≡ Some fault) ⊎ ((fault ≡ NoMemory) ⊎ (fault ≡ StoreFailed))

-- only a log that was closed gives this fault, and a fault of the store closes the log
pub record EndsBy (old : Log) (fault : Fault) (new : Log) : Type 0 where
  pub closed : fault ≡ Closed → old.is_open ≡ false
  pub closes : fault ≡ StoreFailed → new.is_open ≡ false
  pub sure : IsSure old → fault ≢ StoreFailed

-- all rows are in the log, or its fault says why one is not
pub record PutsRows (old : Log) (rows : List Row) (result : Result (Unit {0}) Fault) (new : Log) : Type 0 where
  pub stays : Stays old new
  pub is_open : OnOk result (old.is_open ≡ true → new.is_open ≡ true)
  pub fits : OnOk result (new.is_clean ≡ true → rows_refusal old.most old.content rows ≡ None)
  pub content : OnOk result (new.is_clean ≡ true → new.content ≡ content_with_rows old.content rows)
  pub refused : IfErr result (λ fault. IsRowsReason old rows fault new)
  pub ends : IfErr result (λ fault. EndsBy old fault new)

-- all rows are in the log, and its floor is its last version, so that other nodes show them all at once
pub record IsWrittenBack (old : Log) (rows : List Row) (last : ℕ) (new : Log) : Type 0 where
  pub fits : rows_refusal old.most old.content rows ≡ None
  pub reach : last ≡ (content_with_rows old.content rows).held
  pub content : new.content ≡ content_after_purge last (content_with_rows old.content rows)
