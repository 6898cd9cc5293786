-- The content of a log, whatever floor it has, as its owner writes and purges.
use Rattle.std.proofs.Common.{◌≡◌, ℕ, ◌+◌, ◌≤◌, true, false, ⊎_elim, inl, inr, List, [], ◌∷◌, ◌++◌, length, length-append, nat_le, Result, Ok, Err, refl, sym, ap, subst, ◌∙◌, arith}
use Rattle.std.proofs.lemmas.Bool.{cases_Bool, cond_both, true≢false, leb-true, leb-false}
use Rattle.sb_types.specs.declared.entry.Slot.{Slot}
use Rattle.sb_types.specs.declared.entry.Write.{Write}
use Rattle.sb_types.specs.declared.fault.Fault.{Fault}
use Rattle.sb_types.specs.declared.fault.Fault.TheVariants.{NoMemory, Closed}
use Rattle.sb_types.specs.Records.{Table}
use Rattle.sb_table.specs.Plain.{with_entry}
use Rattle.sb_table.specs.Floors.{table_at_floor}
use Rattle.sb_holdings.specs.Contents.{entry_of_write, content_table}
use Rattle.sb_holdings.proofs.Growing.{content-grown_from, content-purged}
use Rattle.sb_log.specs.Records.{Committed, Log}
use Rattle.sb_log.specs.Puts.{Puts, Purges, Loads, content_after_purge}
use Rattle.sb_world.specs.Truth.{IsContentOf}

-- ---- which writes it is of

pub content_by : (ws : List Write) (t : Table) (floor : ℕ) → floor ≤ length ws → t ≡ content_table floor ws → IsContentOf ws t
content_by ws t floor low is = subst (IsContentOf ws) (sym is) (record { floor = low; content = refl })

held_by_writes : (ws : List Write) (t : Table) → IsContentOf ws t → t.held ≡ length ws
held_by_writes ws t is = ap (λ (c : Table). c.held) is.content

-- one write more
pub content_more : (ws : List Write) (w : Write) (t : Table) → IsContentOf ws t → IsContentOf (ws ++ w ∷ []) (with_entry t (entry_of_write (length ws + 1) w))
content_more ws w t is =
    let e = entry_of_write (length ws + 1) w in
    let low = is.floor in
    content_by (ws ++ w ∷ []) (with_entry t e) t.floor (omega (arith, low, length-append ws (w ∷ [])))
    (ap (λ (c : Table). with_entry c e) is.content ∙ sym (content-grown_from ws w t.floor low))

-- a higher floor, or one that is not above its own
pub content_purged : (ws : List Write) (t : Table) (floor : ℕ) → IsContentOf ws t → floor ≤ t.held → IsContentOf ws (content_after_purge floor t)
content_purged ws t floor is fits =
    cond_both (nat_le floor t.floor) t (table_at_floor t.held floor t) (IsContentOf ws)
    (λ below. is)
    (λ higher.
    let more = leb-false floor t.floor higher in
    let held = held_by_writes ws t is in
    content_by ws (table_at_floor t.held floor t) floor (omega (arith, fits, held))
    (ap (λ (c : Table). table_at_floor c.held floor c) is.content ∙ sym (content-purged ws t.floor floor (omega (arith, more)))))

-- the floor is then at least as high as was asked for, and as it was
pub floor_reached : (t : Table) (floor : ℕ) → (floor ≤ (content_after_purge floor t).floor) × (t.floor ≤ (content_after_purge floor t).floor)
floor_reached t floor =
    cond_both (nat_le floor t.floor) t (table_at_floor t.held floor t) (λ (c : Table). (floor ≤ c.floor) × (t.floor ≤ c.floor))
    (λ below. (leb-true floor t.floor below, omega arith))
    (λ higher. let more = leb-false floor t.floor higher in (omega arith, omega (arith, more)))

-- ---- a fault that is told

abbrev fault_in : Result Table Fault → Fault → Fault
fault_in (Ok x) other = other
fault_in (Err fault) other = fault

abbrev pub failure : Fault → Result Table Fault
failure fault = Err fault

pub err_is : (a b : Fault) → failure a ≡ failure b → a ≡ b
err_is a b e = ap (λ (r : Result Table Fault). fault_in r a) e

-- ---- a log that stands stood before, and its floor did not fall

abbrev pub LogStays : Log → Log → Type 0
LogStays old new = new.is_clean ≡ true → new.is_open ≡ true → (old.is_open ≡ true) × (old.content.floor ≤ new.content.floor)

pub same_stays : (old new : Log) → new ≡ old → LogStays old new
same_stays old new same = subst (LogStays old) (sym same) (λ clean unshut. (unshut, omega arith))

pub put_stays : (old new : Log) (key : List ℕ) (slot : Slot) (put : Result Committed Fault) → Puts old key slot put new → LogStays old new
put_stays old new key slot (Ok c) puts = λ clean unshut.
    let floor : new.content.floor ≡ old.content.floor = ap (λ (t : Table). t.floor) (puts.kept.content clean) in
    (⊎_elim (λ e. e) (λ e. absurd (let shut : Ok c ≡ Err Closed = puts.closed.1 e in cc)) (cases_Bool old.is_open), omega (arith, floor))
put_stays old new key slot (Err fault) puts = λ clean unshut.
    same_stays old new (puts.refused.unchanged (λ failed. true≢false (sym unshut ∙ puts.refused.closes failed))) clean unshut

pub purge_stays : (old new : Log) (floor : ℕ) (result : Result (Unit {0}) Fault) → Purges old floor result new → LogStays old new
purge_stays old new floor (Ok done) purges = λ clean unshut.
    let same : new.content.floor ≡ (content_after_purge floor old.content).floor = ap (λ (t : Table). t.floor) (purges.done.content clean) in
    let reached = (floor_reached old.content floor).1 in
    (⊎_elim (λ e. e) (λ e. absurd (let shut : Ok done ≡ Err Closed = purges.closed.1 e in cc)) (cases_Bool old.is_open), omega (arith, same, reached))
purge_stays old new floor (Err fault) purges = λ clean unshut.
    same_stays old new (purges.refused.unchanged (λ failed. true≢false (sym unshut ∙ purges.refused.closes failed))) clean unshut

pub load_stays : (old new : Log) (result : Result Table Fault) → Loads old result new → LogStays old new
load_stays old new (Ok table) loads = λ clean unshut.
    let floor : new.content.floor ≡ old.content.floor = ap (λ (t : Table). t.floor) (loads.given.content clean) in
    (⊎_elim (λ e. e) (λ e. absurd (let shut : Ok table ≡ Err Closed = loads.closed.1 e in cc)) (cases_Bool old.is_open), omega (arith, floor))
load_stays old new (Err fault) loads = λ clean unshut.
    ⊎_elim
    (λ (stood : old.is_open ≡ true).
    ⊎_elim
    (λ (memory : fault ≡ NoMemory).
    let floor : new.content.floor ≡ old.content.floor = ap (λ (t : Table). t.floor) (loads.failed.content memory clean) in
    (stood, omega (arith, floor)))
    (λ others. absurd (true≢false (sym unshut ∙ loads.failed.closes (⊎_elim (λ failed. inl failed) (λ damaged. inr damaged.0) others))))
    (loads.failed.reason stood))
    (λ (shut : old.is_open ≡ false).
    let closed : failure fault ≡ failure Closed = loads.closed.1 shut in
    same_stays old new (loads.failed.unchanged (err_is fault Closed closed)) clean unshut)
    (cases_Bool old.is_open)
