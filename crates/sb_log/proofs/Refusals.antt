-- A write that is not refused finds room.
use Rattle.std.proofs.Common.{◌≡◌, ◌≢◌, ◌⊎◌, inl, inr, ℕ, Bool, true, false, cond, refl, List, Option, Some, None, Ok, Err}
use Rattle.sb_types.specs.declared.entry.Slot.{Slot}
use Rattle.sb_types.specs.declared.fault.Fault.{Fault}
use Rattle.sb_types.specs.declared.fault.Fault.TheVariants.{NoMemory, TableFull}
use Rattle.sb_types.specs.Faults.{Gives}
use Rattle.sb_types.specs.Records.{Table}
use Rattle.sb_table.specs.Plain.{is_full_for}
use Rattle.sb_log.specs.Puts.{refusal}

chosen : (idle full : Bool) (rest : Option Fault) (x : Fault) → cond idle (Some x) (cond full (Some TableFull) rest) ≡ None → full ≡ false
chosen false false rest x none = refl
chosen false true rest x none = absurd (cc)
chosen true full rest x none = absurd (cc)

pub has_room : (most : ℕ) (t : Table) (key : List ℕ) (slot : Slot) → refusal most t key slot ≡ None → is_full_for key t.entries ≡ false
has_room most t key slot none = chosen _ (is_full_for key t.entries) _ _ none

ok_or_err : {fault : Fault} → Ok (tt {0}) ≡ Err fault → ⊥
ok_or_err same = absurd (cc)

only_memory : (full : Bool) (fault : Fault) → full ≡ false → Gives {X = Unit {0}} (Err fault) (cond full (Err TableFull) (Ok tt)) → fault ≢ NoMemory → ⊥
only_memory true fault room gives other = absurd (cc)
only_memory false fault room gives other = ok_or_err (gives other)

memory_or_not : (fault : Fault) → (fault ≡ NoMemory) ⊎ (fault ≢ NoMemory)
memory_or_not NoMemory = inl refl
memory_or_not fault = inr (λ same. cc)

pub fails_for_memory : (full : Bool) (fault : Fault) → full ≡ false → Gives {X = Unit {0}} (Err fault) (cond full (Err TableFull) (Ok tt)) → fault ≡ NoMemory
fails_for_memory full fault room gives = elim (memory_or_not fault) [
  | inl same ↦ same
  | inr other ↦ absurd (only_memory full fault room gives other)
]
