use Rattle.std.proofs.Common.{◌≡◌, ℕ, ◌+◌, ◌<◌, ◌≤◌, Bool, false, List, length, Option, Result, Ok, Err, refl, ap, inl, inr, arith}
use Rattle.std.specs.Prelude.{IfOk, OnOk, IfErr}
use Rattle.sb_types.specs.declared.fault.Fault.{Fault}
use Rattle.sb_types.specs.declared.fault.Fault.TheVariants.{NoMemory, ReadFailed, WriteFailed, TurnsSpent}
use Rattle.sb_types.specs.Faults.{number_of}
use Rattle.sb_frames.specs.Receiving.{GivesBytes}
use Rattle.sb_script.specs.Reads.{AreCounted, IsRunFault, comes_before_reads}

-- want of memory is a fault of a run at any time
pub memory_fault : (steps steps' allowed : ℕ) (fault : Fault) → fault ≡ NoMemory → IsRunFault steps steps' allowed fault
memory_fault steps steps' allowed fault e = record {
  kind = rw e refl;
  read = λ r. let same : NoMemory ≡ ReadFailed = rw (← e) r in let bad : 1 ≡ 16 = ap number_of same in absurd (omega (arith, bad));
  spent = λ r. let same : NoMemory ≡ TurnsSpent = rw (← e) r in let bad : 1 ≡ 29 = ap number_of same in absurd (omega (arith, bad));
}

-- so is a failed write
pub write_fault : (steps steps' allowed count : ℕ) (fault : Fault) → fault ≡ WriteFailed count → IsRunFault steps steps' allowed fault
write_fault steps steps' allowed count fault e = record {
  kind = rw e refl;
  read = λ r. let same : WriteFailed count ≡ ReadFailed = rw (← e) r in let bad : 17 ≡ 16 = ap number_of same in absurd (omega (arith, bad));
  spent = λ r. let same : WriteFailed count ≡ TurnsSpent = rw (← e) r in let bad : 17 ≡ 29 = ap number_of same in absurd (omega (arith, bad));
}

-- a fault after reads that went well
pub fault_later : (steps left steps' left' steps'' : ℕ) (fault : Fault)
    → AreCounted steps left steps' left' → IsRunFault steps' steps'' left' fault → IsRunFault steps steps'' left fault
fault_later steps left steps' left' steps'' fault before f = record {
  kind = f.kind;
  read = λ r. let later = f.read r in omega (arith, before.sum, before.fewer, later);
  spent = λ r. let all = f.spent r in omega (arith, before.sum, before.fewer, all);
}

pub counted_later : (steps left steps' left' steps'' left'' : ℕ)
    → AreCounted steps left steps' left' → AreCounted steps' left' steps'' left'' → AreCounted steps left steps'' left''
counted_later steps left steps' left' steps'' left'' before after =
    record { sum = omega (arith, before.sum, after.sum); fewer = omega (arith, before.fewer, after.fewer) }

-- ---- what the reads of one call of the counted reader say of a run

module _ (from to : Option (List ℕ)) (bytes : List ℕ) (steps before steps' left : ℕ) where
  pub reads_counted : (result : Result ℕ Fault) → GivesBytes from to bytes before left result → steps' + left ≡ steps + before → AreCounted steps before steps' left
  reads_counted (Ok count) g sum = let made = g.3 in record { sum = sum; fewer = omega (arith, made) }
  reads_counted (Err fault) g sum =
      elim g.1 [
        | inl failed ↦ (let made = failed.1 in record { sum = sum; fewer = omega (arith, made) })
        | inr spent ↦ record { sum = sum; fewer = spent.2 }
      ]

  pub reads_within : (result : Result ℕ Fault) → GivesBytes from to bytes before left result → IfOk result (λ count. count ≤ length bytes)
  reads_within (Ok count) g = g.0
  reads_within (Err fault) g = tt

  pub reads_made : (result : Result ℕ Fault) → GivesBytes from to bytes before left result → OnOk result (left < before)
  reads_made (Ok count) g = g.3
  reads_made (Err fault) g = tt

  pub reads_fault : (result : Result ℕ Fault) → GivesBytes from to bytes before left result → steps' + left ≡ steps + before → IfErr result (IsRunFault steps steps' before)
  reads_fault (Ok count) g sum = tt
  reads_fault (Err fault) g sum =
      elim g.1 [
        | inl failed ↦ (let made = failed.1 in record {
          kind = rw failed.0 refl;
          read = λ r. omega (arith, sum, made);
          spent = λ r. let same : ReadFailed ≡ TurnsSpent = rw (← failed.0) r in let bad : 16 ≡ 29 = ap number_of same in absurd (omega (arith, bad));
        })
        | inr spent ↦ (let none = spent.1 in record {
          kind = rw spent.0 refl;
          read = λ r. let same : TurnsSpent ≡ ReadFailed = rw (← spent.0) r in let bad : 29 ≡ 16 = ap number_of same in absurd (omega (arith, bad));
          spent = λ r. omega (arith, sum, none);
        })
      ]

  pub reads_early : (result : Result ℕ Fault) → GivesBytes from to bytes before left result → steps' + left ≡ steps + before
      → IfErr result (λ fault. comes_before_reads fault ≡ false → steps < steps')
  reads_early (Ok count) g sum = tt
  reads_early (Err fault) g sum =
      elim g.1 [
        | inl failed ↦ (let made = failed.1 in λ late. omega (arith, sum, made))
        | inr spent ↦ (λ late. absurd cc (spent.0, late))
      ]
