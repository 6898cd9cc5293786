-- By which fault the threads of a node end.
use Rattle.std.proofs.Common.{◌≡◌, Bool, true, false, Result, Ok, Err, IfErr, inl, inr, refl, subst}
use Rattle.sb_types.specs.declared.fault.Fault.{Fault}
use Rattle.sb_types.specs.declared.fault.Fault.TheVariants.{NoMemory, StoreFailed}
use Rattle.sb_run.specs.declared.node.OnLogFault.{OnLogFault}
use Rattle.sb_run.specs.declared.node.OnLogFault.TheVariants.{Exit}
use Rattle.sb_run.specs.Running.{IsEndFault}

pub end_fault : {A B : Type 0} (on_log_fault : OnLogFault) (has_left : Bool) (rounds : Result B Fault) (result : Result A Fault)
    → (has_left ≡ true → on_log_fault ≡ Exit) → IfErr rounds (λ fault. fault ≡ NoMemory)
    → (has_left ≡ true → result ≡ Err StoreFailed) → (has_left ≡ false → IfErr result (λ fault. rounds ≡ Err fault))
    → IfErr result (IsEndFault on_log_fault)
end_fault on_log_fault has_left rounds (Ok ended) exits memory left fault = tt
end_fault on_log_fault true rounds (Err met) exits memory left fault = inr (exits refl, (let is = left refl in cc))
end_fault on_log_fault false rounds (Err met) exits memory left fault = inl (subst (λ r. IfErr r (λ f. f ≡ NoMemory)) (fault refl) memory)
