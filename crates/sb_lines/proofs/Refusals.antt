-- Why rows are refused: for the reason of the first of them that is refused.
use Rattle.std.proofs.Common.{◌≡◌, ◌⊎◌, inl, inr, Bool, true, false, true≢false, refl, List, [], ◌∷◌, Option, Some, None, Err, sym, subst, ◌∙◌, ⊎_elim}
use Rattle.sb_types.specs.declared.fault.Fault.{Fault}
use Rattle.sb_types.specs.declared.fault.Fault.TheVariants.{NoMemory, StoreFailed}
use Rattle.sb_codec.specs.Records.{Row}
use Rattle.sb_log.specs.Records.{Log}
use Rattle.sb_log.specs.Puts.{Stays, IsReason}
use Rattle.sb_lines.specs.WrittenBack.{first_reason, rows_refusal, PutsRows}

-- a single row is refused for its own reason
pub reason_of_one : (why : Option Fault) (fault : Fault) → IsReason why fault → (first_reason why None ≡ Some fault) ⊎ ((fault ≡ NoMemory) ⊎ (fault ≡ StoreFailed))
reason_of_one (Some refused) fault same = inl (cc)
reason_of_one None fault lacking = inr lacking

-- if the first row is refused, all rows are, for its reason
pub reason_of_first : (why other : Option Fault) (fault : Fault) → first_reason why None ≡ Some fault → first_reason why other ≡ Some fault
reason_of_first (Some refused) other fault same = same
reason_of_first None other fault same = absurd (cc)

stays_on : (old at new : Log) → Stays old at → Stays at new → Stays old new
stays_on old at new first then =
    record {
      owner = then.owner ∙ first.owner;
      cluster = then.cluster ∙ first.cluster;
      most = then.most ∙ first.most;
      clean = λ clean. first.clean (then.clean clean);
      sure = λ sure. then.sure (first.sure sure);
    }

-- what is open stays open, so what is closed was closed before
pub shut_before : (before after : Bool) → (before ≡ true → after ≡ true) → after ≡ false → before ≡ false
shut_before true after up shut = absurd (true≢false (sym (up refl) ∙ shut))
shut_before false after up shut = refl

-- a row that is refused after others is the reason of them all
pub refused_at : (old at new : Log) (rows rest : List Row) (row : Row) (fault : Fault) → Stays old at → (old.is_open ≡ true → at.is_open ≡ true)
    → (at.is_clean ≡ true → rows_refusal old.most at.content (row ∷ rest) ≡ rows_refusal old.most old.content rows)
    → PutsRows at (row ∷ []) (Err fault) new → PutsRows old rows (Err fault) new
refused_at old at new rows rest row fault stays up same puts =
    record {
      stays = stays_on old at new stays puts.stays;
      is_open = tt;
      fits = tt;
      content = tt;
      refused = λ clean is_open.
          ⊎_elim
          (λ why. inl (sym (same (puts.stays.clean clean)) ∙ subst (λ most. rows_refusal most at.content (row ∷ rest) ≡ Some fault) stays.most (reason_of_first _ _ fault why)))
          (λ other. inr other)
          (puts.refused clean (up is_open));
      ends = record {
        closed = λ closed. shut_before old.is_open at.is_open up (puts.ends.closed closed);
        closes = puts.ends.closes;
        sure = λ sure. puts.ends.sure (stays.sure sure);
      };
    }
