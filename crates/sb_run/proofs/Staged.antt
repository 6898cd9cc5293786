-- A digest of what is true of the writes lets a sender go on no further than was written.
use Rattle.std.proofs.Common.{ℕ, ◌≤◌, Bool, true, false, if◌then◌else◌, List, length, Option, Some, None, IfSome, unwrap_or, arith}
use Rattle.std.specs.Prelude.{nat_le}
use Rattle.std.specs.Option.{option_map}
use Rattle.sb_types.specs.declared.entry.Write.{Write}
use Rattle.sb_types.specs.Records.{Stage, Holder}
use Rattle.sb_types.specs.Writes.{HoldsStage, HolderHolds}
use Rattle.sb_digest.specs.Digests.{number_by, goes_on_at}
use Rattle.sb_digest.specs.Pairs.{pair_of}

either_within : (b : Bool) (x y n : ℕ) → x ≤ n → y ≤ n → (if b then x else y) ≤ n
either_within true x y n first next = first
either_within false x y n first next = next

progress_within : (writes : List Write) (stage : Option Stage) → IfSome stage (HoldsStage writes) → (unwrap_or {T = ℕ × ℕ} (option_map (λ s. (s.floor, s.progress)) stage) (0, 0)).1 ≤ length writes
progress_within writes (Some s) holds = holds.reach
progress_within writes None holds = omega arith

pub number_within : (writes : List Write) (owner : List ℕ) (h : Holder) (floor upto : ℕ) → HolderHolds writes h → number_by floor upto (Some (pair_of (owner, h))) ≤ length writes
number_within writes owner h floor upto holds =
    let p = pair_of (owner, h) in
    either_within (nat_le floor p.held) p.held (if goes_on_at floor upto p then p.progress else 0) (length writes) holds.shown.reach
    (either_within (goes_on_at floor upto p) p.progress 0 (length writes) (progress_within writes h.stage holds.stage) (omega arith))
