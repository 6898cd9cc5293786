-- What a committed write is answered.
use Rattle.std.proofs.Common.{◌≡◌, ℕ, Bool, true, false, cond, nat_eq, Option, Some, None, Result, Ok, Err}
use Rattle.std.specs.Cmp.Lexicographic.{pointwise}
use Rattle.sb_types.specs.declared.fault.Fault.{Fault}
use Rattle.sb_types.specs.declared.fault.Fault.TheVariants.{WrongOwner}
use Rattle.sb_holdings.specs.Nodes.{Node}
use Rattle.sb_holdings.specs.Plain.{own_answer}
use Rattle.sb_log.specs.Records.{Committed}
use Rattle.sb_node.specs.Cores.{unless_conflict, committed_answer}

allowed : (same : Bool) (conflict : Option ℕ) (answer : Result (Unit {0}) Fault) → cond same (unless_conflict conflict answer) (Err WrongOwner) ≡ Ok tt → answer ≡ Ok tt
allowed true None answer e = e
allowed true (Some version) answer e = absurd (cc)
allowed false conflict answer e = absurd (cc)

-- where nothing stands against a committed write, nothing stands against its entry
pub own_allowed : (node : Node) (c : Committed) → committed_answer node c ≡ Ok tt → own_answer node.held c.entry ≡ Ok tt
own_allowed node c e = allowed (pointwise nat_eq c.owner node.held.me) node.conflict (own_answer node.held c.entry) e
