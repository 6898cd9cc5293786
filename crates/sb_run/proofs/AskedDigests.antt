-- The digest by which an audit asks.
use Rattle.std.proofs.Common.{◌≡◌, Bool, if◌then◌else◌, Ok, Err, arith}
use Rattle.sb_types.specs.declared.fault.Fault.{Fault}
use Rattle.sb_digest.specs.Digests.{Digest}

-- what is made is made of its parts
pub made_of : (is : Bool) (made digest : Digest) (fault : Fault) → Ok made ≡ (if is then Ok digest else Err fault) → made ≡ digest
made_of is made digest fault same = grind arith
