-- What answers a write names a version or a fault.
use Rattle.std.proofs.Common.{◌≡◌, Result, Ok, Err, refl, sym, subst}
use Rattle.sb_types.specs.declared.fault.Fault.{Fault}
use Rattle.sb_codec.specs.declared.message.Message.{Message}
use Rattle.sb_run.specs.declared.own_writes.Stored.{Stored}
use Rattle.sb_run.specs.Control.{reply_of}
use Rattle.sb_run.specs.HttpReads.{IsWriteReply}

named : (answer : Result Stored Fault) → IsWriteReply (reply_of answer)
named (Ok stored) = refl
named (Err fault) = refl

pub write_reply : (answer : Result Stored Fault) (reply : Message) → reply ≡ reply_of answer → IsWriteReply reply
write_reply answer reply is = subst IsWriteReply (sym is) (named answer)
