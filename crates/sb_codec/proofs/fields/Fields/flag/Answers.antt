use Rattle.std.proofs.Common.{refl}
use Rattle.sb_codec.specs.Reading.{flag_field}
use Rattle.sb_codec.proofs.fields.Fields.flag.Goals as goal

pub returns-in-0 : goal.returns-in-0
unfolding flag_field
returns-in-0 c = rw (c.in_ok-byte.ensures, c.in-0.is) refl

pub returns-in-1 : goal.returns-in-1
unfolding flag_field
returns-in-1 c = rw (c.in_ok-byte.ensures, c.in-1.is) refl
