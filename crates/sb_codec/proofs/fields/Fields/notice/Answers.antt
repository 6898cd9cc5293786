use Rattle.std.proofs.Common.{refl}
use Rattle.sb_codec.specs.Reading.{notice_field}
use Rattle.sb_codec.proofs.fields.Fields.notice.Goals as goal

pub returns-in-1 : goal.returns-in-1
unfolding notice_field
returns-in-1 c = rw (c.in_ok-byte.ensures, c.in-1.is) refl

pub returns-in-2 : goal.returns-in-2
unfolding notice_field
returns-in-2 c = rw (c.in_ok-byte.ensures, c.in-2.is) refl

pub returns-in-3 : goal.returns-in-3
unfolding notice_field
returns-in-3 c = rw (c.in_ok-byte.ensures, c.in-3.is) refl
