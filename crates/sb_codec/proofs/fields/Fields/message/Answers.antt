use Rattle.std.proofs.Common.{refl}
use Rattle.sb_codec.specs.Messages.{message_field}
use Rattle.sb_codec.proofs.fields.Fields.message.Goals as goal

pub returns-in_ok-hello-in-1-clause-read : goal.returns-in_ok-hello-in-1-clause-read
unfolding message_field
returns-in_ok-hello-in-1-clause-read c = rw (c.in_ok-byte.ensures, c.in-1.is, c.in_ok-hello-in-1.ensures) refl

pub returns-in_ok-digest-in-2-clause-read : goal.returns-in_ok-digest-in-2-clause-read
unfolding message_field
returns-in_ok-digest-in-2-clause-read c = rw (c.in_ok-byte.ensures, c.in-2.is, c.in_ok-digest-in-2.ensures) refl

pub returns-in_ok-delta-in-3-clause-read : goal.returns-in_ok-delta-in-3-clause-read
unfolding message_field
returns-in_ok-delta-in-3-clause-read c = rw (c.in_ok-byte.ensures, c.in-3.is, c.in_ok-delta-in-3.ensures) refl

pub returns-in_ok-bye-in-4-clause-read : goal.returns-in_ok-bye-in-4-clause-read
unfolding message_field
returns-in_ok-bye-in-4-clause-read c = rw (c.in_ok-byte.ensures, c.in-4.is, c.in_ok-bye-in-4.ensures) refl

pub returns-in_ok-ask-in-16-clause-read : goal.returns-in_ok-ask-in-16-clause-read
unfolding message_field
returns-in_ok-ask-in-16-clause-read c = rw (c.in_ok-byte.ensures, c.in-16.is, c.in_ok-ask-in-16.ensures) refl

pub returns-in_ok-rows-in-17-clause-read : goal.returns-in_ok-rows-in-17-clause-read
unfolding message_field
returns-in_ok-rows-in-17-clause-read c = rw (c.in_ok-byte.ensures, c.in-17.is, c.in_ok-rows-in-17.ensures) refl

pub returns-in_ok-write-in-18-clause-read : goal.returns-in_ok-write-in-18-clause-read
unfolding message_field
returns-in_ok-write-in-18-clause-read c = rw (c.in_ok-byte.ensures, c.in-18.is, c.in_ok-write-in-18.ensures) refl

pub returns-in_ok-done-in-19-clause-read : goal.returns-in_ok-done-in-19-clause-read
unfolding message_field
returns-in_ok-done-in-19-clause-read c = rw (c.in_ok-byte.ensures, c.in-19.is, c.in_ok-done-in-19.ensures) refl

pub returns-in_ok-refused-in-20-clause-read : goal.returns-in_ok-refused-in-20-clause-read
unfolding message_field
returns-in_ok-refused-in-20-clause-read c = rw (c.in_ok-byte.ensures, c.in-20.is, c.in_ok-refused-in-20.ensures) refl

pub returns-in_ok-ask_status-in-21-clause-read : goal.returns-in_ok-ask_status-in-21-clause-read
unfolding message_field
returns-in_ok-ask_status-in-21-clause-read c = rw (c.in_ok-byte.ensures, c.in-21.is, c.in_ok-ask_status-in-21.ensures) refl

pub returns-in_ok-status-in-22-clause-read : goal.returns-in_ok-status-in-22-clause-read
unfolding message_field
returns-in_ok-status-in-22-clause-read c = rw (c.in_ok-byte.ensures, c.in-22.is, c.in_ok-status-in-22.ensures) refl

pub returns-in_ok-ask_change-in-23-clause-read : goal.returns-in_ok-ask_change-in-23-clause-read
unfolding message_field
returns-in_ok-ask_change-in-23-clause-read c = rw (c.in_ok-byte.ensures, c.in-23.is, c.in_ok-ask_change-in-23.ensures) refl

pub returns-in_ok-notice-in-24-clause-read : goal.returns-in_ok-notice-in-24-clause-read
unfolding message_field
returns-in_ok-notice-in-24-clause-read c = rw (c.in_ok-byte.ensures, c.in-24.is, c.in_ok-notice-in-24.ensures) refl

pub returns-in_ok-ages-in-26-clause-read : goal.returns-in_ok-ages-in-26-clause-read
unfolding message_field
returns-in_ok-ages-in-26-clause-read c = rw (c.in_ok-byte.ensures, c.in-26.is, c.in_ok-ages-in-26.ensures) refl
