-- Connections that wait.
use Rattle.std.specs.Prelude.{◌≡◌, ℕ, ◌*◌, ◌==◌, min, Bool, true, List, length, remove, position, unwrap_or, if◌then◌else◌, nat_lt, false, Option, Some, None}
use Rattle.std.specs.Duration.{as_nanos}
use Rattle.std.specs.declared.time.Duration.{Duration}
use Rattle.sb_codec.specs.declared.message.Message.{Message}
use Rattle.sb_codec.specs.declared.message.Message.TheVariants as kinds
use Rattle.sb_codec.specs.declared.message.hello.Hello.{Hello}
use Rattle.sb_frames.specs.Frames.{Front, short, whole, bad, front_of}
use Rattle.sb_frames.specs.Receiving.{held_of}
use Rattle.sb_run.specs.declared.accepting.TheConstants.{ACCEPT_PAUSE}
use Rattle.sb_run.specs.declared.accepting.Left.{Left}
use Rattle.sb_run.specs.declared.accepting.Left.TheVariants as lefts
use Rattle.sb_run.specs.declared.accepting.Waiting.{Waiting}

-- nothing came of it yet
abbrev pub is_silent : Waiting → Bool
is_silent waiting = if length (held_of waiting.frames) == 0 then length waiting.came.items == 0 else false

-- more of it does not change what is in front
abbrev pub is_settled : Front → Bool
is_settled short = false
is_settled (whole message rest) = true
is_settled (bad fault) = true

-- the first message is whole, or none is in front, or there are as many bytes as that
abbrev pub has_begun : ℕ → List ℕ → Bool
has_begun most came = if nat_lt (length came) most then is_settled (front_of came) else true

abbrev pub has_number : ℕ → Waiting → Bool
has_number number waiting = waiting.number == number

-- the list without the oldest that said nothing, or else without the oldest
abbrev pub without_oldest : List Waiting → List Waiting
without_oldest all = remove all (unwrap_or (position is_silent all) 0)

-- the list where one more has room
abbrev pub with_room : ℕ → List Waiting → List Waiting
with_room most all = if nat_lt (length all) most then all else without_oldest all

-- the bytes begin with the Hello of a node of this name
abbrev pub IsHelloOf : List ℕ → List ℕ → Type 0
IsHelloOf came name = (hello : Hello) × (rest : List ℕ) × (front_of came ≡ whole (kinds.Hello hello) rest) × (hello.node ≡ name)

-- the name of the node that says Hello by a message
abbrev pub hello_name : Message → Option (List ℕ)
hello_name (kinds.Hello hello) = Some hello.node
hello_name other = None

-- what is left to accept at both sockets: more, if there may be more at one; else an accept failed, if one did
abbrev pub left_at_both : Left → Left → Left
left_at_both lefts.Nothing control = control
left_at_both lefts.More control = lefts.More
left_at_both lefts.Failed lefts.More = lefts.More
left_at_both lefts.Failed lefts.Nothing = lefts.Failed
left_at_both lefts.Failed lefts.Failed = lefts.Failed

-- how many nanoseconds the next poll may wait after an accept that failed, if it may wait so long otherwise
abbrev pub failure_wait : Option Duration → ℕ
failure_wait None = ACCEPT_PAUSE * 1_000_000
failure_wait (Some time) = min (as_nanos time) (ACCEPT_PAUSE * 1_000_000)
