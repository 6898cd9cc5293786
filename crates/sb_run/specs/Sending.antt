-- What a session of a node sends: its Hello, and then what the node answers.
use Rattle.std.specs.Prelude.{◌≡◌, ℕ, Bool, List, [], ◌∷◌, Option, Ok}
use Rattle.std.specs.List.{flat_map}
use Rattle.std.specs.Io.KnownBytes.{Appends}
use mathlib.Core.List.{IsPrefix}
use Rattle.sb_types.specs.declared.format.TheConstants.{REASON_ROUNDS_DONE}
use Rattle.sb_types.specs.Records.{Settings}
use Rattle.sb_holdings.specs.Nodes.{Node}
use Rattle.sb_digest.specs.Digests as digests
use Rattle.sb_codec.specs.declared.message.Message.{Message}
use Rattle.sb_codec.specs.declared.message.Message.TheVariants as kinds
use Rattle.sb_frames.specs.Frames.{frame}
use Rattle.sb_session.specs.Handlers.{tells, gives}
use Rattle.sb_session.specs.Sessions.{new_session, hello_of}
use Rattle.sb_views.specs.declared.event.Event.{Event}
use Rattle.sb_directory.specs.Serving.{AnswersAfter}

-- after this history the node answers so: a delta to some digest, a digest from some name on, or that all rounds are done
abbrev pub AnswersSo : Node → Settings → List Event → Message → Type 0
AnswersSo opening settings history (kinds.Delta blocks) = (theirs : digests.Digest) × AnswersAfter opening settings history (gives theirs (Ok blocks))
AnswersSo opening settings history (kinds.Digest digest) =
    (from : Option (List ℕ)) × (want : Bool) × AnswersAfter opening settings history (tells from want (Ok digest))
AnswersSo opening settings history (kinds.Bye reason) = reason ≡ REASON_ROUNDS_DONE
AnswersSo opening settings history _ = ⊥

-- it answered so at some moment up to this history
abbrev pub AnsweredSo : Node → Settings → List Event → Message → Type 0
AnsweredSo opening settings last message = (history : List Event) × IsPrefix history last × AnswersSo opening settings history message

abbrev pub AreAnswers : Node → Settings → List Event → List Message → Type 0
AreAnswers opening settings last [] = Unit {0}
AreAnswers opening settings last (message ∷ messages) = AnsweredSo opening settings last message × AreAnswers opening settings last messages

-- what is written is the front of the frames of the node's Hello and of its answers up to this history
pub record SendsAnswers (opening : Node) (settings : Settings) (last : List Event) (old new : Option (List ℕ)) : Type 0 where
  pub said : List Message
  pub out : List ℕ
  pub appended : Appends old new out
  pub front : IsPrefix out (flat_map frame (hello_of (new_session settings.cluster opening.held.me) ∷ said))
  pub answers : AreAnswers opening settings last said
