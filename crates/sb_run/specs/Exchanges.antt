-- How many exchanges of digests and deltas a session makes.
use Rattle.std.specs.Prelude.{◌≡◌, ℕ, List, ◌++◌, count_by}
use Rattle.std.specs.List.{flat_map}
use Rattle.std.specs.Io.KnownBytes.{Consumes}
use Rattle.sb_codec.specs.declared.message.Message.{Message}
use Rattle.sb_frames.specs.Frames.{frame}
use Rattle.sb_frames.specs.Streams.{Stream, open_with, shut}
use Rattle.sb_frames.specs.Connections.{Connection}
use Rattle.sb_session.specs.Talks.{ends_round}

-- the bytes that were held and read are the frames of the messages that were heard, and then what was not heard; so many of the
-- messages are digests that end an exchange
pub record HearsExchanges (count : ℕ) (begun : List ℕ) (old new : Connection) : Type 0 where
  pub bytes : List ℕ
  pub rest : List ℕ
  pub messages : List Message
  pub consumed : Consumes old.input new.input bytes
  pub heard : begun ++ bytes ≡ flat_map frame messages ++ rest
  pub exchanges : count_by ends_round messages ≡ count

-- over a connection that is closed after a faulty frame no exchange is made
abbrev pub ExchangesFrom : ℕ → Stream → Connection → Connection → Type 0
ExchangesFrom count (open_with begun) old new = HearsExchanges count begun old new
ExchangesFrom count shut old new = ⊥

abbrev pub MakesExchanges : ℕ → Connection → Connection → Type 0
MakesExchanges count old new = ExchangesFrom count old.stream old new
