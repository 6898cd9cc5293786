-- All that is said in a push is true where its delta is honest.
use Rattle.std.proofs.Common.{ℕ, List, inl, inr, subst}
use Rattle.sb_types.specs.declared.entry.Write.{Write}
use Rattle.sb_types.specs.Records.{Block}
use Rattle.sb_codec.specs.declared.message.Message.{Message}
use Rattle.sb_session.specs.Sessions.{Session}
use Rattle.sb_session.specs.Pushes.{pushed_by}
use Rattle.sb_node.specs.Calls.{AreHonest}
use Rattle.sb_node.specs.Talks.{TrueMessage, AreTrueMessages}

pub pushed_true : (writes : List ℕ → List Write) (s : Session) (blocks : List Block) → AreHonest writes blocks → AreTrueMessages writes (pushed_by s blocks)
pushed_true writes s blocks honest message (inl same) = subst (TrueMessage writes) same tt
pushed_true writes s blocks honest message (inr (inl same)) = subst (TrueMessage writes) same honest
pushed_true writes s blocks honest message (inr (inr (inl same))) = subst (TrueMessage writes) same tt
pushed_true writes s blocks honest message (inr (inr (inr none))) = absurd none
