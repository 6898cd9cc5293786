-- What a session makes of a node, and what it sends of it.
use Rattle.std.specs.Prelude.{◌≡◌, ℕ, true, false, List, [], ◌∷◌}
use Rattle.sb_types.specs.declared.entry.Write.{Write}
use Rattle.sb_types.specs.Records.{Block}
use Rattle.sb_types.specs.Runs.{Stands}
use Rattle.sb_digest.specs.Builders.{IsLongestFront}
use Rattle.sb_digest.specs.Digests as digests
use Rattle.sb_digest.specs.Pairs.{pairs_from}
use Rattle.sb_codec.specs.declared.message.Message.{Message}
use Rattle.sb_codec.specs.declared.message.Message.TheVariants.{Hello, Digest, Delta, Bye, Ask, Rows, Put, Done, Refused, AskStatus, NodeStatus, AskChange, Notice, AskAges, Ages}
use Rattle.sb_session.specs.declared.replies.Replies.{Replies}
use Rattle.sb_session.specs.declared.replies.Replies.TheVariants.{Greeted, Answered, Exchanged, Applied, Ended}
use Rattle.sb_session.specs.Sessions.{Session}
use Rattle.sb_node.specs.Answers.{IsDelta, IsAnswer}
use Rattle.sb_node.specs.Calls as calls
use Rattle.sb_node.specs.Cores.{Core}
use Rattle.sb_holdings.specs.Treats.{Treats}

-- the delta, with the reported ends of its blocks
abbrev pub applied_with : List Block → Replies → List calls.Call
applied_with blocks (Applied ends) = calls.Applied blocks ends ∷ []
applied_with blocks Greeted = []
applied_with blocks (Answered delta) = []
applied_with blocks (Exchanged delta digest) = []
applied_with blocks (Ended reason) = []

-- what a node enters from a message that is taken
abbrev pub taken_of : Message → Replies → List calls.Call
taken_of (Delta blocks) replies = applied_with blocks replies
taken_of (Hello hello) replies = []
taken_of (Digest theirs) replies = []
taken_of (Bye reason) replies = []
taken_of (Ask asked) replies = []
taken_of (Rows rows) replies = []
taken_of (Put wanted) replies = []
taken_of (Done version) replies = []
taken_of (Refused fault) replies = []
taken_of (AskStatus after) replies = []
taken_of (NodeStatus told) replies = []
taken_of (AskChange asked) replies = []
taken_of (Notice notice) replies = []
taken_of AskAges replies = []
taken_of (Ages ages) replies = []

-- the answer to a digest, and if one is wanted, the own digest from the session's place on
abbrev pub IsReply : Core → Session → digests.Digest → Replies → Type 0
IsReply core s theirs (Answered blocks) =
    (theirs.want ≡ false) × IsDelta core.settings core.node.held theirs blocks × IsAnswer core.settings.budget core.node.held theirs blocks
IsReply core s theirs (Exchanged blocks digest) =
    (theirs.want ≡ true) × IsDelta core.settings core.node.held theirs blocks × IsAnswer core.settings.budget core.node.held theirs blocks
    × IsLongestFront core.settings.budget false s.cursor (pairs_from s.cursor core.node.held) digest
IsReply core s theirs Greeted = ⊥
IsReply core s theirs (Applied ends) = ⊥
IsReply core s theirs (Ended reason) = ⊥

-- the ends that fit
abbrev pub AreEnds : Core → List Block → Replies → Type 0
AreEnds core blocks (Applied ends) = Treats core.node blocks ends
AreEnds core blocks Greeted = ⊥
AreEnds core blocks (Answered delta) = ⊥
AreEnds core blocks (Exchanged delta digest) = ⊥
AreEnds core blocks (Ended reason) = ⊥

-- the blocks of a delta are honest; no other message contains writes that nodes take over
abbrev pub TrueMessage : (List ℕ → List Write) → Message → Type 0
TrueMessage writes (Delta blocks) = calls.AreHonest writes blocks
TrueMessage writes (Hello hello) = Unit {0}
TrueMessage writes (Digest theirs) = Unit {0}
TrueMessage writes (Bye reason) = Unit {0}
TrueMessage writes (Ask asked) = Unit {0}
TrueMessage writes (Rows rows) = Unit {0}
TrueMessage writes (Put wanted) = Unit {0}
TrueMessage writes (Done version) = Unit {0}
TrueMessage writes (Refused fault) = Unit {0}
TrueMessage writes (AskStatus after) = Unit {0}
TrueMessage writes (NodeStatus told) = Unit {0}
TrueMessage writes (AskChange asked) = Unit {0}
TrueMessage writes (Notice notice) = Unit {0}
TrueMessage writes AskAges = Unit {0}
TrueMessage writes (Ages ages) = Unit {0}

abbrev pub AreTrueMessages : (List ℕ → List Write) → List Message → Type 0
AreTrueMessages writes messages = (message : Message) → Stands messages message → TrueMessage writes message
