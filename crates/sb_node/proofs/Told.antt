-- What a whole session tells of a node, and what it leaves of it.
use Rattle.std.proofs.Common.{◌≡◌, ℕ, ◌==◌, Bool, true, false, List, [], ◌∷◌, ◌++◌, Option, Some, None, Result, Ok, inl, inr, ⊎_elim, refl, sym, subst}
use Rattle.sb_types.specs.declared.entry.Write.{Write}
use Rattle.sb_types.specs.declared.fault.Fault.{Fault}
use Rattle.sb_types.specs.declared.format.TheConstants.{REASON_ROUNDS_DONE}
use Rattle.sb_types.specs.Records.{Block}
use Rattle.sb_types.specs.Runs.{Stands}
use Rattle.sb_types.specs.Writes.{Honest}
use Rattle.sb_holdings.specs.Nodes.{Node, IsNode, NodeHolds}
use Rattle.sb_types.proofs.Standing.{either}
use Rattle.sb_digest.specs.Digests as digests
use Rattle.sb_codec.specs.declared.message.Message.{Message}
use Rattle.sb_codec.specs.declared.message.Message.TheVariants as kinds
use Rattle.sb_session.specs.declared.session.Phase.{Phase}
use Rattle.sb_session.specs.declared.session.Phase.TheVariants as phases
use Rattle.sb_session.specs.declared.replies.Replies.{Replies}
use Rattle.sb_session.specs.declared.replies.Replies.TheVariants as replies
use Rattle.sb_session.specs.Sessions.{Session, refusal_of}
use Rattle.sb_session.specs.Taking.{messages_of, Takes, AsksWith, AsksIn}
use Rattle.sb_session.specs.Talks.{Party, Move, hears, speaks, heard_in, SpeaksOn, Speaks, Run}
use Rattle.sb_node.specs.Answers.{IsAnswer}
use Rattle.sb_node.specs.Calls.{Call, Applied, replay_calls, AreBlocks, AreHonest, IsCall, TrueCall, AreCalls, AreTrue}
use Rattle.sb_node.specs.Cores.{Core, with_node}
use Rattle.sb_node.specs.Steps.{Steps}
use Rattle.sb_node.specs.Talks.{taken_of, applied_with, IsReply, AreEnds, TrueMessage, AreTrueMessages}
use Rattle.sb_node.proofs.Sessions.{up_unless, taken, replied, ended, asked}

none_said : (writes : List ℕ → List Write) → AreTrueMessages writes []
none_said writes m stands = absurd stands

one_said : (writes : List ℕ → List Write) (m : Message) → TrueMessage writes m → AreTrueMessages writes (m ∷ [])
one_said writes m is other (inl e) = subst (TrueMessage writes) e is
one_said writes m is other (inr stands) = absurd stands

two_said : (writes : List ℕ → List Write) (m n : Message) → TrueMessage writes m → TrueMessage writes n → AreTrueMessages writes (m ∷ n ∷ [])
two_said writes m n is too other (inl e) = subst (TrueMessage writes) e is
two_said writes m n is too other (inr stands) = one_said writes n too other stands

-- ---- a digest that is asked with

asked_true : (writes : List ℕ → List Write) (s : Session) (core : Core) (m : Message) (t : Session) (new : Core) → AsksWith Steps s core (Ok m) t new → TrueMessage writes m
asked_true writes s core (kinds.Digest digest) t new a = tt
asked_true writes s core (kinds.Hello hello) t new a = absurd a
asked_true writes s core (kinds.Delta blocks) t new a = absurd a
asked_true writes s core (kinds.Bye reason) t new a = absurd a
asked_true writes s core (kinds.Ask asked) t new a = absurd a
asked_true writes s core (kinds.Rows rows) t new a = absurd a
asked_true writes s core (kinds.Put wanted) t new a = absurd a
asked_true writes s core (kinds.Done version) t new a = absurd a
asked_true writes s core (kinds.Refused fault) t new a = absurd a
asked_true writes s core (kinds.AskStatus after) t new a = absurd a
asked_true writes s core (kinds.NodeStatus told) t new a = absurd a
asked_true writes s core (kinds.AskChange asked) t new a = absurd a
asked_true writes s core (kinds.Notice notice) t new a = absurd a
asked_true writes s core kinds.AskAges t new a = absurd a
asked_true writes s core (kinds.Ages ages) t new a = absurd a

pub asked_in_true : (writes : List ℕ → List Write) (phase : Phase) (s : Session) (core : Core) (m : Message) (t : Session) (new : Core)
    → AsksIn phase Steps s core (Ok m) t new → TrueMessage writes m
asked_in_true writes phases.Waiting s core m t new a = asked_true writes s core m t new a
asked_in_true writes phases.Greeted s core m t new a = asked_true writes s core m t new a
asked_in_true writes phases.Closed s core m t new a = absurd cc (a.0)

-- ---- what is said unasked

spoken_on : (writes : List ℕ → List Write) (done : Bool) (s : Session) (core : Core) (said : List Message) (t : Session) (new : Core)
    → SpeaksOn Steps done s core said t new → (new ≡ core) × AreTrueMessages writes said
spoken_on writes true s core said t new a = (a.2, subst (AreTrueMessages writes) (sym a.0) (one_said writes (kinds.Bye REASON_ROUNDS_DONE) tt))
spoken_on writes false s core said t new a =
    (asked s core (Ok a.0) t new a.1, subst (AreTrueMessages writes) (sym a.2) (one_said writes a.0 (asked_in_true writes s.phase s core a.0 t new a.1)))

spoken : (writes : List ℕ → List Write) (rounds : Option ℕ) (s : Session) (core : Core) (said : List Message) (t : Session) (new : Core)
    → Speaks Steps rounds s core said t new → (new ≡ core) × AreTrueMessages writes said
spoken writes None s core said t new a = (a.2, subst (AreTrueMessages writes) (sym a.0) (none_said writes))
spoken writes (Some n) s core said t new a = spoken_on writes (n == 0) s core said t new a

-- ---- a message that is heard

one_call : (call : Call) → IsCall call → AreCalls (call ∷ [])
one_call call is other (inl e) = subst IsCall e is
one_call call is other (inr stands) = absurd stands

one_true : (writes : List ℕ → List Write) (me : List ℕ) (call : Call) → TrueCall writes me call → AreTrue writes me (call ∷ [])
one_true writes me call is other (inl e) = subst (TrueCall writes me) e is
one_true writes me call is other (inr stands) = absurd stands

no_calls : AreCalls []
no_calls call stands = absurd stands

none_true : (writes : List ℕ → List Write) (me : List ℕ) → AreTrue writes me []
none_true writes me call stands = absurd stands

applied_is : (blocks : List Block) (answer : Replies) → AreBlocks blocks → AreCalls (applied_with blocks answer)
applied_is blocks (replies.Applied ends) are = one_call (Applied blocks ends) are
applied_is blocks replies.Greeted are = no_calls
applied_is blocks (replies.Answered delta) are = no_calls
applied_is blocks (replies.Exchanged delta digest) are = no_calls
applied_is blocks (replies.Ended reason) are = no_calls

pub calls_are : (s : Session) (core : Core) (m : Message) (answer : Replies) (t : Session) (new : Core) → Takes Steps s core m (Ok answer) t new → AreCalls (taken_of m answer)
calls_are s core (kinds.Delta blocks) answer t new a = applied_is blocks answer (ended s core blocks answer t new a).0
calls_are s core (kinds.Hello hello) answer t new a = no_calls
calls_are s core (kinds.Digest theirs) answer t new a = no_calls
calls_are s core (kinds.Bye reason) answer t new a = no_calls
calls_are s core (kinds.Ask asked) answer t new a = no_calls
calls_are s core (kinds.Rows rows) answer t new a = no_calls
calls_are s core (kinds.Put wanted) answer t new a = no_calls
calls_are s core (kinds.Done version) answer t new a = no_calls
calls_are s core (kinds.Refused fault) answer t new a = no_calls
calls_are s core (kinds.AskStatus after) answer t new a = no_calls
calls_are s core (kinds.NodeStatus told) answer t new a = no_calls
calls_are s core (kinds.AskChange asked) answer t new a = no_calls
calls_are s core (kinds.Notice notice) answer t new a = no_calls
calls_are s core kinds.AskAges answer t new a = no_calls
calls_are s core (kinds.Ages ages) answer t new a = no_calls

applied_true : (writes : List ℕ → List Write) (me : List ℕ) (blocks : List Block) (answer : Replies) → AreHonest writes blocks → AreTrue writes me (applied_with blocks answer)
applied_true writes me blocks (replies.Applied ends) are = one_true writes me (Applied blocks ends) are
applied_true writes me blocks replies.Greeted are = none_true writes me
applied_true writes me blocks (replies.Answered delta) are = none_true writes me
applied_true writes me blocks (replies.Exchanged delta digest) are = none_true writes me
applied_true writes me blocks (replies.Ended reason) are = none_true writes me

pub calls_true : (writes : List ℕ → List Write) (me : List ℕ) (m : Message) (answer : Replies) → TrueMessage writes m → AreTrue writes me (taken_of m answer)
calls_true writes me (kinds.Delta blocks) answer are = applied_true writes me blocks answer are
calls_true writes me (kinds.Hello hello) answer are = none_true writes me
calls_true writes me (kinds.Digest theirs) answer are = none_true writes me
calls_true writes me (kinds.Bye reason) answer are = none_true writes me
calls_true writes me (kinds.Ask asked) answer are = none_true writes me
calls_true writes me (kinds.Rows rows) answer are = none_true writes me
calls_true writes me (kinds.Put wanted) answer are = none_true writes me
calls_true writes me (kinds.Done version) answer are = none_true writes me
calls_true writes me (kinds.Refused fault) answer are = none_true writes me
calls_true writes me (kinds.AskStatus after) answer are = none_true writes me
calls_true writes me (kinds.NodeStatus told) answer are = none_true writes me
calls_true writes me (kinds.AskChange asked) answer are = none_true writes me
calls_true writes me (kinds.Notice notice) answer are = none_true writes me
calls_true writes me kinds.AskAges answer are = none_true writes me
calls_true writes me (kinds.Ages ages) answer are = none_true writes me

-- what a session needs of the laws of a node
pub record Laws : Type 0 where
  pub holds : (writes : List ℕ → List Write) (node : Node) (calls : List Call)
      → IsNode node → AreCalls calls → NodeHolds writes node → AreTrue writes node.held.me calls → NodeHolds writes (replay_calls node calls)
  pub is : (node : Node) (calls : List Call) → IsNode node → AreCalls calls → IsNode (replay_calls node calls)
  pub honest : (writes : List ℕ → List Write) (node : Node) (budget : ℕ) (digest : digests.Digest) (blocks : List Block) (b : Block)
      → IsNode node → NodeHolds writes node → IsAnswer budget node.held digest blocks → Stands blocks b → Honest (writes b.owner) b

-- what is held stays true, and what is said is true
pub record Kept (writes : List ℕ → List Write) (core : Core) (said : List Message) : Type 0 where
  pub is : IsNode core.node
  pub holds : NodeHolds writes core.node
  pub each : AreTrueMessages writes said

module _ (laws : Laws) (writes : List ℕ → List Write) where
  reply_true : (s : Session) (core : Core) (theirs : digests.Digest) (answer : Replies) → IsNode core.node → NodeHolds writes core.node → IsReply core s theirs answer
      → AreTrueMessages writes (messages_of answer)
  reply_true s core theirs (replies.Answered blocks) is holds reply =
      one_said writes (kinds.Delta blocks) (λ b stands. laws.honest writes core.node core.settings.budget theirs blocks b is holds reply.2 stands)
  reply_true s core theirs (replies.Exchanged blocks digest) is holds reply =
      two_said writes (kinds.Delta blocks) (kinds.Digest digest) (λ b stands. laws.honest writes core.node core.settings.budget theirs blocks b is holds reply.2 stands) tt
  reply_true s core theirs replies.Greeted is holds reply = absurd reply
  reply_true s core theirs (replies.Applied ends) is holds reply = absurd reply
  reply_true s core theirs (replies.Ended reason) is holds reply = absurd reply

  ends_said : (core : Core) (blocks : List Block) (answer : Replies) → AreEnds core blocks answer → AreTrueMessages writes (messages_of answer)
  ends_said core blocks (replies.Applied ends) fit = none_said writes
  ends_said core blocks replies.Greeted fit = absurd fit
  ends_said core blocks (replies.Answered delta) fit = absurd fit
  ends_said core blocks (replies.Exchanged delta digest) fit = absurd fit
  ends_said core blocks (replies.Ended reason) fit = absurd fit

  greeted_said : (answer : Replies) (r : Result Replies Fault) → r ≡ Ok answer → r ≡ Ok replies.Greeted → AreTrueMessages writes (messages_of answer)
  greeted_said answer r is e =
      let same : answer ≡ replies.Greeted = cc in
      rw same (none_said writes)

  ended_said : (answer : Replies) (reason : ℕ) (r : Result Replies Fault) → r ≡ Ok answer → r ≡ Ok (replies.Ended reason) → AreTrueMessages writes (messages_of answer)
  ended_said answer reason r is e =
      let same : answer ≡ replies.Ended reason = cc in
      rw same (none_said writes)

  pub heard_said : (s : Session) (core : Core) (m : Message) (answer : Replies) (t : Session) (new : Core) → IsNode core.node → NodeHolds writes core.node
      → Takes Steps s core m (Ok answer) t new → AreTrueMessages writes (messages_of answer)
  heard_said s core (kinds.Hello hello) answer t new is holds a = greeted_said answer (Ok answer) refl (up_unless (refusal_of s (kinds.Hello hello)) s core (kinds.Hello hello) answer t new a).0
  heard_said s core (kinds.Digest theirs) answer t new is holds a = reply_true s core theirs answer is holds (replied s core theirs answer t new a)
  heard_said s core (kinds.Delta blocks) answer t new is holds a = ends_said core blocks answer (ended s core blocks answer t new a).1
  heard_said s core (kinds.Bye reason) answer t new is holds a = ended_said answer reason (Ok answer) refl (up_unless (refusal_of s (kinds.Bye reason)) s core (kinds.Bye reason) answer t new a).0
  heard_said s core (kinds.Ask asked) answer t new is holds a = absurd (up_unless (refusal_of s (kinds.Ask asked)) s core (kinds.Ask asked) answer t new a)
  heard_said s core (kinds.Rows rows) answer t new is holds a = absurd (up_unless (refusal_of s (kinds.Rows rows)) s core (kinds.Rows rows) answer t new a)
  heard_said s core (kinds.Put wanted) answer t new is holds a = absurd (up_unless (refusal_of s (kinds.Put wanted)) s core (kinds.Put wanted) answer t new a)
  heard_said s core (kinds.Done version) answer t new is holds a = absurd (up_unless (refusal_of s (kinds.Done version)) s core (kinds.Done version) answer t new a)
  heard_said s core (kinds.Refused fault) answer t new is holds a = absurd (up_unless (refusal_of s (kinds.Refused fault)) s core (kinds.Refused fault) answer t new a)
  heard_said s core (kinds.AskStatus after) answer t new is holds a = absurd (up_unless (refusal_of s (kinds.AskStatus after)) s core (kinds.AskStatus after) answer t new a)
  heard_said s core (kinds.NodeStatus told) answer t new is holds a = absurd (up_unless (refusal_of s (kinds.NodeStatus told)) s core (kinds.NodeStatus told) answer t new a)
  heard_said s core (kinds.AskChange asked) answer t new is holds a = absurd (up_unless (refusal_of s (kinds.AskChange asked)) s core (kinds.AskChange asked) answer t new a)
  heard_said s core (kinds.Notice notice) answer t new is holds a = absurd (up_unless (refusal_of s (kinds.Notice notice)) s core (kinds.Notice notice) answer t new a)
  heard_said s core kinds.AskAges answer t new is holds a = absurd (up_unless (refusal_of s kinds.AskAges) s core kinds.AskAges answer t new a)
  heard_said s core (kinds.Ages ages) answer t new is holds a = absurd (up_unless (refusal_of s (kinds.Ages ages)) s core (kinds.Ages ages) answer t new a)

  pub heard_kept : (s : Session) (core : Core) (m : Message) (answer : Replies) (said : List Message) (t : Session) (new : Core) → IsNode core.node → NodeHolds writes core.node
      → TrueMessage writes m → Takes Steps s core m (Ok answer) t new → said ≡ messages_of answer → Kept writes new said
  heard_kept s core m answer said t new is holds true_m a e =
      let after : new ≡ with_node core (replay_calls core.node (taken_of m answer)) = taken s core m answer t new a in
      let are : AreCalls (taken_of m answer) = calls_are s core m answer t new a in
      record {
        is = subst (λ (c : Core). IsNode c.node) (sym after) (laws.is core.node (taken_of m answer) is are);
        holds = subst (λ (c : Core). NodeHolds writes c.node) (sym after)
            (laws.holds writes core.node (taken_of m answer) is are holds (calls_true writes core.node.held.me m answer true_m));
        each = subst (AreTrueMessages writes) (sym e) (heard_said s core m answer t new is holds a);
      }

  spoken_kept : (rounds : Option ℕ) (s : Session) (core : Core) (said : List Message) (t : Session) (new : Core) → IsNode core.node → NodeHolds writes core.node
      → Speaks Steps rounds s core said t new → Kept writes new said
  spoken_kept rounds s core said t new is holds a =
      let p = spoken writes rounds s core said t new a in
      record {
        is = subst (λ (c : Core). IsNode c.node) (sym p.0) is;
        holds = subst (λ (c : Core). NodeHolds writes c.node) (sym p.0) holds;
        each = p.1;
      }

  behind : (core : Core) (first rest said : List Message) → AreTrueMessages writes first → Kept writes core rest → said ≡ first ++ rest → Kept writes core said
  behind core first rest said are kept e =
      record {
        is = kept.is;
        holds = kept.holds;
        each = subst (AreTrueMessages writes) (sym e) (λ m stands. ⊎_elim (are m) (kept.each m) (either first rest m stands));
      }

  pub run_kept : (a : Party Core) (moves : List Move) (said : List Message) (b : Party Core) → IsNode a.handler.node → NodeHolds writes a.handler.node
      → Run Steps a moves said b → AreTrueMessages writes (heard_in moves) → Kept writes b.handler said
  run_kept a [] said b is holds run heard =
      record {
        is = subst (λ (p : Party Core). IsNode p.handler.node) (sym run.1) is;
        holds = subst (λ (p : Party Core). NodeHolds writes p.handler.node) (sym run.1) holds;
        each = subst (AreTrueMessages writes) (sym run.0) (none_said writes);
      }
  run_kept a (hears m ∷ moves) said b is holds run heard =
      let x = run.3 in
      let first = heard_kept a.session a.handler m x.4.0 run.0 run.2.session run.2.handler is holds (heard m (inl refl)) x.4.1 x.4.2 in
      behind b.handler run.0 run.1 said first.each (run_kept run.2 moves run.1 b first.is first.holds run.4 (λ n stands. heard n (inr stands))) run.5
  run_kept a (speaks ∷ moves) said b is holds run heard =
      let x = run.3 in
      let first = spoken_kept a.rounds a.session a.handler run.0 run.2.session run.2.handler is holds x.3 in
      behind b.handler run.0 run.1 said first.each (run_kept run.2 moves run.1 b first.is first.holds run.4 heard) run.5
