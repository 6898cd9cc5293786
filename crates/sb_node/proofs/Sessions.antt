-- What the steps of a session make of a node.
use Rattle.std.proofs.Common.{◌≡◌, ℕ, Bool, true, false, List, Option, Some, None, Result, Ok, Err, inl, ⊎_elim, refl, subst, ◌∙◌}
use Rattle.sb_types.specs.declared.fault.Fault.{Fault}
use Rattle.sb_types.specs.Records.{Block}
use Rattle.sb_digest.specs.Digests as digests
use Rattle.sb_codec.specs.declared.message.Message.{Message}
use Rattle.sb_codec.specs.declared.message.Message.TheVariants as kinds
use Rattle.sb_session.specs.declared.session.Phase.{Phase}
use Rattle.sb_session.specs.declared.session.Phase.TheVariants as phases
use Rattle.sb_session.specs.declared.replies.Replies.{Replies}
use Rattle.sb_session.specs.declared.replies.Replies.TheVariants as replies
use Rattle.sb_session.specs.Handlers.{tells, gives, applies}
use Rattle.sb_session.specs.Sessions.{Session, refusal_of}
use Rattle.sb_session.specs.Taking.{RefusesEither, AnswersDigest, Applies, TakesUp, TakesUnless, Takes, AsksWith, AsksIn, Asks}
use Rattle.sb_node.specs.Acts.{enters_nothing}
use Rattle.sb_node.specs.Calls.{replay_calls, AreBlocks, Applied}
use Rattle.sb_node.specs.Cores.{Core, with_node}
use Rattle.sb_node.specs.Steps.{Steps}
use Rattle.sb_node.specs.Talks.{taken_of, IsReply, AreEnds}

told_nothing : (old new : Core) (from : Option (List ℕ)) (want : Bool) (answer : Result digests.Digest Fault) → Steps old (tells from want answer) new → new ≡ old
told_nothing old new from want answer step = enters_nothing old new (tells from want answer) refl step

gave_nothing : (old new : Core) (theirs : digests.Digest) (answer : Result (List Block) Fault) → Steps old (gives theirs answer) new → new ≡ old
gave_nothing old new theirs answer step = enters_nothing old new (gives theirs answer) refl step

-- ---- a digest

either_left : (s : Session) (core : Core) (theirs : digests.Digest) (fault : Fault) (new : Core) → RefusesEither Steps s core theirs fault new → new ≡ core
either_left s core theirs fault new refuses =
    ⊎_elim (gave_nothing core new theirs (Err fault))
    (λ r. told_nothing r.1 new s.cursor false (Err fault) r.3 ∙ gave_nothing core r.1 theirs (Ok r.0) r.2) refuses

digest_left : (s : Session) (core : Core) (theirs : digests.Digest) (want : Bool) (result : Result Replies Fault) (t : Session) (new : Core)
    → AnswersDigest Steps s core theirs want result t new → new ≡ core
digest_left s core theirs true (Ok (replies.Exchanged blocks digest)) t new a =
    told_nothing a.1.0 new s.cursor false (Ok digest) a.1.2 ∙ gave_nothing core a.1.0 theirs (Ok blocks) a.1.1
digest_left s core theirs true (Ok replies.Greeted) t new a = absurd a
digest_left s core theirs true (Ok (replies.Answered blocks)) t new a = absurd a
digest_left s core theirs true (Ok (replies.Applied ends)) t new a = absurd a
digest_left s core theirs true (Ok (replies.Ended reason)) t new a = absurd a
digest_left s core theirs true (Err fault) t new a = either_left s core theirs fault new a.1
digest_left s core theirs false (Ok (replies.Answered blocks)) t new a = gave_nothing core new theirs (Ok blocks) a.1
digest_left s core theirs false (Ok replies.Greeted) t new a = absurd a
digest_left s core theirs false (Ok (replies.Exchanged blocks digest)) t new a = absurd a
digest_left s core theirs false (Ok (replies.Applied ends)) t new a = absurd a
digest_left s core theirs false (Ok (replies.Ended reason)) t new a = absurd a
digest_left s core theirs false (Err fault) t new a = gave_nothing core new theirs (Err fault) a.1

digest_replied : (s : Session) (core : Core) (theirs : digests.Digest) (want : Bool) (answer : Replies) (t : Session) (new : Core)
    → theirs.want ≡ want → AnswersDigest Steps s core theirs want (Ok answer) t new → IsReply core s theirs answer
digest_replied s core theirs true (replies.Exchanged blocks digest) t new is a =
    let same : a.1.0 ≡ core = gave_nothing core a.1.0 theirs (Ok blocks) a.1.1 in
    let step : Steps core (tells s.cursor false (Ok digest)) new = subst (λ (c : Core). Steps c (tells s.cursor false (Ok digest)) new) same a.1.2 in
    (is, a.1.1.answers.0, a.1.1.answers.1, step.answers)
digest_replied s core theirs true replies.Greeted t new is a = absurd a
digest_replied s core theirs true (replies.Answered blocks) t new is a = absurd a
digest_replied s core theirs true (replies.Applied ends) t new is a = absurd a
digest_replied s core theirs true (replies.Ended reason) t new is a = absurd a
digest_replied s core theirs false (replies.Answered blocks) t new is a = (is, a.1.answers.0, a.1.answers.1)
digest_replied s core theirs false replies.Greeted t new is a = absurd a
digest_replied s core theirs false (replies.Exchanged blocks digest) t new is a = absurd a
digest_replied s core theirs false (replies.Applied ends) t new is a = absurd a
digest_replied s core theirs false (replies.Ended reason) t new is a = absurd a

-- ---- a delta

delta_taken : (s : Session) (core : Core) (blocks : List Block) (answer : Replies) (t : Session) (new : Core) → Applies Steps s core blocks (Ok answer) t new
    → new ≡ with_node core (replay_calls core.node (taken_of (kinds.Delta blocks) answer))
delta_taken s core blocks (replies.Applied ends) t new a = a.1.replay
delta_taken s core blocks replies.Greeted t new a = absurd a
delta_taken s core blocks (replies.Answered delta) t new a = absurd a
delta_taken s core blocks (replies.Exchanged delta digest) t new a = absurd a
delta_taken s core blocks (replies.Ended reason) t new a = absurd a

delta_ended : (s : Session) (core : Core) (blocks : List Block) (answer : Replies) (t : Session) (new : Core) → Applies Steps s core blocks (Ok answer) t new
    → AreBlocks blocks × AreEnds core blocks answer
delta_ended s core blocks (replies.Applied ends) t new a = (a.1.calls (Applied blocks ends) (inl refl), a.1.answers)
delta_ended s core blocks replies.Greeted t new a = absurd a
delta_ended s core blocks (replies.Answered delta) t new a = absurd a
delta_ended s core blocks (replies.Exchanged delta digest) t new a = absurd a
delta_ended s core blocks (replies.Ended reason) t new a = absurd a

-- ---- any message

taken_up : (s : Session) (core : Core) (m : Message) (answer : Replies) (t : Session) (new : Core) → TakesUp Steps s core m (Ok answer) t new
    → new ≡ with_node core (replay_calls core.node (taken_of m answer))
taken_up s core (kinds.Hello hello) answer t new a = a.2
taken_up s core (kinds.Digest theirs) answer t new a = digest_left s core theirs theirs.want (Ok answer) t new a
taken_up s core (kinds.Delta blocks) answer t new a = delta_taken s core blocks answer t new a
taken_up s core (kinds.Bye reason) answer t new a = a.2
taken_up s core (kinds.Ask asked) answer t new a = absurd a
taken_up s core (kinds.Rows rows) answer t new a = absurd a
taken_up s core (kinds.Put wanted) answer t new a = absurd a
taken_up s core (kinds.Done version) answer t new a = absurd a
taken_up s core (kinds.Refused fault) answer t new a = absurd a
taken_up s core (kinds.AskStatus after) answer t new a = absurd a
taken_up s core (kinds.NodeStatus told) answer t new a = absurd a
taken_up s core (kinds.AskChange asked) answer t new a = absurd a
taken_up s core (kinds.Notice notice) answer t new a = absurd a
taken_up s core kinds.AskAges answer t new a = absurd a
taken_up s core (kinds.Ages ages) answer t new a = absurd a

not_up : (s : Session) (core : Core) (m : Message) (fault : Fault) (t : Session) (new : Core) → TakesUp Steps s core m (Err fault) t new → new ≡ core
not_up s core (kinds.Hello hello) fault t new a = a.2
not_up s core (kinds.Digest theirs) fault t new a = digest_left s core theirs theirs.want (Err fault) t new a
not_up s core (kinds.Delta blocks) fault t new a = enters_nothing core new (applies blocks (Err fault)) refl a.1
not_up s core (kinds.Bye reason) fault t new a = a.2
not_up s core (kinds.Ask asked) fault t new a = absurd a
not_up s core (kinds.Rows rows) fault t new a = absurd a
not_up s core (kinds.Put wanted) fault t new a = absurd a
not_up s core (kinds.Done version) fault t new a = absurd a
not_up s core (kinds.Refused reason) fault t new a = absurd a
not_up s core (kinds.AskStatus after) fault t new a = absurd a
not_up s core (kinds.NodeStatus told) fault t new a = absurd a
not_up s core (kinds.AskChange asked) fault t new a = absurd a
not_up s core (kinds.Notice notice) fault t new a = absurd a
not_up s core kinds.AskAges fault t new a = absurd a
not_up s core (kinds.Ages ages) fault t new a = absurd a

pub up_unless : (refusal : Option Fault) (s : Session) (core : Core) (m : Message) (answer : Replies) (t : Session) (new : Core)
    → TakesUnless refusal Steps s core m (Ok answer) t new → TakesUp Steps s core m (Ok answer) t new
up_unless (Some fault) s core m answer t new a = absurd cc (a.0)
up_unless None s core m answer t new a = a

refused_unless : (refusal : Option Fault) (s : Session) (core : Core) (m : Message) (fault : Fault) (t : Session) (new : Core)
    → TakesUnless refusal Steps s core m (Err fault) t new → new ≡ core
refused_unless (Some other) s core m fault t new a = a.2
refused_unless None s core m fault t new a = not_up s core m fault t new a

pub taken : (s : Session) (core : Core) (m : Message) (answer : Replies) (t : Session) (new : Core) → Takes Steps s core m (Ok answer) t new
    → new ≡ with_node core (replay_calls core.node (taken_of m answer))
taken s core m answer t new a = taken_up s core m answer t new (up_unless (refusal_of s m) s core m answer t new a)

pub refused : (s : Session) (core : Core) (m : Message) (fault : Fault) (t : Session) (new : Core) → Takes Steps s core m (Err fault) t new → new ≡ core
refused s core m fault t new a = refused_unless (refusal_of s m) s core m fault t new a

pub replied : (s : Session) (core : Core) (theirs : digests.Digest) (answer : Replies) (t : Session) (new : Core)
    → Takes Steps s core (kinds.Digest theirs) (Ok answer) t new → IsReply core s theirs answer
replied s core theirs answer t new a =
    digest_replied s core theirs theirs.want answer t new refl (up_unless (refusal_of s (kinds.Digest theirs)) s core (kinds.Digest theirs) answer t new a)

pub ended : (s : Session) (core : Core) (blocks : List Block) (answer : Replies) (t : Session) (new : Core)
    → Takes Steps s core (kinds.Delta blocks) (Ok answer) t new → AreBlocks blocks × AreEnds core blocks answer
ended s core blocks answer t new a =
    delta_ended s core blocks answer t new (up_unless (refusal_of s (kinds.Delta blocks)) s core (kinds.Delta blocks) answer t new a)

-- ---- a digest that is asked with

asked_with : (s : Session) (core : Core) (answer : Result Message Fault) (t : Session) (new : Core) → AsksWith Steps s core answer t new → new ≡ core
asked_with s core (Ok (kinds.Digest digest)) t new a = told_nothing core new s.cursor true (Ok digest) a.1
asked_with s core (Ok (kinds.Hello hello)) t new a = absurd a
asked_with s core (Ok (kinds.Delta blocks)) t new a = absurd a
asked_with s core (Ok (kinds.Bye reason)) t new a = absurd a
asked_with s core (Ok (kinds.Ask asked)) t new a = absurd a
asked_with s core (Ok (kinds.Rows rows)) t new a = absurd a
asked_with s core (Ok (kinds.Put wanted)) t new a = absurd a
asked_with s core (Ok (kinds.Done version)) t new a = absurd a
asked_with s core (Ok (kinds.Refused fault)) t new a = absurd a
asked_with s core (Ok (kinds.AskStatus after)) t new a = absurd a
asked_with s core (Ok (kinds.NodeStatus told)) t new a = absurd a
asked_with s core (Ok (kinds.AskChange asked)) t new a = absurd a
asked_with s core (Ok (kinds.Notice notice)) t new a = absurd a
asked_with s core (Ok kinds.AskAges) t new a = absurd a
asked_with s core (Ok (kinds.Ages ages)) t new a = absurd a
asked_with s core (Err fault) t new a = told_nothing core new s.cursor true (Err fault) a.1

asked_in : (phase : Phase) (s : Session) (core : Core) (answer : Result Message Fault) (t : Session) (new : Core) → AsksIn phase Steps s core answer t new → new ≡ core
asked_in phases.Waiting s core answer t new a = asked_with s core answer t new a
asked_in phases.Greeted s core answer t new a = asked_with s core answer t new a
asked_in phases.Closed s core answer t new a = a.2

pub asked : (s : Session) (core : Core) (answer : Result Message Fault) (t : Session) (new : Core) → Asks Steps s core answer t new → new ≡ core
asked s core answer t new a = asked_in s.phase s core answer t new a
