-- What a node hears on a line of frames that were sent: all of it is true, and so is all that it replies.
use Rattle.std.proofs.Common.{◌≡◌, ℕ, ◌≤◌, true, List, [], ◌∷◌, ◌++◌, length, map, Option, Some, None, Result, Ok, Err, inl, inr, ⊎_elim, refl, sym, ap, subst, ◌∙◌, arith}
use Rattle.std.specs.List.{flat_map, list_all}
use Rattle.std.proofs.lemmas.Bool.{and_parts}
use Rattle.std.proofs.lemmas.Grind.{flat_map-append}
use Rattle.sb_types.specs.declared.entry.Write.{Write}
use Rattle.sb_types.specs.declared.fault.Fault.{Fault}
use Rattle.sb_types.specs.declared.fault.Fault.TheVariants.{NoMemory}
use Rattle.sb_types.specs.Records.{Block, Settings}
use Rattle.sb_types.specs.Runs.{Stands}
use Rattle.sb_types.proofs.Standing.{either, left as left_of}
use Rattle.sb_holdings.specs.Nodes.{replay_node, IsNode, NodeHolds}
use Rattle.sb_holdings.proofs.Nodes.{replay_node-append}
use Rattle.sb_digest.specs.Digests as digests
use Rattle.sb_codec.specs.declared.message.Message.{Message}
use Rattle.sb_codec.specs.declared.message.Message.TheVariants as kinds
use Rattle.sb_codec.specs.Messages.{is_message}
use Rattle.sb_codec.proofs.Sizes.{delta-spelled, digest-spelled}
use Rattle.sb_frames.specs.Frames.{frame}
use Rattle.sb_frames.specs.Streams.{Stream, open_with, TakesNext, Hands}
use Rattle.sb_frames.proofs.Splitting.{length-frame}
use Rattle.sb_session.specs.declared.replies.Replies.{Replies}
use Rattle.sb_session.specs.declared.replies.Replies.TheVariants as replies
use Rattle.sb_session.specs.Sessions.{Session, refusal_of}
use Rattle.sb_session.specs.declared.session.Phase.{Phase}
use Rattle.sb_session.specs.declared.session.Phase.TheVariants as phases
use Rattle.sb_session.specs.Taking.{messages_of, Takes, AsksWith, AsksIn, Asks}
use Rattle.sb_node.specs.Calls.{events_of, replay_calls, AreCalls, AreTrue}
use Rattle.sb_node.specs.Cores.{Core, with_node}
use Rattle.sb_node.specs.Steps.{Steps}
use Rattle.sb_node.specs.Talks.{taken_of, IsReply, AreEnds, TrueMessage}
use Rattle.sb_node.proofs.Sessions.{up_unless, taken, refused, replied, ended}
use Rattle.sb_node.proofs.Told.{Laws, asked_in_true, calls_are, calls_true, heard_kept, heard_said}
use Rattle.sb_world.specs.declared.event.Item.{Item}
use Rattle.sb_world.specs.Hearing.{Listener, Heard, HearsNext, Hears, Ends, Tells, calls_in, frames_of}
use Rattle.sb_world.specs.Lines.{IsLine}
use Rattle.sb_world.specs.Truth.{IsTrueFrame}
use Rattle.sb_world.proofs.Keeping.{same_me_all}
use Rattle.sb_world.proofs.Lines.{line_taken}

-- ---- what is replied is within the budget

abbrev AreWithin : ℕ → List Message → Type 0
AreWithin budget messages = (m : Message) → Stands messages m → length (frame m) ≤ budget

none_within : (budget : ℕ) → AreWithin budget []
none_within budget m stands = absurd stands

more_within : (budget : ℕ) (m : Message) (ms : List Message) → length (frame m) ≤ budget → AreWithin budget ms → AreWithin budget (m ∷ ms)
more_within budget m ms is are other (inl same) = subst (λ (x : Message). length (frame x) ≤ budget) same is
more_within budget m ms is are other (inr stands) = are other stands

reply_within : (s : Session) (core : Core) (told : digests.Digest) (answer : Replies) → IsReply core s told answer → AreWithin core.settings.budget (messages_of answer)
reply_within s core told (replies.Answered blocks) reply =
    let fits = reply.2.cut.fits in
    more_within core.settings.budget (kinds.Delta blocks) [] (omega (arith, length-frame (kinds.Delta blocks), delta-spelled blocks, fits)) (none_within core.settings.budget)
reply_within s core told (replies.Exchanged blocks digest) reply =
    let fits = reply.2.cut.fits in
    let also = reply.3.fits in
    more_within core.settings.budget (kinds.Delta blocks) (kinds.Digest digest ∷ []) (omega (arith, length-frame (kinds.Delta blocks), delta-spelled blocks, fits))
    (more_within core.settings.budget (kinds.Digest digest) [] (omega (arith, length-frame (kinds.Digest digest), digest-spelled digest, also)) (none_within core.settings.budget))
reply_within s core told replies.Greeted reply = absurd reply
reply_within s core told (replies.Applied ends) reply = absurd reply
reply_within s core told (replies.Ended reason) reply = absurd reply

ends_within : (core : Core) (blocks : List Block) (answer : Replies) → AreEnds core blocks answer → AreWithin core.settings.budget (messages_of answer)
ends_within core blocks (replies.Applied ends) fit = none_within core.settings.budget
ends_within core blocks replies.Greeted fit = absurd fit
ends_within core blocks (replies.Answered delta) fit = absurd fit
ends_within core blocks (replies.Exchanged delta digest) fit = absurd fit
ends_within core blocks (replies.Ended reason) fit = absurd fit

abbrev reply_ok : Replies → Result Replies Fault
reply_ok answer = Ok answer

abbrev reply_or : Replies → Result Replies Fault → Replies
reply_or other (Ok answer) = answer
reply_or other (Err fault) = other

silent_within : (budget : ℕ) (answer other : Replies) → reply_ok answer ≡ reply_ok other → messages_of other ≡ [] → AreWithin budget (messages_of answer)
silent_within budget answer other e none = subst (AreWithin budget) (sym (ap messages_of (ap (reply_or answer) e) ∙ none)) (none_within budget)

replies_within : (s : Session) (core : Core) (m : Message) (answer : Replies) (t : Session) (new : Core) → Takes Steps s core m (Ok answer) t new → AreWithin core.settings.budget (messages_of answer)
replies_within s core (kinds.Hello hello) answer t new a =
    silent_within core.settings.budget answer replies.Greeted (up_unless (refusal_of s (kinds.Hello hello)) s core (kinds.Hello hello) answer t new a).0 refl
replies_within s core (kinds.Digest told) answer t new a = reply_within s core told answer (replied s core told answer t new a)
replies_within s core (kinds.Delta blocks) answer t new a = ends_within core blocks answer (ended s core blocks answer t new a).1
replies_within s core (kinds.Bye reason) answer t new a =
    silent_within core.settings.budget answer (replies.Ended reason) (up_unless (refusal_of s (kinds.Bye reason)) s core (kinds.Bye reason) answer t new a).0 refl
replies_within s core (kinds.Ask asked) answer t new a = absurd (up_unless (refusal_of s (kinds.Ask asked)) s core (kinds.Ask asked) answer t new a)
replies_within s core (kinds.Rows rows) answer t new a = absurd (up_unless (refusal_of s (kinds.Rows rows)) s core (kinds.Rows rows) answer t new a)
replies_within s core (kinds.Put wanted) answer t new a = absurd (up_unless (refusal_of s (kinds.Put wanted)) s core (kinds.Put wanted) answer t new a)
replies_within s core (kinds.Done version) answer t new a = absurd (up_unless (refusal_of s (kinds.Done version)) s core (kinds.Done version) answer t new a)
replies_within s core (kinds.Refused fault) answer t new a = absurd (up_unless (refusal_of s (kinds.Refused fault)) s core (kinds.Refused fault) answer t new a)
replies_within s core (kinds.AskStatus after) answer t new a = absurd (up_unless (refusal_of s (kinds.AskStatus after)) s core (kinds.AskStatus after) answer t new a)
replies_within s core (kinds.NodeStatus told) answer t new a = absurd (up_unless (refusal_of s (kinds.NodeStatus told)) s core (kinds.NodeStatus told) answer t new a)
replies_within s core (kinds.AskChange asked) answer t new a = absurd (up_unless (refusal_of s (kinds.AskChange asked)) s core (kinds.AskChange asked) answer t new a)
replies_within s core (kinds.Notice notice) answer t new a = absurd (up_unless (refusal_of s (kinds.Notice notice)) s core (kinds.Notice notice) answer t new a)
replies_within s core kinds.AskAges answer t new a = absurd (up_unless (refusal_of s kinds.AskAges) s core kinds.AskAges answer t new a)
replies_within s core (kinds.Ages ages) answer t new a = absurd (up_unless (refusal_of s (kinds.Ages ages)) s core (kinds.Ages ages) answer t new a)

-- ---- what is asked with

asked_with_within : (s : Session) (core : Core) (m : Message) (t : Session) (new : Core) → AsksWith Steps s core (Ok m) t new → length (frame m) ≤ core.settings.budget
asked_with_within s core (kinds.Digest digest) t new a =
    let fits = a.1.answers.fits in
    omega (arith, length-frame (kinds.Digest digest), digest-spelled digest, fits)
asked_with_within s core (kinds.Hello hello) t new a = absurd a
asked_with_within s core (kinds.Delta blocks) t new a = absurd a
asked_with_within s core (kinds.Bye reason) t new a = absurd a
asked_with_within s core (kinds.Ask asked) t new a = absurd a
asked_with_within s core (kinds.Rows rows) t new a = absurd a
asked_with_within s core (kinds.Put wanted) t new a = absurd a
asked_with_within s core (kinds.Done version) t new a = absurd a
asked_with_within s core (kinds.Refused fault) t new a = absurd a
asked_with_within s core (kinds.AskStatus after) t new a = absurd a
asked_with_within s core (kinds.NodeStatus told) t new a = absurd a
asked_with_within s core (kinds.AskChange asked) t new a = absurd a
asked_with_within s core (kinds.Notice notice) t new a = absurd a
asked_with_within s core kinds.AskAges t new a = absurd a
asked_with_within s core (kinds.Ages ages) t new a = absurd a

asked_in_within : (phase : Phase) (s : Session) (core : Core) (m : Message) (t : Session) (new : Core) → AsksIn phase Steps s core (Ok m) t new → length (frame m) ≤ core.settings.budget
asked_in_within phases.Waiting s core m t new a = asked_with_within s core m t new a
asked_in_within phases.Greeted s core m t new a = asked_with_within s core m t new a
asked_in_within phases.Closed s core m t new a = absurd cc (a.0)

pub asked_within : (s : Session) (core : Core) (m : Message) (t : Session) (new : Core) → Asks Steps s core (Ok m) t new → length (frame m) ≤ core.settings.budget
asked_within s core m t new a = asked_in_within s.phase s core m t new a

pub asked_true : (writes : List ℕ → List Write) (s : Session) (core : Core) (m : Message) (t : Session) (new : Core) → Asks Steps s core (Ok m) t new → TrueMessage writes m
asked_true writes s core m t new a = asked_in_true writes s.phase s core m t new a

-- ---- what is told of all that was heard

abbrev pub nothing_next : Result (Option Message) Fault
nothing_next = Ok None

abbrev no_fault : Option Fault
no_fault = None

ends_core : (a b : Listener) (fault : Option Fault) → Ends a fault b → b.core ≡ a.core
ends_core a b None ends = ends.2
ends_core a b (Some fault) ends = ⊎_elim (λ failed. failed.1) (λ r. refused a.session a.core r.0 fault b.session b.core r.3) ends

pub tells_core : (sent : ℕ) (heard : List Heard) (mid last : Listener) (fault : Option Fault) (items : List Item) (frames : List (List ℕ)) → Tells sent heard mid last fault items frames → last.core ≡ mid.core
tells_core sent heard mid last fault items frames tells = ⊎_elim (λ all. ends_core mid last fault all.0) (λ short. short.1) tells

pub tells_end : (sent : ℕ) (heard : List Heard) (mid last : Listener) (items : List Item) (frames : List (List ℕ)) → Tells sent heard mid last None items frames → Ends mid None last
tells_end sent heard mid last items frames tells = ⊎_elim (λ all. all.0) (λ short. absurd (let no : no_fault ≡ Some NoMemory = short.0 in cc)) tells

pub tells_frames : (sent : ℕ) (heard : List Heard) (mid last : Listener) (fault : Option Fault) (items : List Item) (frames : List (List ℕ)) → Tells sent heard mid last fault items frames →
    (bytes : List ℕ) → Stands frames bytes → Stands (frames_of heard) bytes
tells_frames sent heard mid last fault items frames tells bytes stands =
    ⊎_elim (λ all. subst (λ (fs : List (List ℕ)). Stands fs bytes) all.2 stands) (λ short. let front = short.3 in subst (λ (fs : List (List ℕ)). Stands fs bytes) (sym front.1) (left_of frames front.0 bytes stands)) tells

-- ---- frames of true messages

stands_all : (ms : List Message) → list_all is_message ms ≡ true → (m : Message) → Stands ms m → is_message m ≡ true
stands_all [] all m stands = absurd stands
stands_all (x ∷ xs) all m (inl same) = subst (λ (y : Message). is_message y ≡ true) same (and_parts (is_message x) (list_all is_message xs) all).0
stands_all (x ∷ xs) all m (inr stands) = stands_all xs (and_parts (is_message x) (list_all is_message xs) all).1 m stands

of_mapped : (ms : List Message) (bytes : List ℕ) → Stands (map frame ms) bytes → (m : Message) × Stands ms m × (bytes ≡ frame m)
of_mapped [] bytes stands = absurd stands
of_mapped (x ∷ xs) bytes (inl same) = (x, inl refl, sym same)
of_mapped (x ∷ xs) bytes (inr stands) = let rest = of_mapped xs bytes stands in (rest.0, inr rest.1, rest.2)

module _ (laws : Laws) (writes : List ℕ → List Write) (of_world : Settings) (sent : List (List ℕ)) (true_sent : (bytes : List ℕ) → Stands sent bytes → IsTrueFrame writes of_world.budget bytes)
    (left : List ℕ) (own : List ℕ) where
  -- what a node holds is true, and what came for it is of the line
  pub record IsTrueListener (a : Listener) : Type 0 where
    pub settings : a.core.settings ≡ of_world
    pub me : a.core.node.held.me ≡ own
    pub is : IsNode a.core.node
    pub holds : NodeHolds writes a.core.node
    pub held : List ℕ
    pub stands : a.stream ≡ open_with held
    pub line : IsLine sent held left

  -- it is the replay of the deltas that were applied, all of them true, and what it replied is true
  pub record Listened (a : Listener) (heard : List Heard) (b : Listener) : Type 0 where
    pub last : IsTrueListener b
    pub replay : b.core ≡ with_node a.core (replay_calls a.core.node (calls_in heard))
    pub are : AreCalls (calls_in heard)
    pub true_calls : AreTrue writes own (calls_in heard)
    pub frames : (bytes : List ℕ) → Stands (frames_of heard) bytes → IsTrueFrame writes of_world.budget bytes

  module _ (a : Listener) (h : Heard) (b : Listener) (t : IsTrueListener a) (next : HearsNext a h b) where
    hands : Hands t.held h.message b.stream
    hands = subst (λ (s : Stream). TakesNext s (Ok (Some h.message)) b.stream) t.stands next.0

    come : TrueMessage writes h.message × IsLine sent hands.rest left
    come = line_taken writes of_world.budget sent true_sent t.held left hands.rest h.message t.line hands.front

    after : b.core ≡ with_node a.core (replay_calls a.core.node (taken_of h.message h.replies))
    after = taken a.session a.core h.message h.replies b.session b.core next.1

    next_true : IsTrueListener b
    next_true =
        let kept = heard_kept laws writes a.session a.core h.message h.replies (messages_of h.replies) b.session b.core t.is t.holds come.0 next.1 refl in
        record {
          settings = ap (λ (c : Core). c.settings) after ∙ t.settings;
          me = ap (λ (c : Core). c.node.held.me) after ∙ same_me_all a.core.node (flat_map events_of (taken_of h.message h.replies)) ∙ t.me;
          is = kept.is;
          holds = kept.holds;
          held = hands.rest;
          stands = hands.left;
          line = come.1;
        }

    next_frames : (bytes : List ℕ) → Stands (map frame (messages_of h.replies)) bytes → IsTrueFrame writes of_world.budget bytes
    next_frames bytes stands =
        let found = of_mapped (messages_of h.replies) bytes stands in
        let within : length (frame found.0) ≤ a.core.settings.budget = replies_within a.session a.core h.message h.replies b.session b.core next.1 found.0 found.1 in
        record {
          message = found.0;
          limits = stands_all (messages_of h.replies) next.2 found.0 found.1;
          laid = found.2;
          honest = heard_said laws writes a.session a.core h.message h.replies b.session b.core t.is t.holds next.1 found.0 found.1;
          fits = subst (λ (xs : List ℕ). length xs ≤ of_world.budget) (sym found.2) (subst (λ (x : Settings). length (frame found.0) ≤ x.budget) t.settings within);
        }

  pub listened : (a : Listener) (heard : List Heard) (b : Listener) → IsTrueListener a → Hears a heard b → Listened a heard b
  listened a [] b t is = record {
    last = subst IsTrueListener (sym is) t;
    replay = ap (λ (l : Listener). l.core) is;
    are = λ call stands. absurd stands;
    true_calls = λ call stands. absurd stands;
    frames = λ bytes stands. absurd stands;
  }
  listened a (h ∷ hs) b t hears =
      let mid = hears.0 in
      let next = hears.1 in
      let first = taken_of h.message h.replies in
      let rest = listened mid hs b (next_true a h mid t next) hears.2 in
      let joined : replay_calls (replay_calls a.core.node first) (calls_in hs) ≡ replay_calls a.core.node (first ++ calls_in hs) =
      sym (replay_node-append a.core.node (flat_map events_of first) (flat_map events_of (calls_in hs))) ∙ ap (replay_node a.core.node) (sym (flat_map-append events_of first (calls_in hs))) in
      record {
        last = rest.last;
        replay = rest.replay ∙ ap (λ (c : Core). with_node c (replay_calls c.node (calls_in hs))) (after a h mid t next) ∙ ap (with_node a.core) joined;
        are = λ call stands. ⊎_elim (calls_are a.session a.core h.message h.replies mid.session mid.core next.1 call) (rest.are call) (either first (calls_in hs) call stands);
        true_calls = λ call stands. ⊎_elim (calls_true writes own h.message h.replies (come a h mid t next).0 call) (rest.true_calls call) (either first (calls_in hs) call stands);
        frames = λ bytes stands. ⊎_elim (next_frames a h mid t next bytes) (rest.frames bytes) (either (map frame (messages_of h.replies)) (frames_of hs) bytes stands);
      }
