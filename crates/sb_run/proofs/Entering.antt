-- What a session enters from a seat, and what it sends, over the steps of the handler that it asks.
use Rattle.std.proofs.Common.{◌≡◌, ℕ, ◌+◌, ◌==◌, Bool, true, false, List, [], ◌∷◌, ◌++◌, length, take, Option, Some, None, Result, Ok, Err, ⊎_elim, refl, sym, ap, subst, ◌∙◌}
use Rattle.std.proofs.Math.Seq.{take-append_seam}
use Rattle.std.specs.List.{flat_map}
use mathlib.Core.List.{IsPrefix}
use Rattle.sb_types.specs.declared.fault.Fault.{Fault}
use Rattle.sb_types.specs.Records.{Block, Settings}
use Rattle.sb_holdings.specs.Nodes.{Node}
use Rattle.sb_holdings.specs.declared.ends.BlockEnd.{BlockEnd}
use Rattle.sb_digest.specs.Digests as digests
use Rattle.sb_codec.specs.declared.message.Message.{Message}
use Rattle.sb_codec.specs.declared.message.Message.TheVariants as kinds
use Rattle.sb_frames.specs.Streams.{Stream, open_with, shut}
use Rattle.sb_frames.specs.Connections.{Connection}
use Rattle.sb_session.specs.declared.session.Phase.{Phase}
use Rattle.sb_session.specs.declared.session.Phase.TheVariants as phases
use Rattle.sb_session.specs.declared.replies.Replies.{Replies}
use Rattle.sb_session.specs.declared.replies.Replies.TheVariants as replies
use Rattle.sb_session.specs.declared.talk.Ended.{Ended}
use Rattle.sb_session.specs.Handlers.{Act, tells, gives, applies, may_enter}
use Rattle.sb_session.specs.Received.{delta_in}
use Rattle.sb_session.specs.Sessions.{Session, new_session, refusal_of}
use Rattle.sb_session.specs.Taking.{RefusesEither, AnswersDigest, Applies, TakesUp, TakesUnless, Takes, AsksWith, AsksIn, Asks}
use Rattle.sb_session.specs.Talks.{Party, party_of, Move, hears, speaks, heard_in, SpeaksOn, Speaks, Moves, Refuses, Run, Course, Ends, at_end, at_bye, at_rounds, at_reading, at_message, at_speaking, at_writing, TalksFrom, Talks}
use Rattle.sb_views.specs.declared.event.Event.{Event}
use Rattle.sb_views.specs.declared.event.Event.TheVariants.{Applied}
use Rattle.sb_views.proofs.Prefixes.{prefix_self, prefix_trans}
use Rattle.sb_directory.specs.Seats.{Seat, Begins}
use Rattle.sb_directory.specs.Serving.{Serves, IsStill, IsLater}
use Rattle.sb_directory.specs.Handling.{serves-nothing, still-same, still-on}
use Rattle.sb_handlers.specs.declared.gate.GatePoint.{GatePoint}
use Rattle.sb_handlers.specs.Forgetting.{kept_blocks, LeavesOut, ForgettingStep}
use Rattle.sb_handlers.specs.declared.vain_offers.Offer.{Offer}
use Rattle.sb_handlers.specs.Deferring.{DeferringStep, Notes, deferring-nothing}
use Rattle.sb_handlers.specs.Gates.{IsShut, GatedStep}
use Rattle.sb_handlers.proofs.LeavingOut.{forgetting_applies, gated_applies}
use Rattle.sb_run.specs.Entering.{Enters, EntersAny, EntersAll, HearsFrom, Hears, HearsInput, IsLooking, Served, ServesEach, ServesOnly, EachServes}
use Rattle.sb_run.specs.Sending.{AnsweredSo, SendsAnswers}
use Rattle.sb_run.proofs.Sending.{serves_gave, serves_told, defers_gave, session_sends}

-- ---- a seat that stayed still before

still_begins : (history : List Event) (old mid : Seat) → IsStill old mid → Begins history mid → Begins history old
still_begins history old mid still begins = record {
  seen = subst (λ (seen : List Event). IsPrefix seen history) still.seen begins.seen;
  last_call = prefix_trans old.last_call mid.last_call history still.last_call begins.last_call;
}

still_enters : (names : List (List ℕ)) (blocks : List Block) (old mid new : Seat) → IsStill old mid → Enters names blocks mid new → Enters names blocks old new
still_enters names blocks old mid new still entered = record {
  history = entered.history;
  ends = entered.ends;
  begins = still_begins entered.history old mid still entered.begins;
  last_call = entered.last_call;
  events = entered.events ∙ ap (λ (n : ℕ). n + 1) still.events;
  seen = subst (λ (seen : List Event). IsPrefix seen new.seen) still.seen entered.seen;
}

still_any : (names : List (List ℕ)) (delta : Option (List Block)) (old mid new : Seat) → IsStill old mid → EntersAny names delta mid new → EntersAny names delta old new
still_any names None old mid new still entered = still-on old mid new still entered
still_any names (Some blocks) old mid new still entered = still_enters names blocks old mid new still entered

still_all : (names : List (List ℕ)) (messages : List Message) (old mid new : Seat) → IsStill old mid → EntersAll names messages mid new → EntersAll names messages old new
still_all names [] old mid new still entered = still-on old mid new still entered
still_all names (m ∷ ms) old mid new still entered = (entered.0, still_any names (delta_in m) old mid entered.0 still entered.1, entered.2)

all_still : (names : List (List ℕ)) (messages : List Message) (old mid new : Seat) → EntersAll names messages old mid → IsStill mid new → EntersAll names messages old new
all_still names [] old mid new entered still = still-on old mid new entered still
all_still names (m ∷ ms) old mid new entered still = (entered.0, entered.1, all_still names ms entered.0 mid new entered.2 still)

-- ---- the steps of a handler that calls from a seat and forgets owners

module _ {H : Type 0} (step : H → Act → H → Type 0) (seat : H → Seat) (forgets : H → List (List ℕ))
    (same : (old new : H) (act : Act) → step old act new → forgets new ≡ forgets old)
    (still : (old new : H) (act : Act) → may_enter act ≡ false → step old act new → IsStill (seat old) (seat new))
    (enters : (old new : H) (blocks : List Block) (ends : List BlockEnd) → step old (applies blocks (Ok ends)) new → Enters (forgets old) blocks (seat old) (seat new)) where
  -- nothing is entered, and the same owners are forgotten
  abbrev Rests : H → H → Type 0
  Rests old new = (forgets new ≡ forgets old) × IsStill (seat old) (seat new)

  rests : (old new : H) (act : Act) → may_enter act ≡ false → step old act new → Rests old new
  rests old new act none s = (same old new act s, still old new act none s)

  rests_at : (old new : H) → new ≡ old → Rests old new
  rests_at old new is = subst (λ (h : H). Rests old h) (sym is) (refl, still-same (seat old))

  rests_on : (old mid new : H) → Rests old mid → Rests mid new → Rests old new
  rests_on old mid new first next = (next.0 ∙ first.0, still-on (seat old) (seat mid) (seat new) first.1 next.1)

  -- the delta of the message is entered, if it is one
  abbrev TakesIn : Message → H → H → Type 0
  TakesIn m old new = (forgets new ≡ forgets old) × EntersAny (forgets old) (delta_in m) (seat old) (seat new)

  either_rests : (s : Session) (old : H) (theirs : digests.Digest) (fault : Fault) (new : H) → RefusesEither step s old theirs fault new → Rests old new
  either_rests s old theirs fault new refuses =
      ⊎_elim (rests old new (gives theirs (Err fault)) refl)
      (λ r. rests_on old r.1 new (rests old r.1 (gives theirs (Ok r.0)) refl r.2) (rests r.1 new (tells s.cursor false (Err fault)) refl r.3)) refuses

  digest_rests : (s : Session) (old : H) (theirs : digests.Digest) (want : Bool) (result : Result Replies Fault) (t : Session) (new : H)
      → AnswersDigest step s old theirs want result t new → Rests old new
  digest_rests s old theirs true (Ok (replies.Exchanged blocks digest)) t new a =
      rests_on old a.1.0 new (rests old a.1.0 (gives theirs (Ok blocks)) refl a.1.1) (rests a.1.0 new (tells s.cursor false (Ok digest)) refl a.1.2)
  digest_rests s old theirs true (Ok replies.Greeted) t new a = absurd a
  digest_rests s old theirs true (Ok (replies.Answered blocks)) t new a = absurd a
  digest_rests s old theirs true (Ok (replies.Applied ends)) t new a = absurd a
  digest_rests s old theirs true (Ok (replies.Ended reason)) t new a = absurd a
  digest_rests s old theirs true (Err fault) t new a = either_rests s old theirs fault new a.1
  digest_rests s old theirs false (Ok (replies.Answered blocks)) t new a = rests old new (gives theirs (Ok blocks)) refl a.1
  digest_rests s old theirs false (Ok replies.Greeted) t new a = absurd a
  digest_rests s old theirs false (Ok (replies.Exchanged blocks digest)) t new a = absurd a
  digest_rests s old theirs false (Ok (replies.Applied ends)) t new a = absurd a
  digest_rests s old theirs false (Ok (replies.Ended reason)) t new a = absurd a
  digest_rests s old theirs false (Err fault) t new a = rests old new (gives theirs (Err fault)) refl a.1

  delta_enters : (s : Session) (old : H) (blocks : List Block) (answer : Replies) (t : Session) (new : H) → Applies step s old blocks (Ok answer) t new
      → TakesIn (kinds.Delta blocks) old new
  delta_enters s old blocks (replies.Applied ends) t new a = (same old new (applies blocks (Ok ends)) a.1, enters old new blocks ends a.1)
  delta_enters s old blocks replies.Greeted t new a = absurd a
  delta_enters s old blocks (replies.Answered delta) t new a = absurd a
  delta_enters s old blocks (replies.Exchanged delta digest) t new a = absurd a
  delta_enters s old blocks (replies.Ended reason) t new a = absurd a

  taken_up : (s : Session) (old : H) (m : Message) (answer : Replies) (t : Session) (new : H) → TakesUp step s old m (Ok answer) t new → TakesIn m old new
  taken_up s old (kinds.Hello hello) answer t new a = rests_at old new a.2
  taken_up s old (kinds.Digest theirs) answer t new a = digest_rests s old theirs theirs.want (Ok answer) t new a
  taken_up s old (kinds.Delta blocks) answer t new a = delta_enters s old blocks answer t new a
  taken_up s old (kinds.Bye reason) answer t new a = rests_at old new a.2
  taken_up s old (kinds.Ask asked) answer t new a = absurd a
  taken_up s old (kinds.Rows rows) answer t new a = absurd a
  taken_up s old (kinds.Put wanted) answer t new a = absurd a
  taken_up s old (kinds.Done version) answer t new a = absurd a
  taken_up s old (kinds.Refused fault) answer t new a = absurd a
  taken_up s old (kinds.AskStatus after) answer t new a = absurd a
  taken_up s old (kinds.NodeStatus told) answer t new a = absurd a
  taken_up s old (kinds.AskChange asked) answer t new a = absurd a
  taken_up s old (kinds.Notice notice) answer t new a = absurd a
  taken_up s old kinds.AskAges answer t new a = absurd a
  taken_up s old (kinds.Ages ages) answer t new a = absurd a

  not_up : (s : Session) (old : H) (m : Message) (fault : Fault) (t : Session) (new : H) → TakesUp step s old m (Err fault) t new → Rests old new
  not_up s old (kinds.Hello hello) fault t new a = rests_at old new a.2
  not_up s old (kinds.Digest theirs) fault t new a = digest_rests s old theirs theirs.want (Err fault) t new a
  not_up s old (kinds.Delta blocks) fault t new a = rests old new (applies blocks (Err fault)) refl a.1
  not_up s old (kinds.Bye reason) fault t new a = rests_at old new a.2
  not_up s old (kinds.Ask asked) fault t new a = absurd a
  not_up s old (kinds.Rows rows) fault t new a = absurd a
  not_up s old (kinds.Put wanted) fault t new a = absurd a
  not_up s old (kinds.Done version) fault t new a = absurd a
  not_up s old (kinds.Refused reason) fault t new a = absurd a
  not_up s old (kinds.AskStatus after) fault t new a = absurd a
  not_up s old (kinds.NodeStatus told) fault t new a = absurd a
  not_up s old (kinds.AskChange asked) fault t new a = absurd a
  not_up s old (kinds.Notice notice) fault t new a = absurd a
  not_up s old kinds.AskAges fault t new a = absurd a
  not_up s old (kinds.Ages ages) fault t new a = absurd a

  taken_unless : (refusal : Option Fault) (s : Session) (old : H) (m : Message) (answer : Replies) (t : Session) (new : H)
      → TakesUnless refusal step s old m (Ok answer) t new → TakesIn m old new
  taken_unless (Some fault) s old m answer t new a = absurd cc (a.0)
  taken_unless None s old m answer t new a = taken_up s old m answer t new a

  refused_unless : (refusal : Option Fault) (s : Session) (old : H) (m : Message) (fault : Fault) (t : Session) (new : H)
      → TakesUnless refusal step s old m (Err fault) t new → Rests old new
  refused_unless (Some other) s old m fault t new a = rests_at old new a.2
  refused_unless None s old m fault t new a = not_up s old m fault t new a

  -- ---- a digest that is asked with

  asked_with : (s : Session) (old : H) (answer : Result Message Fault) (t : Session) (new : H) → AsksWith step s old answer t new → Rests old new
  asked_with s old (Ok (kinds.Digest digest)) t new a = rests old new (tells s.cursor true (Ok digest)) refl a.1
  asked_with s old (Ok (kinds.Hello hello)) t new a = absurd a
  asked_with s old (Ok (kinds.Delta blocks)) t new a = absurd a
  asked_with s old (Ok (kinds.Bye reason)) t new a = absurd a
  asked_with s old (Ok (kinds.Ask asked)) t new a = absurd a
  asked_with s old (Ok (kinds.Rows rows)) t new a = absurd a
  asked_with s old (Ok (kinds.Put wanted)) t new a = absurd a
  asked_with s old (Ok (kinds.Done version)) t new a = absurd a
  asked_with s old (Ok (kinds.Refused fault)) t new a = absurd a
  asked_with s old (Ok (kinds.AskStatus after)) t new a = absurd a
  asked_with s old (Ok (kinds.NodeStatus told)) t new a = absurd a
  asked_with s old (Ok (kinds.AskChange asked)) t new a = absurd a
  asked_with s old (Ok (kinds.Notice notice)) t new a = absurd a
  asked_with s old (Ok kinds.AskAges) t new a = absurd a
  asked_with s old (Ok (kinds.Ages ages)) t new a = absurd a
  asked_with s old (Err fault) t new a = rests old new (tells s.cursor true (Err fault)) refl a.1

  asked_in : (phase : Phase) (s : Session) (old : H) (answer : Result Message Fault) (t : Session) (new : H) → AsksIn phase step s old answer t new → Rests old new
  asked_in phases.Waiting s old answer t new a = asked_with s old answer t new a
  asked_in phases.Greeted s old answer t new a = asked_with s old answer t new a
  asked_in phases.Closed s old answer t new a = rests_at old new a.2

  spoken_on : (done : Bool) (s : Session) (old : H) (said : List Message) (t : Session) (new : H) → SpeaksOn step done s old said t new → Rests old new
  spoken_on true s old said t new a = rests_at old new a.2
  spoken_on false s old said t new a = asked_in s.phase s old (Ok a.0) t new a.1

  spoken : (rounds : Option ℕ) (s : Session) (old : H) (said : List Message) (t : Session) (new : H) → Speaks step rounds s old said t new → Rests old new
  spoken None s old said t new a = rests_at old new a.2
  spoken (Some n) s old said t new a = spoken_on (n == 0) s old said t new a

  -- ---- a run of moves, and what ends it

  ran : (a : Party H) (moves : List Move) (said : List Message) (b : Party H) → Run step a moves said b
      → (forgets b.handler ≡ forgets a.handler) × EntersAll (forgets a.handler) (heard_in moves) (seat a.handler) (seat b.handler)
  ran a [] said b run = rests_at a.handler b.handler (ap (λ (p : Party H). p.handler) run.1)
  ran a (hears m ∷ moves) said b run =
      let mid = run.2 in
      let took : TakesIn m a.handler mid.handler =
      taken_unless (refusal_of a.session m) a.session a.handler m run.3.4.0 mid.session mid.handler run.3.4.1 in
      let rest = ran mid moves run.1 b run.4 in (
        rest.0 ∙ took.0,
        (
          seat mid.handler,
          took.1,
          subst (λ (names : List (List ℕ)). EntersAll names (heard_in moves) (seat mid.handler) (seat b.handler)) took.0 rest.1,
        ),
      )
  ran a (speaks ∷ moves) said b run =
      let mid = run.2 in
      let spoke : Rests a.handler mid.handler = spoken a.rounds a.session a.handler run.0 mid.session mid.handler run.3.3 in
      let rest = ran mid moves run.1 b run.4 in (
        rest.0 ∙ spoke.0,
        still_all (forgets a.handler) (heard_in moves) (seat a.handler) (seat mid.handler) (seat b.handler) spoke.1
            (subst (λ (names : List (List ℕ)). EntersAll names (heard_in moves) (seat mid.handler) (seat b.handler)) spoke.0 rest.1),
      )

  refused_rests : (a : Party H) (move : Move) (fault : Fault) (h : H) → Refuses step a move fault h → Rests a.handler h
  refused_rests a (hears m) fault h r = refused_unless (refusal_of a.session m) a.session a.handler m fault r.2.0 h r.2.1
  refused_rests a speaks fault h r = asked_in a.session.phase a.session a.handler (Err fault) r.2.0 h r.2.1

  ended_rests : (a : Party H) (course : Course step a) (h : H) (held : List ℕ) (old new : Connection) (result : Result Ended Fault)
      → Ends step a course h held old new result → Rests course.last.handler h
  ended_rests a course h held old new result (at_end is listens none end left stays) = rests_at course.last.handler h left
  ended_rests a course h held old new result (at_bye reason front is moved left stays) = rests_at course.last.handler h left
  ended_rests a course h held old new result (at_rounds is spoke done left stays) = rests_at course.last.handler h left
  ended_rests a course h held old new result (at_reading fault is listens stops left out) = rests_at course.last.handler h left
  ended_rests a course h held old new result (at_message fault message rest is front refuses stays) = refused_rests course.last (hears message) fault h refuses
  ended_rests a course h held old new result (at_speaking fault is refuses stays) = refused_rests course.last speaks fault h refuses
  ended_rests a course h held old new result (at_writing fault is cuts left held_on) = rests_at course.last.handler h left

  talks_hear : (a : Party H) (h : H) (stream : Stream) (old new : Connection) (result : Result Ended Fault) → TalksFrom step a h stream old new result
      → HearsFrom (forgets a.handler) stream old new (seat a.handler) (seat h)
  talks_hear a h (open_with begun) old new result talks =
      let course = talks.course in
      let run = ran a course.moves course.said course.last course.run in
      let rest = ended_rests a course h talks.held old new result talks.ends in
      record {
        bytes = talks.bytes;
        rest = talks.held;
        messages = heard_in course.moves;
        consumed = talks.consumed;
        heard = talks.heard;
        entered = all_still (forgets a.handler) (heard_in course.moves) (seat a.handler) (seat course.last.handler) (seat h) run.1 rest.1;
      }
  talks_hear a h shut old new result talks = ap seat talks.1

-- a session over a connection enters what came over it
pub session_hears : {H : Type 0} (step : H → Act → H → Type 0) (rounds : Option ℕ) (session : Session) (first last : H) (old new : Connection) (result : Result Ended Fault)
    → Talks step (party_of true rounds session first) last old new result
    → (seat : H → Seat) (forgets : H → List (List ℕ))
    → ((a b : H) (act : Act) → step a act b → forgets b ≡ forgets a)
    → ((a b : H) (act : Act) → may_enter act ≡ false → step a act b → IsStill (seat a) (seat b))
    → ((a b : H) (blocks : List Block) (ends : List BlockEnd) → step a (applies blocks (Ok ends)) b → Enters (forgets a) blocks (seat a) (seat b))
    → (names : List (List ℕ)) (before after : Seat) → forgets first ≡ names → seat first ≡ before → after ≡ seat last
    → Hears names old new before after
session_hears step rounds session first last old new result talks seat forgets same still enters names before after forgotten from to =
    let heard = talks_hear step seat forgets same still enters (party_of true rounds session first) last old.stream old new result talks in
    let named = subst (λ (ns : List (List ℕ)). HearsFrom ns old.stream old new (seat first) (seat last)) forgotten heard in
    let begun = subst (λ (s : Seat). HearsFrom names old.stream old new s (seat last)) from named in
    subst (λ (s : Seat). HearsFrom names old.stream old new before s) (sym to) begun

-- ---- a seat behind what is around it

module _ {H : Type 0} (step : H → Act → H → Type 0) (stays grows : H → H → Type 0) (old new : H) where
  -- what holds where blocks are left out and no event is made
  left_still : (names : List (List ℕ)) (act : Act) → may_enter act ≡ false → LeavesOut names step stays grows old act new
      → (P : Type 0) → ((other : Act) → may_enter other ≡ false → step old other new → P) → (stays old new → P) → P
  left_still names (tells from want answer) none out P by_step by_stays = absurd out
  left_still names (gives digest answer) none out P by_step by_stays = absurd out
  left_still names (applies blocks (Ok ends)) none out P by_step by_stays = absurd (cc)
  left_still names (applies blocks (Err fault)) none out P by_step by_stays =
      ⊎_elim (by_step (applies (kept_blocks names blocks) (Err fault)) refl) (λ short. by_stays short.1.0) out

  -- a handler that forgets owners makes no event where the one within makes none
  pub forgetting_still : (names : List (List ℕ)) (act : Act) → may_enter act ≡ false → ForgettingStep names step stays grows old act new
      → (P : Type 0) → ((other : Act) → may_enter other ≡ false → step old other new → P) → (stays old new → P) → P
  forgetting_still names act none took P by_step by_stays =
      ⊎_elim (λ own. by_step act none own.1) (λ out. left_still names act none out P by_step by_stays) took

  -- nor does one behind a gate
  pub gated_still : (lets turns_away : GatePoint → Type 0) (act : Act) → GatedStep lets turns_away step stays grows old act new
      → (P : Type 0) → (step old act new → P) → (stays old new → P) → P
  gated_still lets turns_away act took P by_step by_stays = ⊎_elim (λ own. by_step own.1) (λ turned. by_stays turned.1.0) took

-- a step that takes a delta is that event
pub serves_enters : (opening : Node) (settings : Settings) (names : List (List ℕ)) (blocks : List Block) (old new : Seat) (ends : List BlockEnd)
    → Serves opening settings old (applies (kept_blocks names blocks) (Ok ends)) new → Enters names blocks old new
serves_enters opening settings names blocks old new ends step = record {
  history = step.history;
  ends = ends;
  begins = step.begins;
  last_call = step.last_call;
  events = step.events;
  seen = step.grows;
}

-- ---- the handler of a session of a node: it forgets owners, stands behind a gate, and defers what was offered in vain

module _ {A B C G W : Type 0} (first : A) (forgotten : A → W) (names_of : W → List (List ℕ)) (gated : A → B) (gate : B → G) (number : B → ℕ) (deferring : B → C)
    (offers : C → List Offer) (seat : C → Seat) (lets turns_away : G → ℕ → GatePoint → Type 0) (opening : Node) (settings : Settings) where
  abbrev Within : C → Act → C → Type 0
  Within a act b = DeferringStep (offers a) (Serves opening settings) (seat a) act (seat b) × Notes (offers a) act (offers b)

  abbrev StillWithin : C → C → Type 0
  StillWithin a b = IsStill (seat a) (seat b)

  abbrev LaterWithin : C → C → Type 0
  LaterWithin a b = IsLater (seat a) (seat b)

  abbrev Passes : B → Act → B → Type 0
  Passes a act b = (gate b ≡ gate a) × (number b ≡ number a)
      × GatedStep (lets (gate a) (number a)) (turns_away (gate a) (number a)) Within StillWithin LaterWithin (deferring a) act (deferring b)

  abbrev StaysBehind : B → B → Type 0
  StaysBehind a b = (gate b ≡ gate a) × (number b ≡ number a) × StillWithin (deferring a) (deferring b)

  abbrev GrowsBehind : B → B → Type 0
  GrowsBehind a b = (gate b ≡ gate a) × (number b ≡ number a) × LaterWithin (deferring a) (deferring b)
      × (IsShut (lets (gate a) (number a)) → StillWithin (deferring a) (deferring b))

  abbrev Forgetting : A → Act → A → Type 0
  Forgetting a act b = (forgotten b ≡ forgotten a) × ForgettingStep (names_of (forgotten a)) Passes StaysBehind GrowsBehind (gated a) act (gated b)

  abbrev named : A → List (List ℕ)
  named a = names_of (forgotten a)

  abbrev seat_of : A → Seat
  seat_of a = seat (deferring (gated a))

  none_still : (a b : A) (act : Act) → may_enter act ≡ false → Forgetting a act b → IsStill (seat_of a) (seat_of b)
  none_still a b act none step =
      forgetting_still Passes StaysBehind GrowsBehind (gated a) (gated b) (named a) act none step.1 (IsStill (seat_of a) (seat_of b))
      (λ other quiet inner.
      gated_still Within StillWithin LaterWithin (deferring (gated a)) (deferring (gated b)) (lets (gate (gated a)) (number (gated a)))
      (turns_away (gate (gated a)) (number (gated a))) other inner.2 (IsStill (seat_of a) (seat_of b))
      (λ own.
      deferring-nothing (offers (deferring (gated a))) (Serves opening settings) IsStill (serves-nothing opening settings) still-same still-on (seat_of a) (seat_of b)
      other quiet own.0)
      (λ stays. stays))
      (λ stays. stays.2)

  delta_entered : (a b : A) (blocks : List Block) (ends : List BlockEnd) → Forgetting a (applies blocks (Ok ends)) b → Enters (named a) blocks (seat_of a) (seat_of b)
  delta_entered a b blocks ends step =
      let inner = forgetting_applies (named a) Passes StaysBehind GrowsBehind (gated a) (gated b) blocks ends step.1 in
      let own = gated_applies (lets (gate (gated a)) (number (gated a))) (turns_away (gate (gated a)) (number (gated a))) Within StillWithin LaterWithin
      (deferring (gated a)) (deferring (gated b)) (kept_blocks (named a) blocks) inner.0 inner.1.2 in
      serves_enters opening settings (named a) blocks (seat_of a) (seat_of b) inner.0 own.0

  -- what a session of it enters came over its connection
  pub session_enters : (rounds : Option ℕ) (session : Session) (last : A) (old new : Connection) (result : Result Ended Fault)
      → Talks Forgetting (party_of true rounds session first) last old new result
      → (names : List (List ℕ)) (before after : Seat) → named first ≡ names → seat_of first ≡ before → after ≡ seat_of last → Hears names old new before after
  session_enters rounds session last old new result talks names before after forgot from to =
      session_hears Forgetting rounds session first last old new result talks seat_of named (λ a b act step. ap names_of step.0) none_still delta_entered
      names before after forgot from to

  -- ---- what it sends

  last_call_grows : (a b : A) (act : Act) → Forgetting a act b → IsPrefix (seat_of a).last_call (seat_of b).last_call
  last_call_grows a b (tells from want answer) step = (none_still a b (tells from want answer) refl step).last_call
  last_call_grows a b (gives theirs answer) step = (none_still a b (gives theirs answer) refl step).last_call
  last_call_grows a b (applies blocks (Err fault)) step = (none_still a b (applies blocks (Err fault)) refl step).last_call
  last_call_grows a b (applies blocks (Ok ends)) step =
      let entered = delta_entered a b blocks ends step in
      prefix_trans (seat_of a).last_call entered.history (seat_of b).last_call entered.begins.last_call
      (Applied (kept_blocks (named a) blocks) entered.ends ∷ [], sym entered.last_call)

  delta_given : (a b : A) (theirs : digests.Digest) (blocks : List Block) → Forgetting a (gives theirs (Ok blocks)) b
      → AnsweredSo opening settings (seat_of b).last_call (kinds.Delta blocks)
  delta_given a b theirs blocks step =
      let passed : Passes (gated a) (gives theirs (Ok blocks)) (gated b) = ⊎_elim (λ own. own.1) (λ out. absurd out) step.1 in
      let inner : Within (deferring (gated a)) (gives theirs (Ok blocks)) (deferring (gated b)) = ⊎_elim (λ own. own.1) (λ turned. absurd cc (turned.0.0)) passed.2 in
      defers_gave (offers (deferring (gated a))) (Serves opening settings) theirs (seat_of b) blocks (AnsweredSo opening settings (seat_of b).last_call (kinds.Delta blocks))
      (λ mid copy served. serves_gave opening settings mid (seat_of b) copy blocks served) (seat_of a) inner.0

  digest_told : (a b : A) (from : Option (List ℕ)) (want : Bool) (digest : digests.Digest) → Forgetting a (tells from want (Ok digest)) b
      → AnsweredSo opening settings (seat_of b).last_call (kinds.Digest digest)
  digest_told a b from want digest step =
      let passed : Passes (gated a) (tells from want (Ok digest)) (gated b) = ⊎_elim (λ own. own.1) (λ out. absurd out) step.1 in
      let inner : Within (deferring (gated a)) (tells from want (Ok digest)) (deferring (gated b)) = ⊎_elim (λ own. own.1) (λ turned. absurd (turned.0)) passed.2 in
      serves_told opening settings (seat_of a) (seat_of b) from want digest inner.0

  -- a session of it sends the node's answers alone
  pub session_answers : (rounds : Option ℕ) (session : Session) (last : A) (old new : Connection) (result : Result Ended Fault)
      → Talks Forgetting (party_of true rounds session first) last old new result
      → session ≡ new_session settings.cluster opening.held.me → (after : Seat) → after ≡ seat_of last → SendsAnswers opening settings after.last_call old.output new.output
  session_answers rounds session last old new result talks is after to =
      session_sends Forgetting seat_of opening settings last_call_grows delta_given digest_told rounds session first last old new result talks is
      (λ course held ends.
      (ended_rests Forgetting seat_of named (λ a b act step. ap names_of step.0) none_still delta_entered (party_of true rounds session first) course last held old new
      result ends).1.last_call)
      after to

-- ---- the sessions of a worker

pub looking_same : (seat : Seat) → IsLooking seat seat
looking_same seat = record { seen = prefix_self seat.seen; last_call = prefix_self seat.last_call; events = refl }

pub looking_on : (old mid new : Seat) → IsLooking old mid → IsLooking mid new → IsLooking old new
looking_on old mid new first next = record {
  seen = prefix_trans old.seen mid.seen new.seen first.seen next.seen;
  last_call = prefix_trans old.last_call mid.last_call new.last_call first.last_call next.last_call;
  events = next.events ∙ first.events;
}

pub serves_none : (names : List (List ℕ)) (holds : Option (List ℕ) → Type 0) (old new : Seat) → IsLooking old new → ServesOnly names holds old new
serves_none names holds old new looking = ([], looking)

pub serves_one : (names : List (List ℕ)) (holds : Option (List ℕ) → Type 0) (input : Option (List ℕ)) (old new : Seat) → holds input
    → HearsInput names input old new → ServesOnly names holds old new
serves_one names holds input old new given heard =
    (record { input = input; before = old; after = new } ∷ [], (looking_same old, given, heard, looking_same new))

serves_after : (names : List (List ℕ)) (holds : Option (List ℕ) → Type 0) (served more : List Served) (old mid new : Seat) → ServesEach names holds served old mid
    → ServesEach names holds more mid new → ServesEach names holds (served ++ more) old new
serves_after names holds [] [] old mid new first next = looking_on old mid new first next
serves_after names holds [] (s ∷ ss) old mid new first next = (looking_on old mid s.before first next.0, next.1, next.2, next.3)
serves_after names holds (s ∷ ss) more old mid new first next = (first.0, first.1, first.2, serves_after names holds ss more s.after mid new first.3 next)

pub serves_on : (names : List (List ℕ)) (holds : Option (List ℕ) → Type 0) (old mid new : Seat) → ServesOnly names holds old mid → ServesOnly names holds mid new
    → ServesOnly names holds old new
serves_on names holds old mid new first next = (first.0 ++ next.0, serves_after names holds first.0 next.0 old mid new first.1 next.1)

-- what was written over all of a list is all that it has
pub serves_written : (names : List (List ℕ)) (holds : Option (List ℕ) → Type 0) (old given new rest : List Seat) (count : ℕ) → given ≡ old → length new ≡ length given
    → count ≡ length old → EachServes names holds given new → EachServes names holds old (take count (new ++ rest))
serves_written names holds old given new rest count same as_many of each =
    let moved : EachServes names holds old new = subst (λ (seats : List Seat). EachServes names holds seats new) same each in
    let many : length new ≡ length old = as_many ∙ ap (λ (seats : List Seat). length seats) same in
    let whole : take count (new ++ rest) ≡ new = subst (λ (n : ℕ). take n (new ++ rest) ≡ new) (sym (of ∙ sym many)) (take-append_seam new rest) in
    subst (EachServes names holds old) (sym whole) moved

-- what a call is given and leaves, under other names
pub serves_at : (names : List (List ℕ)) (holds : Option (List ℕ) → Type 0) (old from to new : Seat) → from ≡ old → to ≡ new → ServesOnly names holds from to
    → ServesOnly names holds old new
serves_at names holds old from to new of left served =
    subst (λ (seat : Seat). ServesOnly names holds seat new) of (subst (ServesOnly names holds from) left served)
