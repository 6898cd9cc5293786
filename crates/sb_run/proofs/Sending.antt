-- What a session sends, over the steps of the handler that it asks.
use Rattle.std.proofs.Common.{◌≡◌, ◌⊎◌, ⊎_elim, ℕ, ◌==◌, Bool, true, false, List, [], ◌∷◌, ◌++◌, take, drop, Option, Some, None, Result, Ok, Err, refl, sym, ap, subst, ◌∙◌, append_assoc}
use Rattle.std.specs.Prelude.{MatchBool}
use Rattle.std.specs.List.{flat_map}
use Rattle.std.specs.Io.KnownBytes.{Appends}
use Rattle.std.proofs.KnownBytes.{Appends-trans, Appends-nil}
use Rattle.std.proofs.lemmas.Grind.{flat_map-append}
use Rattle.std.proofs.lemmas.List.{take-append-drop}
use mathlib.Core.List.{IsPrefix}
use Rattle.sb_types.specs.declared.fault.Fault.{Fault}
use Rattle.sb_types.specs.declared.format.TheConstants.{REASON_ROUNDS_DONE}
use Rattle.sb_types.specs.Records.{Block, Settings}
use Rattle.sb_holdings.specs.Nodes.{Node}
use Rattle.sb_digest.specs.Digests as digests
use Rattle.sb_codec.specs.declared.message.Message.{Message}
use Rattle.sb_codec.specs.declared.message.Message.TheVariants as kinds
use Rattle.sb_frames.specs.Frames.{frame}
use Rattle.sb_frames.specs.Streams.{Stream, open_with, shut}
use Rattle.sb_frames.specs.Connections.{Connection}
use Rattle.sb_session.specs.declared.session.Phase.{Phase}
use Rattle.sb_session.specs.declared.session.Phase.TheVariants as phases
use Rattle.sb_session.specs.declared.replies.Replies.{Replies}
use Rattle.sb_session.specs.declared.replies.Replies.TheVariants as replies
use Rattle.sb_session.specs.declared.talk.Ended.{Ended}
use Rattle.sb_session.specs.Handlers.{Act, tells, gives, applies}
use Rattle.sb_session.specs.Sessions.{Session, new_session, hello_of, refusal_of}
use Rattle.sb_session.specs.Taking.{messages_of, AnswersDigest, Applies, TakesUp, TakesUnless, AsksWith, AsksIn}
use Rattle.sb_session.specs.Telling.{CutShort}
use Rattle.sb_session.specs.Talks.{Party, party_of, Move, hears, speaks, SpeaksOn, Speaks, Run, Course, in_hello, in_last, Cuts, Ends, at_end, at_bye, at_rounds, at_reading, at_message, at_speaking, at_writing, TalksFrom, Talks}
use Rattle.sb_views.specs.declared.event.Event.{Event}
use Rattle.sb_views.proofs.Prefixes.{prefix_self, prefix_trans}
use Rattle.sb_directory.specs.Seats.{Seat}
use Rattle.sb_directory.specs.Serving.{Serves, events_of}
use Rattle.sb_handlers.specs.declared.vain_offers.Offer.{Offer}
use Rattle.sb_handlers.specs.Deferring.{Tries, TriesOr, Gives, Defers, is_any_new, least_times}
use Rattle.sb_run.specs.Sending.{AnsweredSo, AreAnswers, SendsAnswers}

-- ---- the bytes

-- the frames of the first messages, and the front of the next
cut_front : (messages sent unsent : List Message) (last : Message) (count : ℕ) → messages ≡ sent ++ (last ∷ unsent)
    → IsPrefix (flat_map frame sent ++ take count (frame last)) (flat_map frame messages)
cut_front messages sent unsent last count all =
    let left = drop count (frame last) ++ flat_map frame unsent in
    let whole : take count (frame last) ++ left ≡ frame last ++ flat_map frame unsent =
    sym (append_assoc (take count (frame last)) (drop count (frame last)) (flat_map frame unsent))
    ∙ ap (λ (bs : List ℕ). bs ++ flat_map frame unsent) (take-append-drop count (frame last)) in (
      left,
      append_assoc (flat_map frame sent) (take count (frame last)) left
          ∙ (ap (λ (bs : List ℕ). flat_map frame sent ++ bs) whole ∙ (sym (flat_map-append frame sent (last ∷ unsent)) ∙ ap (λ (ms : List Message). flat_map frame ms) (sym all))),
    )

-- the frames of these messages, and a front of those of the next
front_after : (before more : List Message) (bytes : List ℕ) → IsPrefix bytes (flat_map frame more) → IsPrefix (flat_map frame before ++ bytes) (flat_map frame (before ++ more))
front_after before more bytes front =
    (front.0, append_assoc (flat_map frame before) bytes front.0 ∙ (ap (λ (bs : List ℕ). flat_map frame before ++ bs) front.1 ∙ sym (flat_map-append frame before more)))

-- ---- answers

module _ (opening : Node) (settings : Settings) where
  answers_on : (last next : List Event) (messages : List Message) → IsPrefix last next → AreAnswers opening settings last messages → AreAnswers opening settings next messages
  answers_on last next [] grows are = are
  answers_on last next (m ∷ ms) grows are = ((are.0.0, prefix_trans are.0.0 last next are.0.1 grows, are.0.2), answers_on last next ms grows are.1)

  answers_join : (last : List Event) (first rest : List Message) → AreAnswers opening settings last first → AreAnswers opening settings last rest
      → AreAnswers opening settings last (first ++ rest)
  answers_join last [] rest are more = more
  answers_join last (m ∷ ms) rest are more = (are.0, answers_join last ms rest are.1 more)

  pub serves_gave : (old new : Seat) (theirs : digests.Digest) (blocks : List Block) → Serves opening settings old (gives theirs (Ok blocks)) new
      → AnsweredSo opening settings new.last_call (kinds.Delta blocks)
  serves_gave old new theirs blocks step = (step.history, (events_of (gives theirs (Ok blocks)), sym step.last_call), (theirs, step.answers))

  pub serves_told : (old new : Seat) (from : Option (List ℕ)) (want : Bool) (digest : digests.Digest) → Serves opening settings old (tells from want (Ok digest)) new
      → AnsweredSo opening settings new.last_call (kinds.Digest digest)
  serves_told old new from want digest step = (step.history, (events_of (tells from want (Ok digest)), sym step.last_call), (from, want, step.answers))

-- ---- what a handler that defers offers gave is what the handler within gave

either_of : {A B P : Type 0} (b : Bool) → (A → P) → (B → P) → MatchBool b A B → P
either_of true by_a by_b a = by_a a
either_of false by_a by_b b = by_b b

module _ {H : Type 0} (offers : List Offer) (step : H → Act → H → Type 0) (digest : digests.Digest) (new : H) (blocks : List Block) (P : Type 0)
    (gave : (mid : H) (copy : digests.Digest) → step mid (gives copy (Ok blocks)) new → P) where
  tries_gave : (some : List Block) → some ≡ blocks → (times : ℕ) (old : H) → Tries step offers digest times old (Ok (Some some)) new → P
  tries_gave [] same times old took = absurd took
  tries_gave (b ∷ bs) same times old took = gave old took.0 (subst (λ (l : List Block). step old (gives took.0 (Ok l)) new) same took.2)

  or_gave : (times : ℕ) (next : H → Result (List Block) Fault → H → Type 0) → ((mid : H) → next mid (Ok blocks) new → P) → (old : H)
      → TriesOr step offers digest times next old (Ok blocks) new → P
  or_gave times next next_gave old took = ⊎_elim (tries_gave blocks refl times old) (λ nothing. next_gave nothing.0 nothing.2) took

  pub defers_gave : (old : H) → Defers offers step digest old (Ok blocks) new → P
  defers_gave old took =
      let least = least_times offers digest in
      let later = or_gave least (Gives step digest) (λ mid. gave mid digest) in
      either_of (is_any_new offers digest) (or_gave 0 (TriesOr step offers digest least (Gives step digest)) later old) (later old) took

-- ---- the steps of a handler that calls from a seat

-- what is sent after a message that was taken
abbrev said_in : Result Replies Fault → List Message
said_in (Ok answer) = messages_of answer
said_in (Err fault) = []

module _ {H : Type 0} (step : H → Act → H → Type 0) (seat : H → Seat) (opening : Node) (settings : Settings)
    (later : (old new : H) (act : Act) → step old act new → IsPrefix (seat old).last_call (seat new).last_call)
    (gave : (old new : H) (theirs : digests.Digest) (blocks : List Block) → step old (gives theirs (Ok blocks)) new
    → AnsweredSo opening settings (seat new).last_call (kinds.Delta blocks))
    (told : (old new : H) (from : Option (List ℕ)) (want : Bool) (digest : digests.Digest) → step old (tells from want (Ok digest)) new
    → AnsweredSo opening settings (seat new).last_call (kinds.Digest digest)) where
  -- these messages are answers up to then
  abbrev Says : H → H → List Message → Type 0
  Says old new messages = IsPrefix (seat old).last_call (seat new).last_call × AreAnswers opening settings (seat new).last_call messages

  says_nothing : (old new : H) (messages : List Message) → new ≡ old → messages ≡ [] → Says old new messages
  says_nothing old new messages same none = (
    subst (λ (h : H). IsPrefix (seat old).last_call (seat h).last_call) (sym same) (prefix_self (seat old).last_call),
    subst (λ (ms : List Message). AreAnswers opening settings (seat new).last_call ms) (sym none) tt,
  )

  says_digest : (s : Session) (old : H) (theirs : digests.Digest) (want : Bool) (answer : Replies) (t : Session) (new : H)
      → AnswersDigest step s old theirs want (Ok answer) t new → Says old new (messages_of answer)
  says_digest s old theirs true (replies.Exchanged blocks digest) t new a =
      let mid = a.1.0 in
      let first = later old mid (gives theirs (Ok blocks)) a.1.1 in
      let next = later mid new (tells s.cursor false (Ok digest)) a.1.2 in
      let given = gave old mid theirs blocks a.1.1 in (
        prefix_trans (seat old).last_call (seat mid).last_call (seat new).last_call first next,
        ((given.0, prefix_trans given.0 (seat mid).last_call (seat new).last_call given.1 next, given.2), (told mid new s.cursor false digest a.1.2, tt)),
      )
  says_digest s old theirs true replies.Greeted t new a = absurd a
  says_digest s old theirs true (replies.Answered blocks) t new a = absurd a
  says_digest s old theirs true (replies.Applied ends) t new a = absurd a
  says_digest s old theirs true (replies.Ended reason) t new a = absurd a
  says_digest s old theirs false (replies.Answered blocks) t new a = (later old new (gives theirs (Ok blocks)) a.1, (gave old new theirs blocks a.1, tt))
  says_digest s old theirs false replies.Greeted t new a = absurd a
  says_digest s old theirs false (replies.Exchanged blocks digest) t new a = absurd a
  says_digest s old theirs false (replies.Applied ends) t new a = absurd a
  says_digest s old theirs false (replies.Ended reason) t new a = absurd a

  says_applied : (s : Session) (old : H) (blocks : List Block) (answer : Replies) (t : Session) (new : H) → Applies step s old blocks (Ok answer) t new
      → Says old new (messages_of answer)
  says_applied s old blocks (replies.Applied ends) t new a = (later old new (applies blocks (Ok ends)) a.1, tt)
  says_applied s old blocks replies.Greeted t new a = absurd a
  says_applied s old blocks (replies.Answered delta) t new a = absurd a
  says_applied s old blocks (replies.Exchanged delta digest) t new a = absurd a
  says_applied s old blocks (replies.Ended reason) t new a = absurd a

  says_taken : (s : Session) (old : H) (m : Message) (answer : Replies) (t : Session) (new : H) → TakesUp step s old m (Ok answer) t new
      → Says old new (messages_of answer)
  says_taken s old (kinds.Hello hello) answer t new a = says_nothing old new (messages_of answer) a.2 (ap said_in a.0)
  says_taken s old (kinds.Digest theirs) answer t new a = says_digest s old theirs theirs.want answer t new a
  says_taken s old (kinds.Delta blocks) answer t new a = says_applied s old blocks answer t new a
  says_taken s old (kinds.Bye reason) answer t new a = says_nothing old new (messages_of answer) a.2 (ap said_in a.0)
  says_taken s old (kinds.Ask asked) answer t new a = absurd a
  says_taken s old (kinds.Rows rows) answer t new a = absurd a
  says_taken s old (kinds.Put wanted) answer t new a = absurd a
  says_taken s old (kinds.Done version) answer t new a = absurd a
  says_taken s old (kinds.Refused fault) answer t new a = absurd a
  says_taken s old (kinds.AskStatus after) answer t new a = absurd a
  says_taken s old (kinds.NodeStatus status) answer t new a = absurd a
  says_taken s old (kinds.AskChange asked) answer t new a = absurd a
  says_taken s old (kinds.Notice notice) answer t new a = absurd a
  says_taken s old kinds.AskAges answer t new a = absurd a
  says_taken s old (kinds.Ages ages) answer t new a = absurd a

  says_unless : (refusal : Option Fault) (s : Session) (old : H) (m : Message) (answer : Replies) (t : Session) (new : H)
      → TakesUnless refusal step s old m (Ok answer) t new → Says old new (messages_of answer)
  says_unless (Some fault) s old m answer t new a = absurd cc (a.0)
  says_unless None s old m answer t new a = says_taken s old m answer t new a

  says_asked : (s : Session) (old : H) (message : Message) (t : Session) (new : H) → AsksWith step s old (Ok message) t new → Says old new (message ∷ [])
  says_asked s old (kinds.Digest digest) t new a = (later old new (tells s.cursor true (Ok digest)) a.1, (told old new s.cursor true digest a.1, tt))
  says_asked s old (kinds.Hello hello) t new a = absurd a
  says_asked s old (kinds.Delta blocks) t new a = absurd a
  says_asked s old (kinds.Bye reason) t new a = absurd a
  says_asked s old (kinds.Ask asked) t new a = absurd a
  says_asked s old (kinds.Rows rows) t new a = absurd a
  says_asked s old (kinds.Put wanted) t new a = absurd a
  says_asked s old (kinds.Done version) t new a = absurd a
  says_asked s old (kinds.Refused fault) t new a = absurd a
  says_asked s old (kinds.AskStatus after) t new a = absurd a
  says_asked s old (kinds.NodeStatus status) t new a = absurd a
  says_asked s old (kinds.AskChange asked) t new a = absurd a
  says_asked s old (kinds.Notice notice) t new a = absurd a
  says_asked s old kinds.AskAges t new a = absurd a
  says_asked s old (kinds.Ages ages) t new a = absurd a

  says_in : (phase : Phase) (s : Session) (old : H) (message : Message) (t : Session) (new : H) → AsksIn phase step s old (Ok message) t new → Says old new (message ∷ [])
  says_in phases.Waiting s old message t new a = says_asked s old message t new a
  says_in phases.Greeted s old message t new a = says_asked s old message t new a
  says_in phases.Closed s old message t new a = absurd cc (a.0)

  said_as : (old new : H) (said messages : List Message) → said ≡ messages → Says old new messages → Says old new said
  said_as old new said messages is says = subst (λ (ms : List Message). Says old new ms) (sym is) says

  bye_said : (old new : H) → new ≡ old → Says old new (kinds.Bye REASON_ROUNDS_DONE ∷ [])
  bye_said old new same = (
    subst (λ (h : H). IsPrefix (seat old).last_call (seat h).last_call) (sym same) (prefix_self (seat old).last_call),
    (([], ((seat new).last_call, refl), refl), tt),
  )

  says_on : (done : Bool) (s : Session) (old : H) (said : List Message) (t : Session) (new : H) → SpeaksOn step done s old said t new → Says old new said
  says_on true s old said t new a = said_as old new said _ a.0 (bye_said old new a.2)
  says_on false s old said t new a = said_as old new said (a.0 ∷ []) a.2 (says_in s.phase s old a.0 t new a.1)

  says_spoken : (rounds : Option ℕ) (s : Session) (old : H) (said : List Message) (t : Session) (new : H) → Speaks step rounds s old said t new → Says old new said
  says_spoken None s old said t new a = says_nothing old new said a.2 a.0
  says_spoken (Some n) s old said t new a = says_on (n == 0) s old said t new a

  -- ---- a run of moves, and what ends it

  says_then : (a mid b : H) (first rest said : List Message) → Says a mid first → Says mid b rest → said ≡ first ++ rest → Says a b said
  says_then a mid b first rest said one more is = (
    prefix_trans (seat a).last_call (seat mid).last_call (seat b).last_call one.0 more.0,
    subst (λ (ms : List Message). AreAnswers opening settings (seat b).last_call ms) (sym is)
        (answers_join opening settings (seat b).last_call first rest (answers_on opening settings (seat mid).last_call (seat b).last_call first more.0 one.1) more.1),
  )

  says_run : (a : Party H) (moves : List Move) (said : List Message) (b : Party H) → Run step a moves said b → Says a.handler b.handler said
  says_run a [] said b run = says_nothing a.handler b.handler said (ap (λ (p : Party H). p.handler) run.1) run.0
  says_run a (hears m ∷ moves) said b run =
      let mid = run.2 in
      let taken = run.3.4 in
      let took = said_as a.handler mid.handler run.0 (messages_of taken.0) taken.2
      (says_unless (refusal_of a.session m) a.session a.handler m taken.0 mid.session mid.handler taken.1) in
      says_then a.handler mid.handler b.handler run.0 run.1 said took (says_run mid moves run.1 b run.4) run.5
  says_run a (speaks ∷ moves) said b run =
      let mid = run.2 in
      let spoke = says_spoken a.rounds a.session a.handler run.0 mid.session mid.handler run.3.3 in
      says_then a.handler mid.handler b.handler run.0 run.1 said spoke (says_run mid moves run.1 b run.4) run.5

  -- the front of the frames of the Hello and of what was said
  abbrev Fronts : Message → List Message → Option (List ℕ) → Option (List ℕ) → Type 0
  Fronts hello said old new = (out : List ℕ) × Appends old new out × IsPrefix out (flat_map frame (hello ∷ said))

  all_out : (hello : Message) (said : List Message) (old new : Option (List ℕ)) → Appends old new (flat_map frame (hello ∷ said)) → Fronts hello said old new
  all_out hello said old new out = (flat_map frame (hello ∷ said), out, prefix_self (flat_map frame (hello ∷ said)))

  hello_cut : (hello : Message) (said : List Message) (old new : Option (List ℕ)) (fault : Fault) → CutShort old new (hello ∷ []) fault → Fronts hello said old new
  hello_cut hello said old new fault cut =
      let front = cut_front (hello ∷ []) cut.sent cut.unsent cut.last cut.count cut.all in
      let out = flat_map frame cut.sent ++ take cut.count (frame cut.last) in
      let one = flat_map frame (hello ∷ []) in
      let whole : one ++ flat_map frame said ≡ flat_map frame (hello ∷ said) = sym (flat_map-append frame (hello ∷ []) said) in
      (out, cut.put_out, prefix_trans out one (flat_map frame (hello ∷ said)) front (flat_map frame said, whole))

  last_cut : (hello : Message) (before more said : List Message) (old mid new : Option (List ℕ)) (fault : Fault) → said ≡ before ++ more
      → Appends old mid (flat_map frame (hello ∷ before)) → CutShort mid new more fault → Fronts hello said old new
  last_cut hello before more said old mid new fault is first cut =
      let begun = flat_map frame (hello ∷ before) in
      let bytes = flat_map frame cut.sent ++ take cut.count (frame cut.last) in
      let front = front_after (hello ∷ before) more bytes (cut_front more cut.sent cut.unsent cut.last cut.count cut.all) in (
        begun ++ bytes,
        Appends-trans old mid new begun bytes first cut.put_out,
        subst (λ (ms : List Message). IsPrefix (begun ++ bytes) (flat_map frame (hello ∷ ms))) (sym is) front,
      )

  cuts_front : (a : Party H) (course : Course step a) (old new : Option (List ℕ)) (fault : Fault) → Cuts step a course old new fault
      → Fronts (hello_of a.session) course.said old new
  cuts_front a course old new fault (in_hello none cut) = hello_cut (hello_of a.session) course.said old new fault cut
  cuts_front a course old new fault (in_last front move before more now mid is all run moved out cut) =
      last_cut (hello_of a.session) before more course.said old mid new fault all out cut

  ends_front : (a : Party H) (course : Course step a) (h : H) (held : List ℕ) (old new : Connection) (result : Result Ended Fault)
      → Ends step a course h held old new result → Fronts (hello_of a.session) course.said old.output new.output
  ends_front a course h held old new result (at_end is listens none end same stays) = all_out (hello_of a.session) course.said old.output new.output stays.put_out
  ends_front a course h held old new result (at_bye reason front is moved same stays) = all_out (hello_of a.session) course.said old.output new.output stays.put_out
  ends_front a course h held old new result (at_rounds is spoke done same stays) = all_out (hello_of a.session) course.said old.output new.output stays.put_out
  ends_front a course h held old new result (at_reading fault is listens stops same out) = all_out (hello_of a.session) course.said old.output new.output out
  ends_front a course h held old new result (at_message fault message rest is front refuses stays) =
      all_out (hello_of a.session) course.said old.output new.output stays.put_out
  ends_front a course h held old new result (at_speaking fault is refuses stays) = all_out (hello_of a.session) course.said old.output new.output stays.put_out
  ends_front a course h held old new result (at_writing fault is cuts same held_on) = cuts_front a course old.output new.output fault cuts

  talks_send : (a : Party H) (h : H) (stream : Stream) (old new : Connection) (result : Result Ended Fault)
      → a.session ≡ new_session settings.cluster opening.held.me
      → ((course : Course step a) (held : List ℕ) → Ends step a course h held old new result → IsPrefix (seat course.last.handler).last_call (seat h).last_call)
      → TalksFrom step a h stream old new result → SendsAnswers opening settings (seat h).last_call old.output new.output
  talks_send a h (open_with begun) old new result is ended talks =
      let course = talks.course in
      let said = says_run a course.moves course.said course.last course.run in
      let fronts = ends_front a course h talks.held old new result talks.ends in
      record {
        said = course.said;
        out = fronts.0;
        appended = fronts.1;
        front = subst (λ (s : Session). IsPrefix fronts.0 (flat_map frame (hello_of s ∷ course.said))) is fronts.2;
        answers = answers_on opening settings (seat course.last.handler).last_call (seat h).last_call course.said (ended course talks.held talks.ends) said.1;
      }
  talks_send a h shut old new result is ended talks =
      record {
        said = [];
        out = [];
        appended = subst (λ (c : Connection). Appends old.output c.output []) (sym talks.2) (Appends-nil old.output);
        front = (flat_map frame (hello_of (new_session settings.cluster opening.held.me) ∷ []), refl);
        answers = tt;
      }

  -- a session over a connection sends what the node answers
  pub session_sends : (rounds : Option ℕ) (session : Session) (first last : H) (old new : Connection) (result : Result Ended Fault)
      → Talks step (party_of true rounds session first) last old new result
      → session ≡ new_session settings.cluster opening.held.me
      → ((course : Course step (party_of true rounds session first)) (held : List ℕ) → Ends step (party_of true rounds session first) course last held old new result
      → IsPrefix (seat course.last.handler).last_call (seat last).last_call)
      → (after : Seat) → after ≡ seat last → SendsAnswers opening settings after.last_call old.output new.output
  session_sends rounds session first last old new result talks is ended after to =
      subst (λ (s : Seat). SendsAnswers opening settings s.last_call old.output new.output) (sym to)
      (talks_send (party_of true rounds session first) last old.stream old new result is ended talks)
