-- A talk as far as it has come, and how it goes on and ends.
use Rattle.std.proofs.Common.{◌≡◌, ◌≢◌, ℕ, ◌≤◌, Bool, true, false, List, [], ◌∷◌, ◌++◌, Option, Some, None, Result, Ok, Err, IfOk, ◌==◌, refl, sym, ap, subst, ◌∙◌, inl, inr, append_assoc, arith}
use Rattle.std.specs.List.{flat_map, list_all}
use Rattle.std.specs.Io.KnownBytes.{Keeps, Appends, Consumes}
use Rattle.std.proofs.KnownBytes.{Consumes-nil, Consumes-trans}
use Rattle.std.proofs.lemmas.Grind.{flat_map-append}
use Rattle.std.proofs.lemmas.Bool.{and_parts, ne_eqb}
use Rattle.std.proofs.lemmas.List.{append-nil}
use Rattle.sb_types.specs.declared.fault.Fault.{Fault}
use Rattle.sb_types.specs.declared.fault.Fault.TheVariants.{Closed}
use Rattle.sb_types.specs.declared.format.TheConstants.{REASON_ROUNDS_DONE}
use Rattle.sb_digest.specs.Digests as digests
use Rattle.sb_codec.specs.declared.message.Message.{Message}
use Rattle.sb_codec.specs.declared.message.Message.TheVariants as kinds
use Rattle.sb_codec.specs.Messages.{is_message}
use Rattle.sb_frames.specs.Frames.{frame}
use Rattle.sb_frames.specs.Streams.{Stream, open_with, shut, Hands}
use Rattle.sb_frames.specs.Receiving.{Receives, is_shut, held_of, ReceivesOpen, Stops, is_bad, no_memory, read_failed, cut_short, turns_spent}
use Rattle.sb_frames.specs.Connections.{Connection, at_start, KeepsInput, KeepsOutput, ReceivesOn}
use Rattle.sb_frames.proofs.Fronts.{front_frame}
use Rattle.sb_session.specs.declared.replies.Replies.{Replies}
use Rattle.sb_session.specs.declared.replies.Replies.TheVariants as replies
use Rattle.sb_session.specs.declared.talk.Ended.{Ended}
use Rattle.sb_session.specs.declared.talk.Ended.TheVariants as endings
use Rattle.sb_session.specs.Handlers.{Act}
use Rattle.sb_session.specs.Sessions.{Session, hello_of}
use Rattle.sb_session.specs.Taking.{TakesUnless, TakesUp, AnswersDigest, Asks, messages_of, bye_of}
use Rattle.sb_session.specs.Telling.{CutShort, Says}
use Rattle.sb_session.specs.Talks.{Party, party_of, ends_round, rounds_after, are_done, Speaks, SpeaksOn, Move, hears, speaks, Moves, Refuses, Run, heard_in, Course, Stays, in_hello, in_last, Ends, at_end, at_bye, at_rounds, at_reading, at_message, at_speaking, at_writing, TalksOpen, TalksFrom, Talks, Hearing, Speaking}
use Rattle.sb_session.proofs.Saying.{kept_after, put_behind}

-- the message that a move takes out of what was read
abbrev pub pending_of : Move → List Message
pending_of (hears message) = message ∷ []
pending_of speaks = []

-- a message that came is pending until a move hears it
pub record Talking {H : Type 0} (step : H → Act → H → Type 0) (a now : Party H) (pending : List Message) (old new : Connection) : Type 0 where
  pub bytes : List ℕ
  pub held : List ℕ
  pub moves : List Move
  pub said : List Message
  pub consumed : Consumes old.input new.input bytes
  pub heard : held_of old.stream ++ bytes ≡ flat_map frame (heard_in moves ++ pending) ++ held
  pub each : list_all is_message pending ≡ true
  pub run : Run step a moves said now
  pub put_out : Appends old.output new.output (flat_map frame (hello_of a.session ∷ said))
  pub stands : new.stream ≡ open_with held
  pub fewer : new.left ≤ old.left
  pub opened : is_shut old.stream ≡ false

-- ---- runs

pub run_on : {H : Type 0} (step : H → Act → H → Type 0) (a : Party H) (moves : List Move) (said : List Message) (b : Party H) (move : Move) (more : List Message) (c : Party H)
    → Run step a moves said b → Moves step b move more c → Run step a (moves ++ move ∷ []) (said ++ more) c
run_on step a [] said b move more c run next =
    (more, [], c, subst (λ x. Moves step x move more c) run.1 next, (refl, refl), ap (λ (x : List Message). x ++ more) run.0 ∙ sym (append-nil more))
run_on step a (first ∷ moves) said b move more c run next =
    (run.0, run.1 ++ more, run.2, run.3, run_on step run.2 moves run.1 b move more c run.4 next, ap (λ (x : List Message). x ++ more) run.5 ∙ append_assoc run.0 run.1 more)

heard_on : (moves : List Move) (move : Move) → heard_in (moves ++ move ∷ []) ≡ heard_in moves ++ pending_of move
heard_on [] (hears message) = refl
heard_on [] speaks = refl
heard_on (hears message ∷ moves) move = ap (λ (x : List Message). message ∷ x) (heard_on moves move)
heard_on (speaks ∷ moves) move = heard_on moves move

-- ---- going on

open_held : (stream : Stream) → is_shut stream ≡ false → stream ≡ open_with (held_of stream)
open_held (open_with held) e = refl
open_held shut e = absurd cc

one_more : (hm : List Message) (m : Message) (bytes held more rest : List ℕ) → bytes ≡ flat_map frame (hm ++ []) ++ held → held ++ more ≡ frame m ++ rest
    → bytes ++ more ≡ flat_map frame (hm ++ m ∷ []) ++ rest
one_more hm m bytes held more rest e laid =
    let front : flat_map frame hm ++ frame m ≡ flat_map frame (hm ++ m ∷ []) =
    sym (flat_map-append frame hm (m ∷ []) ∙ ap (λ (x : List ℕ). flat_map frame hm ++ x) (append-nil (frame m))) in
    ap (λ (x : List ℕ). x ++ more) e ∙ append_assoc (flat_map frame (hm ++ [])) held more ∙ ap (λ (x : List ℕ). flat_map frame (hm ++ []) ++ x) laid
    ∙ ap (λ (x : List Message). flat_map frame x ++ (frame m ++ rest)) (append-nil hm) ∙ sym (append_assoc (flat_map frame hm) (frame m) rest) ∙ ap (λ (x : List ℕ). x ++ rest) front

-- with nothing pending, what was heard stands so
settled : (hm : List Message) (bytes held : List ℕ) → bytes ≡ flat_map frame (hm ++ []) ++ held → bytes ≡ flat_map frame hm ++ held
settled hm bytes held e = e ∙ ap (λ (x : List Message). flat_map frame x ++ held) (append-nil hm)

more_read : (hm : List Message) (bytes held more : List ℕ) → bytes ≡ flat_map frame (hm ++ []) ++ held → bytes ++ more ≡ flat_map frame hm ++ (held ++ more)
more_read hm bytes held more e = ap (λ (x : List ℕ). x ++ more) (settled hm bytes held e) ∙ append_assoc (flat_map frame hm) held more

pub stops_later : (fault : Fault) (bytes : List ℕ) (rest : Stream) (to : Option (List ℕ)) (before left less : ℕ) → left ≤ before → Stops fault bytes rest to left less
    → Stops fault bytes rest to before less
stops_later fault bytes rest to before left less fewer (is_bad front new) = is_bad front new
stops_later fault bytes rest to before left less fewer (no_memory is new) = no_memory is new
stops_later fault bytes rest to before left less fewer (read_failed is none new made) = read_failed is none new (omega (arith, fewer, made))
stops_later fault bytes rest to before left less fewer (cut_short is none new some end) = cut_short is none new some end
stops_later fault bytes rest to before left less fewer (turns_spent is none new spent) = turns_spent is none new spent

module _ {H : Type 0} (step : H → Act → H → Type 0) (a : Party H) (old : Connection) where
  talks_open : (h : H) (new : Connection) (result : Result Ended Fault) (stream : Stream) → is_shut stream ≡ false → TalksOpen step a h (held_of stream) old new result
      → TalksFrom step a h stream old new result
  talks_open h new result (open_with begun) e t = t
  talks_open h new result shut e t = absurd cc

  shut_talks : (new : Connection) (fault : Fault) (stream : Stream) → is_shut stream ≡ true → fault ≡ Closed → new ≡ old → TalksFrom step a a.handler stream old new (Err fault)
  shut_talks new fault (open_with begun) e is same = absurd cc
  shut_talks new fault shut e is same = (ap Err is, refl, same)

  pub never_starts : (new : Connection) (fault : Fault) → is_shut old.stream ≡ true → fault ≡ Closed → new ≡ old → Talks step a a.handler old new (Err fault)
  never_starts new fault e is same = shut_talks new fault old.stream e is same

  pub course_of : (now : Party H) (new : Connection) (pending : List Message) → Talking step a now pending old new → Course step a
  course_of now new pending t = record { moves = t.moves; said = t.said; last = now; run = t.run }

  pub talk_begins : (new : Connection) → is_shut old.stream ≡ false → KeepsInput (at_start old) new → Appends old.output new.output (flat_map frame (hello_of a.session ∷ []))
      → Talking step a a [] old new
  talk_begins new opened kept put = record {
    bytes = [];
    held = held_of old.stream;
    moves = [];
    said = [];
    consumed = subst (λ (x : Option (List ℕ)). Consumes old.input x []) (sym kept.0) (Consumes-nil old.input);
    heard = append-nil (held_of old.stream);
    each = refl;
    run = (refl, refl);
    put_out = put;
    stands = kept.1 ∙ open_held old.stream opened;
    fewer = omega (arith, kept.2);
    opened = opened;
  }

  pub talk_moves : (now next : Party H) (move : Move) (more : List Message) (mid new : Connection) → Talking step a now (pending_of move) old mid → Moves step now move more next
      → KeepsInput mid new → Appends mid.output new.output (flat_map frame more) → Talking step a next [] old new
  talk_moves now next move more mid new t moved kept put = record {
    bytes = t.bytes;
    held = t.held;
    moves = t.moves ++ move ∷ [];
    said = t.said ++ more;
    consumed = subst (λ (x : Option (List ℕ)). Consumes old.input x t.bytes) (sym kept.0) t.consumed;
    heard = t.heard ∙ ap (λ (x : List Message). flat_map frame x ++ t.held) (sym (append-nil _ ∙ heard_on t.moves move));
    each = refl;
    run = run_on step a t.moves t.said now move more next t.run moved;
    put_out = put_behind old.output mid.output new.output (hello_of a.session ∷ t.said) more t.put_out put;
    stands = kept.1 ∙ t.stands;
    fewer = omega (arith, kept.2, t.fewer);
    opened = t.opened;
  }

  pub talk_receives : (now : Party H) (m : Message) (mid new : Connection) → Talking step a now [] old mid → ReceivesOn mid new (Ok (Some m)) → KeepsOutput mid new
      → Talking step a now (m ∷ []) old new
  talk_receives now m mid new t received kept =
      let r : ReceivesOpen t.held new.stream mid.input new.input mid.left new.left (Ok (Some m)) =
      subst (λ s. Receives s new.stream mid.input new.input mid.left new.left (Ok (Some m))) t.stands received in
      let hands : Hands (t.held ++ r.bytes) m new.stream = r.given in
      record {
        bytes = t.bytes ++ r.bytes;
        held = hands.rest;
        moves = t.moves;
        said = t.said;
        consumed = Consumes-trans old.input mid.input new.input t.bytes r.bytes t.consumed r.consumed;
        heard = sym (append_assoc (held_of old.stream) t.bytes r.bytes) ∙ one_more (heard_in t.moves) m (held_of old.stream ++ t.bytes) t.held r.bytes hands.rest t.heard hands.leads.laid;
        each = rw hands.leads.limits refl;
        run = t.run;
        put_out = subst (λ (x : Option (List ℕ)). Appends old.output x (flat_map frame (hello_of a.session ∷ t.said))) (sym kept.0) t.put_out;
        stands = hands.left;
        fewer = omega (arith, t.fewer, r.fewer);
        opened = t.opened;
      }

  -- ---- ending

  pub talk_ends : (now : Party H) (h : H) (new : Connection) (result : Result Ended Fault) → (t : Talking step a now [] old new)
      → Ends step a (course_of now new [] t) h t.held old new result → Talks step a h old new result
  unfolding course_of
  talk_ends now h new result t ends = talks_open h new result old.stream t.opened (record {
    bytes = t.bytes;
    held = t.held;
    course = course_of now new [] t;
    consumed = t.consumed;
    heard = settled (heard_in t.moves) (held_of old.stream ++ t.bytes) t.held t.heard;
    ends = ends;
  })

  pub talk_cut : (now next : Party H) (move : Move) (more : List Message) (mid new : Connection) (fault : Fault) → Talking step a now (pending_of move) old mid
      → Moves step now move more next → KeepsInput mid new → CutShort mid.output new.output more fault → Talks step a next.handler old new (Err fault)
  talk_cut now next move more mid new fault t moved kept cut = talks_open next.handler new (Err fault) old.stream t.opened (record {
    bytes = t.bytes;
    held = t.held;
    course = record { moves = t.moves ++ move ∷ []; said = t.said ++ more; last = next; run = run_on step a t.moves t.said now move more next t.run moved };
    consumed = subst (λ (x : Option (List ℕ)). Consumes old.input x t.bytes) (sym kept.0) t.consumed;
    heard = t.heard ∙ ap (λ (x : List Message). flat_map frame x ++ t.held) (sym (heard_on t.moves move));
    ends = at_writing fault refl (in_last t.moves move t.said more now mid.output refl refl t.run moved t.put_out cut) refl (kept.1 ∙ t.stands);
  })

  pub hello_cut : (new : Connection) (fault : Fault) → is_shut old.stream ≡ false → KeepsInput (at_start old) new → CutShort old.output new.output (hello_of a.session ∷ []) fault
      → Talks step a a.handler old new (Err fault)
  hello_cut new fault opened kept cut = talks_open a.handler new (Err fault) old.stream opened (record {
    bytes = [];
    held = held_of old.stream;
    course = record { moves = []; said = []; last = a; run = (refl, refl) };
    consumed = subst (λ (x : Option (List ℕ)). Consumes old.input x []) (sym kept.0) (Consumes-nil old.input);
    heard = append-nil (held_of old.stream);
    ends = at_writing fault refl (in_hello refl cut) refl (kept.1 ∙ open_held old.stream opened);
  })

  stays_kept : (said : List Message) (held : List ℕ) (mid new : Connection) → Appends old.output mid.output (flat_map frame (hello_of a.session ∷ said)) → mid.stream ≡ open_with held
      → KeepsInput mid new → Keeps mid.output new.output → Stays a said held old new
  stays_kept said held mid new put stands kept same = record { put_out = kept_after old.output mid.output new.output _ put same; held_on = kept.1 ∙ stands }

  pub talk_refused : (now : Party H) (h : H) (move : Move) (mid new : Connection) (fault : Fault) → Talking step a now (pending_of move) old mid → Refuses step now move fault h
      → KeepsInput mid new → Keeps mid.output new.output → Talks step a h old new (Err fault)
  talk_refused now h (hears m) mid new fault t refused kept same = talks_open h new (Err fault) old.stream t.opened (record {
    bytes = t.bytes;
    held = frame m ++ t.held;
    course = record { moves = t.moves; said = t.said; last = now; run = t.run };
    consumed = subst (λ (x : Option (List ℕ)). Consumes old.input x t.bytes) (sym kept.0) t.consumed;
    heard = t.heard ∙ ap (λ (x : List ℕ). x ++ t.held) (flat_map-append frame (heard_in t.moves) (m ∷ []) ∙ ap (λ (x : List ℕ). flat_map frame (heard_in t.moves) ++ x) (append-nil (frame m)))
        ∙ append_assoc (flat_map frame (heard_in t.moves)) (frame m) t.held;
    ends = at_message fault m t.held refl (front_frame m t.held (and_parts _ _ t.each).0) refused (stays_kept t.said t.held mid new t.put_out t.stands kept same);
  })
  talk_refused now h speaks mid new fault t refused kept same = talks_open h new (Err fault) old.stream t.opened (record {
    bytes = t.bytes;
    held = t.held;
    course = record { moves = t.moves; said = t.said; last = now; run = t.run };
    consumed = subst (λ (x : Option (List ℕ)). Consumes old.input x t.bytes) (sym kept.0) t.consumed;
    heard = settled (heard_in t.moves) (held_of old.stream ++ t.bytes) t.held t.heard;
    ends = at_speaking fault refl refused (stays_kept t.said t.held mid new t.put_out t.stands kept same);
  })

  pub talk_reading : (now : Party H) (mid new : Connection) (fault : Fault) → now.speaks ≡ false → are_done now.rounds ≡ false → Talking step a now [] old mid
      → ReceivesOn mid new (Err fault) → KeepsOutput mid new → Talks step a now.handler old new (Err fault)
  talk_reading now mid new fault quiet goes t received kept =
      let r : ReceivesOpen t.held new.stream mid.input new.input mid.left new.left (Err fault) =
      subst (λ s. Receives s new.stream mid.input new.input mid.left new.left (Err fault)) t.stands received in
      talks_open now.handler new (Err fault) old.stream t.opened (record {
        bytes = t.bytes ++ r.bytes;
        held = t.held ++ r.bytes;
        course = record { moves = t.moves; said = t.said; last = now; run = t.run };
        consumed = Consumes-trans old.input mid.input new.input t.bytes r.bytes t.consumed r.consumed;
        heard = sym (append_assoc (held_of old.stream) t.bytes r.bytes) ∙ more_read (heard_in t.moves) (held_of old.stream ++ t.bytes) t.held r.bytes t.heard;
        ends = at_reading fault refl (quiet, goes) (stops_later fault (t.held ++ r.bytes) new.stream new.input old.left mid.left new.left t.fewer r.given) refl
            (subst (λ (x : Option (List ℕ)). Appends old.output x (flat_map frame (hello_of a.session ∷ t.said))) (sym kept.0) t.put_out);
      })

  pub talk_at_end : (now : Party H) (mid new : Connection) → now.speaks ≡ false → are_done now.rounds ≡ false → Talking step a now [] old mid → ReceivesOn mid new (Ok None)
      → KeepsOutput mid new → Talks step a now.handler old new (Ok endings.End)
  talk_at_end now mid new quiet goes t received kept =
      let r : ReceivesOpen t.held new.stream mid.input new.input mid.left new.left (Ok None) =
      subst (λ s. Receives s new.stream mid.input new.input mid.left new.left (Ok None)) t.stands received in
      talks_open now.handler new (Ok endings.End) old.stream t.opened (record {
        bytes = t.bytes ++ r.bytes;
        held = t.held ++ r.bytes;
        course = record { moves = t.moves; said = t.said; last = now; run = t.run };
        consumed = Consumes-trans old.input mid.input new.input t.bytes r.bytes t.consumed r.consumed;
        heard = sym (append_assoc (held_of old.stream) t.bytes r.bytes) ∙ more_read (heard_in t.moves) (held_of old.stream ++ t.bytes) t.held r.bytes t.heard;
        ends = at_end refl (quiet, goes) r.given.0 r.given.2 refl (record {
          put_out = subst (λ (x : Option (List ℕ)). Appends old.output x (flat_map frame (hello_of a.session ∷ t.said))) (sym kept.0) t.put_out;
          held_on = r.given.1 ∙ ap open_with (sym r.given.0);
        });
      })

-- ---- by what the calls of a talk answer

taken_up : {H : Type 0} (step : H → Act → H → Type 0) (o : Option Fault) (s : Session) (h : H) (m : Message) (answer : Replies) (s' : Session) (h' : H)
    → TakesUnless o step s h m (Ok answer) s' h' → TakesUp step s h m (Ok answer) s' h'
taken_up step (Some fault) s h m answer s' h' takes = absurd cc (takes.0)
taken_up step None s h m answer s' h' takes = takes

never_by_digest : {H : Type 0} (step : H → Act → H → Type 0) (s : Session) (h : H) (theirs : digests.Digest) (want : Bool) (reason : ℕ) (s' : Session) (h' : H)
    → AnswersDigest step s h theirs want (Ok (replies.Ended reason)) s' h' → ⊥
never_by_digest step s h theirs true reason s' h' e = e
never_by_digest step s h theirs false reason s' h' e = e

ended_by : {H : Type 0} (step : H → Act → H → Type 0) (s : Session) (h : H) (m : Message) (reason : ℕ) (s' : Session) (h' : H)
    → TakesUp step s h m (Ok (replies.Ended reason)) s' h' → m ≡ kinds.Bye reason
ended_by step s h (kinds.Hello hello) reason s' h' takes = absurd cc (takes.0)
ended_by step s h (kinds.Digest theirs) reason s' h' takes = absurd (never_by_digest step s h theirs theirs.want reason s' h' takes)
ended_by step s h (kinds.Delta blocks) reason s' h' takes = absurd takes
ended_by step s h (kinds.Bye said) reason s' h' takes = cc (takes.0)
ended_by step s h (kinds.Ask asked) reason s' h' takes = absurd takes
ended_by step s h (kinds.Rows rows) reason s' h' takes = absurd takes
ended_by step s h (kinds.Put wanted) reason s' h' takes = absurd takes
ended_by step s h (kinds.Done version) reason s' h' takes = absurd takes
ended_by step s h (kinds.Refused fault) reason s' h' takes = absurd takes
ended_by step s h (kinds.AskStatus after) reason s' h' takes = absurd takes
ended_by step s h (kinds.NodeStatus told) reason s' h' takes = absurd takes
ended_by step s h (kinds.AskChange asked) reason s' h' takes = absurd takes
ended_by step s h (kinds.Notice notice) reason s' h' takes = absurd takes
ended_by step s h kinds.AskAges reason s' h' takes = absurd takes
ended_by step s h (kinds.Ages ages) reason s' h' takes = absurd takes

bye_taken : {H : Type 0} (step : H → Act → H → Type 0) (s : Session) (h : H) (m : Message) (answer : Replies) (reason : ℕ) (s' : Session) (h' : H)
    → TakesUp step s h m (Ok answer) s' h' → bye_of answer ≡ Some reason → m ≡ kinds.Bye reason
bye_taken step s h m replies.Greeted reason s' h' takes e = absurd cc
bye_taken step s h m (replies.Answered blocks) reason s' h' takes e = absurd cc
bye_taken step s h m (replies.Exchanged blocks digest) reason s' h' takes e = absurd cc
bye_taken step s h m (replies.Applied ends) reason s' h' takes e = absurd cc
bye_taken step s h m (replies.Ended said) reason s' h' takes e =
    let same : said ≡ reason = cc in ended_by step s h m said s' h' takes ∙ ap kinds.Bye same

module _ {H : Type 0} (step : H → Act → H → Type 0) (a : Party H) (old : Connection) (rounds : Option ℕ) (s : Session) (h : H) (s' : Session) (h' : H) (mid new : Connection) where
  pub talk_heard : (m : Message) → are_done rounds ≡ false → Talking step a (party_of false rounds s h) (m ∷ []) old mid → KeepsInput mid new
      → Hearing step m s h s' h' mid.output new.output (Ok None)
      → Talking step a (party_of (ends_round m) (rounds_after (ends_round m) rounds) s' h') [] old new
  talk_heard m goes t kept hearing =
      elim hearing [
        | inl heard ↦ talk_moves step a old (party_of false rounds s h) (party_of (ends_round m) (rounds_after (ends_round m) rounds) s' h') (hears m) (messages_of heard.0) mid new
            t (refl, goes, refl, refl, (heard.0, heard.1, refl)) kept heard.2
        | inr refused ↦ absurd cc (refused.1)
      ]

  pub talk_heard_fault : (m : Message) (fault : Fault) → are_done rounds ≡ false → Talking step a (party_of false rounds s h) (m ∷ []) old mid → KeepsInput mid new
      → Hearing step m s h s' h' mid.output new.output (Err fault)
      → Talks step a h' old new (Err fault)
  talk_heard_fault m fault goes t kept hearing =
      elim hearing [
        | inl heard ↦ talk_cut step a old (party_of false rounds s h) (party_of (ends_round m) (rounds_after (ends_round m) rounds) s' h') (hears m) (messages_of heard.0) mid new fault
            t (refl, goes, refl, refl, (heard.0, heard.1, refl)) kept heard.2
        | inr refused ↦
            let same : fault ≡ refused.0 = cc (refused.1) in
            talk_refused step a old (party_of false rounds s h) h' (hears m) mid new fault t (refl, goes, (s', rw same refused.2)) kept refused.3
      ]

  pub talk_heard_bye : (m : Message) (reason : ℕ) → are_done rounds ≡ false → Talking step a (party_of false rounds s h) (m ∷ []) old mid → KeepsInput mid new
      → Hearing step m s h s' h' mid.output new.output (Ok (Some reason))
      → Talks step a h' old new (Ok (endings.Bye reason))
  unfolding talk_moves course_of
  talk_heard_bye m reason goes t kept hearing =
      elim hearing [
        | inl heard ↦
            let next = party_of (ends_round m) (rounds_after (ends_round m) rounds) s' h' in
            let on = talk_moves step a old (party_of false rounds s h) next (hears m) (messages_of heard.0) mid new t (refl, goes, refl, refl, (heard.0, heard.1, refl)) kept heard.2 in
            let bye : m ≡ kinds.Bye reason = bye_taken step s h m heard.0 reason s' h' (taken_up step _ s h m heard.0 s' h' heard.1) (sym heard.3) in
            talk_ends step a old next h' new (Ok (endings.Bye reason)) on
            (at_bye reason t.moves refl (ap (λ (x : Message). t.moves ++ (hears x ∷ [])) bye) refl (record { put_out = on.put_out; held_on = on.stands }))
        | inr refused ↦ absurd cc (refused.1)
      ]

  pub talk_spoke : Talking step a (party_of true rounds s h) [] old mid → KeepsInput mid new → Speaking step rounds s h s' h' mid.output new.output (Ok false)
      → Talking step a (party_of false rounds s' h') [] old new
  talk_spoke t kept speaking =
      elim speaking [
        | inl spoke ↦ talk_moves step a old (party_of true rounds s h) (party_of false rounds s' h') speaks spoke.0 mid new t (refl, refl, refl, spoke.1) kept spoke.2
        | inr refused ↦ absurd cc (refused.1)
      ]

  pub goes_on : Speaking step rounds s h s' h' mid.output new.output (Ok false) → are_done rounds ≡ false
  goes_on speaking = elim speaking [ inl spoke ↦ sym spoke.3 | inr refused ↦ absurd cc (refused.1) ]

  pub talk_spoke_fault : (fault : Fault) → Talking step a (party_of true rounds s h) [] old mid → KeepsInput mid new
      → Speaking step rounds s h s' h' mid.output new.output (Err fault) → Talks step a h' old new (Err fault)
  talk_spoke_fault fault t kept speaking =
      elim speaking [
        | inl spoke ↦ talk_cut step a old (party_of true rounds s h) (party_of false rounds s' h') speaks spoke.0 mid new fault t (refl, refl, refl, spoke.1) kept spoke.2
        | inr refused ↦
            let same : fault ≡ refused.0 = cc (refused.1) in
            talk_refused step a old (party_of true rounds s h) h' speaks mid new fault t (refl, refused.2, (s', rw same refused.3)) kept refused.4
      ]

  pub talk_done : Talking step a (party_of true rounds s h) [] old mid → KeepsInput mid new → Speaking step rounds s h s' h' mid.output new.output (Ok true)
      → Talks step a h' old new (Ok endings.RoundsDone)
  unfolding course_of
  talk_done t kept speaking =
      elim speaking [
        | inl spoke ↦
            let next = party_of false rounds s' h' in
            let on = talk_moves step a old (party_of true rounds s h) next speaks spoke.0 mid new t (refl, refl, refl, spoke.1) kept spoke.2 in
            talk_ends step a old next h' new (Ok endings.RoundsDone) on (at_rounds refl refl (sym spoke.3) refl (record { put_out = on.put_out; held_on = on.stands }))
        | inr refused ↦ absurd cc (refused.1)
      ]

-- ---- what is said unasked

pub speaking_bye : {H : Type 0} (step : H → Act → H → Type 0) (rounds : Option ℕ) (n reason : ℕ) (s : Session) (h : H) (old new : Option (List ℕ)) (result : Result Bool Fault)
    → rounds ≡ Some n → n ≡ 0 → reason ≡ REASON_ROUNDS_DONE → Says old new (kinds.Bye reason ∷ []) result → IfOk result (λ done. done ≡ true) → Speaking step rounds s h s h old new result
speaking_bye step rounds n reason s h old new result is zero one says done =
    let all : rounds ≡ Some 0 = is ∙ ap Some zero in
    inl (
      kinds.Bye reason ∷ [],
      subst (λ (o : Option ℕ). Speaks step o s h (kinds.Bye reason ∷ []) s h) (sym all) (ap (λ r. kinds.Bye r ∷ []) one, refl, refl),
      says,
      subst (λ (o : Option ℕ). IfOk result (λ d. d ≡ are_done o)) (sym all) done,
    )

pub speaking_digest : {H : Type 0} (step : H → Act → H
    → Type 0) (rounds : Option ℕ) (n : ℕ) (message : Message) (s : Session) (h : H) (s' : Session) (h' : H) (old new : Option (List ℕ)) (result : Result Bool Fault)
    → rounds ≡ Some n → n ≢ 0 → Asks step s h (Ok message) s' h' → Says old new (message ∷ []) result → IfOk result (λ done. done ≡ false) → Speaking step rounds s h s' h' old new result
speaking_digest step rounds n message s h s' h' old new result is some asks says done =
    let more : (n == 0) ≡ false = ne_eqb n 0 some in
    inl (
      message ∷ [],
      subst (λ (o : Option ℕ). Speaks step o s h (message ∷ []) s' h') (sym is) (subst (λ (b : Bool). SpeaksOn step b s h (message ∷ []) s' h') (sym more) (message, asks, refl)),
      says,
      subst (λ (o : Option ℕ). IfOk result (λ d. d ≡ are_done o)) (sym is) (subst (λ (b : Bool). IfOk result (λ d. d ≡ b)) (sym more) done),
    )

pub same_reason : (x y : ℕ) (r : Result ℕ Fault) → r ≡ Ok x → r ≡ Ok y → x ≡ y
same_reason x y r e f = cc

-- after a message: whether it is this end's turn, and the rounds that are left
pub talk_turns : {H : Type 0} (step : H → Act → H → Type 0) (a : Party H) (m : Message) (ends b : Bool) (rounds after : Option ℕ) (s : Session) (h : H) (old new : Connection)
    → ends ≡ ends_round m → after ≡ rounds_after ends rounds → ends ≡ b
    → Talking step a (party_of (ends_round m) (rounds_after (ends_round m) rounds) s h) [] old new
    → Talking step a (party_of b after s h) [] old new
talk_turns step a m ends b rounds after s h old new is counted turn t =
    let same : ends_round m ≡ b = sym is ∙ turn in
    let rest : rounds_after b rounds ≡ after = sym (counted ∙ ap (λ (x : Bool). rounds_after x rounds) turn) in
    subst (λ (x : Option ℕ). Talking step a (party_of b x s h) [] old new) rest
    (subst (λ (y : Bool). Talking step a (party_of y (rounds_after y rounds) s h) [] old new) same t)

pub still_goes : (ends : Bool) (rounds after : Option ℕ) → after ≡ rounds_after ends rounds → ends ≡ false → are_done rounds ≡ false → are_done after ≡ false
still_goes ends rounds after counted turn goes = ap are_done (counted ∙ ap (λ (x : Bool). rounds_after x rounds) turn) ∙ goes
