-- What a talk puts out first.
use Rattle.std.proofs.Common.{◌≡◌, ℕ, true, ◌⊎◌, inl, inr, List, [], ◌∷◌, ◌++◌, length, take, drop, Option, Result, refl, sym, ap, subst, arith, append_assoc, length-append}
use Rattle.std.specs.List.{flat_map}
use Rattle.std.specs.Io.KnownBytes.{Appends}
use Rattle.std.proofs.KnownBytes.{Appends-trans, Appends-nil}
use Rattle.std.proofs.lemmas.List.{take-append-drop}
use mathlib.Core.List.{IsPrefix}
use Rattle.sb_types.specs.declared.fault.Fault.{Fault}
use Rattle.sb_codec.specs.declared.message.Message.{Message}
use Rattle.sb_frames.specs.Frames.{frame}
use Rattle.sb_frames.specs.Streams.{Stream, open_with, shut}
use Rattle.sb_frames.specs.Connections.{Connection}
use Rattle.sb_session.specs.declared.talk.Ended.{Ended}
use Rattle.sb_session.specs.Handlers.{Act}
use Rattle.sb_session.specs.Sessions.{Session, new_session, hello_of}
use Rattle.sb_session.specs.Telling.{CutShort}
use Rattle.sb_session.specs.Talks.{Party, party_of, Course, in_hello, in_last, Cuts, Ends, at_end, at_bye, at_rounds, at_reading, at_message, at_speaking, at_writing, TalksFrom, Talks}
use Rattle.sb_run.specs.Hellos.{Greets}

-- the frame of this message is put out first, or its front
abbrev BeginsWith : Message → Option (List ℕ) → Option (List ℕ) → Type 0
BeginsWith m old new = (out : List ℕ) × Appends old new out × (IsPrefix (frame m) out ⊎ IsPrefix out (frame m))

whole_first : (m : Message) (said : List Message) (old new : Option (List ℕ)) → Appends old new (flat_map frame (m ∷ said)) → BeginsWith m old new
whole_first m said old new out = (flat_map frame (m ∷ said), out, inl (flat_map frame said, refl))

first_or : Message → List Message → Message
first_or other [] = other
first_or other (x ∷ xs) = x

-- what is cut short of one message is its front
front_of_one : (m : Message) (sent : List Message) (last : Message) (unsent : List Message) (count : ℕ) → m ∷ [] ≡ sent ++ (last ∷ unsent)
    → IsPrefix (flat_map frame sent ++ take count (frame last)) (frame m)
unfolding first_or
front_of_one m [] last unsent count all =
    subst (λ (x : Message). IsPrefix (take count (frame x)) (frame m)) (ap (first_or last) all) (drop count (frame m), take-append-drop count (frame m))
front_of_one m (x ∷ xs) last unsent count all =
    absurd (omega (arith, ap (λ (l : List Message). length l) all, length-append xs (last ∷ unsent)))

one_cut : (m : Message) (old new : Option (List ℕ)) (fault : Fault) → CutShort old new (m ∷ []) fault → BeginsWith m old new
one_cut m old new fault cut =
    (flat_map frame cut.sent ++ take cut.count (frame cut.last), cut.put_out, inr (front_of_one m cut.sent cut.last cut.unsent cut.count cut.all))

cuts_begin : {H : Type 0} (step : H → Act → H → Type 0) (a : Party H) (course : Course step a) (old new : Option (List ℕ)) (fault : Fault)
    → Cuts step a course old new fault → BeginsWith (hello_of a.session) old new
cuts_begin step a course old new fault (in_hello none cut) = one_cut (hello_of a.session) old new fault cut
cuts_begin step a course old new fault (in_last front move before more now mid is all run moved out cut) =
    let hello = frame (hello_of a.session) in
    let rest = flat_map frame cut.sent ++ take cut.count (frame cut.last) in (
      (hello ++ flat_map frame before) ++ rest,
      Appends-trans old mid new (hello ++ flat_map frame before) rest out cut.put_out,
      inl (flat_map frame before ++ rest, sym (append_assoc hello (flat_map frame before) rest)),
    )

ends_begin : {H : Type 0} (step : H → Act → H → Type 0) (a : Party H) (course : Course step a) (h : H) (held : List ℕ) (old new : Connection) (result : Result Ended Fault)
    → Ends step a course h held old new result → BeginsWith (hello_of a.session) old.output new.output
ends_begin step a course h held old new result (at_end is listens none end same stays) = whole_first (hello_of a.session) course.said old.output new.output stays.put_out
ends_begin step a course h held old new result (at_bye reason front is moved same stays) = whole_first (hello_of a.session) course.said old.output new.output stays.put_out
ends_begin step a course h held old new result (at_rounds is speaks done same stays) = whole_first (hello_of a.session) course.said old.output new.output stays.put_out
ends_begin step a course h held old new result (at_reading fault is listens stops same out) = whole_first (hello_of a.session) course.said old.output new.output out
ends_begin step a course h held old new result (at_message fault message rest is front refuses stays) = whole_first (hello_of a.session) course.said old.output new.output stays.put_out
ends_begin step a course h held old new result (at_speaking fault is refuses stays) = whole_first (hello_of a.session) course.said old.output new.output stays.put_out
ends_begin step a course h held old new result (at_writing fault is cuts same held_on) = cuts_begin step a course old.output new.output fault cuts

-- nothing is the front of any frame
none_first : (m : Message) (output : Option (List ℕ)) → BeginsWith m output output
none_first m output = ([], Appends-nil output, inr (frame m, refl))

talks_begin : {H : Type 0} (step : H → Act → H → Type 0) (a : Party H) (h : H) (stream : Stream) (old new : Connection) (result : Result Ended Fault)
    → TalksFrom step a h stream old new result → BeginsWith (hello_of a.session) old.output new.output
talks_begin step a h (open_with begun) old new result talks = ends_begin step a talks.course h talks.held old new result talks.ends
talks_begin step a h shut old new result talks =
    subst (λ (c : Connection). BeginsWith (hello_of a.session) old.output c.output) (sym talks.2) (none_first (hello_of a.session) old.output)

pub talks_greet : {H : Type 0} (step : H → Act → H → Type 0) (rounds : Option ℕ) (cluster me : List ℕ) (session : Session) (first h : H)
    (old new : Connection) (result : Result Ended Fault) → session ≡ new_session cluster me
    → Talks step (party_of true rounds session first) h old new result → Greets cluster me old.output new.output
talks_greet step rounds cluster me session first h old new result is talks =
    subst (λ (s : Session). BeginsWith (hello_of s) old.output new.output) is
    (talks_begin step (party_of true rounds session first) h old.stream old new result talks)
