-- How many exchanges a session makes that ends by its rounds.
use Rattle.std.proofs.Common.{◌≡◌, ℕ, zero, suc, ◌+◌, ◌-◌, ◌==◌, Bool, true, false, cond, List, [], ◌∷◌, count_by, Option, Some, None, Result, Ok, Err, refl, sym, ap, subst, ◌∙◌, arith}
use Rattle.std.proofs.lemmas.Bool.{eqb-true, eqb-false}
use Rattle.std.proofs.lemmas.List.Sums.{sum_by-cons}
use Rattle.sb_types.specs.declared.fault.Fault.{Fault}
use Rattle.sb_types.specs.declared.fault.Fault.TheVariants.{Closed}
use Rattle.sb_codec.specs.declared.message.Message.{Message}
use Rattle.sb_frames.specs.Streams.{Stream, open_with, shut}
use Rattle.sb_frames.specs.Connections.{Connection}
use Rattle.sb_session.specs.declared.talk.Ended.{Ended}
use Rattle.sb_session.specs.declared.talk.Ended.TheVariants as endings
use Rattle.sb_session.specs.Handlers.{Act}
use Rattle.sb_session.specs.Sessions.{Session}
use Rattle.sb_session.specs.Talks.{Party, party_of, ends_round, rounds_after, are_done, Move, hears, speaks, Run, heard_in, Course, Ends, at_end, at_bye, at_rounds, at_reading, at_message, at_speaking, at_writing, TalksFrom, Talks}
use Rattle.sb_run.specs.Exchanges.{ExchangesFrom, MakesExchanges}

-- how many rounds are left of so many after a message
abbrev left_after : Bool → ℕ → ℕ
left_after false n = n
left_after true n = n - 1

left_is : (ends : Bool) (n : ℕ) → rounds_after ends (Some n) ≡ Some (left_after ends n)
left_is false n = refl
left_is true n = refl

one_more : (ends : Bool) (n m rest : ℕ) → (n == 0) ≡ false → rest + m ≡ left_after ends n → (cond ends 1 0 + rest) + m ≡ n
one_more false n m rest some left = omega (arith, left)
one_more true zero m rest some left = absurd (eqb-false 0 0 some refl)
one_more true (suc n) m rest some left = omega (arith, left)

abbrev number_in : Option ℕ → ℕ
number_in None = 0
number_in (Some n) = n

none_left : (rounds : Option ℕ) → are_done rounds ≡ true → rounds ≡ Some 0
none_left None done = absurd cc
none_left (Some n) done = ap Some (eqb-true n 0 done)

-- a message is counted in front of the others
counted : (x : Message) (xs : List Message) (m : ℕ) → count_by ends_round (x ∷ xs) + m ≡ (cond (ends_round x) 1 0 + count_by ends_round xs) + m
counted x xs m = ap (λ (count : ℕ). count + m) (sum_by-cons (λ (y : Message). cond (ends_round y) 1 0) x xs)

module _ {H : Type 0} (step : H → Act → H → Type 0) where
  run_counts : (a : Party H) (moves : List Move) (said : List Message) (b : Party H) (n m : ℕ)
      → Run step a moves said b → a.rounds ≡ Some n → b.rounds ≡ Some m → count_by ends_round (heard_in moves) + m ≡ n
  run_counts a [] said b n m run given left =
      let same : m ≡ n = ap number_in (sym left ∙ ap (λ (p : Party H). p.rounds) run.1 ∙ given) in
      omega (arith, same)
  run_counts a (hears x ∷ moves) said b n m run given left =
      let mid = run.2 in
      let some : (n == 0) ≡ false = subst (λ (r : Option ℕ). are_done r ≡ false) given run.3.1 in
      let rounds : mid.rounds ≡ Some (left_after (ends_round x) n) = run.3.3 ∙ ap (rounds_after (ends_round x)) given ∙ left_is (ends_round x) n in
      let rest : count_by ends_round (heard_in moves) + m ≡ left_after (ends_round x) n =
      run_counts mid moves run.1 b (left_after (ends_round x) n) m run.4 rounds left in
      counted x (heard_in moves) m ∙ one_more (ends_round x) n m (count_by ends_round (heard_in moves)) some rest
  run_counts a (speaks ∷ moves) said b n m run given left = run_counts run.2 moves run.1 b n m run.4 (run.3.2 ∙ given) left

  ends_count : (a : Party H) (course : Course step a) (h : H) (held : List ℕ) (old new : Connection) (result : Result Ended Fault) (n : ℕ)
      → a.rounds ≡ Some n → result ≡ Ok endings.RoundsDone → Ends step a course h held old new result → count_by ends_round (heard_in course.moves) ≡ n
  ends_count a course h held old new result n given made (at_end is listens none end same stays) = absurd cc
  ends_count a course h held old new result n given made (at_bye reason front is moved same stays) = absurd cc
  ends_count a course h held old new result n given made (at_rounds is spoke done same stays) =
      let all : count_by ends_round (heard_in course.moves) + 0 ≡ n =
      run_counts a course.moves course.said course.last n 0 course.run given (none_left course.last.rounds done) in
      omega (arith, all)
  ends_count a course h held old new result n given made (at_reading fault is listens stops same out) = absurd cc
  ends_count a course h held old new result n given made (at_message fault message rest is front refuses stays) = absurd cc
  ends_count a course h held old new result n given made (at_speaking fault is refuses stays) = absurd cc
  ends_count a course h held old new result n given made (at_writing fault is cuts same held_on) = absurd cc

  from_count : (a : Party H) (h : H) (stream : Stream) (old new : Connection) (result : Result Ended Fault) (n : ℕ)
      → a.rounds ≡ Some n → result ≡ Ok endings.RoundsDone → TalksFrom step a h stream old new result → ExchangesFrom n stream old new
  from_count a h (open_with begun) old new result n given made talks = record {
    bytes = talks.bytes;
    rest = talks.held;
    messages = heard_in talks.course.moves;
    consumed = talks.consumed;
    heard = talks.heard;
    exchanges = ends_count a talks.course h talks.held old new result n given made talks.ends;
  }
  from_count a h shut old new result n given made talks =
      let closed : result ≡ Err Closed = talks.0 in
      absurd cc

-- a session of so many rounds that ended by them made as many exchanges
pub talks_exchange : {H : Type 0} (step : H → Act → H → Type 0) (rounds : ℕ) (session : Session) (first last : H) (old new : Connection) (result : Result Ended Fault)
    → Talks step (party_of true (Some rounds) session first) last old new result → result ≡ Ok endings.RoundsDone → MakesExchanges rounds old new
talks_exchange step rounds session first last old new result talks made =
    from_count step (party_of true (Some rounds) session first) last old.stream old new result rounds refl made talks
