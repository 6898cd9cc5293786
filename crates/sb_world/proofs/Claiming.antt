-- What is given, how exact it is, and what is taken up.
use Rattle.std.specs.Prelude.{option_map, option_and_then}
use Rattle.std.specs.List.{flat_map}
use Rattle.std.proofs.lemmas.List.{append-nil}
use Rattle.std.proofs.Common.{◌≡◌, ◌⊎◌, ℕ, Bool, true, false, List, [], ◌∷◌, ◌++◌, append_assoc, length, inl, inr, ⊎_elim, Option, Some, None, IfSome, Result, Ok, Err, refl, sym, ap, subst, ◌∙◌}
use Rattle.sb_types.specs.declared.entry.Slot.TheVariants.{Set}
use Rattle.sb_types.specs.declared.fault.Fault.{Fault}
use Rattle.sb_types.specs.declared.fault.Fault.TheVariants.{NoMemory, Closed}
use Rattle.sb_types.specs.Limits.{is_delta_block}
use Rattle.sb_types.specs.Value.{Value}
use Rattle.sb_types.specs.Records.{Entry, Block}
use Rattle.sb_types.specs.Runs.{Stands, shown_at}
use Rattle.sb_types.specs.Writes.{Written}
use Rattle.sb_holdings.specs.declared.ends.BlockEnd.{BlockEnd}
use Rattle.sb_holdings.specs.Held.{shown_of}
use Rattle.sb_holdings.specs.Nodes.{Node, node_after_block, replay_node}
use Rattle.sb_holdings.proofs.Shown.{read_written, read_exact}
use Rattle.sb_holdings.proofs.TakenUp.{taken_up, staged_up}
use Rattle.sb_codec.specs.declared.message.Message.TheVariants as messages
use Rattle.sb_codec.specs.declared.message.Message.{Message}
use Rattle.sb_codec.specs.Messages.{is_message}
use Rattle.sb_frames.specs.Frames.{frame, short, whole, front_of}
use Rattle.sb_frames.specs.Streams.{Stream, open_with, shut, TakesNext, Splits}
use Rattle.sb_frames.proofs.Fronts.{front_frame}
use Rattle.sb_session.specs.declared.replies.Replies.{Replies}
use Rattle.sb_session.specs.declared.replies.Replies.TheVariants as replies
use Rattle.sb_session.specs.Sessions.{Session}
use Rattle.sb_session.specs.Taking.{Takes}
use Rattle.sb_node.specs.Calls.{Call, replay_calls}
use Rattle.sb_node.specs.Cores.{Core}
use Rattle.sb_node.specs.Steps.{Steps}
use Rattle.sb_node.specs.Talks.{taken_of}
use Rattle.sb_node.proofs.Sessions.{taken, ended}
use Rattle.sb_holdings.specs.Treats.{Treats, took_each}
use Rattle.sb_node.proofs.Truth.{delta_blocks}
use Rattle.sb_world.specs.declared.event.Event.{Event}
use Rattle.sb_world.specs.declared.event.Event.TheVariants.{Piece, Read}
use Rattle.sb_world.specs.declared.event.Answer.{Answer}
use Rattle.sb_world.specs.declared.event.Answer.TheVariants as answers
use Rattle.sb_world.specs.Connections.{Connection, connection_at}
use Rattle.sb_world.specs.Places.{Place, Seen, place_at, with_place}
use Rattle.sb_world.specs.Hearing.{Listener, Heard, Hears, Ends, Tells, calls_in}
use Rattle.sb_world.specs.Connecting.{listener, Pieces}
use Rattle.sb_world.specs.Events.{place_for, ActsWhere}
use Rattle.sb_world.specs.Turns.{Effect, Turn}
use Rattle.sb_world.specs.Steps.{StepAt, seen_after}
use Rattle.sb_world.specs.States.{State, Moves, state_after}
use Rattle.sb_world.specs.Truth.{IsTruePlace, IsTrueState}
use Rattle.sb_world.specs.Wires.{messages_in}
use Rattle.sb_world.specs.Claims.{GivenIsWritten, IsExact, IsShown, ReadIsExact, AreTakenUp, AllTakenUp, HaveCome, TakesPiece, JoinedIsTaken, IsWithinBudget}
use Rattle.sb_world.proofs.Names.{found_me, placed_there}
use Rattle.sb_world.proofs.Going.{grown, written_on}
use Rattle.sb_world.proofs.Acting.{does_same}
use Rattle.sb_world.proofs.Listening.{tells_core, tells_end}
use Rattle.sb_world.proofs.Stepping.{some_map}

-- ---- what is given

abbrev answer_or : Answer → Result Answer Fault → Answer
answer_or other (Ok answer) = answer
answer_or other (Err fault) = other

abbrev given_or : Option (Value × ℕ) → Answer → Option (Value × ℕ)
given_or other (answers.Shown found) = found
given_or other answers.Nothing = other
given_or other (answers.Committed version) = other
given_or other (answers.Took version) = other
given_or other answers.Crashed = other
given_or other (answers.Purged floor) = other
given_or other (answers.Trimmed floor) = other
given_or other (answers.Restarted version) = other
given_or other (answers.Sent number) = other
given_or other (answers.Delivered items fault) = other
given_or other answers.Shut = other
given_or other answers.Lined = other
given_or other (answers.Number version) = other

abbrev ok_answer : Answer → Result Answer Fault
ok_answer answer = Ok answer

shown_is : (a b : Option (Value × ℕ)) → ok_answer (answers.Shown a) ≡ ok_answer (answers.Shown b) → a ≡ b
shown_is a b e = ap (λ (r : Result Answer Fault). given_or a (answer_or (answers.Shown a) r)) e

-- a node that answered with this holds it
given_is : (found held : Option (Value × ℕ)) (p : Place) → IsShown held p (ok_answer (answers.Shown found)) → held ≡ found
given_is found held p is =
    ⊎_elim
    (λ same. sym (shown_is found held same))
    (λ others. ⊎_elim (λ memory. let no : ok_answer (answers.Shown found) ≡ Err NoMemory = memory in absurd (cc)) (λ down. let no : ok_answer (answers.Shown found) ≡ Err Closed = down.1 in absurd (cc)) others)
    is

true_at : (s : State) → IsTrueState s → (name : List ℕ) (p : Place) → place_at s.now.places name ≡ Some p → IsTruePlace s.writes (s.past p.me) s.now.settings p
true_at s t name p is = subst (λ (o : Option Place). IfSome o (λ r. IsTruePlace s.writes (s.past r.me) s.now.settings r)) is (t.places name)

module _ (old : State) (me owner key : List ℕ) (answer : Result Answer Fault) (effect : Effect) where
  -- what is shown is what the node holds
  read_acts : (p : Place) (q : Place) (conns : List Connection) (frames : List (List ℕ)) (b : Bool) → p.is_up ≡ b →
      ActsWhere b (Read me owner key) p old.now.connections old.now.sent (record { answer = answer; effect = effect; place = q; frames = frames }) conns →
      IsShown (shown_at key (shown_of p.core.node.held owner).entries) p answer
  read_acts p q conns frames false down is = inr (inr (down, ap (λ (turn : Turn). turn.answer) is.0))
  read_acts p q conns frames true up acts = ⊎_elim (λ is. inr (inl (ap (λ (turn : Turn). turn.answer) is))) (λ is. inl (ap (λ (turn : Turn). turn.answer) is)) acts.0

  read_shown : (found : Option Place) (seen : Seen) → StepAt found old.now (Read me owner key) answer effect seen → IfSome found (λ p. IsShown (shown_at key (shown_of p.core.node.held owner).entries) p answer)
  read_shown None seen step = tt
  read_shown (Some p) seen step = read_acts p step.0 step.1 step.2 p.is_up refl step.3

module _ (old : State) (me owner key : List ℕ) (value : Value) (version : ℕ) (effect : Effect) (t : IsTrueState old) where
  abbrev given : Result Answer Fault
  given = ok_answer (answers.Shown (Some (value, version)))

  read_given : (found : Option Place) → place_at old.now.places me ≡ found → (seen : Seen) → StepAt found old.now (Read me owner key) given effect seen → Written (old.writes owner) (record { key = key; version = version; slot = Set value })
  read_given None is seen step = let no : given ≡ Ok answers.Nothing = step.0 in absurd (cc)
  read_given (Some p) is seen step =
      let held = shown_of p.core.node.held owner in
      read_written (old.writes owner) held key value version ((true_at old t me p is).holds owner).shown
      (given_is (Some (value, version)) (shown_at key held.entries) p (read_shown old me owner key given effect (Some p) seen step))

-- what was written is written afterwards
later_written : (old : State) (found : Option Place) (event : Event) (answer : Result Answer Fault) (effect : Effect) (seen : Seen) (owner : List ℕ) (e : Entry) → Written (old.writes owner) e → Written ((state_after old found event answer effect seen).writes owner) e
later_written old None event answer effect seen owner e written = written
later_written old (Some p) event answer effect seen owner e written = written_on old.writes _ (grown old.writes p.me effect) owner e written

pub given_written : (old : State) (event : Event) (answer : Result Answer Fault) (new : State) → Moves old event answer new → IsTrueState old → IsTrueState new → GivenIsWritten old event answer new
given_written old event answer new moves t u me owner key value version is_event is_answer =
    let step = subst (λ (e : Event). StepAt (place_for old.now e) old.now e answer moves.0 new.now) is_event moves.1 in
    let given_step = subst (λ (a : Result Answer Fault). StepAt (place_at old.now.places me) old.now (Read me owner key) a moves.0 new.now) is_answer step in
    let written = read_given old me owner key value version moves.0 t (place_at old.now.places me) refl new.now given_step in
    subst (λ (s : State). Written (s.writes owner) (record { key = key; version = version; slot = Set value })) (sym moves.2)
    (later_written old (place_for old.now event) event answer moves.0 new.now owner (record { key = key; version = version; slot = Set value }) written)

-- ---- how exact it is

pub state_exact : (s : State) → IsTrueState s → IsExact s
state_exact s t name = some_map _ _ (place_at s.now.places name)
    (λ p is place owner e written last within. read_exact (s.writes owner) (shown_of p.core.node.held owner) e (place.is owner).shown (place.holds owner).shown written last within) (t.places name)

pub reads_exact : (old : State) (event : Event) (answer : Result Answer Fault) (new : State) → Moves old event answer new → IsTrueState old → IsTrueState new → ReadIsExact old event answer new
reads_exact old event answer new moves t u me owner e is_event written last =
    let step = subst (λ (x : Event). StepAt (place_for old.now x) old.now x answer moves.0 new.now) is_event moves.1 in
    some_map _ _ (place_at old.now.places me)
    (λ p is shown within.
    let place = true_at old t me p is in
    subst (λ (found : Option (Value × ℕ)). IsShown found p answer) (read_exact (old.writes owner) (shown_of p.core.node.held owner) e (place.is owner).shown (place.holds owner).shown written last within) shown)
    (read_shown old me owner e.key answer moves.0 (place_at old.now.places me) new.now step)

pub state_within : (s : State) → IsTrueState s → IsWithinBudget s
state_within s t bytes stands = (t.frames bytes stands).fits

-- ---- what is taken up

taken_each : (node : Node) (blocks : List Block) (ends : List BlockEnd) → ((b : Block) → Stands blocks b → is_delta_block b ≡ true) → Treats node blocks ends → AreTakenUp node blocks ends (replay_node node (took_each blocks ends))
taken_each node [] [] are treats = refl
taken_each node [] (end ∷ ends) are treats = absurd treats
taken_each node (b ∷ bs) [] are treats = absurd treats
taken_each node (b ∷ bs) (end ∷ ends) are treats =
    ((λ joins. taken_up node b end joins treats.0, λ s joins. staged_up node b s end joins treats.0), taken_each (node_after_block node b end) bs ends (λ c stands. are c (inr stands)) treats.1)

-- a message of each kind, as it was taken
message_taken : (s : Session) (core : Core) (m : Message) (answer : Replies) (t : Session) (new : Core) → is_message m ≡ true → Takes Steps s core m (Ok answer) t new →
    (more : List Call) (last : Node) → AllTakenUp new.node more last → AllTakenUp core.node (taken_of m answer ++ more) last
message_taken s core m answer t new limits takes more last rest = go m answer limits takes (ap (λ (c : Core). c.node) (taken s core m answer t new takes))
  where
    same : (calls : List Call) → calls ≡ [] → new.node ≡ replay_calls core.node calls → AllTakenUp core.node (calls ++ more) last
    same calls none is =
        let node : new.node ≡ core.node = is ∙ ap (replay_calls core.node) none in
        subst (λ (cs : List Call). AllTakenUp core.node (cs ++ more) last) (sym none) (subst (λ (n : Node). AllTakenUp n more last) node rest)

    go : (x : Message) (r : Replies) → is_message x ≡ true → Takes Steps s core x (Ok r) t new → new.node ≡ replay_calls core.node (taken_of x r) → AllTakenUp core.node (taken_of x r ++ more) last
    go (messages.Delta blocks) (replies.Applied ends) is a node =
        let treats = (ended s core blocks (replies.Applied ends) t new a).1 in
        let up = taken_each core.node blocks ends (delta_blocks blocks is) treats in
        let mid : replay_node core.node (took_each blocks ends) ≡ new.node = sym (node ∙ ap (replay_node core.node) (append-nil (took_each blocks ends))) in
        (new.node, subst (AreTakenUp core.node blocks ends) mid up, rest)
    go (messages.Delta blocks) replies.Greeted is a node = same [] refl node
    go (messages.Delta blocks) (replies.Answered delta) is a node = same [] refl node
    go (messages.Delta blocks) (replies.Exchanged delta digest) is a node = same [] refl node
    go (messages.Delta blocks) (replies.Ended reason) is a node = same [] refl node
    go (messages.Hello greeting) r is a node = same [] refl node
    go (messages.Digest told) r is a node = same [] refl node
    go (messages.Bye reason) r is a node = same [] refl node
    go (messages.Ask asked) r is a node = same [] refl node
    go (messages.Rows rows) r is a node = same [] refl node
    go (messages.Put wanted) r is a node = same [] refl node
    go (messages.Done version) r is a node = same [] refl node
    go (messages.Refused fault) r is a node = same [] refl node
    go (messages.AskStatus after) r is a node = same [] refl node
    go (messages.NodeStatus status) r is a node = same [] refl node
    go (messages.AskChange asked) r is a node = same [] refl node
    go (messages.Notice notice) r is a node = same [] refl node
    go messages.AskAges r is a node = same [] refl node
    go (messages.Ages ages) r is a node = same [] refl node

abbrev some_next : Message → Result (Option Message) Fault
some_next m = Ok (Some m)

-- what is taken out of a stream is a message
limits_of : (old new : Stream) (m : Message) → TakesNext old (some_next m) new → is_message m ≡ true
limits_of (open_with held) new m hands = hands.leads.limits
limits_of shut new m takes = absurd cc (takes.0)

all_taken : (a : Listener) (heard : List Heard) (b : Listener) → Hears a heard b → AllTakenUp a.core.node (calls_in heard) b.core.node
all_taken a [] b is = ap (λ (l : Listener). l.core.node) is
all_taken a (h ∷ hs) b hears =
    let mid = hears.0 in
    let next = hears.1 in
    message_taken a.session a.core h.message h.replies mid.session mid.core (limits_of a.stream mid.stream h.message next.0) next.1 (calls_in hs) b.core.node (all_taken mid hs b hears.2)

-- ---- whether all is taken that has come

abbrev nothing_whole : Result (Option Message) Fault
nothing_whole = Ok None

-- where the next can't be taken out since less than a frame is left, a rest is left that begins with no message's frame
short_splits : (rest : List ℕ) → front_of rest ≡ short → Splits rest [] rest
short_splits rest is = record { whole = refl; each = refl; partial = λ m more fits e. let no : short ≡ whole m more = sym is ∙ ap front_of e ∙ front_frame m more fits in absurd (cc) }

none_come : (s t : Stream) → TakesNext s nothing_whole t → HaveCome s [] t
none_come (open_with held) t takes = (held, short_splits held takes.0, takes.1)
none_come shut t takes = let no : nothing_whole ≡ Err Closed = takes.0 in absurd (cc)

one_more : (s t : Stream) (m : Message) (ms : List Message) (new : Stream) → TakesNext s (some_next m) t → HaveCome t ms new → HaveCome s (m ∷ ms) new
one_more (open_with held) t m ms new hands come =
    let more = subst (λ (x : Stream). HaveCome x ms new) hands.left come in
    let splits = more.1 in (
      more.0,
      record {
        whole = hands.leads.laid ∙ ap (λ (x : List ℕ). frame m ++ x) splits.whole ∙ sym (append_assoc (frame m) (flat_map frame ms) more.0);
        each = rw (hands.leads.limits, splits.each) refl;
        partial = splits.partial;
      },
      more.2,
    )
one_more shut t m ms new takes come = let no : some_next m ≡ Err Closed = takes.0 in absurd (cc)

all_come : (a : Listener) (heard : List Heard) (b last : Listener) → Hears a heard b → Ends b None last → HaveCome a.stream (messages_in heard) last.stream
all_come a [] b last is ends = none_come a.stream last.stream (subst (λ (l : Listener). TakesNext l.stream nothing_whole last.stream) is ends.0)
all_come a (h ∷ hs) b last hears ends = one_more a.stream hears.0.stream h.message (messages_in hs) last.stream hears.1.0 (all_come hears.0 hs b last hears.2 ends)

module _ (old : State) (number count : ℕ) (answer : Result Answer Fault) (effect : Effect) where
  abbrev Claim : Connection → Seen → Place → Type 0
  Claim c seen p = ((p.is_up ≡ false) × (answer ≡ Err Closed)) ⊎ TakesPiece old.now number count c p answer seen

  module _ (c : Connection) (p q : Place) (conns : List Connection) (frames : List (List ℕ)) (seen : Seen) (after : seen ≡ seen_after old.now p.me q conns frames) (there : place_at seen.places c.me ≡ Some q) where
    abbrev turn : Turn
    turn = record { answer = answer; effect = effect; place = q; frames = frames }

    pieces_taken : Pieces (Some c) p number count old.now.connections old.now.sent turn conns → TakesPiece old.now number count c p answer seen
    pieces_taken d =
        let core : d.last.core ≡ d.mid.core = tells_core (length old.now.sent) d.heard d.mid d.last d.fault d.items d.frames d.tells in
        record {
          heard = d.heard;
          mid = d.mid;
          last = d.last;
          fault = d.fault;
          items = d.items;
          frames = d.frames;
          hears = d.hears;
          whole = λ none. all_come (listener p.core c count) d.heard d.mid d.last d.hears
              (tells_end (length old.now.sent) d.heard d.mid d.last d.items d.frames (subst (λ (f : Option Fault). Tells (length old.now.sent) d.heard d.mid d.last f d.items d.frames) none d.tells));
          tells = d.tells;
          answered = ap (λ (x : Turn). x.answer) d.turn_is;
          sent = ap (λ (s : Seen). s.sent) after ∙ ap (λ (x : Turn). old.now.sent ++ x.frames) d.turn_is;
          left = ap (λ (s : Seen). s.connections) after ∙ d.left;
          taken = subst (AllTakenUp p.core.node (calls_in d.heard)) (ap (λ (x : Core). x.node) (sym core)) (all_taken (listener p.core c count) d.heard d.mid d.hears);
          node = there ∙ ap (λ (x : Turn). Some x.place) d.turn_is;
        }

    acts_taken : connection_at old.now.connections number ≡ Some c → (b : Bool) → p.is_up ≡ b → ActsWhere b (Piece number count) p old.now.connections old.now.sent turn conns → Claim c seen p
    acts_taken found false down is = inl (down, ap (λ (x : Turn). x.answer) is.0)
    acts_taken found true up acts = inr (pieces_taken (subst (λ (o : Option Connection). Pieces o p number count old.now.connections old.now.sent turn conns) found acts))

  at_place : (c : Connection) → connection_at old.now.connections number ≡ Some c → (found : Option Place) → place_at old.now.places c.me ≡ found → (seen : Seen) → StepAt found old.now (Piece number count) answer effect seen →
      IfSome found (Claim c seen)
  at_place c at_number None is seen step = tt
  at_place c at_number (Some p) is seen step =
      let same = does_same (Piece number count) p old.now.connections old.now.sent _ step.1 step.3 in
      let me : p.me ≡ c.me = found_me old.now.places c.me p is in
      let there : place_at seen.places c.me ≡ Some step.0 = ap (λ (s : Seen). place_at s.places c.me) step.4 ∙ ap (λ n. place_at (with_place old.now.places n step.0) c.me) me ∙ placed_there c.me p step.0 (same.me ∙ me) old.now.places is in
      acts_taken c p step.0 step.1 step.2 seen step.4 there at_number p.is_up refl step.3

  at_connection : (found : Option Connection) → connection_at old.now.connections number ≡ found → (seen : Seen) →
      StepAt (option_and_then (place_at old.now.places) (option_map (λ (c : Connection). c.me) found)) old.now (Piece number count) answer effect seen →
      IfSome found (λ c. IfSome (place_at old.now.places c.me) (Claim c seen))
  at_connection None is seen step = tt
  at_connection (Some c) is seen step = at_place c is (place_at old.now.places c.me) refl seen step

pub joined_taken : (old : State) (event : Event) (answer : Result Answer Fault) (new : State) → Moves old event answer new → IsTrueState old → IsTrueState new → JoinedIsTaken old event answer new
joined_taken old event answer new moves t u number count is_event =
    let step = subst (λ (e : Event). StepAt (place_for old.now e) old.now e answer moves.0 new.now) is_event moves.1 in
    at_connection old number count answer moves.0 (connection_at old.now.connections number) refl new.now step
