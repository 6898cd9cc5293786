-- What each event leaves of its node.
use Rattle.std.proofs.Common.{◌≡◌, ℕ, zero, suc, ◌+◌, ◌≤◌, ◌⊎◌, Bool, true, false, cond, not, nat_eq, List, [], ◌∷◌, ◌++◌, length, take, drop, inl, inr, ⊎_elim, Option, Some, None, Result, Ok, Err, slice_get, refl, sym, ap, subst, ◌∙◌, arith}
use Rattle.std.proofs.lemmas.Bool.{cases_Bool, true≢false}
use Rattle.std.specs.Prelude.{unwrap_or}
use Rattle.std.specs.Cmp.Lexicographic.{pointwise}
use Rattle.std.proofs.lemmas.List.{append-nil, take-append-drop}
use Rattle.sb_types.specs.declared.entry.Slot.{Slot}
use Rattle.sb_types.specs.declared.entry.Write.{Write}
use Rattle.sb_types.specs.declared.fault.Fault.{Fault}
use Rattle.sb_types.specs.declared.fault.Fault.TheVariants.{NoMemory, Closed}
use Rattle.sb_types.specs.Limits.{is_delta}
use Rattle.sb_types.specs.Records.{Entry, Table, Block, Settings}
use Rattle.sb_types.specs.Runs.{Stands}
use Rattle.sb_types.specs.Writes.{Written}
use Rattle.sb_table.specs.Plain.{with_entry}
use Rattle.sb_holdings.specs.Contents.{entry_of_write}
use Rattle.sb_holdings.specs.Growth.{Grows}
use Rattle.sb_holdings.specs.Nodes.{Wrote, Purged, replay_node, IsNodeEvent, TrueAt, AreNodeEvents, AllTrueAt}
use Rattle.sb_types.proofs.Standing.{either, of_kept}
use Rattle.sb_holdings.proofs.Growing.{written-grown}
use Rattle.sb_digest.specs.Digests.{Digest}
use Rattle.sb_codec.specs.declared.message.Message.{Message}
use Rattle.sb_codec.specs.declared.message.Message.TheVariants as messages
use Rattle.sb_codec.specs.Messages.{is_message}
use Rattle.sb_codec.proofs.Sizes.{delta-spelled}
use Rattle.sb_frames.specs.Frames.{frame}
use Rattle.sb_frames.specs.Streams.{Stream, TakesNext}
use Rattle.sb_frames.proofs.Splitting.{length-frame}
use Rattle.sb_log.specs.Records.{Committed, Log}
use Rattle.sb_log.specs.Puts.{Puts, Purges as LogPurges, Loads, IsSure, next_entry}
use Rattle.sb_node.specs.Answers.{IsAnswer}
use Rattle.sb_node.specs.Cores.{Core, with_node}
use Rattle.sb_node.specs.Purging.{purge_answer}
use Rattle.sb_node.specs.Steps.{Steps}
use Rattle.sb_node.specs.Talks.{TrueMessage}
use Rattle.sb_node.proofs.Sessions.{asked}
use Rattle.sb_node.proofs.Told.{Laws}
use Rattle.sb_node.proofs.Truth.{calls_are, calls_true}
use Rattle.sb_session.specs.Sessions.{Session, hello_of}
use Rattle.sb_session.specs.Taking.{Asks}
use Rattle.sb_world.specs.declared.event.Event.{Event}
use Rattle.sb_world.specs.declared.event.Event.TheVariants.{Commit, Take, CrashInCommit, Purge, Trim, Restart, Connect, Close, Line, Piece, Ask, Offer, Read, Upto}
use Rattle.sb_world.specs.declared.event.Answer.{Answer}
use Rattle.sb_world.specs.Places.{Place, frame_at}
use Rattle.sb_world.specs.Turns.{Effect, rests, logs, goes, listens, opens, Turn, idle_turn, with_core, write_of, IsLogged, commit_turn, crash_turn, purge_turn, trim_turn, TrimEnds, waiting_after, Crashes, TakesFirst, take_turn, RestartEnds, reopened_turn, refused_turn, sent_turn}
use Rattle.sb_world.specs.Connections.{Connection, connection_at, with_connection, without_connection, of_others}
use Rattle.sb_world.specs.Hearing.{Tells, calls_in, events_in}
use Rattle.sb_world.specs.Connecting.{Stays, session_at, new_connection, Connects, Closes, connection_with_bytes, LinesUp, in_session, Asked, AsksOn, stream_with_piece, listener, heard_by, connections_after, piece_turn, Delivers, Pieces}
use Rattle.sb_world.specs.Events.{Acts, ActsWhere, Does, answers_to}
use Rattle.sb_world.specs.Lines.{IsLine, IsTrueConnection}
use Rattle.sb_world.specs.States.{Past, put_at, writes_after, past_after}
use Rattle.sb_world.specs.Truth.{IsTrueFrame, IsContentOf, IsTruePlace}
use Rattle.sb_world.proofs.Names.{put_same}
use Rattle.sb_world.proofs.Floors.{content_more, content_purged, failure, err_is, LogStays, same_stays, put_stays, purge_stays, load_stays}
use Rattle.sb_world.proofs.Going.{grown, events_on}
use Rattle.sb_world.proofs.Lines.{line_empty, line_joined, line_fed, line_later, connection_later}
use Rattle.sb_world.proofs.Listening.{IsTrueListener, Listened, listened, asked_true, asked_within, nothing_next, tells_core, tells_end, tells_frames}
use Rattle.sb_world.proofs.Keeping.{AreWaiting, waiting_more, waiting_on, relogged, went, reopened}

-- ---- the node stays the same, and so does what is trusted; and its log's floor does not fall

pub record Same (p : Place) (turn : Turn) : Type 0 where
  pub me : turn.place.me ≡ p.me
  pub clean : turn.place.log.is_clean ≡ true → p.log.is_clean ≡ true
  pub sure : IsSure p.log → IsSure turn.place.log
  pub log : LogStays p.log turn.place.log

still_same : (p : Place) (answer : Result Answer Fault) → Same p (idle_turn p answer)
still_same p answer = record { me = refl; clean = λ e. e; sure = λ s. s; log = same_stays p.log p.log refl }

turned_same : (p : Place) (turn : Turn) (other : Turn) → turn ≡ other → Same p other → Same p turn
turned_same p turn other is same = subst (Same p) (sym is) same

takes_same : (p : Place) (waiting : List Committed) (turn : Turn) → TakesFirst p waiting turn → Same p turn
takes_same p [] turn takes = turned_same p turn _ takes (still_same p _)
takes_same p (c ∷ others) turn takes = turned_same p turn _ takes.3 (one takes.0)
  where
    one : (result : Result (Unit {0}) Fault) → Same p (take_turn p c others result)
    one (Ok done) = record { me = refl; clean = λ e. e; sure = λ s. s; log = same_stays p.log p.log refl }
    one (Err fault) = still_same p _

restarts_same : (p : Place) (result : Result Table Fault) (log : Log) (turn : Turn) → Loads p.log result log → RestartEnds p log result turn → Same p turn
restarts_same p (Ok table) log turn loads ends =
    let stays = load_stays p.log log (Ok table) loads in
    ⊎_elim
    (λ is. turned_same p turn (reopened_turn p log table) is (record { me = refl; clean = loads.stays.clean; sure = loads.stays.sure; log = stays }))
    (λ is. turned_same p turn (refused_turn p log NoMemory) is (record { me = refl; clean = loads.stays.clean; sure = loads.stays.sure; log = stays }))
    ends
restarts_same p (Err fault) log turn loads ends =
    turned_same p turn (refused_turn p log fault) ends (record { me = refl; clean = loads.stays.clean; sure = loads.stays.sure; log = load_stays p.log log (Err fault) loads })

crashes_same : (p : Place) (key : List ℕ) (slot : Slot) (is_kept : Bool) (turn : Turn) → Crashes p key slot is_kept turn → Same p turn
crashes_same p key slot false turn is = turned_same p turn (crash_turn p rests p.log) is (record { me = refl; clean = λ e. e; sure = λ s. s; log = same_stays p.log p.log refl })
crashes_same p key slot true turn crashes =
    ⊎_elim (λ is. turned_same p turn _ is (still_same p _))
    (λ c. turned_same p turn (crash_turn p c.1 c.2) c.6 (record { me = refl; clean = c.3.stays.clean; sure = c.3.stays.sure; log = put_stays p.log c.2 key slot c.0 c.3 })) crashes

purges_same : (p : Place) (floor : ℕ) (result : Result (Unit {0}) Fault) (log : Log) → LogPurges p.log floor result log → Same p (purge_turn p floor result log)
purges_same p floor (Ok done) log purges = record { me = refl; clean = purges.stays.clean; sure = purges.stays.sure; log = purge_stays p.log log floor (Ok done) purges }
purges_same p floor (Err fault) log purges = record { me = refl; clean = purges.stays.clean; sure = purges.stays.sure; log = purge_stays p.log log floor (Err fault) purges }

trims_same : (p : Place) (floor : ℕ) (allowed : Result (Unit {0}) Fault) (turn : Turn) → TrimEnds allowed p floor turn → Same p turn
trims_same p floor (Err fault) turn is = turned_same p turn _ is (still_same p _)
trims_same p floor (Ok done) turn r =
    turned_same p turn (trim_turn p floor r.0 r.1) r.3 (record { me = refl; clean = r.2.stays.clean; sure = r.2.stays.sure; log = purge_stays p.log r.1 floor r.0 r.2 })

stays_same : (p : Place) (conns : List Connection) (answer : Result Answer Fault) (turn : Turn) (new : List Connection) → Stays p conns answer turn new → Same p turn
stays_same p conns answer turn new stays = turned_same p turn _ stays.0 (still_same p answer)

-- only what the node holds changed, whatever was sent and answered
core_same : (p : Place) (core : Core) (answer : Result Answer Fault) (effect : Effect) (frames : List (List ℕ)) → Same p (record { answer = answer; effect = effect; place = with_core p core; frames = frames })
core_same p core answer effect frames = record { me = refl; clean = λ e. e; sure = λ s. s; log = same_stays p.log p.log refl }

connects_same : (found : Option Connection) (p : Place) (number : ℕ) (conns : List Connection) (sent : List (List ℕ)) (turn : Turn) (new : List Connection) → Connects found p number conns sent turn new → Same p turn
connects_same (Some c) p number conns sent turn new stays = stays_same p conns _ turn new stays
connects_same None p number conns sent turn new acts = ⊎_elim (stays_same p conns _ turn new) (λ is. turned_same p turn (sent_turn p sent (hello_of (session_at p))) is.2 (record { me = refl; clean = λ e. e; sure = λ s. s; log = same_stays p.log p.log refl })) acts

closes_same : (found : Option Connection) (p : Place) (number : ℕ) (conns : List Connection) (turn : Turn) (new : List Connection) → Closes found p number conns turn new → Same p turn
closes_same None p number conns turn new stays = stays_same p conns _ turn new stays
closes_same (Some c) p number conns turn new is = turned_same p turn _ is.0 (still_same p _)

lines_same : (found : Option Connection) (bytes : Option (List ℕ)) (p : Place) (number : ℕ) (conns : List Connection) (turn : Turn) (new : List Connection) → LinesUp found bytes p number conns turn new → Same p turn
lines_same None bytes p number conns turn new stays = stays_same p conns _ turn new stays
lines_same (Some c) None p number conns turn new stays = stays_same p conns _ turn new stays
lines_same (Some c) (Some bytes) p number conns turn new acts = ⊎_elim (stays_same p conns _ turn new) (λ is. turned_same p turn _ is.0 (still_same p _)) acts

asked_same : (result : Result Message Fault) (p : Place) (core : Core) (c : Connection) (session : Session) (number : ℕ) (conns : List Connection) (sent : List (List ℕ)) (turn : Turn) (new : List Connection) →
    Asked result (with_core p core) c session number conns sent turn new → Same p turn
asked_same (Err fault) p core c session number conns sent turn new stays = turned_same p turn _ stays.0 (core_same p core _ _ _)
asked_same (Ok message) p core c session number conns sent turn new asked =
    ⊎_elim (λ stays. turned_same p turn _ stays.0 (core_same p core _ _ _)) (λ is. turned_same p turn _ is.1 (core_same p core _ _ _)) asked

asks_same : (found : Option Connection) (p : Place) (number : ℕ) (conns : List Connection) (sent : List (List ℕ)) (turn : Turn) (new : List Connection) → AsksOn found p number conns sent turn new → Same p turn
asks_same None p number conns sent turn new stays = stays_same p conns _ turn new stays
asks_same (Some c) p number conns sent turn new asks = asked_same asks.0 p asks.2 c asks.1 number conns sent turn new asks.4

pieces_same : (found : Option Connection) (p : Place) (number count : ℕ) (conns : List Connection) (sent : List (List ℕ)) (turn : Turn) (new : List Connection) → Pieces found p number count conns sent turn new → Same p turn
pieces_same None p number count conns sent turn new stays = stays_same p conns _ turn new stays
pieces_same (Some c) p number count conns sent turn new d = turned_same p turn _ d.turn_is (core_same p d.last.core _ _ _)

acts_same : (event : Event) (p : Place) (conns : List Connection) (sent : List (List ℕ)) (turn : Turn) (new : List Connection) → Acts event p conns sent turn new → Same p turn
acts_same (Commit me key slot) p conns sent turn new acts =
    ⊎_elim (λ is. turned_same p turn _ is (still_same p _))
    (λ c. turned_same p turn (commit_turn p c.0 c.1 c.2) c.5 (record { me = refl; clean = c.3.stays.clean; sure = c.3.stays.sure; log = put_stays p.log c.2 key slot c.0 c.3 })) acts.0
acts_same (Take me) p conns sent turn new acts = takes_same p p.waiting turn acts.0
acts_same (CrashInCommit me key slot is_kept) p conns sent turn new acts = crashes_same p key slot is_kept turn acts.0
acts_same (Purge me floor) p conns sent turn new acts = let r = acts.0 in turned_same p turn (purge_turn p floor r.0 r.1) r.3 (purges_same p floor r.0 r.1 r.2)
acts_same (Trim me floor) p conns sent turn new acts = trims_same p floor (purge_answer p.core.node floor) turn acts.0
acts_same (Restart me) p conns sent turn new acts = let r = acts.0 in restarts_same p r.0 r.1 turn r.2 r.3
acts_same (Connect me number) p conns sent turn new acts = connects_same (connection_at conns number) p number conns sent turn new acts
acts_same (Close number) p conns sent turn new acts = closes_same (connection_at conns number) p number conns turn new acts
acts_same (Line number index) p conns sent turn new acts = lines_same (connection_at conns number) (frame_at sent index) p number conns turn new acts
acts_same (Piece number count) p conns sent turn new acts = pieces_same (connection_at conns number) p number count conns sent turn new acts
acts_same (Ask number) p conns sent turn new acts = asks_same (connection_at conns number) p number conns sent turn new acts
acts_same (Offer me owner after) p conns sent turn new acts =
    ⊎_elim (λ is. turned_same p turn _ is (still_same p _)) (λ o. turned_same p turn (sent_turn p sent (messages.Delta o.0)) o.4 (record { me = refl; clean = λ e. e; sure = λ s. s; log = same_stays p.log p.log refl })) acts.0
acts_same (Read me owner key) p conns sent turn new acts = ⊎_elim (λ is. turned_same p turn _ is (still_same p _)) (λ is. turned_same p turn _ is (still_same p _)) acts.0
acts_same (Upto me owner) p conns sent turn new acts = turned_same p turn _ acts.0 (still_same p _)

pub does_same : (event : Event) (p : Place) (conns : List Connection) (sent : List (List ℕ)) (turn : Turn) (new : List Connection) → Does event p conns sent turn new → Same p turn
does_same event p conns sent turn new does = where_same (answers_to event p.is_up) does
  where
    where_same : (b : Bool) → ActsWhere b event p conns sent turn new → Same p turn
    where_same true acts = acts_same event p conns sent turn new acts
    where_same false is = turned_same p turn _ is.0 (still_same p _)

-- ---- what was true of the node is true of it afterwards

-- what is found in a list stands in it
found_stands : {X : Type 0} (xs : List X) (k : ℕ) (x : X) → slice_get xs k ≡ Some x → Stands xs x
found_stands [] k x found = absurd (cc)
found_stands (y ∷ ys) zero x found = inl (ap (λ o. unwrap_or o y) found)
found_stands (y ∷ ys) (suc k) x found = inr (found_stands ys k x found)

pub frame_stands : (sent : List (List ℕ)) (number : ℕ) (bytes : List ℕ) → frame_at sent number ≡ Some bytes → Stands sent bytes
frame_stands sent zero bytes found = absurd (cc)
frame_stands sent (suc k) bytes found = found_stands sent k bytes found

module _ (writes : List ℕ → List Write) (past : Past) (settings : Settings) (sent : List (List ℕ)) (p : Place)
    (t : IsTruePlace writes past settings p) (told_sent : (bytes : List ℕ) → Stands sent bytes → IsTrueFrame writes settings.budget bytes) (laws : Laws) where
  abbrev after : Effect → List ℕ → List Write
  after effect = put_at writes p.me (writes_after (writes p.me) effect)

  now : (effect : Effect) → after effect p.me ≡ writes_after (writes p.me) effect
  now effect = put_same writes p.me (writes_after (writes p.me) effect)

  grows : (effect : Effect) → Grows writes (after effect)
  grows effect = grown writes p.me effect

  pub record Kept (turn : Turn) : Type 0 where
    pub place : turn.place.log.is_clean ≡ true → IsTruePlace (after turn.effect) (past_after p.me (writes p.me) past turn.effect) settings turn.place
    pub frames : (bytes : List ℕ) → Stands turn.frames bytes → IsTrueFrame writes settings.budget bytes

  -- no write was added
  same_content : (log : Log) (effect : Effect) → writes_after (writes p.me) effect ≡ writes p.me → (log.is_open ≡ true → IsContentOf (writes p.me) log.content) → log.is_open ≡ true → IsContentOf (after effect p.me) log.content
  same_content log effect none content unshut = subst (λ (ws : List Write). IsContentOf ws log.content) (sym (now effect ∙ none)) (content unshut)

  -- of a log that did not change
  unchanged_content : (log : Log) → log ≡ p.log → log.is_open ≡ true → IsContentOf (writes p.me) log.content
  unchanged_content log same unshut = subst (λ (l : Log). IsContentOf (writes p.me) l.content) (sym same) (t.content (ap (λ (l : Log). l.is_open) (sym same) ∙ unshut))

  still_place : IsTruePlace (after rests) past settings p
  still_place = relogged writes (after rests) (grows rests) past settings p t p.log p.waiting p.is_up t.owner (same_content p.log rests refl t.content) (waiting_on writes (after rests) (grows rests) past settings p t)

  still_kept : (answer : Result Answer Fault) → Kept (idle_turn p answer)
  still_kept answer = record { place = λ clean. still_place; frames = λ bytes stands. absurd stands }

  turned_kept : (turn other : Turn) → turn ≡ other → Kept other → Kept turn
  turned_kept turn other is kept = subst Kept (sym is) kept

  -- ---- a write

  module _ (key : List ℕ) (slot : Slot) where
    abbrev w : Write
    w = write_of key slot

    module _ (c : Committed) (log : Log) (puts : Puts p.log key slot (Ok c) log) (clean : log.is_clean ≡ true) where
      stood : p.log.is_open ≡ true
      stood = ⊎_elim (λ e. e) (λ e. absurd (let shut : Ok c ≡ Err Closed = puts.closed.1 e in cc)) (cases_Bool p.log.is_open)

      entry_is : c.entry ≡ entry_of_write (length (writes p.me) + 1) w
      entry_is = puts.kept.entry clean ∙ ap (λ (content : Table). next_entry content key slot) (t.content stood).content

      content_is : IsContentOf (after (logs w) p.me) log.content
      content_is =
          subst (λ (ws : List Write). IsContentOf ws log.content) (sym (now (logs w)))
          (subst (IsContentOf (writes p.me ++ w ∷ [])) (sym (puts.kept.content clean ∙ ap (with_entry p.log.content) entry_is)) (content_more (writes p.me) w p.log.content (t.content stood)))

      written_is : Written (after (logs w) p.me) c.entry
      written_is = subst (λ (ws : List Write). Written ws c.entry) (sym (now (logs w))) (subst (Written (writes p.me ++ w ∷ [])) (sym entry_is) (written-grown (writes p.me) w))

    -- of a log that still stands nothing changed
    refused_same : (fault : Fault) (log : Log) → Puts p.log key slot (Err fault) log → log.is_open ≡ true → log ≡ p.log
    refused_same fault log puts unshut = puts.refused.unchanged (λ failed. true≢false (sym unshut ∙ puts.refused.closes failed))

    logged_content : (put : Result Committed Fault) (effect : Effect) (log : Log) → Puts p.log key slot put log → IsLogged key slot put effect → log.is_clean ≡ true →
        log.is_open ≡ true → IsContentOf (after effect p.me) log.content
    logged_content (Ok c) effect log puts logged clean unshut = subst (λ (e : Effect). IsContentOf (after e p.me) log.content) (sym logged) (content_is c log puts clean)
    logged_content (Err fault) effect log puts logged clean unshut =
        ⊎_elim
        (λ (is : effect ≡ rests).
        subst (λ (e : Effect). IsContentOf (after e p.me) log.content) (sym is)
        (same_content log rests refl (unchanged_content log (refused_same fault log puts unshut)) unshut))
        (λ failed. absurd (true≢false (sym unshut ∙ puts.refused.closes failed.0)))
        logged

    logged_past : (put : Result Committed Fault) (effect : Effect) → IsLogged key slot put effect → past_after p.me (writes p.me) past effect ≡ past
    logged_past (Ok c) effect logged = ap (past_after p.me (writes p.me) past) logged
    logged_past (Err fault) effect logged = ⊎_elim (λ is. ap (past_after p.me (writes p.me) past) is) (λ failed. ap (past_after p.me (writes p.me) past) failed.1) logged

    logged_waiting : (put : Result Committed Fault) (effect : Effect) (log : Log) → Puts p.log key slot put log → IsLogged key slot put effect → log.is_clean ≡ true → AreWaiting (after effect p.me) p.me (waiting_after p.waiting put)
    logged_waiting (Ok c) effect log puts logged clean =
        subst (λ e. AreWaiting (after e p.me) p.me (p.waiting ++ c ∷ [])) (sym logged)
        (waiting_more (after (logs w) p.me) p.me p.waiting c (waiting_on writes (after (logs w)) (grows (logs w)) past settings p t) (puts.kept.owner ∙ t.owner) (written_is c log puts clean))
    logged_waiting (Err fault) effect log puts logged clean = waiting_on writes (after effect) (grows effect) past settings p t

    commit_kept : (put : Result Committed Fault) (effect : Effect) (log : Log) → Puts p.log key slot put log → IsLogged key slot put effect → Kept (commit_turn p put effect log)
    commit_kept put effect log puts logged = record {
      place = λ clean. subst (λ (h : Past). IsTruePlace (after effect) h settings (commit_turn p put effect log).place) (sym (logged_past put effect logged))
          (relogged writes (after effect) (grows effect) past settings p t log (waiting_after p.waiting put) p.is_up (puts.stays.owner ∙ t.owner) (logged_content put effect log puts logged clean) (logged_waiting put effect log puts logged clean));
      frames = λ bytes stands. absurd stands;
    }

    crash_kept : (put : Result Committed Fault) (effect : Effect) (log : Log) → Puts p.log key slot put log → IsLogged key slot put effect → Kept (crash_turn p effect log)
    crash_kept put effect log puts logged = record {
      place = λ clean. subst (λ (h : Past). IsTruePlace (after effect) h settings (crash_turn p effect log).place) (sym (logged_past put effect logged))
          (relogged writes (after effect) (grows effect) past settings p t log p.waiting false (puts.stays.owner ∙ t.owner) (logged_content put effect log puts logged clean) (waiting_on writes (after effect) (grows effect) past settings p t));
      frames = λ bytes stands. absurd stands;
    }

    crashes_kept : (is_kept : Bool) (turn : Turn) → Crashes p key slot is_kept turn → Kept turn
    crashes_kept true turn crashes =
        ⊎_elim (λ is. turned_kept turn _ is (still_kept _)) (λ c. turned_kept turn (crash_turn p c.1 c.2) c.6 (crash_kept c.0 c.1 c.2 c.3 c.5)) crashes
    crashes_kept false turn is = turned_kept turn (crash_turn p rests p.log) is (record {
      place = λ clean. relogged writes (after rests) (grows rests) past settings p t p.log p.waiting false t.owner (same_content p.log rests refl t.content) (waiting_on writes (after rests) (grows rests) past settings p t);
      frames = λ bytes stands. absurd stands;
    })

  -- ---- a purge

  module _ (floor : ℕ) (done : Unit {0}) (log : Log) (purges : LogPurges p.log floor (Ok done) log) where
    purge_stood : p.log.is_open ≡ true
    purge_stood = ⊎_elim (λ e. e) (λ e. absurd (let shut : Ok done ≡ Err Closed = purges.closed.1 e in cc)) (cases_Bool p.log.is_open)

    purged_so : log.is_clean ≡ true → IsContentOf (writes p.me) log.content
    purged_so clean =
        subst (IsContentOf (writes p.me)) (sym (purges.done.content clean)) (content_purged (writes p.me) p.log.content floor (t.content purge_stood) (purges.done.fits clean))

  purges_kept : (floor : ℕ) (result : Result (Unit {0}) Fault) (log : Log) → LogPurges p.log floor result log → Kept (purge_turn p floor result log)
  purges_kept floor (Ok done) log purges = record {
    place = λ clean. relogged writes (after rests) (grows rests) past settings p t log p.waiting false (purges.stays.owner ∙ t.owner)
        (same_content log rests refl (λ unshut. purged_so floor done log purges clean)) (waiting_on writes (after rests) (grows rests) past settings p t);
    frames = λ bytes stands. absurd stands;
  }
  purges_kept floor (Err fault) log purges = record {
    place = λ clean. relogged writes (after rests) (grows rests) past settings p t log p.waiting p.is_up (purges.stays.owner ∙ t.owner)
        (same_content log rests refl (λ unshut. unchanged_content log (purges.refused.unchanged (λ failed. true≢false (sym unshut ∙ purges.refused.closes failed))) unshut)) (waiting_on writes (after rests) (grows rests) past settings p t);
    frames = λ bytes stands. absurd stands;
  }

  -- ---- a purge of a node that stays up

  purged_events : (floor : ℕ) → AreNodeEvents (Purged floor ∷ [])
  purged_events floor event (inl same) = subst IsNodeEvent same tt
  purged_events floor event (inr s) = absurd s

  purged_true : (ws : List ℕ → List Write) (me : List ℕ) (floor : ℕ) → AllTrueAt ws me (Purged floor ∷ [])
  purged_true ws me floor event (inl same) = subst (TrueAt ws me) same tt
  purged_true ws me floor event (inr s) = absurd s

  trim_content : (floor : ℕ) (result : Result (Unit {0}) Fault) (log : Log) → LogPurges p.log floor result log → log.is_clean ≡ true → log.is_open ≡ true → IsContentOf (writes p.me) log.content
  trim_content floor (Ok done) log purges clean unshut = purged_so floor done log purges clean
  trim_content floor (Err fault) log purges clean unshut = unchanged_content log (purges.refused.unchanged (λ failed. true≢false (sym unshut ∙ purges.refused.closes failed))) unshut

  module _ (floor : ℕ) (result : Result (Unit {0}) Fault) (log : Log) (purges : LogPurges p.log floor result log) where
    -- the log went on, and then the node
    trim_kept : Kept (trim_turn p floor result log)
    trim_kept = record {
      place = λ clean.
          let q : Place = record { me = p.me; log = log; core = p.core; waiting = p.waiting; is_up = p.is_up } in
          let logged : IsTruePlace writes past settings q =
          relogged writes writes (λ other. ([], sym (append-nil (writes other)))) past settings p t log p.waiting p.is_up (purges.stays.owner ∙ t.owner)
          (λ unshut. trim_content floor result log purges clean unshut) t.waiting in
          went writes (after (goes (Purged floor ∷ []))) (grows (goes (Purged floor ∷ []))) past settings q logged (Purged floor ∷ []) p.waiting (purged_events floor)
          (purged_true (after (goes (Purged floor ∷ []))) p.me floor)
          (same_content log (goes (Purged floor ∷ [])) refl (λ unshut. trim_content floor result log purges clean unshut))
          (waiting_on writes (after (goes (Purged floor ∷ []))) (grows (goes (Purged floor ∷ []))) past settings p t);
      frames = λ bytes stands. absurd stands;
    }

  trims_kept : (floor : ℕ) (allowed : Result (Unit {0}) Fault) (turn : Turn) → TrimEnds allowed p floor turn → Kept turn
  trims_kept floor (Err fault) turn is = turned_kept turn _ is (still_kept _)
  trims_kept floor (Ok done) turn r = turned_kept turn (trim_turn p floor r.0 r.1) r.3 (trim_kept floor r.0 r.1 r.2)

  -- ---- an own write enters

  wrote_events : (e : Entry) → AreNodeEvents (Wrote e ∷ [])
  wrote_events e event (inl same) = subst IsNodeEvent same tt
  wrote_events e event (inr s) = absurd s

  wrote_true : (ws : List ℕ → List Write) (me : List ℕ) (e : Entry) → Written (ws me) e → AllTrueAt ws me (Wrote e ∷ [])
  wrote_true ws me e written event (inl same) = subst (TrueAt ws me) same written
  wrote_true ws me e written event (inr s) = absurd s

  takes_kept : (waiting : List Committed) → p.waiting ≡ waiting → (turn : Turn) → TakesFirst p waiting turn → Kept turn
  takes_kept [] is turn takes = turned_kept turn _ takes (still_kept _)
  takes_kept (c ∷ others) is turn takes = turned_kept turn _ takes.3 (one takes.0)
    where
      effect : Effect
      effect = goes (Wrote c.entry ∷ [])

      each : AreWaiting (after effect p.me) p.me (c ∷ others)
      each = subst (AreWaiting (after effect p.me) p.me) is (waiting_on writes (after effect) (grows effect) past settings p t)

      one : (result : Result (Unit {0}) Fault) → Kept (take_turn p c others result)
      one (Ok done) = record {
        place = λ clean. went writes (after effect) (grows effect) past settings p t (Wrote c.entry ∷ []) others (wrote_events c.entry) (wrote_true (after effect) p.me c.entry (each c (inl refl)).1) (same_content p.log effect refl t.content)
            (λ other stands. each other (inr stands));
        frames = λ bytes stands. absurd stands;
      }
      one (Err fault) = still_kept _

  -- ---- a restart

  refused_kept : (log : Log) (fault : Fault) → log.owner ≡ p.log.owner → (log.is_clean ≡ true → log.is_open ≡ true → IsContentOf (writes p.me) log.content) → Kept (refused_turn p log fault)
  refused_kept log fault owner content = record {
    place = λ clean. relogged writes (after rests) (grows rests) past settings p t log [] false (owner ∙ t.owner) (same_content log rests refl (content clean)) (λ c stands. absurd stands);
    frames = λ bytes stands. absurd stands;
  }

  module _ (table : Table) (log : Log) (loads : Loads p.log (Ok table) log) where
    stands : p.log.is_open ≡ true
    stands = ⊎_elim (λ e. e) (λ e. absurd (let shut : Ok table ≡ Err Closed = loads.closed.1 e in cc)) (cases_Bool p.log.is_open)

    loaded : log.is_clean ≡ true → IsContentOf (writes p.me) log.content
    loaded clean = subst (IsContentOf (writes p.me)) (sym (loads.given.content clean)) (t.content stands)

    reopened_kept : Kept (reopened_turn p log table)
    reopened_kept =
        let effect : Effect = opens table.floor in
        let kept : log.is_clean ≡ true → IsContentOf (writes p.me) table = λ clean. subst (IsContentOf (writes p.me)) (sym (loads.given.same clean)) (t.content stands) in
        record {
          place = λ clean. reopened writes (after effect) (grows effect) past settings p t (writes p.me) (now effect) log table (past.openings + 1) (loads.stays.owner ∙ t.owner)
              (same_content log effect refl (λ unshut. loaded clean)) loads.given.is.table (kept clean);
          frames = λ bytes stands. absurd stands;
        }

  failed_content : (fault : Fault) (log : Log) → Loads p.log (Err fault) log → log.is_clean ≡ true → log.is_open ≡ true → IsContentOf (writes p.me) log.content
  failed_content fault log loads clean unshut =
      ⊎_elim
      (λ (stood : p.log.is_open ≡ true).
      ⊎_elim
      (λ (memory : fault ≡ NoMemory). subst (IsContentOf (writes p.me)) (sym (loads.failed.content memory clean)) (t.content stood))
      (λ others. absurd (true≢false (sym unshut ∙ loads.failed.closes (⊎_elim (λ failed. inl failed) (λ damaged. inr damaged.0) others))))
      (loads.failed.reason stood))
      (λ (shut : p.log.is_open ≡ false).
      let closed : failure fault ≡ failure Closed = loads.closed.1 shut in
      let same = loads.failed.unchanged (err_is fault Closed closed) in
      absurd (true≢false (sym unshut ∙ ap (λ (l : Log). l.is_open) same ∙ shut)))
      (cases_Bool p.log.is_open)

  restarts_kept : (result : Result Table Fault) (log : Log) (turn : Turn) → Loads p.log result log → RestartEnds p log result turn → Kept turn
  restarts_kept (Ok table) log turn loads ends =
      ⊎_elim
      (λ is. turned_kept turn (reopened_turn p log table) is (reopened_kept table log loads))
      (λ is. turned_kept turn (refused_turn p log NoMemory) is (refused_kept log NoMemory loads.stays.owner (λ clean unshut. loaded table log loads clean)))
      ends
  restarts_kept (Err fault) log turn loads ends = turned_kept turn (refused_turn p log fault) ends (refused_kept log fault loads.stays.owner (failed_content fault log loads))

  -- ---- a message is sent

  sent_kept : (m : Message) → is_message m ≡ true → TrueMessage writes m → length (frame m) ≤ settings.budget → Kept (sent_turn p sent m)
  sent_kept m limits is fits = record {
    place = λ clean. still_place;
    frames = λ bytes stands. ⊎_elim (λ same. subst (IsTrueFrame writes settings.budget) same (record { message = m; limits = limits; laid = refl; honest = is; fits = fits })) (λ s. absurd s) stands;
  }

  budget : p.core.settings.budget ≡ settings.budget
  budget = ap (λ (s : Settings). s.budget) t.settings

  offered_kept : (digest : Digest) (blocks : List Block) → is_delta blocks ≡ true → IsAnswer p.core.settings.budget p.core.node.held digest blocks → Kept (sent_turn p sent (messages.Delta blocks))
  offered_kept digest blocks limits answer =
      let fits = answer.cut.fits in
      let same = budget in
      sent_kept (messages.Delta blocks) limits (λ b s. laws.honest writes p.core.node p.core.settings.budget digest blocks b t.is t.holds answer s)
      (omega (arith, length-frame (messages.Delta blocks), delta-spelled blocks, fits, same))

  -- ---- connections

  module _ (conns : List Connection) (true_conns : (c : Connection) → Stands conns c → IsTrueConnection sent c) where
    -- the node is true, and so are the connections that are left
    pub record AllKept (turn : Turn) (new : List Connection) : Type 0 where
      pub kept : Kept turn
      pub each : (c : Connection) → Stands new c → IsTrueConnection (sent ++ turn.frames) c

    grown_conns : (frames : List (List ℕ)) (c : Connection) → Stands conns c → IsTrueConnection (sent ++ frames) c
    grown_conns frames c stands = connection_later sent frames c (true_conns c stands)

    same_conns : (turn : Turn) (new : List Connection) → new ≡ conns → (c : Connection) → Stands new c → IsTrueConnection (sent ++ turn.frames) c
    same_conns turn new is c stands = grown_conns turn.frames c (subst (λ (cs : List Connection). Stands cs c) is stands)

    fewer_conns : (turn : Turn) (new : List Connection) → new ≡ of_others p.me conns → (c : Connection) → Stands new c → IsTrueConnection (sent ++ turn.frames) c
    fewer_conns turn new is c stands = grown_conns turn.frames c (of_kept (λ (x : Connection). not (pointwise nat_eq x.me p.me)) conns c (subst (λ (cs : List Connection). Stands cs c) is stands)).0

    turned_all : (turn other : Turn) (new : List Connection) → turn ≡ other → AllKept other new → AllKept turn new
    turned_all turn other new is all = subst (λ (x : Turn). AllKept x new) (sym is) all

    stays_kept : (answer : Result Answer Fault) (turn : Turn) (new : List Connection) → Stays p conns answer turn new → AllKept turn new
    stays_kept answer turn new stays = turned_all turn (idle_turn p answer) new stays.0 (record { kept = still_kept answer; each = same_conns (idle_turn p answer) new stays.1 })

    -- what stands where another took a connection's place, or one went
    of_with : (cs : List Connection) (number : ℕ) (d c : Connection) → Stands (with_connection cs number d) c → (d ≡ c) ⊎ Stands cs c
    of_with [] number d c stands = inr stands
    of_with (x ∷ xs) number d c stands = go (nat_eq x.number number) stands (of_with xs number d c)
      where
        go : (b : Bool) → Stands (cond b (d ∷ xs) (x ∷ with_connection xs number d)) c → (Stands (with_connection xs number d) c → (d ≡ c) ⊎ Stands xs c) → (d ≡ c) ⊎ Stands (x ∷ xs) c
        go true (inl same) rest = inl same
        go true (inr s) rest = inr (inr s)
        go false (inl same) rest = inr (inl same)
        go false (inr s) rest = ⊎_elim (λ same. inl same) (λ other. inr (inr other)) (rest s)

    of_without : (cs : List Connection) (number : ℕ) (c : Connection) → Stands (without_connection cs number) c → Stands cs c
    of_without [] number c stands = stands
    of_without (x ∷ xs) number c stands = go (nat_eq x.number number) stands (of_without xs number c)
      where
        go : (b : Bool) → Stands (cond b xs (x ∷ without_connection xs number)) c → (Stands (without_connection xs number) c → Stands xs c) → Stands (x ∷ xs) c
        go true s rest = inr s
        go false (inl same) rest = inl same
        go false (inr s) rest = inr (rest s)

    with_one : (frames : List (List ℕ)) (number : ℕ) (d : Connection) → IsTrueConnection (sent ++ frames) d → (c : Connection) → Stands (with_connection conns number d) c → IsTrueConnection (sent ++ frames) c
    with_one frames number d is c stands = ⊎_elim (λ same. subst (IsTrueConnection (sent ++ frames)) same is) (grown_conns frames c) (of_with conns number d c stands)

    without_one : (frames : List (List ℕ)) (number : ℕ) (c : Connection) → Stands (without_connection conns number) c → IsTrueConnection (sent ++ frames) c
    without_one frames number c stands = grown_conns frames c (of_without conns number c stands)

    found_connection : (cs : List Connection) (number : ℕ) (c : Connection) → connection_at cs number ≡ Some c → Stands cs c
    found_connection [] number c found = absurd (cc)
    found_connection (x ∷ xs) number c found = go (nat_eq x.number number) found (found_connection xs number c)
      where
        go : (b : Bool) → cond b (Some x) (connection_at xs number) ≡ Some c → (connection_at xs number ≡ Some c → Stands xs c) → (x ≡ c) ⊎ Stands xs c
        go true is rest = inl (ap (λ o. unwrap_or o x) is)
        go false is rest = inr (rest is)

    connects_kept : (found : Option Connection) (number : ℕ) (turn : Turn) (new : List Connection) → Connects found p number conns sent turn new → AllKept turn new
    connects_kept (Some c) number turn new stays = stays_kept _ turn new stays
    connects_kept None number turn new acts =
        ⊎_elim (stays_kept _ turn new)
        (λ is. turned_all turn (sent_turn p sent (hello_of (session_at p))) new is.2 (record {
          kept = sent_kept (hello_of (session_at p)) is.0 tt (let fits = is.1 in let same = budget in omega (arith, fits, same));
          each = λ c stands. ⊎_elim (grown_conns (frame (hello_of (session_at p)) ∷ []) c) (one c)
              (either conns (new_connection p number ∷ []) c (subst (λ (cs : List Connection). Stands cs c) is.3 stands));
        }))
        acts
      where
        fresh : IsTrueConnection (sent ++ frame (hello_of (session_at p)) ∷ []) (new_connection p number)
        fresh = record { held = []; stands = refl; line = line_empty (sent ++ frame (hello_of (session_at p)) ∷ []) }

        one : (c : Connection) → Stands (new_connection p number ∷ []) c → IsTrueConnection (sent ++ frame (hello_of (session_at p)) ∷ []) c
        one c (inl same) = subst (IsTrueConnection (sent ++ frame (hello_of (session_at p)) ∷ [])) same fresh
        one c (inr stands) = absurd stands

    closes_kept : (found : Option Connection) (number : ℕ) (turn : Turn) (new : List Connection) → Closes found p number conns turn new → AllKept turn new
    closes_kept None number turn new stays = stays_kept _ turn new stays
    closes_kept (Some c) number turn new is =
        turned_all turn _ new is.0 (record { kept = still_kept _; each = λ d stands. without_one [] number d (subst (λ (cs : List Connection). Stands cs d) is.1 stands) })

    lines_kept : (found : Option Connection) (bytes : Option (List ℕ)) (number index : ℕ) → connection_at conns number ≡ found → frame_at sent index ≡ bytes → (turn : Turn) (new : List Connection) →
        LinesUp found bytes p number conns turn new → AllKept turn new
    lines_kept None bytes number index at_number at_index turn new stays = stays_kept _ turn new stays
    lines_kept (Some c) None number index at_number at_index turn new stays = stays_kept _ turn new stays
    lines_kept (Some c) (Some bytes) number index at_number at_index turn new acts =
        ⊎_elim (stays_kept _ turn new)
        (λ is. turned_all turn _ new is.0 (record {
          kept = still_kept _;
          each = λ d stands. with_one [] number (connection_with_bytes c bytes) longer d (subst (λ (cs : List Connection). Stands cs d) is.1 stands);
        }))
        acts
      where
        old : IsTrueConnection sent c
        old = true_conns c (found_connection conns number c at_number)

        longer : IsTrueConnection (sent ++ []) (connection_with_bytes c bytes)
        longer = connection_later sent [] (connection_with_bytes c bytes)
            (record { held = old.held; stands = old.stands; line = line_joined sent old.held c.left bytes old.line (frame_stands sent index bytes at_index) })

    asked_kept : (result : Result Message Fault) (c : Connection) (session : Session) (number : ℕ) → connection_at conns number ≡ Some c → Asks Steps c.session p.core result session p.core → (turn : Turn) (new : List Connection) →
        Asked result p c session number conns sent turn new → AllKept turn new
    asked_kept (Err fault) c session number at_number asks turn new stays = stays_kept _ turn new stays
    asked_kept (Ok m) c session number at_number asks turn new asked =
        ⊎_elim (stays_kept _ turn new)
        (λ is. turned_all turn (sent_turn p sent m) new is.1 (record {
          kept = sent_kept m is.0 (asked_true writes c.session p.core m session p.core asks) (let fits = asked_within c.session p.core m session p.core asks in let same = budget in omega (arith, fits, same));
          each = λ d stands. with_one (frame m ∷ []) number (in_session c session) on d (subst (λ (cs : List Connection). Stands cs d) is.2 stands);
        }))
        asked
      where
        on : IsTrueConnection (sent ++ frame m ∷ []) (in_session c session)
        on =
            let old = true_conns c (found_connection conns number c at_number) in
            connection_later sent (frame m ∷ []) (in_session c session) (record { held = old.held; stands = old.stands; line = old.line })

    asks_kept : (found : Option Connection) (number : ℕ) → connection_at conns number ≡ found → (turn : Turn) (new : List Connection) → AsksOn found p number conns sent turn new → AllKept turn new
    asks_kept None number at_number turn new stays = stays_kept _ turn new stays
    asks_kept (Some c) number at_number turn new asks =
        let same : asks.2 ≡ p.core = asked c.session p.core asks.0 asks.1 asks.2 asks.3 in
        asked_kept asks.0 c asks.1 number at_number
        (subst (Asks Steps c.session p.core asks.0 asks.1) same asks.3) turn new
        (subst (λ (core : Core). Asked asks.0 (with_core p core) c asks.1 number conns sent turn new) same asks.4)

    module _ (c : Connection) (number count : ℕ) (at_number : connection_at conns number ≡ Some c) (turn : Turn) (new : List Connection) (d : Delivers p c number count conns sent turn new) where
      old : IsTrueConnection sent c
      old = true_conns c (found_connection conns number c at_number)

      abbrev piece : List ℕ
      piece = take count c.left

      abbrev left_over : List ℕ
      left_over = drop count c.left

      begins : IsTrueListener laws writes settings sent told_sent left_over p.me (listener p.core c count)
      begins = record {
        settings = t.settings;
        me = t.me;
        is = t.is;
        holds = t.holds;
        held = old.held ++ piece;
        stands = ap (λ (s : Stream). stream_with_piece s piece) old.stands;
        line = line_fed sent old.held piece left_over (subst (IsLine sent old.held) (sym (take-append-drop count c.left)) old.line);
      }

      all_heard : Listened laws writes settings sent told_sent left_over p.me (listener p.core c count) d.heard d.mid
      all_heard = listened laws writes settings sent told_sent left_over p.me (listener p.core c count) d.heard d.mid begins d.hears

      abbrev effect : Effect
      effect = listens piece d.heard

      core_is : d.last.core ≡ with_node p.core (replay_node p.core.node (events_in d.heard))
      core_is = tells_core (length sent) d.heard d.mid d.last d.fault d.items d.frames d.tells ∙ all_heard.replay

      went_on : IsTruePlace (after effect) (past_after p.me (writes p.me) past effect) settings (with_core p d.last.core)
      went_on =
          subst (λ (core : Core). IsTruePlace (after effect) (past_after p.me (writes p.me) past effect) settings (with_core p core)) (sym core_is)
          (went writes (after effect) (grows effect) past settings p t (events_in d.heard) p.waiting (calls_are (calls_in d.heard) all_heard.are)
          (events_on writes (after effect) (grows effect) p.me (events_in d.heard) (calls_true writes p.me (calls_in d.heard) all_heard.true_calls))
          (same_content p.log effect refl t.content) (waiting_on writes (after effect) (grows effect) past settings p t))

      heard_on : d.fault ≡ None → IsTrueConnection (sent ++ d.frames) (heard_by c count d.last)
      heard_on none =
          let ends = tells_end (length sent) d.heard d.mid d.last d.items d.frames (subst (λ (f : Option Fault). Tells (length sent) d.heard d.mid d.last f d.items d.frames) none d.tells) in
          let rests = subst (λ (s : Stream). TakesNext s nothing_next d.last.stream) all_heard.last.stands ends.0 in
          record { held = all_heard.last.held; stands = rests.1; line = line_later sent d.frames all_heard.last.held left_over all_heard.last.line }

      left_conns : (fault : Option Fault) → d.fault ≡ fault → (x : Connection) → Stands (connections_after fault conns number (heard_by c count d.last)) x → IsTrueConnection (sent ++ d.frames) x
      left_conns None is x stands = with_one d.frames number (heard_by c count d.last) (heard_on is) x stands
      left_conns (Some fault) is x stands = without_one d.frames number x stands

      delivers_kept : AllKept turn new
      delivers_kept = turned_all turn (piece_turn p piece d.heard d.items d.fault d.last.core d.frames) new d.turn_is (record {
        kept = record {
          place = λ clean. went_on;
          frames = λ bytes stands. all_heard.frames bytes (tells_frames (length sent) d.heard d.mid d.last d.fault d.items d.frames d.tells bytes stands);
        };
        each = λ x stands. left_conns d.fault refl x (subst (λ (cs : List Connection). Stands cs x) d.left stands);
      })

    pieces_kept : (found : Option Connection) (number count : ℕ) → connection_at conns number ≡ found → (turn : Turn) (new : List Connection) → Pieces found p number count conns sent turn new → AllKept turn new
    pieces_kept None number count at_number turn new stays = stays_kept _ turn new stays
    pieces_kept (Some c) number count at_number turn new d = delivers_kept c number count at_number turn new d

    -- ---- all events

    alone : (turn : Turn) (new : List Connection) → Kept turn → new ≡ conns → AllKept turn new
    alone turn new kept is = record { kept = kept; each = same_conns turn new is }

    fewer : (turn : Turn) (new : List Connection) → Kept turn → new ≡ of_others p.me conns → AllKept turn new
    fewer turn new kept is = record { kept = kept; each = fewer_conns turn new is }

    -- all of them are left, or those of others
    some_left : (all : Bool) (turn : Turn) (new : List Connection) → Kept turn → new ≡ cond all conns (of_others p.me conns) → AllKept turn new
    some_left true turn new kept is = alone turn new kept is
    some_left false turn new kept is = fewer turn new kept is

    acts_kept : (event : Event) (turn : Turn) (new : List Connection) → Acts event p conns sent turn new → AllKept turn new
    acts_kept (Commit me key slot) turn new acts =
        alone turn new (⊎_elim (λ is. turned_kept turn _ is (still_kept _)) (λ c. turned_kept turn (commit_turn p c.0 c.1 c.2) c.5 (commit_kept key slot c.0 c.1 c.2 c.3 c.4)) acts.0) acts.1
    acts_kept (Take me) turn new acts = alone turn new (takes_kept p.waiting refl turn acts.0) acts.1
    acts_kept (CrashInCommit me key slot is_kept) turn new acts = some_left turn.place.is_up turn new (crashes_kept key slot is_kept turn acts.0) acts.1
    acts_kept (Purge me floor) turn new acts =
        let r = acts.0 in some_left turn.place.is_up turn new (turned_kept turn (purge_turn p floor r.0 r.1) r.3 (purges_kept floor r.0 r.1 r.2)) acts.1
    acts_kept (Trim me floor) turn new acts = alone turn new (trims_kept floor (purge_answer p.core.node floor) turn acts.0) acts.1
    acts_kept (Restart me) turn new acts = let r = acts.0 in fewer turn new (restarts_kept r.0 r.1 turn r.2 r.3) acts.1
    acts_kept (Connect me number) turn new acts = connects_kept (connection_at conns number) number turn new acts
    acts_kept (Close number) turn new acts = closes_kept (connection_at conns number) number turn new acts
    acts_kept (Line number index) turn new acts = lines_kept (connection_at conns number) (frame_at sent index) number index refl refl turn new acts
    acts_kept (Piece number count) turn new acts = pieces_kept (connection_at conns number) number count refl turn new acts
    acts_kept (Ask number) turn new acts = asks_kept (connection_at conns number) number refl turn new acts
    acts_kept (Offer me owner after) turn new acts =
        alone turn new (⊎_elim (λ is. turned_kept turn _ is (still_kept _)) (λ o. turned_kept turn (sent_turn p sent (messages.Delta o.0)) o.4 (offered_kept _ o.0 o.1 o.3)) acts.0) acts.1
    acts_kept (Read me owner key) turn new acts = alone turn new (⊎_elim (λ is. turned_kept turn _ is (still_kept _)) (λ is. turned_kept turn _ is (still_kept _)) acts.0) acts.1
    acts_kept (Upto me owner) turn new acts = alone turn new (turned_kept turn _ acts.0 (still_kept _)) acts.1

    pub does_kept : (event : Event) (turn : Turn) (new : List Connection) → Does event p conns sent turn new → AllKept turn new
    does_kept event turn new does = where_kept (answers_to event p.is_up) does
      where
        where_kept : (b : Bool) → ActsWhere b event p conns sent turn new → AllKept turn new
        where_kept true acts = acts_kept event turn new acts
        where_kept false is = stays_kept _ turn new is
