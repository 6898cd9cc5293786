-- What is done with a connection that was found.
use Rattle.std.proofs.Common.{◌≡◌, ℕ, zero, suc, ◌+◌, ◌≤◌, true, List, [], ◌∷◌, ◌++◌, length, take, inl, inr, Option, Some, None, Result, Ok, Err, slice_get, refl, sym, ap, subst, ◌∙◌, arith}
use Rattle.std.specs.Prelude.{unwrap_or, slice_set, remove}
use Rattle.std.proofs.lemmas.Bool.{and_parts}
use Rattle.std.proofs.lemmas.List.{append-nil}
use Rattle.sb_types.specs.declared.fault.Fault.{Fault}
use Rattle.sb_types.specs.declared.fault.Fault.TheVariants.{NoMemory}
use Rattle.sb_types.specs.declared.limits.TheConstants.{BUDGET_LEAST, BUDGET_MOST}
use Rattle.sb_types.specs.Limits.{are_settings}
use Rattle.sb_types.specs.Records.{Settings}
use Rattle.sb_types.specs.Text.{is_between, is_name}
use Rattle.sb_codec.specs.declared.message.Message.{Message}
use Rattle.sb_codec.specs.Messages.{is_message}
use Rattle.sb_codec.proofs.Parts.{between_parts}
use Rattle.sb_codec.proofs.Sizes.{hello-spelled, name-most}
use Rattle.sb_frames.specs.Frames.{frame}
use Rattle.sb_frames.proofs.Splitting.{length-frame}
use Rattle.sb_session.specs.Sessions.{Session, hello_of}
use Rattle.sb_session.specs.Taking.{Asks}
use Rattle.sb_node.specs.Cores.{Core}
use Rattle.sb_node.specs.Steps.{Steps}
use Rattle.sb_world.specs.declared.event.Answer.{Answer}
use Rattle.sb_world.specs.declared.event.Answer.TheVariants as answers
use Rattle.sb_world.specs.Connections.{Connection, connection_at, with_connection}
use Rattle.sb_world.specs.Connecting.{session_at, new_connection, Connects, LinesUp, in_session, AsksOn, listener, heard_by, connections_after, Pieces}
use Rattle.sb_world.specs.Places.{Place, frame_at}
use Rattle.sb_world.specs.declared.event.Item.{Item}
use Rattle.sb_world.specs.Hearing.{Listener, Heard, Hears, Tells}
use Rattle.sb_world.specs.Turns.{Turn, rests, listens, with_core}

-- the least budget that settings have
pub least_budget : (s : Settings) → are_settings s ≡ true → 1024 ≤ s.budget
least_budget s is =
    let within = and_parts (is_name s.cluster) (is_between BUDGET_LEAST BUDGET_MOST s.budget) (and_parts _ _ (and_parts _ _ (and_parts _ _ is).0).0).0 in
    (between_parts BUDGET_LEAST BUDGET_MOST s.budget within.1).0

-- what stands at one place of a list is one
pub same_there : {X : Type 0} (xs : List X) (i : ℕ) (x y : X) → slice_get xs i ≡ Some x → slice_get xs i ≡ Some y → x ≡ y
same_there xs i x y one two = ap (λ o. unwrap_or o x) (sym one ∙ two)

-- what stands there already changes nothing
pub set_same : {X : Type 0} (xs : List X) (i : ℕ) (x : X) → slice_get xs i ≡ Some x → slice_set xs i x ≡ xs
set_same [] i x found = absurd (cc)
set_same (y ∷ ys) zero x found = ap (λ z. z ∷ ys) (sym (ap (λ o. unwrap_or o x) found))
set_same (y ∷ ys) (suc i) x found = ap (λ zs. y ∷ zs) (set_same ys i x found)

-- what is cut out may have been another before
pub remove_set : {X : Type 0} (xs : List X) (i : ℕ) (x : X) → remove (slice_set xs i x) i ≡ remove xs i
remove_set [] i x = refl
remove_set (y ∷ ys) zero x = refl
remove_set (y ∷ ys) (suc i) x = ap (λ zs. y ∷ zs) (remove_set ys i x)

-- the frames of a turn that rests at a place
abbrev pub resting : Place → Result Answer Fault → List (List ℕ) → Turn
resting q answer frames = record { answer = answer; effect = rests; place = q; frames = frames }

module _ (p : Place) (number : ℕ) (conns : List Connection) (sent : List (List ℕ)) where
  pub in_use : (c : Connection) → connection_at conns number ≡ Some c →
      (frames : List (List ℕ)) × Connects (connection_at conns number) p number conns sent (resting p (Ok answers.Nothing) frames) conns × (sent ≡ sent ++ frames)
  in_use c found = ([], subst (λ o. Connects o p number conns sent (resting p (Ok answers.Nothing) []) conns) (sym found) (refl, refl), sym (append-nil sent))

  -- a Hello is within each budget
  pub hello_within : is_message (hello_of (session_at p)) ≡ true → 1024 ≤ p.core.settings.budget → length (frame (hello_of (session_at p))) ≤ p.core.settings.budget
  hello_within is least =
      let parts = and_parts (is_name p.core.settings.cluster) (is_name p.me) is in
      omega (arith, length-frame (hello_of (session_at p)), hello-spelled (record { cluster = p.core.settings.cluster; node = p.me }), name-most p.core.settings.cluster parts.0, name-most p.me parts.1)

  pub connected : connection_at conns number ≡ None → is_message (hello_of (session_at p)) ≡ true → 1024 ≤ p.core.settings.budget → (later : List (List ℕ)) (count : ℕ) (new : List Connection) →
      later ≡ sent ++ frame (hello_of (session_at p)) ∷ [] → count ≡ length sent + 1 → new ≡ conns ++ new_connection p number ∷ [] →
      (frames : List (List ℕ)) × Connects (connection_at conns number) p number conns sent (resting p (Ok (answers.Sent count)) frames) new × (later ≡ sent ++ frames)
  connected none is least later count new is_later counted is_new = (
    frame (hello_of (session_at p)) ∷ [],
    subst (λ o. Connects o p number conns sent (resting p (Ok (answers.Sent count)) (frame (hello_of (session_at p)) ∷ [])) new) (sym none)
        (inr (is, hello_within is least, (λ k. resting p (Ok (answers.Sent (counted k))) (frame (hello_of (session_at p)) ∷ [])), is_new)),
    is_later,
  )

  pub lined_not : (c : Connection) → connection_at conns number ≡ Some c → (index : ℕ) (bytes : List ℕ) → frame_at sent index ≡ Some bytes → (fault : Fault) → fault ≡ NoMemory → (new : List Connection) → new ≡ conns →
      LinesUp (connection_at conns number) (frame_at sent index) p number conns (resting p (Err fault) []) new
  lined_not c found index bytes there fault short new same =
      subst (λ o. LinesUp o (frame_at sent index) p number conns (resting p (Err fault) []) new) (sym found)
      (subst (λ o. LinesUp (Some c) o p number conns (resting p (Err fault) []) new) (sym there) (inl ((λ k. resting p (Err (short k)) []), same)))

  -- a piece came
  pub delivered : (c : Connection) → connection_at conns number ≡ Some c → (count : ℕ) (heard : List Heard) (mid last : Listener) (fault : Option Fault) (items told : List Item) (frames : List (List ℕ)) (core : Core) (new : List Connection) →
      Hears (listener p.core c count) heard mid → Tells (length sent) heard mid last fault told frames → items ≡ told → core ≡ last.core → new ≡ connections_after fault conns number (heard_by c count last) →
      Pieces (connection_at conns number) p number count conns sent
      (record { answer = Ok (answers.Delivered items fault); effect = listens (take count c.left) heard; place = with_core p core; frames = frames }) new
  delivered c found count heard mid last fault items told frames core new hears tells is same left =
      subst (λ o. Pieces o p number count conns sent (record { answer = Ok (answers.Delivered items fault); effect = listens (take count c.left) heard; place = with_core p core; frames = frames }) new) (sym found)
      (record {
        heard = heard;
        mid = mid;
        last = last;
        fault = fault;
        items = told;
        frames = frames;
        hears = hears;
        tells = tells;
        turn_is = λ k. record { answer = Ok (answers.Delivered (is k) fault); effect = listens (take count c.left) heard; place = with_core p (same k); frames = frames };
        left = left;
      })

  module _ (c : Connection) (found : connection_at conns number ≡ Some c) (session : Session) (core : Core) where
    pub asked_not : (fault : Fault) → Asks Steps c.session p.core (Err fault) session core →
        (frames : List (List ℕ)) × AsksOn (connection_at conns number) p number conns sent (resting (with_core p core) (Err fault) frames) conns × (sent ≡ sent ++ frames)
    asked_not fault asks = (
      [],
      subst (λ o. AsksOn o p number conns sent (resting (with_core p core) (Err fault) []) conns) (sym found) (Err fault, session, core, asks, (refl, refl)),
      sym (append-nil sent),
    )

    pub asked_short : (message : Message) (fault : Fault) (later : List (List ℕ)) → fault ≡ NoMemory → later ≡ sent → Asks Steps c.session p.core (Ok message) session core →
        (frames : List (List ℕ)) × AsksOn (connection_at conns number) p number conns sent (resting (with_core p core) (Err fault) frames) conns × (later ≡ sent ++ frames)
    asked_short message fault later short is asks = (
      [],
      subst (λ o. AsksOn o p number conns sent (resting (with_core p core) (Err fault) []) conns) (sym found)
          (Ok message, session, core, asks, inl ((λ k. resting (with_core p core) (Err (short k)) []), refl)),
      is ∙ sym (append-nil sent),
    )

    pub asked_so : (message : Message) (i : ℕ) (later : List (List ℕ)) (count : ℕ) (d : Connection) → is_message message ≡ true → later ≡ sent ++ frame message ∷ [] → count ≡ length sent + 1 → d ≡ in_session c session →
        ((e : Connection) → with_connection conns number e ≡ slice_set conns i e) → Asks Steps c.session p.core (Ok message) session core →
        (frames : List (List ℕ)) × AsksOn (connection_at conns number) p number conns sent (resting (with_core p core) (Ok (answers.Sent count)) frames) (slice_set conns i d) × (later ≡ sent ++ frames)
    asked_so message i later count d limits is counted on set asks = (
      frame message ∷ [],
      subst (λ o. AsksOn o p number conns sent (resting (with_core p core) (Ok (answers.Sent count)) (frame message ∷ [])) (slice_set conns i d)) (sym found) (
        Ok message,
        session,
        core,
        asks,
        inr (limits, (λ k. resting (with_core p core) (Ok (answers.Sent (counted k))) (frame message ∷ [])), sym (set d) ∙ ap (with_connection conns number) on),
      ),
      is,
    )
