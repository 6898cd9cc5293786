-- How what was heard goes on, and how it ends.
use Rattle.std.proofs.Common.{◌≡◌, ℕ, ◌+◌, ◌<◌, Bool, true, false, List, [], ◌∷◌, ◌++◌, length, map, inl, inr, ⊎_elim, Option, Some, None, Result, Ok, Err, OnErr, IfNone, refl, sym, ap, subst, ◌∙◌, arith}
use Rattle.std.proofs.lemmas.List.{append-nil, append_assoc, length-append, length-map}
use Rattle.std.proofs.lemmas.Grind.{flat_map-append}
use Rattle.sb_types.specs.declared.fault.Fault.{Fault}
use Rattle.sb_types.specs.declared.fault.Fault.TheVariants.{NoMemory, Closed}
use Rattle.sb_codec.specs.declared.message.Message.{Message}
use Rattle.sb_frames.specs.Frames.{frame}
use Rattle.sb_frames.specs.Receiving.{held_of}
use Rattle.sb_frames.specs.Streams.{Stream, open_with, shut, Feeds, TakesNext}
use Rattle.sb_frames.proofs.Splitting.{length-frame}
use Rattle.sb_session.specs.Sessions.{Session}
use Rattle.sb_session.specs.Taking.{messages_of}
use Rattle.sb_node.specs.Cores.{Core}
use Rattle.sb_world.specs.declared.event.Item.{Item}
use Rattle.sb_world.specs.Connecting.{stream_with_piece}
use Rattle.sb_world.specs.Hearing.{Listener, listener_of, Heard, HearsNext, Hears, HearsOnce, Tells, IsFront, frames_of, items_for, items_of}

abbrev some_fault : Fault → Option Fault
some_fault f = Some f

pub hears_more : (a : Listener) (heard : List Heard) (b : Listener) (h : Heard) (c : Listener) → Hears a heard b → HearsNext b h c → Hears a (heard ++ h ∷ []) c
hears_more a [] b h c is next = (c, subst (λ (l : Listener). HearsNext l h c) is next, refl)
hears_more a (x ∷ xs) b h c hears next = (hears.0, hears.1, hears_more hears.0 xs b h c hears.2 next)

pub frames_more : (heard : List Heard) (h : Heard) → frames_of (heard ++ h ∷ []) ≡ frames_of heard ++ map frame (messages_of h.replies)
frames_more heard h =
    flat_map-append (λ (x : Heard). map frame (messages_of x.replies)) heard (h ∷ []) ∙ ap (λ (fs : List (List ℕ)). frames_of heard ++ fs) (append-nil (map frame (messages_of h.replies)))

pub items_more : (sent : ℕ) (heard : List Heard) (h : Heard) → items_of sent (heard ++ h ∷ []) ≡ items_of sent heard ++ items_for (sent + length (frames_of heard)) h.replies
items_more sent [] h = append-nil (items_for sent h.replies) ∙ ap (λ n. items_for n h.replies) (omega arith)
items_more sent (x ∷ xs) h =
    let first = messages_of x.replies in
    let count : sent + length first + length (frames_of xs) ≡ sent + length (map frame first ++ frames_of xs) = omega (arith, length-append (map frame first) (frames_of xs), length-map first frame) in
    ap (λ (is : List Item). items_for sent x.replies ++ is) (items_more (sent + length first) xs h)
    ∙ sym (append_assoc (items_for sent x.replies) (items_of (sent + length first) xs) (items_for (sent + length first + length (frames_of xs)) h.replies))
    ∙ ap (λ n. items_of sent (x ∷ xs) ++ items_for n h.replies) count

-- what is held grows less with each message
pub fewer_held : (old new : Stream) (m : Message) (result : Result (Option Message) Fault) → result ≡ Ok (Some m) → TakesNext old result new → length (held_of new) < length (held_of old)
fewer_held old new m result is takes = go old (subst (λ (r : Result (Option Message) Fault). TakesNext old r new) is takes)
  where
    go : (s : Stream) → TakesNext s (Ok (Some m)) new → length (held_of new) < length (held_of s)
    go (open_with held) hands =
        let left : length (held_of new) ≡ length hands.rest = ap (λ (t : Stream). length (held_of t)) hands.left in
        let laid : length held ≡ length (frame m ++ hands.rest) = ap length hands.leads.laid in
        omega (arith, left, laid, length-append (frame m) hands.rest, length-frame m)
    go shut takes = absurd cc (takes.0)

module _ (a b c : Listener) (heard : List Heard) (sent : ℕ) (frames : List (List ℕ)) (items : List Item) (hears : Hears a heard b) (all_frames : frames ≡ frames_of heard) (all_items : items ≡ items_of sent heard) where
  counted : sent + length (frames_of heard) ≡ sent + length frames
  counted = ap (λ (fs : List (List ℕ)). sent + length fs) (sym all_frames)

  -- one message more
  pub heard_one : (more : List (List ℕ)) (told : List Item) → HearsOnce b c (sent + length frames) (Ok true) more told →
      (h : Heard) × Hears a (heard ++ h ∷ []) c × (frames ++ more ≡ frames_of (heard ++ h ∷ [])) × (items ++ told ≡ items_of sent (heard ++ h ∷ []))
  heard_one more told once =
      let h = once.0 in (
        h,
        hears_more a heard b h c hears once.1,
        ap (λ (fs : List (List ℕ)). fs ++ more) all_frames ∙ ap (λ (fs : List (List ℕ)). frames_of heard ++ fs) once.2 ∙ sym (frames_more heard h),
        ap (λ (is : List Item). is ++ told) all_items ∙ ap (λ (is : List Item). items_of sent heard ++ is) (once.3 ∙ ap (λ n. items_for n h.replies) (sym counted)) ∙ sym (items_more sent heard h),
      )

  -- nothing more
  pub heard_all : (more : List (List ℕ)) (told : List Item) → HearsOnce b c (sent + length frames) (Ok false) more told →
      (all : List Heard) × (mid : Listener) × Hears a all mid × Tells sent all mid c None (items ++ told) (frames ++ more)
  heard_all more told once =
      (heard, b, hears, inl (once.0, ap (λ (is : List Item). items ++ is) once.2 ∙ append-nil items ∙ all_items, ap (λ (fs : List (List ℕ)). frames ++ fs) once.1 ∙ append-nil frames ∙ all_frames))

  -- a fault
  pub heard_up_to : (fault : Fault) (more : List (List ℕ)) (told : List Item) → HearsOnce b c (sent + length frames) (Err fault) more told →
      (all : List Heard) × (mid : Listener) × Hears a all mid × Tells sent all mid c (Some fault) (items ++ told) (frames ++ more)
  heard_up_to fault more told once =
      ⊎_elim
      (λ ends. (heard, b, hears, inl (ends.0, ap (λ (is : List Item). items ++ is) ends.2 ∙ append-nil items ∙ all_items, ap (λ (fs : List (List ℕ)). frames ++ fs) ends.1 ∙ append-nil frames ∙ all_frames)))
      (λ short.
      let memory : some_fault fault ≡ Some NoMemory = ap (λ (f : Fault). some_fault f) short.0 in
      ⊎_elim
      (λ none. (
        heard,
        b,
        hears,
        inr (
          memory,
          none.0,
          ([], sym (append-nil (items ++ told) ∙ ap (λ (is : List Item). items ++ is) none.2 ∙ append-nil items ∙ all_items)),
          ([], sym (append-nil (frames ++ more) ∙ ap (λ (fs : List (List ℕ)). frames ++ fs) none.1 ∙ append-nil frames ∙ all_frames)),
        ),
      ))
      (λ part.
      let h = part.0 in
      let sent_rest = part.2 in
      let told_rest = part.3 in (
        heard ++ h ∷ [],
        c,
        hears_more a heard b h c hears part.1,
        inr (
          memory,
          refl,
          (
            told_rest.0,
            items_more sent heard h ∙ ap (λ n. items_of sent heard ++ items_for n h.replies) counted ∙ ap (λ (is : List Item). is ++ items_for (sent + length frames) h.replies) (sym all_items) ∙ ap (λ (is : List Item). items ++ is) told_rest.1
                ∙ sym (append_assoc items told told_rest.0),
          ),
          (sent_rest.0, frames_more heard h ∙ ap (λ (fs : List (List ℕ)). fs ++ map frame (messages_of h.replies)) (sym all_frames) ∙ ap (λ (fs : List (List ℕ)). frames ++ fs) sent_rest.1 ∙ sym (append_assoc frames more sent_rest.0)),
        ),
      ))
      short.1)
      once

-- ---- what is replied, for want of memory

pub on_err : {X E : Type 0} (r : Result X E) (A B C : Type 0) → OnErr r A → OnErr r B → (A → B → C) → OnErr r C
on_err (Ok x) A B C a b f = tt
on_err (Err e) A B C a b f = f a b

-- a front of these frames was sent, and a front of these items told
abbrev pub Part : (old new : List (List ℕ)) (before after : List Item) → List (List ℕ) → List Item → Type 0
Part old new before after frames items =
    (sent : List (List ℕ)) × (told : List Item) × (new ≡ old ++ sent) × (after ≡ before ++ told) × IsFront sent frames × IsFront told items

pub none_of : (old new : List (List ℕ)) (before after : List Item) (frames : List (List ℕ)) (items : List Item) → new ≡ old → after ≡ before → Part old new before after frames items
none_of old new before after frames items same still = ([], [], same ∙ sym (append-nil old), still ∙ sym (append-nil before), (frames, refl), (items, refl))

pub first_of : (old mid new : List (List ℕ)) (before between after : List Item) (f g : List ℕ) (i j : Item) → mid ≡ old ++ f ∷ [] → between ≡ before ++ i ∷ [] → new ≡ mid → after ≡ between →
    Part old new before after (f ∷ g ∷ []) (i ∷ j ∷ [])
first_of old mid new before between after f g i j one told same still = (f ∷ [], i ∷ [], same ∙ one, still ∙ told, (g ∷ [], refl), (j ∷ [], refl))

-- ---- a piece is fed

abbrev fault_or : {X : Type 0} → Fault → Result X Fault → Fault
fault_or other (Ok x) = other
fault_or other (Err fault) = fault

abbrev next_fails : Fault → Result (Option Message) Fault
next_fails fault = Err fault

pub fed_is : {X : Type 0} (s : Stream) (piece : List ℕ) (x : X) (new : Stream) → Feeds s piece (Ok x) new → new ≡ stream_with_piece s piece
fed_is (open_with held) piece x new feeds = feeds
fed_is shut piece x new feeds = absurd cc (feeds.0)

-- where it was not, nothing is heard
pub not_fed : {X : Type 0} (core : Core) (session : Session) (s : Stream) (piece : List ℕ) (result : Result X Fault) (fault : Fault) (new : Stream) (n : ℕ) → result ≡ Err fault → Feeds s piece result new →
    Tells n [] (listener_of core session (stream_with_piece s piece)) (listener_of core session (stream_with_piece s piece)) (Some fault) [] []
not_fed {X} core session (open_with held) piece result fault new n is feeds =
    let short = subst (λ (r : Result X Fault). Feeds (open_with held) piece r new) is feeds in
    inr (ap some_fault short.0, refl, ([], refl), ([], refl))
not_fed core session shut piece result fault new n is feeds =
    let closed : fault ≡ Closed = ap (fault_or fault) (sym is ∙ feeds.0) in
    inl (inl ((ap next_fails closed, refl), refl), refl, refl)

-- ---- as a loop goes on

abbrev pub heard_so : Bool → Result Bool Fault
heard_so more = Ok more

pub fewer_once : (a b : Listener) (n : ℕ) (frames : List (List ℕ)) (items : List Item) → HearsOnce a b n (Ok true) frames items → length (held_of b.stream) < length (held_of a.stream)
fewer_once a b n frames items once = let next = once.1 in fewer_held a.stream b.stream once.0.message (Ok (Some once.0.message)) refl next.0

pub laid_on : {X : Type 0} (old mid new before more all : List X) → mid ≡ old ++ before → new ≡ mid ++ more → before ++ more ≡ all → new ≡ old ++ all
laid_on {X} old mid new before more all one two is =
    two ∙ ap (λ (xs : List X). xs ++ more) one ∙ append_assoc old before more ∙ ap (λ (xs : List X). old ++ xs) is

pub if_none : {X : Type 0} {P : Type 0} (o : Option X) → P → IfNone o P
if_none None p = p
if_none (Some x) p = tt
