-- What a node hears on a connection, message by message, and how it replies.
use Rattle.std.specs.Prelude.{◌≡◌, ℕ, ◌+◌, Bool, true, false, List, [], ◌∷◌, ◌++◌, ◌⊎◌, length, map, Option, Some, None, Result, Ok, Err}
use Rattle.std.specs.List.{flat_map, list_all}
use Rattle.sb_types.specs.declared.fault.Fault.{Fault}
use Rattle.sb_types.specs.declared.fault.Fault.TheVariants.{NoMemory}
use Rattle.sb_holdings.specs.Nodes.{NodeEvent}
use Rattle.sb_codec.specs.declared.message.Message.{Message}
use Rattle.sb_codec.specs.Messages.{is_message}
use Rattle.sb_frames.specs.Frames.{frame}
use Rattle.sb_frames.specs.Streams.{Stream, TakesNext}
use Rattle.sb_session.specs.declared.replies.Replies.{Replies}
use Rattle.sb_session.specs.declared.replies.Replies.TheVariants as replies
use Rattle.sb_session.specs.Sessions.{Session}
use Rattle.sb_session.specs.Taking.{Takes, messages_of}
use Rattle.sb_node.specs.Calls.{Call, events_of}
use Rattle.sb_node.specs.Cores.{Core}
use Rattle.sb_node.specs.Steps.{Steps}
use Rattle.sb_node.specs.Talks.{taken_of}
use Rattle.sb_world.specs.declared.event.Item.{Item}
use Rattle.sb_world.specs.declared.event.Item.TheVariants.{Ended, Replied}

-- a node with one of its sessions, and what came for it and was not taken out yet
pub record Listener : Type 0 where
  pub core : Core
  pub session : Session
  pub stream : Stream

abbrev pub listener_of : Core → Session → Stream → Listener
listener_of core session stream = record { core = core; session = session; stream = stream }

-- a message that a session took, and what came of it
pub record Heard : Type 0 where
  pub message : Message
  pub replies : Replies

-- the next message is taken out of what came, and the session takes it; its replies keep the limits of messages
abbrev pub HearsNext : Listener → Heard → Listener → Type 0
HearsNext a h b =
    TakesNext a.stream (Ok (Some h.message)) b.stream × Takes Steps a.session a.core h.message (Ok h.replies) b.session b.core
    × (list_all is_message (messages_of h.replies) ≡ true)

abbrev pub Hears : Listener → List Heard → Listener → Type 0
Hears a [] b = b ≡ a
Hears a (h ∷ hs) b = (mid : Listener) × HearsNext a h mid × Hears mid hs b

-- no whole message is left; or the next cannot be taken out, or the session refuses it
abbrev pub Ends : Listener → Option Fault → Listener → Type 0
Ends a None b = TakesNext a.stream (Ok None) b.stream × (b.session ≡ a.session) × (b.core ≡ a.core)
Ends a (Some fault) b =
    (TakesNext a.stream (Err fault) b.stream × (b.core ≡ a.core))
    ⊎ ((message : Message) × (rest : Stream) × TakesNext a.stream (Ok (Some message)) rest × Takes Steps a.session a.core message (Err fault) b.session b.core)

-- the calls that applied the deltas among these messages
abbrev pub calls_in : List Heard → List Call
calls_in heard = flat_map (λ (h : Heard). taken_of h.message h.replies) heard

-- the events of the node by these calls
abbrev pub events_in : List Heard → List NodeEvent
events_in heard = flat_map events_of (calls_in heard)

-- the frames that are sent in reply
abbrev pub frames_of : List Heard → List (List ℕ)
frames_of heard = flat_map (λ (h : Heard). map frame (messages_of h.replies)) heard

-- how each block of a delta ended, and the numbers of the frames in reply, if so many frames were sent before
abbrev pub items_for : ℕ → Replies → List Item
items_for sent replies.Greeted = []
items_for sent (replies.Answered blocks) = Replied (sent + 1) ∷ []
items_for sent (replies.Exchanged blocks digest) = Replied (sent + 1) ∷ Replied (sent + 2) ∷ []
items_for sent (replies.Applied ends) = map Ended ends
items_for sent (replies.Ended reason) = []

abbrev pub items_of : ℕ → List Heard → List Item
items_of sent [] = []
items_of sent (h ∷ hs) = items_for sent h.replies ++ items_of (sent + length (messages_of h.replies)) hs

abbrev pub IsFront : {X : Type 0} → List X → List X → Type 0
IsFront {X} front all = (rest : List X) × (all ≡ front ++ rest)

-- what is reported and sent of all that was heard: everything; or a prefix of it, because memory was missing
abbrev pub Tells : ℕ → List Heard → Listener → Listener → Option Fault → List Item → List (List ℕ) → Type 0
Tells sent heard mid last fault items frames =
    (Ends mid fault last × (items ≡ items_of sent heard) × (frames ≡ frames_of heard))
    ⊎ ((fault ≡ Some NoMemory) × (last.core ≡ mid.core) × IsFront items (items_of sent heard) × IsFront frames (frames_of heard))

-- one message more; or no whole message; or a fault, and if memory was missing, a prefix of what comes of a message
abbrev pub HearsOnce : Listener → Listener → ℕ → Result Bool Fault → List (List ℕ) → List Item → Type 0
HearsOnce a b sent (Ok true) frames items =
    (h : Heard) × HearsNext a h b × (frames ≡ map frame (messages_of h.replies)) × (items ≡ items_for sent h.replies)
HearsOnce a b sent (Ok false) frames items = Ends a None b × (frames ≡ []) × (items ≡ [])
HearsOnce a b sent (Err fault) frames items =
    (Ends a (Some fault) b × (frames ≡ []) × (items ≡ []))
    ⊎ ((fault ≡ NoMemory)
    × (((b.core ≡ a.core) × (frames ≡ []) × (items ≡ []))
    ⊎ ((h : Heard) × HearsNext a h b × IsFront frames (map frame (messages_of h.replies)) × IsFront items (items_for sent h.replies))))
