-- The history goes on: the writes of a node's owner grow, and what was true of them stays.
use Rattle.std.proofs.Common.{◌≡◌, ℕ, Bool, true, false, cond, nat_eq, List, [], ◌∷◌, ◌++◌, refl, sym, ap, subst, ◌∙◌}
use Rattle.std.proofs.lemmas.List.{append-nil, append_assoc}
use Rattle.std.specs.Cmp.Lexicographic.{pointwise}
use Rattle.sb_types.specs.declared.entry.Write.{Write}
use Rattle.sb_types.specs.Records.{Entry}
use Rattle.sb_types.specs.Writes.{Written, Honest, HolderHolds}
use Rattle.sb_holdings.specs.Growth.{Grows}
use Rattle.sb_holdings.specs.Nodes.{Node, NodeEvent, Wrote, Took, Purged, TrueAt, AllTrueAt, NodeHolds, held_by}
use Rattle.sb_holdings.proofs.Lasting.{written_later, tells_later, holder_later}
use Rattle.sb_types.proofs.Texts.{same_text}
use Rattle.sb_codec.specs.declared.message.Message.{Message}
use Rattle.sb_codec.specs.declared.message.Message.TheVariants as messages
use Rattle.sb_node.specs.Talks.{TrueMessage}
use Rattle.sb_world.specs.Turns.{Effect, rests, logs, goes, listens, opens}
use Rattle.sb_world.specs.States.{put_at, writes_after}
use Rattle.sb_world.specs.Truth.{IsOpening, IsTrueFrame}

-- what an effect adds to the writes
abbrev pub more_by : Effect → List Write
more_by rests = []
more_by (logs w) = w ∷ []
more_by (goes events) = []
more_by (listens bytes heard) = []
more_by (opens floor) = []

pub after_is : (writes : List Write) (effect : Effect) → writes_after writes effect ≡ writes ++ more_by effect
after_is writes rests = sym (append-nil writes)
after_is writes (logs w) = refl
after_is writes (goes events) = sym (append-nil writes)
after_is writes (listens bytes heard) = sym (append-nil writes)
after_is writes (opens floor) = sym (append-nil writes)

-- the writes of one name go on, and no others
pub grown : (writes : List ℕ → List Write) (me : List ℕ) (effect : Effect) → Grows writes (put_at writes me (writes_after (writes me) effect))
grown writes me effect other = go (pointwise nat_eq other me) refl
  where
    go : (b : Bool) → pointwise nat_eq other me ≡ b → (more : List Write) × (cond b (writes_after (writes me) effect) (writes other) ≡ writes other ++ more)
    go true is = (more_by effect, after_is (writes me) effect ∙ ap (λ n. writes n ++ more_by effect) (sym (same_text other me is)))
    go false is = ([], sym (append-nil (writes other)))

module _ (old new : List ℕ → List Write) (grows : Grows old new) where
  pub written_on : (owner : List ℕ) (e : Entry) → Written (old owner) e → Written (new owner) e
  written_on owner e w = subst (λ (writes : List Write). Written writes e) (sym (grows owner).1) (written_later (old owner) (grows owner).0 e w)

  pub node_on : (node : Node) → NodeHolds old node → NodeHolds new node
  node_on node holds owner = subst (λ (writes : List Write). HolderHolds writes (held_by node owner)) (sym (grows owner).1) (holder_later (old owner) (grows owner).0 (held_by node owner) (holds owner))

  event_on : (me : List ℕ) (event : NodeEvent) → TrueAt old me event → TrueAt new me event
  event_on me (Wrote e) was = written_on me e was
  event_on me (Took b end) was = subst (λ (writes : List Write). Honest writes b) (sym (grows b.owner).1) (tells_later (old b.owner) (grows b.owner).0 was)
  event_on me (Purged floor) was = tt

  pub events_on : (me : List ℕ) (events : List NodeEvent) → AllTrueAt old me events → AllTrueAt new me events
  events_on me events all event stands = event_on me event (all event stands)

  pub opening_on : (me : List ℕ) (node : Node) → IsOpening (old me) me node → IsOpening (new me) me node
  opening_on me node o = record {
    front = o.front;
    rest = o.rest ++ (grows me).0;
    floor = o.floor;
    all = (grows me).1 ∙ ap (λ ws. ws ++ (grows me).0) o.all ∙ append_assoc o.front o.rest (grows me).0;
    low = o.low;
    node = o.node;
    is = o.is;
  }

  pub message_on : (m : Message) → TrueMessage old m → TrueMessage new m
  message_on (messages.Delta blocks) honest = λ b stands. subst (λ (writes : List Write). Honest writes b) (sym (grows b.owner).1) (tells_later (old b.owner) (grows b.owner).0 (honest b stands))
  message_on (messages.Hello greeting) t = tt
  message_on (messages.Digest told) t = tt
  message_on (messages.Bye reason) t = tt
  message_on (messages.Ask asked) t = tt
  message_on (messages.Rows rows) t = tt
  message_on (messages.Put wanted) t = tt
  message_on (messages.Done version) t = tt
  message_on (messages.Refused fault) t = tt
  message_on (messages.AskStatus after) t = tt
  message_on (messages.NodeStatus status) t = tt
  message_on (messages.AskChange asked) t = tt
  message_on (messages.Notice notice) t = tt
  message_on messages.AskAges t = tt
  message_on (messages.Ages ages) t = tt

  pub frame_on : (budget : ℕ) (bytes : List ℕ) → IsTrueFrame old budget bytes → IsTrueFrame new budget bytes
  frame_on budget bytes f = record { message = f.message; limits = f.limits; laid = f.laid; honest = message_on f.message f.honest; fits = f.fits }
