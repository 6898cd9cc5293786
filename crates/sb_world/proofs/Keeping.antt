-- A node of which all is true, as its log, its writes or what it holds go on.
use Rattle.std.proofs.Common.{◌≡◌, ℕ, ◌≤◌, Bool, true, List, [], ◌∷◌, ◌++◌, length, ⊎_elim, inl, inr, refl, sym, ap, subst, ◌∙◌}
use Rattle.std.proofs.lemmas.List.{append-nil}
use Rattle.sb_types.specs.declared.entry.Write.{Write}
use Rattle.sb_types.specs.Records.{Settings, Table}
use Rattle.sb_types.specs.Runs.{Stands}
use Rattle.sb_types.specs.Writes.{Written}
use Rattle.sb_table.specs.Floors.{IsKeptTable}
use Rattle.sb_holdings.specs.Contents.{content_table}
use Rattle.sb_holdings.specs.Growth.{Grows}
use Rattle.sb_holdings.specs.Nodes.{Node, NodeEvent, opened_node, node_after_event, replay_node, AreNodeEvents, AllTrueAt, IsNode, NodeHolds}
use Rattle.sb_types.proofs.Standing.{either}
use Rattle.sb_holdings.proofs.Nodes.{same_me, replay_node-append, replay_at_step}
use Rattle.sb_holdings.proofs.Opened.{opened-holds, IsHoldings-alone}
use Rattle.sb_holdings.proofs.Changed.{IsHolder-held}
use Rattle.sb_holdings.proofs.Content.{content_tells}
use Rattle.sb_log.specs.Records.{Committed, Log}
use Rattle.sb_node.specs.Cores.{with_node}
use Rattle.sb_world.specs.Places.{Place}
use Rattle.sb_world.specs.States.{Past}
use Rattle.sb_world.specs.Truth.{IsContentOf, IsTruePlace}
use Rattle.sb_world.proofs.Going.{written_on, node_on, events_on, opening_on}

pub same_me_all : (node : Node) (events : List NodeEvent) → (replay_node node events).held.me ≡ node.held.me
same_me_all node [] = refl
same_me_all node (event ∷ events) = same_me_all (node_after_event node event) events ∙ same_me node event

-- each write that waits is the node's own, and was written
abbrev pub AreWaiting : List Write → List ℕ → List Committed → Type 0
AreWaiting writes me waiting = (c : Committed) → Stands waiting c → (c.owner ≡ me) × Written writes c.entry

pub waiting_more : (writes : List Write) (me : List ℕ) (waiting : List Committed) (c : Committed) → AreWaiting writes me waiting → c.owner ≡ me → Written writes c.entry → AreWaiting writes me (waiting ++ c ∷ [])
waiting_more writes me waiting c each owner written other stands = ⊎_elim (each other) new (either waiting (c ∷ []) other stands)
  where
    new : Stands (c ∷ []) other → (other.owner ≡ me) × Written writes other.entry
    new (inl same) = subst (λ (x : Committed). (x.owner ≡ me) × Written writes x.entry) same (owner, written)
    new (inr s) = absurd s

-- what holds of all that stands in two lists holds of both laid end to end
pub joined : {X : Type 0} (P : X → Type 0) (xs ys : List X) → ((x : X) → Stands xs x → P x) → ((x : X) → Stands ys x → P x) → (x : X) → Stands (xs ++ ys) x → P x
joined P xs ys one two x stands = ⊎_elim (one x) (two x) (either xs ys x stands)

module _ (old new : List ℕ → List Write) (grows : Grows old new) (past : Past) (settings : Settings) (p : Place) (t : IsTruePlace old past settings p) where
  pub waiting_on : AreWaiting (new p.me) p.me p.waiting
  waiting_on c stands = let w = t.waiting c stands in (w.0, written_on old new grows p.me c.entry w.1)

  -- its log went on, and what it holds stayed
  pub relogged : (log : Log) (waiting : List Committed) (up : Bool) → log.owner ≡ p.me → (log.is_open ≡ true → IsContentOf (new p.me) log.content) → AreWaiting (new p.me) p.me waiting →
      IsTruePlace new past settings (record { me = p.me; log = log; core = p.core; waiting = waiting; is_up = up })
  relogged log waiting up owner content each = record {
    owner = owner;
    content = content;
    settings = t.settings;
    me = t.me;
    opening = opening_on old new grows p.me past.opening t.opening;
    replay = t.replay;
    events = t.events;
    honest = events_on old new grows p.me past.since t.honest;
    is = t.is;
    holds = node_on old new grows p.core.node t.holds;
    waiting = each;
  }

  -- it took writes of its own or honest blocks
  pub went : (events : List NodeEvent) (waiting : List Committed) → AreNodeEvents events → AllTrueAt new p.me events → (p.log.is_open ≡ true → IsContentOf (new p.me) p.log.content) → AreWaiting (new p.me) p.me waiting →
      IsTruePlace new (record { opening = past.opening; since = past.since ++ events; openings = past.openings }) settings
      (record { me = p.me; log = p.log; core = with_node p.core (replay_node p.core.node events); waiting = waiting; is_up = p.is_up })
  went events waiting are all content each =
      let honest : AllTrueAt new p.core.node.held.me events = subst (λ me. AllTrueAt new me events) (sym t.me) all in
      let step = replay_at_step new p.core.node events t.is are in
      record {
        owner = t.owner;
        content = content;
        settings = t.settings;
        me = same_me_all p.core.node events ∙ t.me;
        opening = opening_on old new grows p.me past.opening t.opening;
        replay = ap (λ node. replay_node node events) t.replay ∙ sym (replay_node-append past.opening past.since events);
        events = joined _ past.since events t.events are;
        honest = joined _ past.since events (events_on old new grows p.me past.since t.honest) all;
        is = λ owner. (step owner).is;
        holds = λ owner. (step owner).holds honest (node_on old new grows p.core.node t.holds owner);
        waiting = each;
      }

  -- it opened anew with the content of its log, which is that of all that its owner wrote
  pub reopened : (ws : List Write) → new p.me ≡ ws → (log : Log) (table : Table) (openings : ℕ) → log.owner ≡ p.me → (log.is_open ≡ true → IsContentOf (new p.me) log.content) → IsKeptTable table → IsContentOf ws table →
      IsTruePlace new (record { opening = opened_node p.me (content_table table.floor ws); since = []; openings = openings }) settings
      (record { me = p.me; log = log; core = record { settings = p.core.settings; node = opened_node p.me table }; waiting = []; is_up = true })
  reopened ws is_ws log table openings owner content kept of_ws =
      let floor = table.floor in
      let node : opened_node p.me table ≡ opened_node p.me (content_table floor ws) = ap (opened_node p.me) of_ws.content in
      let is : IsNode (opened_node p.me table) = IsHolder-held (opened_node p.me table).held (IsHoldings-alone p.me table kept) in
      let low : floor ≤ length (new p.me) = subst (λ (us : List Write). floor ≤ length us) (sym is_ws) of_ws.floor in
      let holds : NodeHolds new (opened_node p.me (content_table floor (new p.me))) = opened-holds new p.me (content_table floor (new p.me)) (content_tells (new p.me) floor low) in
      record {
        owner = owner;
        content = content;
        settings = t.settings;
        me = refl;
        opening = record { front = ws; rest = []; floor = floor; all = is_ws ∙ sym (append-nil ws); low = of_ws.floor; node = refl; is = subst IsNode node is };
        replay = node;
        events = λ event stands. absurd stands;
        honest = λ event stands. absurd stands;
        is = is;
        holds = subst (NodeHolds new) (ap (λ us. opened_node p.me (content_table floor us)) is_ws ∙ sym node) holds;
        waiting = λ c stands. absurd stands;
      }
