-- A viewed node stays a replay of its history.
use Rattle.std.proofs.Common.{◌≡◌, ℕ, ◌+◌, ◌<◌, ◌^◌, ◌==◌, Bool, true, false, cond, not, List, [], ◌∷◌, ◌++◌, map, flat_map, Result, Ok, Err, MatchResult, le-leb, leb-true, eqb-true, refl, sym, ap, subst, ◌∙◌, arith, append-nil}
use Rattle.std.proofs.lemmas.Grind.{flat_map-append}
use Rattle.std.specs.FinMap.{contains_key}
use Rattle.std.specs.List.{AllByRecursion}
use mathlib.Core.List.{IsPrefix}
use Rattle.sb_types.specs.declared.fault.Fault.{Fault}
use Rattle.sb_types.specs.declared.fault.Fault.TheVariants.{OutOfTurn}
use Rattle.sb_types.specs.Limits.{is_entry, is_delta}
use Rattle.sb_types.specs.Records.{Entry, Block}
use Rattle.sb_types.proofs.Texts.{text_same}
use Rattle.sb_holdings.specs.declared.ends.BlockEnd.{BlockEnd}
use Rattle.sb_holdings.specs.Held.{Held, shown_of, held_after_write, purged_own}
use Rattle.sb_holdings.specs.Plain.{IsHoldings, next_version, own_answer}
use Rattle.sb_holdings.specs.Nodes.{Node, NodeEvent, Wrote, node_after_event, replay_node}
use Rattle.sb_holdings.specs.Nodes as node_events
use Rattle.sb_holdings.specs.Treats.{Treats, took_each}
use Rattle.sb_holdings.proofs.Changed.{entry-next}
use Rattle.sb_holdings.proofs.Nodes.{replay_node-append}
use Rattle.sb_budget.specs.Backlogs.{Backlog}
use Rattle.sb_node.specs.Cores.{Core, with_node}
use Rattle.sb_watch.specs.declared.note.Note.{Note}
use Rattle.sb_watch.specs.Records.{Hub}
use Rattle.sb_watch.specs.Hubs.{AllNotes}
use Rattle.sb_watch.proofs.KeptNotes.{weaker_keeps}
use Rattle.sb_views.specs.declared.event.Event.{Event}
use Rattle.sb_views.specs.declared.event.Event.TheVariants.{TookOwn, Applied, Purged}
use Rattle.sb_views.specs.declared.change.Change.{Change}
use Rattle.sb_views.specs.declared.change.Change.TheVariants.{Enter}
use Rattle.sb_views.specs.Changes.{table_with_all}
use Rattle.sb_views.specs.Growing.{AreGrown}
use Rattle.sb_views.specs.Histories.{node_events_of, node_after}
use Rattle.sb_views.specs.Publishing.{Views}
use Rattle.sb_views.proofs.Prefixes.{prefix_self, prefix_trans}
use Rattle.sb_views.proofs.Growing.{grown-on, own-grown, delta-grown}
use Rattle.sb_views.proofs.Leading.{own-leads}
use Rattle.sb_views.proofs.Purged.{purged-grown}
use Rattle.sb_directory.specs.Lacking.{LackingOwners, since_of, with_owner, HasOwners, AreSince}
use Rattle.sb_directory.specs.Notes.{note_of, with_notes, notes_of_blocks, versions_of, is_held}
use Rattle.sb_directory.specs.ViewedNodes.{ViewedNode, IsViewedNode, after_own, after_purge, after_delta, with_published, with_news, with_watches}
use Rattle.sb_directory.proofs.Lacking.{add-has, added-since, own-since, purge-since, delta-since}
use Rattle.sb_directory.specs.Watching.{DirectoryWatch, notes_of_event, IsWatched}
use Rattle.sb_directory.proofs.Noting.{noted-held, since-held}
use Rattle.sb_directory.proofs.Watching.{all-still}

-- ---- the history

pub node-own : (opening : Node) (history : List Event) (e : Entry) → node_after opening (history ++ TookOwn e ∷ []) ≡ node_after_event (node_after opening history) (Wrote e)
node-own opening history e =
    ap (replay_node opening) (flat_map-append node_events_of history (TookOwn e ∷ [])) ∙ replay_node-append opening (flat_map node_events_of history) (Wrote e ∷ [])

pub node-purge : (opening : Node) (history : List Event) (floor : ℕ) → node_after opening (history ++ Purged floor ∷ []) ≡ node_after_event (node_after opening history) (node_events.Purged floor)
node-purge opening history floor =
    ap (replay_node opening) (flat_map-append node_events_of history (Purged floor ∷ [])) ∙ replay_node-append opening (flat_map node_events_of history) (node_events.Purged floor ∷ [])

pub node-delta : (opening : Node) (history : List Event) (blocks : List Block) (ends : List BlockEnd)
    → node_after opening (history ++ Applied blocks ends ∷ []) ≡ replay_node (node_after opening history) (took_each blocks ends)
node-delta opening history blocks ends =
    ap (replay_node opening) (flat_map-append node_events_of history (Applied blocks ends ∷ []) ∙ ap (λ (xs : List NodeEvent). flat_map node_events_of history ++ xs) (append-nil (took_each blocks ends)))
    ∙ replay_node-append opening (flat_map node_events_of history) (took_each blocks ends)

pub begins-longer : (queued history : List Event) (event : Event) → IsPrefix queued history → IsPrefix queued (history ++ event ∷ [])
begins-longer queued history event begins = prefix_trans queued history (history ++ event ∷ []) begins (event ∷ [], refl)

-- ---- what is noted in watches

raised : (note : Note) (old new : Held) → AreGrown old new → is_held old note ≡ true → is_held new note ≡ true
raised note old new grown held =
    le-leb note.version (shown_of new note.owner).held (omega (arith, (grown note.owner).held, leb-true note.version (shown_of old note.owner).held held))

pub notes-raised : (old new : Held) (hub : Hub) → AreGrown old new → AllNotes (is_held old) hub → AllNotes (is_held new) hub
notes-raised old new hub grown notes =
    weaker_keeps (λ note. is_held old note ≡ true) (λ note. is_held new note ≡ true) hub (λ note held. raised note old new grown held) notes

-- ---- what is lacked, before more comes

-- with what is lacked noted otherwise
pub noted : (opening : Node) (queued : List Event) (lacking more : LackingOwners) (l : ViewedNode) → IsViewedNode opening queued lacking l
    → AreSince (node_after opening queued).held l.core.node.held more → IsViewedNode opening queued more l
noted opening queued lacking more l is since = record { node = is.node; begins = is.begins; grown = is.grown; since = since; notes = is.notes; watches = is.watches }

-- with other news
pub news-locked : (opening : Node) (queued : List Event) (lacking : LackingOwners) (l : ViewedNode) (news : Backlog) → IsViewedNode opening queued lacking l
    → IsViewedNode opening queued lacking (with_news l news)
news-locked opening queued lacking l news is =
    record { node = is.node; begins = is.begins; grown = is.grown; since = is.since; notes = is.notes; watches = is.watches }

-- the version of an owner is read of the node, and the floor of what it holds
pub since-read : (held lent : Held) (owner : List ℕ) (version floor : ℕ) → version ≡ (shown_of held owner).held → floor ≡ (shown_of lent owner).floor → lent ≡ held
    → (let since : ℕ × ℕ = (version, floor) in since) ≡ since_of held owner
since-read held lent owner version floor is at same = λ i. (is i, (at ∙ ap (λ (h : Held). (shown_of h owner).floor) same) i)

pub added-locked : (opening : Node) (queued : List Event) (lacking more : LackingOwners) (l : ViewedNode) (owner : List ℕ) (since : ℕ × ℕ) → IsViewedNode opening queued lacking l
    → more ≡ with_owner lacking owner since → since ≡ since_of l.core.node.held owner → IsViewedNode opening queued more l
added-locked opening queued lacking more l owner since is step at =
    noted opening queued lacking more l is (added-since lacking owner since (node_after opening queued).held l.core.node.held more step at is.since)

pub added-there : (lacking more : LackingOwners) (owner me : List ℕ) (since : ℕ × ℕ) → more ≡ with_owner lacking owner since → owner ≡ me → contains_key more me ≡ true
added-there lacking more owner me since step same =
    subst (λ (o : List ℕ). contains_key more o ≡ true) same (subst (λ (m : LackingOwners). contains_key m owner ≡ true) (sym step) (add-has lacking owner since))

-- ---- an own write

turn-case : (e : Entry) (next : ℕ) (b : Bool) (other : Result (Unit {0}) Fault) → (e.version == next) ≡ b → cond (not b) (Err (OutOfTurn next)) other ≡ Ok tt → e.version ≡ next
turn-case e next true other is answer = eqb-true e.version next is
turn-case e next false other is answer = absurd (cc)

pub own-turn : (held : Held) (e : Entry) → own_answer held e ≡ Ok tt → e.version ≡ next_version (shown_of held held.me).held
own-turn held e answer =
    turn-case e (next_version (shown_of held held.me).held) (e.version == next_version (shown_of held held.me).held) _ refl answer

own-held : (held : Held) (e : Entry) → e.version ≡ (shown_of held held.me).held + 1 → (shown_of (held_after_write held e) held.me).held ≡ e.version
own-held held e next =
    sym (own-leads held e next held.me).held
    ∙ ap (λ (b : Bool). (table_with_all (shown_of held held.me) (map (λ (p : List ℕ × Change). p.1) (cond b ((held.me, Enter e) ∷ []) []))).held) (text_same held.me held.me refl)

own-noted : (held : Held) (e : Entry) → e.version ≡ (shown_of held held.me).held + 1 → is_held (held_after_write held e) (note_of held.me e) ≡ true
own-noted held e next = le-leb e.version (shown_of (held_after_write held e) held.me).held (omega (arith, own-held held e next))

module _ (opening : Node) (queued : List Event) (lacking : LackingOwners) (old : ViewedNode) (is : IsViewedNode opening queued lacking old) (holds : IsHoldings old.core.node.held) where
  module _ (e : Entry) (turn : own_answer old.core.node.held e ≡ Ok tt) (entry : is_entry e ≡ true) (few : (shown_of old.core.node.held old.core.node.held.me).held < 2 ^ 64)
      (has : contains_key lacking old.core.node.held.me ≡ true) where
    next : e.version ≡ (shown_of old.core.node.held old.core.node.held.me).held + 1
    next = entry-next e _ entry few (own-turn old.core.node.held e turn)

    pub own-locked : (published : List Event) (news : Backlog) → IsViewedNode opening queued lacking (after_own old e published news)
    own-locked published news = record {
      node = ap (λ (n : Node). node_after_event n (Wrote e)) is.node ∙ sym (node-own opening old.history e);
      begins = begins-longer queued old.history (TookOwn e) is.begins;
      grown = grown-on (node_after opening queued).held old.core.node.held (held_after_write old.core.node.held e) is.grown (own-grown old.core.node.held e holds);
      since = own-since lacking (node_after opening queued).held old.core.node.held e has is.since;
      notes = noted-held (held_after_write old.core.node.held e) old.hub (note_of old.core.node.held.me e ∷ [])
          (notes-raised old.core.node.held (held_after_write old.core.node.held e) old.hub (own-grown old.core.node.held e holds) is.notes)
          (own-noted old.core.node.held e next, tt);
      watches = all-still opening old.history (TookOwn e) old.hub (with_notes old.hub (note_of old.core.node.held.me e ∷ [])) old.watches is.watches
          (ap (λ (n : Node). with_notes old.hub (notes_of_event n (TookOwn e))) is.node);
    }

    -- so it is wherever the core, the history and the watches are these
    pub own-there : (core : Core) (history : List Event) (hub : Hub) (published : List Event) (news : Backlog) → core ≡ with_node old.core (node_after_event old.core.node (Wrote e))
        → history ≡ old.history ++ TookOwn e ∷ [] → hub ≡ with_notes old.hub (note_of old.core.node.held.me e ∷ [])
        → IsViewedNode opening queued lacking (record { core = core; hub = hub; watches = old.watches; history = history; published = published; news = news })
    own-there core history hub published news taken longer seen =
        subst (IsViewedNode opening queued lacking) (λ i. record { core = sym taken i; hub = sym seen i; watches = old.watches; history = sym longer i; published = published; news = news }) (own-locked published news)

  module _ (floor : ℕ) (has : contains_key lacking old.core.node.held.me ≡ true) where
    pub purge-locked : (published : List Event) → IsViewedNode opening queued lacking (after_purge old floor published)
    purge-locked published =
        let grown = purged-grown old.core.node.held floor holds in
        record {
          node = ap (λ (n : Node). node_after_event n (node_events.Purged floor)) is.node ∙ sym (node-purge opening old.history floor);
          begins = begins-longer queued old.history (Purged floor) is.begins;
          grown = grown-on (node_after opening queued).held old.core.node.held (purged_own old.core.node.held floor) is.grown grown;
          since = purge-since lacking (node_after opening queued).held old.core.node.held floor has is.since;
          notes = notes-raised old.core.node.held (purged_own old.core.node.held floor) old.hub grown is.notes;
          watches = all-still opening old.history (Purged floor) old.hub old.hub old.watches is.watches refl;
        }

    -- so it is wherever the core and the history are these
    pub purge-there : (core : Core) (history : List Event) (published : List Event) (news : Backlog) → core ≡ with_node old.core (node_after_event old.core.node (node_events.Purged floor))
        → history ≡ old.history ++ Purged floor ∷ []
        → IsViewedNode opening queued lacking (record { core = core; hub = old.hub; watches = old.watches; history = history; published = published; news = news })
    purge-there core history published news purged longer =
        let there : ViewedNode = record { core = core; hub = old.hub; watches = old.watches; history = history; published = published; news = old.news } in
        news-locked opening queued lacking there news
        (subst (IsViewedNode opening queued lacking) (λ i. record { core = sym purged i; hub = old.hub; watches = old.watches; history = sym longer i; published = published; news = old.news }) (purge-locked published))

  module _ (blocks : List Block) (ends : List BlockEnd) (delta : is_delta blocks ≡ true) (treats : Treats old.core.node blocks ends)
      (after : IsHoldings (replay_node old.core.node (took_each blocks ends)).held) (has : HasOwners lacking blocks) where
    pub delta-locked : (published : List Event) (news : Backlog) → IsViewedNode opening queued lacking (after_delta old blocks ends published news)
    delta-locked published news =
        let new = replay_node old.core.node (took_each blocks ends) in
        let grown = delta-grown old.core.node blocks ends holds delta treats in
        record {
          node = ap (λ (n : Node). replay_node n (took_each blocks ends)) is.node ∙ sym (node-delta opening old.history blocks ends);
          begins = begins-longer queued old.history (Applied blocks ends) is.begins;
          grown = grown-on (node_after opening queued).held old.core.node.held new.held is.grown grown;
          since = delta-since lacking (node_after opening queued).held old.core.node blocks ends has is.since;
          notes = noted-held new.held old.hub (notes_of_blocks blocks old.core.node.held new.held)
              (notes-raised old.core.node.held new.held old.hub grown is.notes)
              (since-held new.held (versions_of old.core.node.held blocks) after);
          watches = all-still opening old.history (Applied blocks ends) old.hub (with_notes old.hub (notes_of_blocks blocks old.core.node.held new.held)) old.watches is.watches
              (ap (λ (n : Node). with_notes old.hub (notes_of_event n (Applied blocks ends))) is.node);
        }

    pub delta-there : (core : Core) (history : List Event) (hub : Hub) (published : List Event) (news : Backlog) → core ≡ with_node old.core (replay_node old.core.node (took_each blocks ends))
        → history ≡ old.history ++ Applied blocks ends ∷ []
        → hub ≡ with_notes old.hub (notes_of_blocks blocks old.core.node.held (replay_node old.core.node (took_each blocks ends)).held)
        → IsViewedNode opening queued lacking (record { core = core; hub = hub; watches = old.watches; history = history; published = published; news = news })
    delta-there core history hub published news taken longer seen =
        subst (IsViewedNode opening queued lacking) (λ i. record { core = sym taken i; hub = sym seen i; watches = old.watches; history = sym longer i; published = published; news = news }) (delta-locked published news)

-- ---- what changes nothing of the node

pub moved : (opening : Node) (queued later : List Event) (lacking left : LackingOwners) (l : ViewedNode) (published : List Event) → IsViewedNode opening queued lacking l → IsPrefix later l.history
    → AreGrown (node_after opening later).held l.core.node.held → AreSince (node_after opening later).held l.core.node.held left → IsViewedNode opening later left (with_published l published)
moved opening queued later lacking left l published is begins grown since = record { node = is.node; begins = begins; grown = grown; since = since; notes = is.notes; watches = is.watches }

queued-stays : (end : Result (Unit {0}) Fault) (views new : Views) → MatchResult end (λ _. new ≡ record { published = views.queued; queued = views.queued }) (λ _. new ≡ views) → new.queued ≡ views.queued
queued-stays (Ok u) views new step = ap (λ (v : Views). v.queued) step
queued-stays (Err fault) views new step = ap (λ (v : Views). v.queued) step

-- what is published, or could not be, where all is queued
pub published-there : (opening : Node) (queued : List Event) (lacking left : LackingOwners) (l : ViewedNode) (views new : Views) (end : Result (Unit {0}) Fault) → IsViewedNode opening queued lacking l
    → views.queued ≡ l.history → AreGrown (node_after opening views.queued).held l.core.node.held → AreSince (node_after opening views.queued).held l.core.node.held left
    → MatchResult end (λ _. new ≡ record { published = views.queued; queued = views.queued }) (λ _. new ≡ views) → IsViewedNode opening new.queued left (with_published l new.published)
published-there opening queued lacking left l views new end is all grown since step =
    let here : IsViewedNode opening views.queued left (with_published l new.published) =
    moved opening queued views.queued lacking left l new.published is (subst (λ (h : List Event). IsPrefix views.queued h) all (prefix_self views.queued)) grown since in
    subst (λ (q : List Event). IsViewedNode opening q left (with_published l new.published)) (sym (queued-stays end views new step)) here

pub watches-locked : (opening : Node) (queued : List Event) (lacking : LackingOwners) (l : ViewedNode) (hub : Hub) (watches : List DirectoryWatch) → IsViewedNode opening queued lacking l
    → AllNotes (is_held l.core.node.held) hub → AllByRecursion (IsWatched opening l.history hub) watches → IsViewedNode opening queued lacking (with_watches l hub watches)
watches-locked opening queued lacking l hub watches is notes all =
    record { node = is.node; begins = is.begins; grown = is.grown; since = is.since; notes = notes; watches = all }
