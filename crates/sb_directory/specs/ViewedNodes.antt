-- A node with its history, its views and its watches, and what calls make of it.
use Rattle.std.specs.Prelude.{◌≡◌, ℕ, ◌-◌, ◌^◌, ◌==◌, Bool, MatchBool, if◌then◌else◌, ◌⊎◌, List, [], ◌∷◌, ◌++◌, length, Result, Ok, Err}
use mathlib.Core.List.{IsPrefix}
use Rattle.std.specs.List.{AllByRecursion}
use Rattle.sb_types.specs.declared.fault.Fault.{Fault}
use Rattle.sb_types.specs.declared.fault.Fault.TheVariants.{TurnsSpent}
use Rattle.sb_types.specs.Records.{Entry, Block}
use Rattle.sb_holdings.specs.declared.ends.BlockEnd.{BlockEnd}
use Rattle.sb_holdings.specs.Held.{shown_of}
use Rattle.sb_holdings.specs.Nodes.{Node, Wrote, node_after_event, replay_node}
use Rattle.sb_holdings.specs.Nodes as node_events
use Rattle.sb_holdings.specs.Treats.{took_each}
use Rattle.sb_budget.specs.Backlogs.{Backlog, with_version}
use Rattle.sb_node.specs.Cores.{Core, with_node}
use Rattle.sb_watch.specs.Records.{Hub}
use Rattle.sb_watch.specs.Hubs.{AllNotes, with_answer}
use Rattle.sb_views.specs.declared.event.Event.{Event}
use Rattle.sb_views.specs.declared.event.Event.TheVariants.{TookOwn, Applied, Purged}
use Rattle.sb_views.specs.Growing.{AreGrown}
use Rattle.sb_views.specs.Histories.{node_after}
use Rattle.sb_directory.specs.Lacking.{LackingOwners, AreSince}
use Rattle.sb_directory.specs.Notes.{with_notes, note_of, notes_of_blocks, is_held}
use Rattle.sb_directory.specs.Watching.{DirectoryWatch, IsWatched, watches_after}

pub record ViewedNode : Type 0 where
  pub core : Core
  pub hub : Hub
  -- the watches of callers, each of which is also in the hub
  pub watches : List DirectoryWatch
  -- all events of the node since it was opened
  pub history : List Event
  -- the prefix of it whose view is published
  pub published : List Event
  -- the owners that rose since the news was taken, each with the version up to which it was held then
  pub news : Backlog

-- no further event can be counted
abbrev pub are_spent : List Event → Bool
are_spent history = length history == 2 ^ 64 - 1

-- this answer, unless no further event can be counted
abbrev pub unless_spent : List Event → Result (Unit {0}) Fault → Result (Unit {0}) Fault
unless_spent history (Err fault) = Err fault
unless_spent history (Ok u) = if are_spent history then Err TurnsSpent else Ok u

-- the write is entered and noted in watches, and it is the last event of the history
abbrev pub after_own : ViewedNode → Entry → List Event → Backlog → ViewedNode
after_own l e published news = record {
  core = with_node l.core (node_after_event l.core.node (Wrote e));
  hub = with_notes l.hub (note_of l.core.node.held.me e ∷ []);
  watches = l.watches;
  history = l.history ++ TookOwn e ∷ [];
  published = published;
  news = news;
}

-- the own name is news from the version up to which it was held, or the news is as it was, where memory was missing
abbrev pub NotesOwn : ViewedNode → ViewedNode → Type 0
NotesOwn old new = (new.news ≡ with_version old.news old.core.node.held.me (shown_of old.core.node.held old.core.node.held.me).held) ⊎ (new.news ≡ old.news)

-- the own table is purged up to this version, no watch gets a note, nothing is news, and it is the last event of the history
abbrev pub after_purge : ViewedNode → ℕ → List Event → ViewedNode
after_purge l floor published = record {
  core = with_node l.core (node_after_event l.core.node (node_events.Purged floor));
  hub = l.hub;
  watches = l.watches;
  history = l.history ++ Purged floor ∷ [];
  published = published;
  news = l.news;
}

-- the delta's blocks ended so, what they changed is noted in watches, and it is the last event of the history
abbrev pub after_delta : ViewedNode → List Block → List BlockEnd → List Event → Backlog → ViewedNode
after_delta l blocks ends published news = (
    let node = replay_node l.core.node (took_each blocks ends) in
    record {
      core = with_node l.core node;
      hub = with_notes l.hub (notes_of_blocks blocks l.core.node.held node.held);
      watches = l.watches;
      history = l.history ++ Applied blocks ends ∷ [];
      published = published;
      news = news;
    }
    )

abbrev pub with_published : ViewedNode → List Event → ViewedNode
with_published l published = record { core = l.core; hub = l.hub; watches = l.watches; history = l.history; published = published; news = l.news }

abbrev pub with_news : ViewedNode → Backlog → ViewedNode
with_news l news = record { core = l.core; hub = l.hub; watches = l.watches; history = l.history; published = l.published; news = news }

abbrev pub with_watches : ViewedNode → Hub → List DirectoryWatch → ViewedNode
with_watches l hub watches = record { core = l.core; hub = hub; watches = watches; history = l.history; published = l.published; news = l.news }

-- the watch answered, and if it has nothing more to report, it begins anew
abbrev pub after_poll : ViewedNode → DirectoryWatch → ViewedNode
after_poll l watch =
    let hub = with_answer l.hub watch.id in
    with_watches l hub (watches_after hub l.history watch.id l.watches)

-- the answer says whether all that happened is published; where it is not, what is published stays
abbrev pub Publishes : Bool → ViewedNode → ViewedNode → Type 0
Publishes is_published old new = MatchBool is_published (new.published ≡ new.history) (new.published ≡ old.published)

-- the node is the replay of the history, of which a prefix is queued for the views; the tables have grown from those after it, and
-- what views lack since is noted; what is noted in watches is held; and each watch of a caller reports what changed since
pub record IsViewedNode (opening : Node) (queued : List Event) (lacking : LackingOwners) (l : ViewedNode) : Type 0 where
  pub node : l.core.node ≡ node_after opening l.history
  pub begins : IsPrefix queued l.history
  pub grown : AreGrown (node_after opening queued).held l.core.node.held
  pub since : AreSince (node_after opening queued).held l.core.node.held lacking
  pub notes : AllNotes (is_held l.core.node.held) l.hub
  pub watches : AllByRecursion (IsWatched opening l.history l.hub) l.watches
