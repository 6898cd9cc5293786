-- What is published, and what each reader saw.
use Rattle.std.specs.Prelude.{◌≡◌, ℕ, ◌≤◌, List, length}
use mathlib.Core.List.{IsPrefix}
use mathlib.Core.Option.{some}
use lib.ListN.{get_elem?}
use Rattle.logbook.specs.Pages.{Book}
use Rattle.sb_holdings.specs.Held.{shown_of}
use Rattle.sb_holdings.specs.Nodes.{Node}
use Rattle.sb_views.specs.declared.event.Event.{Event}
use Rattle.sb_views.specs.Histories.{node_after}
use Rattle.sb_views.specs.NodeViews.{NodeView, ShowsTables}
use Rattle.sb_views.specs.Copies.{ViewCopy}

-- it is the view of this node
abbrev pub IsView : Node → NodeView → Type 0
IsView node view = ShowsTables (shown_of node.held) view

-- the copy is of this history, and is the view of the node after the events of its prefix
pub record IsCopyOf (history : Book) (opening : Node) (copy : ViewCopy) : Type 0 where
  pub book : copy.position.book ≡ history
  pub view : IsView (node_after opening copy.position.events) copy.view

-- no reader saw more than n events
abbrev pub AllBelow : ℕ → List ℕ → Type 0
AllBelow n seen = (reader v : ℕ) → get_elem? seen reader ≡ some v → v ≤ n

-- the rule of views: what is published is the view of a prefix of the history, no shorter than any reader saw
pub record IsPublished (history : Book) (opening : Node) (copy : ViewCopy) (seen : List ℕ) : Type 0 where
  pub is_copy : IsCopyOf history opening copy
  pub longest : AllBelow (length copy.position.events) seen

-- the events that are published, and those that will be once all that is queued is published
pub record Views : Type 0 where
  pub published : List Event
  pub queued : List Event

-- what is published begins what is queued, of which the next copy is the view
pub record IsQueued (history : Book) (opening : Node) (queued : List Event) (shown next : ViewCopy) : Type 0 where
  pub is_copy : IsCopyOf history opening next
  pub reaches : next.position.events ≡ queued
  pub begins : IsPrefix shown.position.events queued
