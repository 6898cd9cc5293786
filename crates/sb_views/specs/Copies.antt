-- One copy of the view.
use Rattle.sb_views.specs.Histories.{Position}
use Rattle.sb_views.specs.NodeViews.{NodeView}

-- a view, and the prefix of the history whose view it is
pub record ViewCopy : Type 0 where
  pub position : Position
  pub view : NodeView
