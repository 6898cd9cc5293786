-- The operations by which a copy follows.
use Rattle.std.specs.Prelude.{Bool, true, false, List, [], ◌∷◌, ℕ}
use Rattle.sb_views.specs.NodeViews.{view_with}
use Rattle.sb_views.specs.declared.change.Change.{Change}
use Rattle.sb_views.specs.declared.view_copy.Operation.{Operation}
use Rattle.sb_views.specs.declared.view_copy.Operation.TheVariants.{Make, Reach}
use Rattle.sb_views.specs.Copies.{ViewCopy}

-- the copy once a change is made, or once it is said how far it goes
abbrev pub after_operation : ViewCopy → Operation → ViewCopy
after_operation copy (Make owner change) = record { position = copy.position; view = view_with copy.view owner change }
after_operation copy (Reach position) = record { position = position; view = copy.view }

-- the changes that are made
abbrev pub changes_of : List Operation → List (List ℕ × Change)
changes_of [] = []
changes_of (Make owner change ∷ operations) = (owner, change) ∷ changes_of operations
changes_of (Reach position ∷ operations) = changes_of operations

-- nothing but changes is made
abbrev pub are_changes : List Operation → Bool
are_changes [] = true
are_changes (Make owner change ∷ operations) = are_changes operations
are_changes (Reach position ∷ operations) = false
