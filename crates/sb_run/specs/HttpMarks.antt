-- The mark of rows, by which a poll knows them again.
use Rattle.std.specs.Prelude.{◌≡◌, ℕ, List, [], ◌∷◌, flat_map, fold, decimal}
use Rattle.std.specs.Hash.{le_bytes}
use Rattle.std.specs.Hash.DefaultHasher as sip
use Rattle.std.specs.RandomState.{initial_hasher}
use Rattle.std.specs.declared.random_state.RandomState.{RandomState}
use Rattle.sb_codec.specs.declared.message.ask.Ask as asking
use Rattle.sb_holdings.specs.Nodes.{Node}
use Rattle.sb_views.specs.declared.event.Event.{Event}
use Rattle.sb_views.specs.NodeViews.{NodeView}
use Rattle.sb_views.specs.Histories.{node_after}
use Rattle.sb_views.specs.Publishing.{IsView}
use Rattle.sb_views.specs.LiveRows.{LiveRow, rows_in}

-- what is hashed of a row: its owner and its key, each with a space, and its version in eight bytes
abbrev pub hashed : LiveRow → List (List ℕ)
hashed row = row.owner ∷ (32 ∷ []) ∷ row.key ∷ (32 ∷ []) ∷ le_bytes 8 row.version ∷ []

abbrev pub hash_of : RandomState → List LiveRow → ℕ
hash_of keys rows = sip.finish (fold sip.write (initial_hasher keys) (flat_map hashed rows))

-- the mark of all rows that are asked for, wherever the page begins
abbrev pub mark_of : RandomState → asking.Ask → NodeView → List ℕ
mark_of keys ask view = decimal (hash_of keys (rows_in ask.owner ask.prefix view))

abbrev pub IsMark : Node → RandomState → List Event → asking.Ask → List ℕ → Type 0
IsMark opening keys seen ask mark = (view : NodeView) × IsView (node_after opening seen) view × (mark ≡ mark_of keys ask view)
