-- How many bytes rows, the status of a node, and ages of owners take in their one spelling.
use Rattle.std.specs.Prelude.{ℕ, ◌+◌, List, length, sum_by}
use Rattle.sb_types.specs.Lengths.{value_length}
use Rattle.sb_codec.specs.declared.message.node_identity.NodeIdentity.{NodeIdentity}
use Rattle.sb_codec.specs.declared.message.ages.OwnerAge.{OwnerAge}
use Rattle.sb_codec.specs.Records.{Row, Figure, Peer, NodeStatus}

-- two length bytes and their texts, the version, the tag, and what the value takes
abbrev pub row_length : Row → ℕ
row_length r = 11 + length r.owner + length r.key + value_length r.value

-- the kind, whether more follow, the number of rows, and the rows
abbrev pub rows_length : List Row → ℕ
rows_length rows = 4 + sum_by row_length rows

-- three length bytes and their texts
abbrev pub identity_length : NodeIdentity → ℕ
identity_length i = 3 + length i.node + length i.cluster + length i.release

-- the number of the kind, and the value
abbrev pub figure_length : Figure → ℕ
figure_length f = 9

abbrev pub figures_length : List Figure → ℕ
figures_length figures = sum_by figure_length figures

-- a length byte and the path, the state, and the round
abbrev pub peer_length : Peer → ℕ
peer_length p = 10 + length p.path

-- the kind, whether more follow, which node it is, the two counts, the figures, and the peers
abbrev pub status_length : NodeStatus → ℕ
status_length s = 6 + identity_length s.identity + figures_length s.figures + sum_by peer_length s.peers

-- a length byte and the name of the owner, and the age
abbrev pub age_length : OwnerAge → ℕ
age_length a = 9 + length a.owner

-- the kind, the number of owners, and the owners with their ages
abbrev pub ages_length : List OwnerAge → ℕ
ages_length ages = 3 + sum_by age_length ages
