use Rattle.std.proofs.Common.{◌≡◌, ◌≤◌, ◌+◌, true, take}
use Rattle.std.specs.Prelude.{sum_by}
use Rattle.std.specs.List.{list_all}
use Rattle.sb_types.specs.declared.limits.TheConstants.{PAYLOAD_MOST}
use Rattle.sb_codec.specs.Lengths.{peer_length}
use Rattle.sb_codec.specs.Limits.{is_peer}
use Rattle.sb_codec.proofs.message.node_status.length_with_peers.Given as goal

abbrev pub invariant-loop-peer : goal.invariant-loop-peer
invariant-loop-peer l =
    (l.length ≡ l.head + sum_by peer_length (take l.peer-index l.peers)) × (l.length ≤ PAYLOAD_MOST)
    × (list_all is_peer (take l.peer-index l.peers) ≡ true)
