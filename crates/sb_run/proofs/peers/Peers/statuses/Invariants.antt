use Rattle.std.proofs.Common.{◌≡◌, map, take}
use Rattle.sb_run.specs.StatusReplies.{peer_status}
use Rattle.sb_run.proofs.peers.Peers.statuses.Given as goal

abbrev pub invariant-loop-peer : goal.invariant-loop-peer
invariant-loop-peer l = l.statuses.items ≡ map peer_status (take l.peer-index l.self.all.items)
