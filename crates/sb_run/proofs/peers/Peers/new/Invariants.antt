use Rattle.std.proofs.Common.{◌≡◌, map, take}
use Rattle.sb_run.specs.declared.peers.Peer.{Peer}
use Rattle.sb_run.proofs.peers.Peers.new.Given as goal

abbrev pub invariant-loop-path : goal.invariant-loop-path
invariant-loop-path l = map (λ (peer : Peer). peer.path) l.all.items ≡ take l.path-index l.paths
