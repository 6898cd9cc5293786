use Rattle.std.proofs.Common.{◌≡◌, ◌++◌, take, drop}
use Rattle.sb_query.specs.Statuses.{fitting}
use Rattle.sb_query.proofs.status_pages.count_fitting.Given as goal

abbrev pub invariant-loop-peer : goal.invariant-loop-peer
invariant-loop-peer l =
    (l.count ≡ l.peer-index) × (fitting l.room l.peers ≡ take l.peer-index l.peers ++ fitting l.left (drop l.peer-index l.peers))
