use Rattle.sb_handlers.specs.Gates.{AreShut}
use Rattle.sb_run.specs.Entering.{ServesOnly}
use Rattle.sb_run.specs.Pools.{IsKept}
use Rattle.sb_run.proofs.pool.Serving.work.Given as goal

abbrev pub invariant-loop : goal.invariant-loop
invariant-loop g l =
    IsKept (AreShut (g.G.Gate.lets l.gate) × (g.X.Source.asks l.source → ⊥)) l.fn.seat l.current
    × ServesOnly l.self.forgotten.now.names.items (g.X.Source.gives l.source) l.fn.seat l.current
