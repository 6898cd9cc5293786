use Rattle.std.proofs.Common.{List, sym, subst}
use Rattle.sb_types.specs.declared.entry.Write.{Write}
use Rattle.sb_types.specs.Writes.{Written, Honest, HolderHolds}
use Rattle.sb_holdings.specs.Nodes.{held_by}
use Rattle.sb_holdings.proofs.Lasting.{written_later, tells_later, holder_later}
use Rattle.sb_holdings.proofs.node_laws.growing_keeps_truth.Goals as goal

pub returns-clause-written : goal.returns-clause-written
returns-clause-written c = λ old new owner e grows w.
    subst (λ (writes : List Write). Written writes e) (sym (grows owner).1) (written_later (old owner) (grows owner).0 e w)

pub returns-clause-block : goal.returns-clause-block
returns-clause-block c = λ old new b grows honest.
    subst (λ (writes : List Write). Honest writes b) (sym (grows b.owner).1) (tells_later (old b.owner) (grows b.owner).0 honest)

pub returns-clause-node : goal.returns-clause-node
returns-clause-node c = λ old new node grows holds owner.
    subst (λ (writes : List Write). HolderHolds writes (held_by node owner)) (sym (grows owner).1) (holder_later (old owner) (grows owner).0 (held_by node owner) (holds owner))
