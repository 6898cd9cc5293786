use Rattle.sb_views.proofs.Starts.{tested}
use Rattle.sb_views.proofs.Wanted.{one-behind, none-behind, itself-forward}
use Rattle.sb_views.proofs.node_view.end_behind.Goals as goal

pub returns-then-is_lt-clause-forward : goal.returns-then-is_lt-clause-forward
returns-then-is_lt-clause-forward c = itself-forward c.args.name

pub returns-then-is_lt-clause-behind : goal.returns-then-is_lt-clause-behind
returns-then-is_lt-clause-behind c =
    one-behind c.args.owner c.args.name
    (tested c.args.owner c.args.name c.bytes.result.now c.bytes-2.result.now c.cmp.result c.is_lt.result _ c.bytes.ensures.text c.bytes-2.ensures.text c.cmp.ensures c.is_lt.ensures c.if-is_lt.true)

pub returns-else-is_lt-clause-forward : goal.returns-else-is_lt-clause-forward
returns-else-is_lt-clause-forward c = itself-forward c.args.name

pub returns-else-is_lt-clause-behind : goal.returns-else-is_lt-clause-behind
returns-else-is_lt-clause-behind c =
    none-behind c.args.owner c.args.name
    (tested c.args.owner c.args.name c.bytes.result.now c.bytes-2.result.now c.cmp.result c.is_lt.result _ c.bytes.ensures.text c.bytes-2.ensures.text c.cmp.ensures c.is_lt.ensures c.if-is_lt.false)
