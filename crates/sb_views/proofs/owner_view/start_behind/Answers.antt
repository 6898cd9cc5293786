use Rattle.std.proofs.Common.{◌∙◌}
use Rattle.sb_views.proofs.Starts.{key-first, prefix-first, tested}
use Rattle.sb_views.proofs.owner_view.start_behind.Goals as goal

pub returns-then-is_lt-clause-behind : goal.returns-then-is_lt-clause-behind
returns-then-is_lt-clause-behind c = λ other starts.
    c.start.ensures other
    ∙ key-first c.args.key c.args.prefix other
    (tested c.args.key c.args.prefix c.bytes.result.now c.bytes-2.result.now c.cmp.result c.is_lt.result _ c.bytes.ensures.text c.bytes-2.ensures.text c.cmp.ensures c.is_lt.ensures c.if-is_lt.true)
    starts

pub returns-else-is_lt-clause-from : goal.returns-else-is_lt-clause-from
returns-else-is_lt-clause-from c = λ other behind.
    prefix-first c.args.key c.args.prefix other
    (tested c.args.key c.args.prefix c.bytes.result.now c.bytes-2.result.now c.cmp.result c.is_lt.result _ c.bytes.ensures.text c.bytes-2.ensures.text c.cmp.ensures c.is_lt.ensures c.if-is_lt.false)
    behind
