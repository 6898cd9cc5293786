use Rattle.std.proofs.Common.{sym, ap, subst, ◌∙◌}
use Rattle.sb_table.specs.Order.{IsRising, entries_with_prefix}
use Rattle.sb_table.proofs.Keys.{IsRising-drop, take_rest, under-from}
use Rattle.sb_table.proofs.places.under.Goals as goal

pub count_under-requires-clause-rising : goal.count_under-requires-clause-rising
count_under-requires-clause-rising c =
    subst IsRising (sym (take_rest c.first_from.result c.args.keys.now)) (IsRising-drop c.first_from.result c.args.keys.now c.requires)

pub returns : goal.returns
returns c =
    c.count_under.ensures.under ∙ ap (entries_with_prefix c.args.prefix.now) (take_rest c.first_from.result c.args.keys.now)
    ∙ under-from c.args.prefix.now c.args.keys.now c.first_from.result c.first_from.ensures.before
