use Rattle.std.proofs.Common.{rules}
use Rattle.std.specs.Ordering.{nat_cmp}
use Rattle.std.specs.Cmp.Lexicographic.{slice_cmp}
use Rattle.sb_types.specs.Records.{Block}
use Rattle.sb_table.proofs.Keys.{answers_there}
use Rattle.sb_budget.proofs.block_builder.place_of.Goals as goal

pub returns-clause-place : goal.returns-clause-place
returns-clause-place c =
    c.binary_search_by.ensures.position (λ (b : Block). slice_cmp nat_cmp b.owner c.args.owner.now) (answers_there _ _ _ (λ a r q k. search rules))
