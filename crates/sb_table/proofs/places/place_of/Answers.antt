use Rattle.std.proofs.Common.{rules}
use Rattle.std.specs.Ordering.{nat_cmp}
use Rattle.std.specs.Cmp.Lexicographic.{slice_cmp}
use Rattle.sb_types.specs.Records.{Entry}
use Rattle.sb_table.proofs.Keys.{answers_there}
use Rattle.sb_table.proofs.places.place_of.Goals as goal

pub returns-clause-place : goal.returns-clause-place
returns-clause-place c =
    c.binary_search_by.ensures.position (λ (e : Entry). slice_cmp nat_cmp e.key c.args.key.now) (answers_there _ _ _ (λ a r q k. search rules))
