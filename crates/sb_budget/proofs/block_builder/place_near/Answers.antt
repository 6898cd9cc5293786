use Rattle.std.proofs.Common.{arith, ◌≡◌, Less, true}
use Rattle.std.specs.Ordering.{nat_cmp}
use Rattle.std.specs.Cmp.Lexicographic.{slice_cmp}
use Rattle.sb_types.specs.Limits.{text_lt}
use Rattle.sb_types.proofs.Texts.{Less-from_text_lt}
use Rattle.sb_budget.proofs.PlaceLemmas.{after_last}
use Rattle.sb_budget.proofs.block_builder.place_near.Goals as goal

pub returns-in-len1-up-clause-place : goal.returns-in-len1-up-clause-place
returns-in-len1-up-clause-place c =
    let before : text_lt c.last-item.result.owner c.args.owner.now ≡ true = cc (c.if-is_lt.true, c.is_lt.ensures, c.cmp.ensures, c.owner.ensures) in
    after_last c.args.owner.now c.args.gathered.now c.last-item.result (omega (arith, c.in-len1-up.len_at_least)) c.last-item.is (Less-from_text_lt c.last-item.result.owner c.args.owner.now before)
