use Rattle.std.proofs.Common.{rules, is_lt}
use Rattle.std.proofs.lemmas.List.Sorted.{answers_always, ranks_by, IsPermutation-trans}
use Rattle.sb_types.specs.Records.{Entry}
use Rattle.sb_types.specs.Limits.{text_lt}
use Rattle.sb_types.proofs.DistinctKeys.{by_key, by_key_total, distinct_from_rising, versions_sorted_back}
use Rattle.sb_types.proofs.distinct.are_keys_distinct.Goals as goal

pub returns-clause-value : goal.returns-clause-value
returns-clause-value c =
    distinct_from_rising _ _ _ c.sort_unstable_by.ensures.permutation
    (c.sort_unstable_by.ensures.sorted (λ x y. is_lt (by_key x y)) (ranks_by by_key_total (λ x. x)) (answers_always _ _ _ (λ f a r g h. search rules)))
    (c.is_sorted_by-distinct.ensures.cases (λ x y. text_lt x.key y.key) (answers_always _ _ _ (λ f a r g h. search rules)))

pub returns-clause-same : goal.returns-clause-same
returns-clause-same c =
    versions_sorted_back 0 _ _ c.requires
    (IsPermutation-trans _ _ _ c.sort_unstable_by.ensures.permutation c.sort_unstable_by_key.ensures.permutation)
    (c.sort_unstable_by_key.ensures.sorted (λ (e : Entry). e.version) (answers_always _ _ _ (λ f a r g h. search rules)))
