use Rattle.sb_table.proofs.Sorting.{IsPermutation-by_key, IsSortedByKey-by_key}
use Rattle.sb_table.proofs.laws.by_key_sorts.Goals as goal

pub returns : goal.returns
returns c = record { permutation = IsPermutation-by_key; sorted = IsSortedByKey-by_key }
