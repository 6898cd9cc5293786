use Rattle.std.proofs.Common.{◌≡◌, ◌++◌, drop, map}
use Rattle.sb_script.proofs.making.names_of.Given as goal

abbrev pub invariant-loop-word : goal.invariant-loop-word
invariant-loop-word l = l.names.items ++ map (λ word. word.now) (drop l.word-index l.words) ≡ map (λ word. word.now) l.fn.words
