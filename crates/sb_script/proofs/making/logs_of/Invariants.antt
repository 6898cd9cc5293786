use Rattle.std.proofs.Common.{◌≡◌, ◌++◌, drop, map}
use Rattle.sb_script.specs.Making.{empty_log}
use Rattle.sb_script.proofs.making.logs_of.Given as goal

abbrev pub invariant-loop-name : goal.invariant-loop-name
invariant-loop-name l = l.logs.items ++ map (empty_log l.fn.settings) (drop l.name-index l.names) ≡ map (empty_log l.fn.settings) l.fn.names
