use Rattle.std.proofs.Common.{◌≡◌, drop}
use Rattle.sb_audit.specs.Search.{first_foreign}
use Rattle.sb_audit.proofs.foreign.first_foreign.Given as goal

-- none of the entries so far has a reason
abbrev pub invariant-loop-entry : goal.invariant-loop-entry
invariant-loop-entry l = first_foreign l.table l.upto (drop l.entry-index l.entries) ≡ first_foreign l.table l.upto l.entries
