use Rattle.std.proofs.Common.{◌≡◌, take}
use Rattle.sb_handlers.proofs.forgetting.share_entries.Given as goal

abbrev pub invariant-loop-entry : goal.invariant-loop-entry
invariant-loop-entry l = l.same.items ≡ take l.entry-index l.entries
