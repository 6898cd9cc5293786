use Rattle.std.proofs.Common.{◌≡◌, take}
use Rattle.sb_handlers.specs.Forgetting.{names_without}
use Rattle.sb_handlers.proofs.forgetting.ForgottenOwners.new.Given as goal

abbrev pub invariant-loop-name : goal.invariant-loop-name
invariant-loop-name l = l.forgotten.names.items ≡ names_without l.own (take l.name-index l.names)
