use Rattle.std.proofs.Common.{rules}
use Rattle.sb_log.proofs.Contents.{entered_content}
use Rattle.sb_log.proofs.Refusals.{has_room, fails_for_memory}
use Rattle.sb_log.proofs.check.accept.Goals as goal

pub returns-in_err-push-clause-memory : goal.returns-in_err-push-clause-memory
returns-in_err-push-clause-memory c = search (rules, has_room c.args.max_version c.args.table.now c.args.key.now c.args.slot.now, fails_for_memory)

pub returns-clause-table : goal.returns-clause-table
returns-clause-table c _ = entered_content c.args.table.now c.push.new.self c.in_ok-kept.kept c.in_ok-push.ensures.ok c.push.ensures.table
