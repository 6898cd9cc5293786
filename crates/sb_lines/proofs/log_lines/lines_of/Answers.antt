use Rattle.std.proofs.Common.{rules}
use Rattle.sb_lines.proofs.LogLines.{all_lines}
use Rattle.sb_lines.proofs.log_lines.lines_of.Goals as goal

pub returns-clause-lines : goal.returns-clause-lines
returns-clause-lines c =
    all_lines c.args.owner.now c.args.table.now c.loop-entry.out.items c.add_word.new.out.items c.add_number.new.out.items c.upto.result
    (search rules) c.in_ok-add_word.ensures.added c.in_ok-add_number.ensures.added c.upto.ensures.version
