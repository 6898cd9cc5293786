use Rattle.std.proofs.Common.{arith}
use Rattle.std.proofs.lemmas.Grind.{common_steps}
use Rattle.sb_types.proofs.Characters.{one_more, none_left}
use Rattle.sb_types.proofs.spelled.SpelledDisplay.fmt.Goals as goal

pub returns-clause-writes : goal.returns-clause-writes
returns-clause-writes g c is_plain done =
    let whole = none_left c.loop-c.yielded c.loop-c.c-iterator.rest.now c.args.self.now.0.now c.loop-c.invariant.text c.in-None.ensures.steps.0.0 in
    rw (← whole) (c.loop-c.invariant.written is_plain)

pub loop-c-preserved : goal.loop-c-preserved
loop-c-preserved g c = record {
  written = grind (arith, common_steps);
  text = one_more c.loop-c.yielded c.loop-c.c-iterator.rest.now c.next.new.self.rest.now c.args.self.now.0.now c.in-Some.c c.loop-c.invariant.text c.in-Some.ensures.steps.0;
}
