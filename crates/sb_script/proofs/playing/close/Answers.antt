use Rattle.sb_script.proofs.playing.close.Goals as goal

pub returns : goal.returns
returns c = record { closed = (c.step.result, c.step-2.result, c.step.new.self, c.step.ensures.step, c.step-2.ensures.step) }
