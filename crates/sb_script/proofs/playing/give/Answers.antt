use Rattle.sb_script.proofs.Gives.{gives_fault, gives_all}
use Rattle.sb_script.specs.Giving.{all_comes}
use Rattle.sb_script.proofs.playing.give.Goals as goal

pub returns-in-Err-clause-played : goal.returns-in-Err-clause-played
returns-in-Err-clause-played g c =
    gives_fault c.tell.result _ c.offer.new.world _ _ _ _ c.in-Err.fault _ _ all_comes c.in-Err.ensures.offered c.close.ensures.closed c.tell.ensures.printed

pub returns-clause-played : goal.returns-clause-played
returns-clause-played g c =
    gives_all c.tell-2.result _ c.offer.new.world c.take_up-answer.new.world _ _ _ _ c.in-Ok.given c.take_up-answer.result _ _ _ c.in-Ok.ensures.offered
    c.in-Ok-show_sent.ensures.printed c.take_up-answer.ensures.taken c.close-2.ensures.closed c.tell-2.ensures.printed
