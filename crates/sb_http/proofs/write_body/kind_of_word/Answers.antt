use Rattle.sb_http.proofs.WriteBodies.{found}
use Rattle.sb_http.proofs.write_body.kind_of_word.Goals as goal

pub returns : goal.returns
returns c = found c.of_word.result c.args.word.now c.of_word.ensures.some c.of_word.ensures.none
