use Rattle.sb_http.proofs.Reading.{at_ports}
use Rattle.sb_http.proofs.laws.ports_only_read.Goals as goal

pub returns : goal.returns
returns c = λ request asked act is call. at_ports request asked act is call
