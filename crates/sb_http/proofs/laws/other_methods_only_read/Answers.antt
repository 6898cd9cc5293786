use Rattle.sb_http.proofs.Reading.{by_others}
use Rattle.sb_http.proofs.laws.other_methods_only_read.Goals as goal

pub returns : goal.returns
returns c = λ door request asked act not is call. by_others door request asked act not is call
