use Rattle.sb_holdings.proofs.Changed.{IsHolder-held}
use Rattle.sb_holdings.proofs.Ended.{IsBlock-delta, block-of_delta}
use Rattle.sb_holdings.proofs.laws.holdings_make_nodes.Goals as goal

pub returns : goal.returns
returns c = record { node = λ held conflict is. IsHolder-held held is; block = IsBlock-delta; delta = block-of_delta }
