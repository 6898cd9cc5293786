use Rattle.sb_holdings.proofs.Nodes.{put_with}
use Rattle.sb_holdings.proofs.Replaced.{get-with_holder}
use Rattle.sb_holdings.proofs.node_laws.holders_are_found.Goals as goal

pub returns-clause-found : goal.returns-clause-found
returns-clause-found c = get-with_holder

pub returns-clause-held : goal.returns-clause-held
returns-clause-held c = λ owners owner name h. put_with owners owner h name
