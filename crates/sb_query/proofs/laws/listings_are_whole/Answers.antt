use Rattle.sb_query.proofs.Listing.{lists-all}
use Rattle.sb_query.proofs.laws.listings_are_whole.Goals as goal

pub returns : goal.returns
returns g c = lists-all g.P.Pager.step
