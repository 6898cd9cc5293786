use Rattle.sb_node_tests.proofs.making.arranged.Goals as goal

pub returns : goal.returns
returns g c = c.orders_keep_owners.ensures.cut _ _ c.in_ok-offered.ensures.offer c.in_ok-ordered.ensures.each_once c.in_ok-ordered.ensures.ascending c.in_ok-offered.ensures.cut
