use Rattle.sb_world_tests.proofs.whole_way.front_of.Goals as goal

pub cut-requires-clause-items : goal.cut-requires-clause-items
cut-requires-clause-items c = c.orders_keep_owners.ensures.cut _ _ c.in_ok-lacking.ensures.offer c.in_ok-ordered.ensures.each_once c.in_ok-ordered.ensures.ascending c.in_ok-lacking.ensures.cut
