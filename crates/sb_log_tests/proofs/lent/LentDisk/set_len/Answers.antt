use Rattle.sb_log_tests.proofs.lent.LentDisk.set_len.Goals as goal

pub returns-clause-frozen : goal.returns-clause-frozen
returns-clause-frozen g c stopped =
    let (fails, stays) = c.set_len.ensures.frozen stopped in
    (fails, record { frozen = stays.frozen; same = stays.same; clean = stays.clean; no_more = stays.no_more; no_fewer = stays.no_fewer })
