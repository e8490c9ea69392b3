use Rattle.dav_reserve.proofs.reserved.ReservedDisk.set_len.Goals as goal

pub returns-clause-frozen : goal.returns-clause-frozen
returns-clause-frozen g c is_frozen =
    let (err, stays) = c.resize.ensures.frozen is_frozen in
    (err, record { frozen = stays.frozen; same = stays.same; clean = stays.clean; no_more = stays.no_more; no_fewer = stays.no_fewer })
