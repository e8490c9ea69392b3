use Rattle.dav_seal.proofs.TotalLemmas.{total_of-five}
use Rattle.dav_seal.proofs.seals.Seals.sum.Goals as goal

pub returns : goal.returns
returns c key m was =
    rw (c.sum.ensures, c.sum-2.ensures, c.sum-3.ensures, c.sum-4.ensures, c.sum-5.ensures, was.resources.digests.sum, was.extents.digests.sum, was.properties.digests.sum, was.locks.digests.sum, was.states.digests.sum)
    (total_of-five _ _ _ _ _)
