use Rattle.dav_seal.proofs.StoreLemmas.{when_ok, resource_put, extent_put, property_put, lock_put}
use Rattle.dav_seal.proofs.seals.Seals.apply.Goals as goal

pub returns-in-PutResource : goal.returns-in-PutResource
returns-in-PutResource c key m was =
    rw c.in-PutResource.is (when_ok c.put_row.result c.put_row.ensures.digest c.put_row.ensures.whole (resource_put key m c.args.self.now was c.in-PutResource.row c.put_row.new.seal))

pub returns-in-PutExtent : goal.returns-in-PutExtent
returns-in-PutExtent c key m was =
    rw c.in-PutExtent.is (when_ok c.put_row-in-PutExtent.result c.put_row-in-PutExtent.ensures.digest c.put_row-in-PutExtent.ensures.whole (extent_put key m c.args.self.now was c.in-PutExtent.row c.put_row-in-PutExtent.new.seal))

pub returns-in-PutProperty : goal.returns-in-PutProperty
returns-in-PutProperty c key m was =
    rw c.in-PutProperty.is (when_ok c.put_row-in-PutProperty.result c.put_row-in-PutProperty.ensures.digest c.put_row-in-PutProperty.ensures.whole (property_put key m c.args.self.now was c.in-PutProperty.row c.put_row-in-PutProperty.new.seal))

pub returns-in-PutLock : goal.returns-in-PutLock
returns-in-PutLock c key m was =
    rw c.in-PutLock.is (when_ok c.put_row-in-PutLock.result c.put_row-in-PutLock.ensures.digest c.put_row-in-PutLock.ensures.whole (lock_put key m c.args.self.now was c.in-PutLock.row c.put_row-in-PutLock.new.seal))

pub returns-in-PutState : goal.returns-in-PutState
returns-in-PutState c key m was = rw c.in-PutState.is (c.put_state_row.ensures key m was)
