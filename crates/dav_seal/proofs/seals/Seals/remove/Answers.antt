use Rattle.dav_seal.proofs.StoreLemmas.{resource_removed, extent_removed, property_removed, lock_removed, state_removed}
use Rattle.dav_seal.proofs.seals.Seals.remove.Goals as goal

pub returns-in-Resource : goal.returns-in-Resource
returns-in-Resource c key m was = rw c.in-Resource.is (resource_removed key m c.args.self.now was c.args.number.now c.remove.new.self c.remove.ensures)

pub returns-in-Extent : goal.returns-in-Extent
returns-in-Extent c key m was = rw c.in-Extent.is (extent_removed key m c.args.self.now was c.args.number.now c.remove-in-Extent.new.self c.remove-in-Extent.ensures)

pub returns-in-Property : goal.returns-in-Property
returns-in-Property c key m was = rw c.in-Property.is (property_removed key m c.args.self.now was c.args.number.now c.remove-in-Property.new.self c.remove-in-Property.ensures)

pub returns-in-Lock : goal.returns-in-Lock
returns-in-Lock c key m was = rw c.in-Lock.is (lock_removed key m c.args.self.now was c.args.number.now c.remove-in-Lock.new.self c.remove-in-Lock.ensures)

pub returns-in-State : goal.returns-in-State
returns-in-State c key m was = rw c.in-State.is (state_removed key m c.args.self.now was c.args.number.now c.remove-in-State.new.self c.remove-in-State.ensures)
