use Rattle.dav_memls.specs.MemLs.{locks_of}
use Rattle.dav_keep.proofs.Granting.{refused}
use Rattle.dav_keep.proofs.loading.add_all.Goals as goal

pub returns-in-Err-clause-err : goal.returns-in-Err-clause-err
returns-in-Err-clause-err c = λ distinct compatible.
    c.cause_of.ensures
    (refused (locks_of c.locks.system) c.in-Some.lock c.locks.lock-iterator.rest.items c.next.new.self.rest.items c.args.locks.items c.in-Err.error
    c.locks.invariant c.in-Some.ensures.steps.0 c.in-Err.ensures.cause distinct compatible)
