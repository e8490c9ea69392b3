use Rattle.std.proofs.Common.{◌∙◌, ◌++◌, sym, ap}
use Rattle.std.proofs.lemmas.List.{append-nil}
use Rattle.std.specs.List.{cons_option}
use Rattle.dav_memls.specs.LockIndex.{locks_of_numbers}
use Rattle.dav_memls.proofs.CoveringNumbers.{covering_listed}
use Rattle.dav_memls.proofs.memory_locks.indexed.IndexedLocks.covering.Goals as goal

pub loop-number-init : goal.loop-number-init
loop-number-init c =
    let self = c.args.self.now in
    let rows = self.locks.entries in
    let gives = c.into_iter-number-iterator.ensures.into_iter_gives in
    record {
      can = tt;
      ends = tt;
      so_far =
          ap (λ ls. ls ++ locks_of_numbers c.into_iter-number-iterator.result rows) c.new-copies.ensures.items
          ∙ ap (λ xs. locks_of_numbers xs rows) gives.0
          ∙ covering_listed c.args.path.now.key self.locks.entries c.in_ok-found.found self.ordered gives.4 c.in_ok-found.ensures;
    }

pub loop-number-preserved : goal.loop-number-preserved
loop-number-preserved c =
    let rows = c.args.self.now.locks.entries in
    record {
      can = tt;
      ends = tt;
      so_far = sym (ap (λ xs. c.loop-number.copies.items ++ xs) (ap (λ xs. locks_of_numbers xs rows) c.in-Some.ensures.steps ∙ ap (λ o. cons_option o (locks_of_numbers c.next.new.self rows)) (sym c.in_default.ensures))) ∙ c.loop-number.invariant.so_far;
    }

pub returns : goal.returns
returns c =
    sym (append-nil c.loop-number.copies.items)
    ∙ ap (λ xs. c.loop-number.copies.items ++ locks_of_numbers xs c.args.self.now.locks.entries) (sym c.in-None.ensures.steps.0)
    ∙ c.loop-number.invariant.so_far
