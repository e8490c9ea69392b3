use Rattle.std.proofs.Common.{true, false, refl, sym}
use Rattle.std.specs.Rc.{rc_str_bytes}
use Rattle.dav_key.specs.Flat.{segments_of}
use Rattle.dav_store.specs.Locks.{at_or_below}
use Rattle.dav_memls.specs.IndexedLocks.{locks_in}
use Rattle.dav_memls.specs.declared.memory_locks.numbers.Numbers.{Numbers}
use Rattle.dav_memls.specs.declared.memory_locks.index.Register.TheVariants.{All}
use Rattle.dav_memls.specs.KeyEntries.{OwnKey, own_key}
use Rattle.dav_memls.proofs.BelowLooks.{tells-start, tells-more, tells-past, tells-none, none_there, first_flat, below_is, below_passes, no_numbers, numbers_own}
use Rattle.dav_memls.proofs.LockLooks.{some_stands}
use Rattle.dav_memls.proofs.memory_locks.indexed.IndexedLocks.some_below.Goals as goal

pub loop-own-init : goal.loop-own-init
loop-own-init c =
    let self = c.args.self.now in
    record {
      can = tt;
      ends = tt;
      left = tells-start All (λ lock. true) c.args.path.now.key (segments_of (rc_str_bytes c.shared-key.result.now)) self.index self.locks.entries c.run-own-items.result c.into_iter-own-iterator.result self.ordered self.indexed c.shared-key.ensures.key_is c.run-own-items.ensures c.into_iter-own-iterator.ensures.into_iter_gives;
    }

pub loop-own-preserved : goal.loop-own-preserved
loop-own-preserved c =
    let self = c.args.self.now in
    let key = c.args.path.now.key in
    let entry : OwnKey × Numbers = (c.in-Some.own.now, c.in-Some.numbers.now) in
    let is = first_flat All (λ lock. true) key self.locks.entries c.loop-own.own-iterator entry c.next.new.self c.in-Some.ensures.steps c.loop-own.invariant.left in
    let below = below_is true c.is_at_or_below.result c.in-Some.own.now c.as_str.result.now c.as_str-in-loop-own.result.now (rc_str_bytes c.shared-key.result.now) key c.shared-key.ensures is c.as_str.ensures.value c.as_str-in-loop-own.ensures.value c.is_at_or_below.ensures c.if-not-is_at_or_below.false in
    record {
      can = tt;
      ends = tt;
      left = tells-more All (λ lock. true) key self.locks.entries c.loop-own.own-iterator entry c.next.new.self c.in-Some.ensures.steps (below_passes false false (λ lock. true) key self.locks.entries c.in-Some.numbers.now.set.keys entry below refl (no_numbers (λ lock. true) c.in-Some.numbers.now.set.keys self.locks.entries (sym c.in_default.ensures)) refl) c.loop-own.invariant.left;
    }

pub returns-in-Some-first : goal.returns-in-Some-first
returns-in-Some-first c =
    let self = c.args.self.now in
    let key = c.args.path.now.key in
    let entry : OwnKey × Numbers = (c.in-Some.own.now, c.in-Some.numbers.now) in
    let is = first_flat All (λ lock. true) key self.locks.entries c.loop-own.own-iterator entry c.next.new.self c.in-Some.ensures.steps c.loop-own.invariant.left in
    let below = below_is true c.is_at_or_below.result c.in-Some.own.now c.as_str.result.now c.as_str-in-loop-own.result.now (rc_str_bytes c.shared-key.result.now) key c.shared-key.ensures is c.as_str.ensures.value c.as_str-in-loop-own.ensures.value c.is_at_or_below.ensures c.if-not-is_at_or_below.false in
    let owned = numbers_own All (λ lock. true) key self.locks.entries c.in-Some.numbers.now.set.keys c.loop-own.own-iterator entry c.next.new.self c.in-Some.ensures.steps refl c.loop-own.invariant.left in
    some_stands key (own_key c.in-Some.own.now) self.locks.entries c.in-Some.numbers.now.set.keys c.in-Some-first.number self.ordered owned below (sym c.in-Some-first.ensures)

pub returns-then-not-is_at_or_below : goal.returns-then-not-is_at_or_below
returns-then-not-is_at_or_below c =
    let self = c.args.self.now in
    let key = c.args.path.now.key in
    let entry : OwnKey × Numbers = (c.in-Some.own.now, c.in-Some.numbers.now) in
    let is = first_flat All (λ lock. true) key self.locks.entries c.loop-own.own-iterator entry c.next.new.self c.in-Some.ensures.steps c.loop-own.invariant.left in
    let out = below_is false c.is_at_or_below.result c.in-Some.own.now c.as_str.result.now c.as_str-in-loop-own.result.now (rc_str_bytes c.shared-key.result.now) key c.shared-key.ensures is c.as_str.ensures.value c.as_str-in-loop-own.ensures.value c.is_at_or_below.ensures c.if-not-is_at_or_below.true in
    none_there (at_or_below (locks_in self) key) (tells-past All (λ lock. true) key self.locks.entries c.loop-own.own-iterator entry c.next.new.self c.in-Some.ensures.steps out c.loop-own.invariant.left)

pub returns-in-None : goal.returns-in-None
returns-in-None c =
    let self = c.args.self.now in
    let key = c.args.path.now.key in
    none_there (at_or_below (locks_in self) key) (tells-none All (λ lock. true) key self.locks.entries c.loop-own.own-iterator c.in-None.ensures.steps.0 c.loop-own.invariant.left)
