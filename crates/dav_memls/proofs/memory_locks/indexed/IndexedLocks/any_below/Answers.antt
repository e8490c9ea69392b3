use Rattle.std.proofs.Common.{true, false, refl, sym}
use Rattle.std.specs.Rc.{rc_str_bytes}
use Rattle.dav_key.specs.Flat.{segments_of}
use Rattle.dav_memls.specs.declared.memory_locks.numbers.Numbers.{Numbers}
use Rattle.dav_memls.specs.KeyEntries.{OwnKey}
use Rattle.dav_memls.proofs.BelowLooks.{tells-start, tells-more, tells-some, tells-past, tells-none, first_flat, below_is, below_passes}
use Rattle.dav_memls.proofs.memory_locks.indexed.IndexedLocks.any_below.Goals.{in-None, in-Some+then-not-is_at_or_below}
use Rattle.dav_memls.proofs.memory_locks.indexed.IndexedLocks.any_below.Goals as goal

pub loop-own-init : goal.loop-own-init
loop-own-init g c =
    let self = c.args.self.now in
    record {
      can = tt;
      ends = tt;
      left = λ p computes. tells-start c.args.register p c.args.path.now.key (segments_of (rc_str_bytes c.shared-key.result.now)) self.index self.locks.entries c.run-own-items.result c.into_iter-own-iterator.result self.ordered self.indexed c.shared-key.ensures.key_is c.run-own-items.ensures c.into_iter-own-iterator.ensures.into_iter_gives;
    }

pub loop-own-preserved : goal.loop-own-preserved
loop-own-preserved g c =
    let self = c.args.self.now in
    let key = c.args.path.now.key in
    let entry : OwnKey × Numbers = (c.in-Some.own.now, c.in-Some.numbers.now) in
    record {
      can = tt;
      ends = tt;
      left = λ p computes.
          let left = c.loop-own.invariant.left p computes in
          let is = first_flat c.args.register p key self.locks.entries c.loop-own.own-iterator entry c.next.new.self c.in-Some.ensures.steps left in
          let below = below_is true c.is_at_or_below.result c.in-Some.own.now c.as_str.result.now c.as_str-in-loop-own.result.now (rc_str_bytes c.shared-key.result.now) key c.shared-key.ensures is c.as_str.ensures.value c.as_str-in-loop-own.ensures.value c.is_at_or_below.ensures c.if-not-is_at_or_below.false in
          tells-more c.args.register p key self.locks.entries c.loop-own.own-iterator entry c.next.new.self c.in-Some.ensures.steps (below_passes false c.any_of.result p key self.locks.entries c.in-Some.numbers.now.set.keys entry below refl (c.any_of.ensures p computes) c.if-any_of.false) left;
    }

pub returns-then-any_of : goal.returns-then-any_of
returns-then-any_of g c = λ p computes.
    let self = c.args.self.now in
    let key = c.args.path.now.key in
    let entry : OwnKey × Numbers = (c.in-Some.own.now, c.in-Some.numbers.now) in
    let left = c.loop-own.invariant.left p computes in
    let is = first_flat c.args.register p key self.locks.entries c.loop-own.own-iterator entry c.next.new.self c.in-Some.ensures.steps left in
    let below = below_is true c.is_at_or_below.result c.in-Some.own.now c.as_str.result.now c.as_str-in-loop-own.result.now (rc_str_bytes c.shared-key.result.now) key c.shared-key.ensures is c.as_str.ensures.value c.as_str-in-loop-own.ensures.value c.is_at_or_below.ensures c.if-not-is_at_or_below.false in
    sym (tells-some c.args.register p key self.locks.entries c.loop-own.own-iterator entry c.next.new.self c.in-Some.ensures.steps (below_passes true c.any_of.result p key self.locks.entries c.in-Some.numbers.now.set.keys entry below refl (c.any_of.ensures p computes) c.if-any_of.true) left)

pub returns : goal.returns
returns g c = λ p computes.
    let self = c.args.self.now in
    let key = c.args.path.now.key in
    let left = c.loop-own.invariant.left p computes in
    elim c.match-next.branch [
      | in-None w ↦ sym (tells-none c.args.register p key self.locks.entries c.loop-own.own-iterator w.in-None.ensures.steps.0 left)
      | in-Some+then-not-is_at_or_below w ↦ (
          let entry : OwnKey × Numbers = (w.in-Some.own.now, w.in-Some.numbers.now) in
          let is = first_flat c.args.register p key self.locks.entries c.loop-own.own-iterator entry c.next.new.self w.in-Some.ensures.steps left in
          let out = below_is false w.is_at_or_below.result w.in-Some.own.now w.as_str.result.now w.as_str-in-loop-own.result.now (rc_str_bytes c.shared-key.result.now) key c.shared-key.ensures is w.as_str.ensures.value w.as_str-in-loop-own.ensures.value w.is_at_or_below.ensures w.if-not-is_at_or_below.true in
          sym (tells-past c.args.register p key self.locks.entries c.loop-own.own-iterator entry c.next.new.self w.in-Some.ensures.steps out left)
          )
    ]
