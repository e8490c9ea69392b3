use Rattle.std.proofs.Common.{◌≡◌, ◌∙◌, false, ap, subst, length, arith, add-one, min}
use Rattle.std.specs.List.{find, list_any}
use Rattle.dav_key.specs.Key.{Key, is_same_key}
use Rattle.dav_key.specs.Flat.{flat, segments_of}
use Rattle.dav_memls.specs.declared.memory_locks.index.Register.TheVariants.{Deep}
use Rattle.dav_memls.specs.IndexedLocks.{locks_in}
use Rattle.dav_memls.specs.KeyText.{ends_at}
use Rattle.dav_memls.specs.LockIndex.{among, is_of_key}
use Rattle.dav_memls.proofs.CoveringNumbers.{reached_covers}
use Rattle.dav_memls.proofs.KeyTexts.{text_length}
use Rattle.dav_memls.proofs.Reach.{values_within}
use Rattle.dav_memls.proofs.SomeCovering.{find_none, find_some, in_covering, own_covers, deep_covers, none_at, none_more, none_same, none_covers}
use Rattle.dav_memls.proofs.memory_locks.indexed.IndexedLocks.some_covering.Goals.{in-Some-above+in_default-first_at, in_default-above}
use Rattle.dav_memls.proofs.memory_locks.indexed.IndexedLocks.some_covering.Goals as goal

pub returns-in-Some : goal.returns-in-Some
returns-in-Some c =
    let ls = locks_in c.args.self.now in
    let key = c.args.path.now.key in
    let lock = c.in-Some.lock.now in
    let found = find_some (is_of_key key) ls lock (c.in-Some.ensures ∙ ap (λ k. find (is_of_key k) ls) c.of-key.ensures.key_is) in
    in_covering key ls lock (own_covers key lock found.0) found.1

pub loop-end-init : goal.loop-end-init
loop-end-init c =
    let ls = locks_in c.args.self.now in
    let key = c.args.path.now.key in
    none_at key ls (find_none (is_of_key key) ls (c.in_default.ensures ∙ ap (λ k. find (is_of_key k) ls) c.of-key.ensures.key_is))

pub returns-in-Some-first_at : goal.returns-in-Some-first_at
returns-in-Some-first_at c =
    let ls = locks_in c.args.self.now in
    let key = c.args.path.now.key in
    let before = segments_of c.in-Some-above.above.now in
    let lock = c.in-Some-first_at.lock.now in
    let only = subst (λ k. (above : Key) → ends_at k c.loop-end.end above ≡ is_same_key before above) c.of-key.ensures.key_is c.in-Some-above.ensures.only in
    let found = find_some (among Deep (is_of_key before)) ls lock c.in-Some-first_at.ensures in
    in_covering key ls lock (deep_covers c.loop-end.end key before lock only found.0) found.1

pub loop-end-preserved : goal.loop-end-preserved
loop-end-preserved c =
    let ls = locks_in c.args.self.now in
    let key = c.args.path.now.key in
    let n = c.loop-end.end in
    ap (λ m. list_any (reached_covers m key) ls) (add-one n)
    ∙ elim c.match-above.branch [
      | in-Some-above+in_default-first_at w ↦ (
          let before = segments_of w.in-Some-above.above.now in
          let only = subst (λ k. (above : Key) → ends_at k n above ≡ is_same_key before above) c.of-key.ensures.key_is w.in-Some-above.ensures.only in
          none_more n key before ls only c.loop-end.invariant (find_none (among Deep (is_of_key before)) ls w.in_default-first_at.ensures)
          )
      | in_default-above w ↦ none_same n key ls (subst (λ k. (above : Key) → ends_at k n above ≡ false) c.of-key.ensures.key_is w.in_default-above.ensures) c.loop-end.invariant
    ]

pub returns : goal.returns
returns c =
    let self = c.args.self.now in
    let key = c.args.path.now.key in
    let end : c.loop-end.end ≡ min (length (flat key)) self.reach = omega (arith, text_length c.of-key.result.now key c.of-key.ensures, c.min-end-end.ensures) in
    none_covers c.loop-end.end key (locks_in self) (values_within c.loop-end.end self.reach key self.locks.entries end self.reached) c.loop-end.invariant
