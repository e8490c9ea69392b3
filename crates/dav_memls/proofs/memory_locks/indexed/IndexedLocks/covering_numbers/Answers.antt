use Rattle.std.proofs.Common.{◌≡◌, ◌∙◌, false, ap, subst, length, arith, add-one, suc, min, sym}
use Rattle.dav_key.specs.Key.{Key, is_same_key}
use Rattle.dav_key.specs.Flat.{flat, segments_of}
use Rattle.dav_memls.specs.declared.memory_locks.index.Register.TheVariants.{All, Deep}
use Rattle.dav_memls.specs.KeyText.{ends_at}
use Rattle.dav_memls.specs.LockIndex.{AddsNumbers, HasNumbers, found_at, is_of_key, numbers_of}
use Rattle.dav_memls.proofs.KeyTexts.{text_length}
use Rattle.dav_memls.proofs.Reach.{rows_within}
use Rattle.dav_memls.proofs.CoveringNumbers.{adds_first, covering_own, reached_covers, covering_more, covering_same, covering_all_reached}
use Rattle.dav_memls.proofs.memory_locks.indexed.IndexedLocks.covering_numbers.Goals.{in-Some+in_ok-add-2, in_default}
use Rattle.dav_memls.proofs.memory_locks.indexed.IndexedLocks.covering_numbers.Goals as goal

pub loop-end-init : goal.loop-end-init
loop-end-init c =
    let self = c.args.self.now in
    let key = c.args.path.now.key in
    covering_own key self.locks.entries c.add.new.found
    (adds_first (numbers_of (is_of_key key) self.locks.entries) _ c.new-found.result c.add.new.found c.new-found.ensures.empty
    (c.at.ensures ∙ ap (found_at self.index All) c.of-key.ensures.key_is ∙ self.indexed.at All key)
    c.in_ok-add.ensures)

pub loop-end-preserved : goal.loop-end-preserved
loop-end-preserved c =
    let self = c.args.self.now in
    let rows = self.locks.entries in
    let key = c.args.path.now.key in
    let n = c.loop-end.end in
    subst (λ m. HasNumbers c.match-above.found (numbers_of (reached_covers m key) rows)) (sym (add-one n))
    (elim c.match-above.branch [
      | in-Some+in_ok-add-2 w ↦ (
          let before = segments_of w.in-Some.above.now in
          let only = subst (λ k. (above : Key) → ends_at k n above ≡ is_same_key before above) c.of-key.ensures.key_is w.in-Some.ensures.only in
          let there = w.at-in-Some.ensures ∙ self.indexed.at Deep before in
          subst (λ found. HasNumbers found (numbers_of (reached_covers (suc n) key) rows)) (sym w.found-is)
          (covering_more n key before rows c.loop-end.found w.add-in-Some.new.found only c.loop-end.invariant (subst (λ xs. AddsNumbers xs c.loop-end.found w.add-in-Some.new.found) there w.in_ok-add-2.ensures))
          )
      | in_default w ↦ subst (λ found. HasNumbers found (numbers_of (reached_covers (suc n) key) rows)) (sym w.found-is)
          (covering_same n key rows c.loop-end.found (subst (λ k. (above : Key) → ends_at k n above ≡ false) c.of-key.ensures.key_is w.in_default.ensures) c.loop-end.invariant)
    ])

pub returns : goal.returns
returns c =
    let self = c.args.self.now in
    let key = c.args.path.now.key in
    let end : c.loop-end.end ≡ min (length (flat key)) self.reach = omega (arith, text_length c.of-key.result.now key c.of-key.ensures, c.min-end-end.ensures) in
    covering_all_reached c.loop-end.end key self.locks.entries c.loop-end.found (rows_within c.loop-end.end self.reach key self.locks.entries end self.reached) c.loop-end.invariant
