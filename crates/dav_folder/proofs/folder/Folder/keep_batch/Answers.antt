use Rattle.std.proofs.Common.{◌≡◌, ◌∙◌, arith, refl, Some, inl, cond, ap, sym, subst}
use Rattle.sqlite.specs.State.{HasCleanDisk}
use Rattle.dav_keep.specs.Keeping.{KeepsNow, database}
use Rattle.dav_folder.proofs.Keeps.{keeps_one, stops, was_clean}
use Rattle.dav_folder.proofs.folder.Folder.keep_batch.Goals.{then-changed, else-changed}
use Rattle.dav_folder.proofs.folder.Folder.keep_batch.Goals as goal
use Rattle.dav_folder.specs.Folders.{keeping_of, batch_of}
use Rattle.dav_folder.specs.Lasting.{alone}

pub returns-after-changed-clause-ok : goal.returns-after-changed-clause-ok
returns-after-changed-clause-ok g c = λ before lasts.
    let e = c.reuse.ensures in
    let keeping : keeping_of c.reuse.new.self ≡ c.keep.new.self =
    e.keeping ∙ (elim c.if-changed.branch [ then-changed w ↦ ap (λ f. keeping_of f) w.self-is | else-changed w ↦ ap (λ f. keeping_of f) w.self-is ]) in
    let number : batch_of c.reuse.new.self ≡ cond c.in-Ok.changed c.args.last (batch_of c.args.self.now) =
    e.batch ∙ (elim c.if-changed.branch [
      | then-changed w ↦ ap (λ f. batch_of f) w.self-is ∙ sym (ap (λ b. cond b c.args.last (batch_of c.args.self.now)) w.if-changed.true)
      | else-changed w ↦ ap (λ f. batch_of f) w.self-is ∙ sym (ap (λ b. cond b c.args.last (batch_of c.args.self.now)) w.if-changed.false)
    ]) in
    let keeps =
    subst (λ keeping. KeepsNow c.in-Ok.changed lasts.image keeping c.keep.new.store c.args.locks.now c.args.now c.args.last) (sym keeping)
    (c.in-Ok.ensures.kept lasts.image lasts.kept) in
    keeps_one g.C.Claim c.args.self.now c.reuse.new.self c.args.store.now c.keep.new.store c.args.locks.now c.args.now c.args.last
    before lasts g.met.S.Store.settled c.in-Ok.ensures.saved c.in-Ok.changed c.show_sound.ensures c.reuse.new.store keeps c.in-Ok.ensures.unchanged e.memory e.entries number

pub returns-in-Err-clause-err : goal.returns-in-Err-clause-err
returns-in-Err-clause-err g c = λ before lasts.
    stops g.C.Claim c.args.self.now (record { keeping = c.keep.new.self; batch = c.args.self.now.batch; failure = Some c.in-Err.error; has_swept = c.args.self.now.has_swept; refused = c.args.self.now.refused }) c.args.store.now c.keep.new.store c.args.locks.now c.args.now c.args.last before lasts
    refl (omega (arith, c.if-last-self.false)) c.show_sound-in-Err.ensures (c.in-Err.ensures.stopped lasts.image lasts.kept)

pub returns-after-changed-clause-clean : goal.returns-after-changed-clause-clean
returns-after-changed-clause-clean g c = λ clean.
    let keeping : keeping_of c.reuse.new.self ≡ c.keep.new.self =
    c.reuse.ensures.keeping ∙ (elim c.if-changed.branch [ then-changed w ↦ ap (λ f. keeping_of f) w.self-is | else-changed w ↦ ap (λ f. keeping_of f) w.self-is ]) in
    was_clean c.args.self.now.keeping c.keep.new.self c.keep.ensures.clean (subst (λ keeping. HasCleanDisk (database keeping)) keeping clean)

pub returns-in-Err-clause-clean : goal.returns-in-Err-clause-clean
returns-in-Err-clause-clean g c = λ clean. was_clean c.args.self.now.keeping c.keep.new.self c.keep.ensures.clean clean

pub returns-then-last-self-clause-err : goal.returns-then-last-self-clause-err
returns-then-last-self-clause-err g c = λ before lasts. inl (alone g.C.Claim c.args.self.now _ before lasts)
