use Rattle.std.proofs.Common.{◌≡◌, ◌∙◌, ℕ, ◌+◌, ◌<◌, ◌^◌, true, length, ap, sym, subst}
use Rattle.std.proofs.lemmas.Bool.{and_from, lt-ltb}
use Rattle.dav_store.specs.Calls.{written_at}
use Rattle.dav_pieces.specs.Pieces.{bytes_of, size_of}
use Rattle.dav_pieces.proofs.PieceLaws.{length-bytes_of, are_within-from_sound}
use Rattle.dav_blocks.proofs.Keeping.{if-ok}
use Rattle.dav_data.specs.Runs.{run_passes, blocks_pass}
use Rattle.dav_data.specs.Digests.{is_right, are_right}
use Rattle.dav_data.specs.Data.{data_of, in_use, is_held, body_bytes}
use Rattle.dav_data.proofs.Runs.{pass-weaker}
use Rattle.dav_data.proofs.Adding.{right-kept}
use Rattle.dav_data.proofs.Bodies.{sound-body, body-kept, body-bytes}
use Rattle.dav_data.proofs.Keeping.{written-end}
use Rattle.dav_data.proofs.data_file.DataFile.write_at.Goals as goal

pub returns-then-place-len-clause-ok : goal.returns-then-place-len-clause-ok
returns-then-place-len-clause-ok g c =
    let old = body_bytes c.args.self.now c.args.body.now in
    let end : c.args.place ≡ length old = c.if-place-len.true ∙ c.len.ensures ∙ sym (length-bytes_of (data_of c.args.self.now) c.args.body.now) in
    if-ok c.append.result (λ is. is ∙ written-end old c.args.bytes.now c.args.place end) c.append.ensures.ok

pub returns-in_err-added-clause-held : goal.returns-in_err-added-clause-held
returns-in_err-added-clause-held g c = body-kept _ _ c.add.ensures.kept.blocks.used c.args.body.now c.requires.held

pub write-requires-clause-within : goal.write-requires-clause-within
write-requires-clause-within g c = are_within-from_sound _ c.args.body.now (sound-body _ c.args.body.now c.requires.held)

pub write-requires-clause-room : goal.write-requires-clause-room
write-requires-clause-room g c =
    let added = ap size_of c.as_slice.ensures.value ∙ sym (length-bytes_of (data_of c.add.new.self) c.in_ok-added.added.pieces.items) ∙ ap length c.in_ok-added.ensures.added.same in
    let P = λ (n : ℕ). c.args.place + n < 2 ^ 63 in
    subst P (sym added) c.requires.fits

pub returns-in_err-write-clause-held : goal.returns-in_err-write-clause-held
returns-in_err-write-clause-held g c =
    subst (λ body. is_held c.add.new.self body ≡ true) (sym c.in_err-write.ensures.err) (body-kept _ _ c.add.ensures.kept.blocks.used c.args.body.now c.requires.held)

pub returns-clause-ok : goal.returns-clause-ok
returns-clause-ok g c =
    let file = data_of c.add.new.self in
    let more = ap (bytes_of file) c.as_slice.ensures.value ∙ c.in_ok-added.ensures.added.same in
    let old = body-bytes _ _ _ c.add.ensures.kept.blocks.same c.args.body.now c.requires.held in
    c.in_ok-write.ensures.ok file ∙ (λ i. written_at (old i) c.args.place (more i))

pub returns-clause-held : goal.returns-clause-held
returns-clause-held g c =
    let added = subst (λ pieces. blocks_pass (in_use c.add.new.self) pieces ≡ true) (sym c.as_slice.ensures.value) c.in_ok-added.ensures.added.sound in
    let old = pass-weaker _ _ c.add.ensures.kept.blocks.used c.args.body.now (sound-body _ c.args.body.now c.requires.held) in
    and_from _ _ (lt-ltb (size_of c.write.new.self) _ c.in_ok-write.ensures.small) (c.in_ok-write.ensures.sound (run_passes (in_use c.add.new.self)) old added)

pub returns-clause-digests : goal.returns-clause-digests
returns-clause-digests g c = λ right.
    let key = c.args.self.now.key in let file = data_of c.add.new.self in
    let old = right-kept key _ _ _ c.add.ensures.kept.blocks.same c.args.body.now (sound-body _ c.args.body.now c.requires.held) right in
    let added = subst (λ k. are_right k file c.in_ok-added.added.pieces.items ≡ true) c.add.ensures.kept.key c.in_ok-added.ensures.added.right in
    let more = subst (λ pieces. are_right key file pieces ≡ true) (sym c.as_slice.ensures.value) added in
    subst (λ k. are_right k file c.write.new.self ≡ true) (sym c.add.ensures.kept.key) (c.in_ok-write.ensures.sound (is_right key file) old more)
