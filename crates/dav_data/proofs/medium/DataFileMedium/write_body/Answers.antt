use Rattle.std.proofs.Common.{◌≡◌, ◌∙◌, true, ap, refl, sym, subst, inl, arith}
use Rattle.std.proofs.lemmas.Bool.{and_from, lt-ltb}
use Rattle.dav_store.specs.Calls.{written_at}
use Rattle.dav_pieces.specs.Pieces.{bytes_of, size_of, are_sound}
use Rattle.dav_pieces.proofs.PieceLaws.{length-bytes_of, are_within-from_sound}
use Rattle.dav_data.specs.Runs.{run_passes, blocks_pass}
use Rattle.dav_data.specs.Data.{data_of, in_use}
use Rattle.dav_data.proofs.Bodies.{sound-body}
use Rattle.dav_data.proofs.medium.DataFileMedium.write_body.Goals as goal

pub overflow_add-place : goal.overflow_add-place
overflow_add-place g c =
    let len = c.len.ensures ∙ sym (length-bytes_of (data_of c.args.self.now) c.args.from.now) in
    let fits = c.requires.fits in
    omega arith

pub returns-then-place-len-gt-MAX_LEN-clause-cause : goal.returns-then-place-len-gt-MAX_LEN-clause-cause
returns-then-place-len-gt-MAX_LEN-clause-cause g c =
    let len = c.len.ensures ∙ sym (length-bytes_of (data_of c.args.self.now) c.args.from.now) in
    let over = c.if-place-len-gt-MAX_LEN.true in
    inl (record { long = omega arith; is = refl })

pub write-requires-clause-within : goal.write-requires-clause-within
write-requires-clause-within g c = are_within-from_sound _ c.args.body.now (sound-body _ c.args.body.now c.requires.held)

pub returns-clause-ok : goal.returns-clause-ok
returns-clause-ok g c =
    let file = data_of c.args.self.now in
    c.in_ok-write.ensures.ok file ∙ ap (λ pieces. written_at (bytes_of file c.args.body.now) c.args.place (bytes_of file pieces)) c.pieces.ensures

pub returns-clause-held : goal.returns-clause-held
returns-clause-held g c =
    let from = subst (λ pieces. blocks_pass (in_use c.args.self.now) pieces ≡ true) (sym c.pieces.ensures) (sound-body _ c.args.from.now c.requires.other) in
    and_from _ _ (lt-ltb (size_of c.write.new.self) _ c.in_ok-write.ensures.small)
    (c.in_ok-write.ensures.sound (run_passes (in_use c.args.self.now)) (sound-body _ c.args.body.now c.requires.held) from)

pub returns-clause-sound : goal.returns-clause-sound
returns-clause-sound g c = λ test old other. c.in_ok-write.ensures.sound test old (subst (λ pieces. are_sound test pieces ≡ true) (sym c.pieces.ensures) other)
