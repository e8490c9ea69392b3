use Rattle.std.proofs.Common.{◌∙◌, ap, refl}
use Rattle.dav_pieces.specs.Pieces.{are_sound}
use Rattle.dav_pieces.proofs.PieceLaws.{are_sound-append}
use Rattle.dav_pieces.proofs.CutSteps.{spliced}
use Rattle.dav_pieces.proofs.edits.splice.Goals as goal

pub returns-clause-bytes : goal.returns-clause-bytes
returns-clause-bytes c = λ file.
    spliced file c.new-out.result.items c.append_first.new.out.items c.push.new.pieces.items c.extend_from_slice.new.self.items c.append_rest.new.out.items
    c.args.pieces.now c.args.more.now c.args.place c.in_ok-missing.missing c.args.end
    c.requires.some c.requires.ends c.in_ok-missing.ensures.missing c.new-out.ensures.items
    (c.in_ok-missing.ensures.bytes file) (c.in_ok-push.ensures.bytes file) c.in_ok-extend_from_slice.ensures.items (c.in_ok-append_rest.ensures.bytes file)

pub returns-clause-sound : goal.returns-clause-sound
returns-clause-sound c = λ test old more.
    let first = c.in_ok-missing.ensures.sound test (ap (are_sound test) c.new-out.ensures.items) old in
    let filled = c.in_ok-push.ensures.sound test first refl in
    let put = ap (are_sound test) c.in_ok-extend_from_slice.ensures.items ∙ are_sound-append test c.push.new.pieces.items c.args.more.now filled more in
    c.in_ok-append_rest.ensures.sound test put old
