use Rattle.std.proofs.Common.{◌≡◌, ◌∙◌, ◌-◌, min, [], take, drop, get_or, refl, ap, sym, arith, append-nil}
use Rattle.std.proofs.lemmas.List.{take_more, take_all, drop_all}
use Rattle.dav_pieces.specs.Pieces.{bytes_of, piece_bytes, piece_len, size_of, is_sound}
use Rattle.dav_pieces.proofs.PieceLaws.{passes-at, length-piece_bytes}
use Rattle.dav_pieces.proofs.CutSteps.{nothing, cut-skip-more, cut-left-more, cut-more, cut-early}
use Rattle.dav_pieces.proofs.edits.cut.Goals as goal
use Rattle.dav_pieces.proofs.edits.cut.Goals.{else-loop-piece-test, then-loop-piece-test+then-left-eq0}

pub loop-piece-preserved-then-len-skip : goal.loop-piece-preserved-then-len-skip
loop-piece-preserved-then-len-skip c =
    let i = c.loop-piece.piece-index in let xs = c.args.pieces.now in let e = get_or xs i nothing in
    let more = sym (take_more xs i nothing c.loop-piece-test.true) in
    let n = c.args.count in let place = c.args.place in let skip = c.loop-piece.skip in let left = c.loop-piece.left in
    let len_is = c.len-len.ensures in let short = c.if-len-skip.true in
    let skipped_is : c.len-len.result ≡ min (piece_len e) skip = omega arith in
    let none : 0 ≡ piece_len e - c.len-len.result = omega arith in
    let empty : 0 ≡ min 0 left = omega arith in
    let same : left ≡ left - 0 = omega arith in
    record {
      bytes = λ file.
          let long = length-piece_bytes file e in
          let past : [] ≡ drop c.len-len.result (piece_bytes file e) = sym (drop_all c.len-len.result (piece_bytes file e) (omega arith)) in
          sym (append-nil _)
          ∙ cut-more (take i xs) e nothing n place skip left c.len-len.result 0 c.loop-piece.invariant.skip c.loop-piece.invariant.left skipped_is none empty
          file (bytes_of file c.loop-piece.out.items) nothing past refl (c.loop-piece.invariant.bytes file)
          ∙ ap (λ es. take n (drop place (bytes_of file es))) more;
      skip = cut-skip-more (take i xs) e nothing n place skip left c.len-len.result 0 c.loop-piece.invariant.skip c.loop-piece.invariant.left skipped_is none empty
          ∙ ap (λ es. place - size_of es) more;
      left = same
          ∙ cut-left-more (take i xs) e nothing n place skip left c.len-len.result 0 c.loop-piece.invariant.skip c.loop-piece.invariant.left skipped_is none empty
          ∙ ap (λ es. n - (size_of es - place)) more;
      sound = c.loop-piece.invariant.sound;
    }

pub loop-piece-preserved : goal.loop-piece-preserved
loop-piece-preserved c =
    let i = c.loop-piece.piece-index in let xs = c.args.pieces.now in let e = get_or xs i nothing in
    let more = sym (take_more xs i nothing c.loop-piece-test.true) in
    let n = c.args.count in let place = c.args.place in let skip = c.loop-piece.skip in let left = c.loop-piece.left in
    let len_is = c.len-len.ensures in let long = c.if-len-skip.false in
    let skipped_is : skip ≡ min (piece_len e) skip = omega arith in
    let rest_len = c.rest-rest.ensures.len in
    let part_is = c.min-part.ensures ∙ ap (λ k. min k left) c.len.ensures in
    let none : 0 ≡ skip - skip = omega arith in
    record {
      bytes = λ file.
          c.in_ok-push.ensures.bytes file
          ∙ cut-more (take i xs) e c.rest-rest.result n place skip left skip c.min-part.result c.loop-piece.invariant.skip c.loop-piece.invariant.left skipped_is rest_len part_is
          file (bytes_of file c.loop-piece.out.items) c.first.result (c.rest-rest.ensures.bytes file) (c.first.ensures.bytes file) (c.loop-piece.invariant.bytes file)
          ∙ ap (λ es. take n (drop place (bytes_of file es))) more;
      skip = none
          ∙ cut-skip-more (take i xs) e c.rest-rest.result n place skip left skip c.min-part.result c.loop-piece.invariant.skip c.loop-piece.invariant.left skipped_is rest_len part_is
          ∙ ap (λ es. place - size_of es) more;
      left = cut-left-more (take i xs) e c.rest-rest.result n place skip left skip c.min-part.result c.loop-piece.invariant.skip c.loop-piece.invariant.left skipped_is rest_len part_is
          ∙ ap (λ es. n - (size_of es - place)) more;
      sound = λ test all.
          c.in_ok-push.ensures.sound test (c.loop-piece.invariant.sound test all)
          (c.first.ensures.sound test (c.rest-rest.ensures.sound test (passes-at (is_sound test) xs i nothing c.loop-piece-test.true all)));
    }

pub returns-clause-bytes : goal.returns-clause-bytes
returns-clause-bytes c = λ file.
    let i = c.loop-piece.piece-index in let xs = c.args.pieces.now in
    let n = c.args.count in let place = c.args.place in let left = c.loop-piece.invariant.left in
    c.loop-piece.invariant.bytes file
    ∙ elim c.loop-piece-test.branch [
      | else-loop-piece-test w ↦ ap (λ es. take n (drop place (bytes_of file es))) (take_all i xs w.loop-piece-test.false)
      | then-loop-piece-test+then-left-eq0 w ↦ (let none = w.if-left-eq0.true in cut-early file n place i xs (omega arith))
    ]
