use Rattle.std.proofs.Common.{◌∙◌, ◌++◌, ◌-◌, min, take, drop, get_or, ap, sym}
use Rattle.std.proofs.lemmas.List.{take_more, take_all}
use Rattle.dav_pieces.specs.Pieces.{bytes_of, size_of, is_sound}
use Rattle.dav_pieces.proofs.PieceLaws.{passes-at}
use Rattle.dav_pieces.proofs.CutSteps.{nothing, rest-more, left-more}
use Rattle.dav_pieces.proofs.edits.append_rest.Goals as goal

pub loop-piece-preserved : goal.loop-piece-preserved
loop-piece-preserved c =
    let i = c.loop-piece.piece-index in let xs = c.args.pieces.now in let e = get_or xs i nothing in
    let more = sym (take_more xs i nothing c.loop-piece-test.true) in
    let short = c.min-part.ensures ∙ ap (λ k. min k c.loop-piece.left) c.len.ensures in
    record {
      bytes = λ file.
          rest-more file (bytes_of file c.args.out.now.items) c.loop-piece.out.items c.push.new.pieces.items (take i xs) e c.rest.result c.args.n c.loop-piece.left c.min-part.result
          c.loop-piece.invariant.left short (c.loop-piece.invariant.bytes file) (c.in_ok-push.ensures.bytes file) (c.rest.ensures.bytes file)
          ∙ ap (λ es. bytes_of file c.args.out.now.items ++ drop c.args.n (bytes_of file es)) more;
      left = left-more (take i xs) e c.args.n c.loop-piece.left c.min-part.result c.loop-piece.invariant.left short ∙ ap (λ es. c.args.n - size_of es) more;
      sound = λ test was all.
          c.in_ok-push.ensures.sound test (c.loop-piece.invariant.sound test was all)
          (c.rest.ensures.sound test (passes-at (is_sound test) xs i nothing c.loop-piece-test.true all));
    }

pub returns-clause-bytes : goal.returns-clause-bytes
returns-clause-bytes c = λ file.
    c.loop-piece.invariant.bytes file
    ∙ ap (λ es. bytes_of file c.args.out.now.items ++ drop c.args.n (bytes_of file es)) (take_all c.loop-piece.piece-index c.args.pieces.now c.loop-piece-test.false)
