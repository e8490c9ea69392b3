use Rattle.std.proofs.Common.{◌≡◌, ◌∙◌, ◌+◌, ◌-◌, ap, sym, arith}
use Rattle.std.proofs.lemmas.List.{drop-replicate}
use Rattle.dav_pieces.specs.Pieces.{bytes_at}
use Rattle.dav_pieces.proofs.RunBytes.{drop-bytes_at}
use Rattle.dav_pieces.proofs.piece.Piece.rest.Goals as goal

pub returns-in-Part-clause-bytes : goal.returns-in-Part-clause-bytes
returns-in-Part-clause-bytes c =
    let fits = rw c.in-Part.is at c.requires.some in
    let at = c.in-Part.block.at in let from = c.in-Part.from in let len = c.in-Part.len in let n = c.args.n in
    let moved : at + (from + n) ≡ at + from + n = omega arith in
    λ file. rw c.in-Part.is (ap (λ k. bytes_at file k (len - n)) moved ∙ sym (drop-bytes_at file (at + from) len n fits))

pub returns-in-Zeros-clause-bytes : goal.returns-in-Zeros-clause-bytes
returns-in-Zeros-clause-bytes c = λ file. rw c.in-Zeros.is (sym (drop-replicate c.args.n c.in-Zeros.len 0))
