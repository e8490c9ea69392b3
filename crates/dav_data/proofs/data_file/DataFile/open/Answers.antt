use Rattle.std.proofs.Common.{ℕ, Bool, ◌+◌, leb}
use Rattle.std.proofs.lemmas.Bool.{leb-true}
use Rattle.dav_data.proofs.Adding.{right-kept}
use Rattle.dav_data.proofs.Bodies.{sound-body, body-kept, body-bytes}
use Rattle.dav_data.proofs.data_file.DataFile.open.Goals as goal

pub returns-clause-held : goal.returns-clause-held
returns-clause-held g c = λ body below. body-kept _ _ (λ at n is. c.in_ok-file.ensures.safe at n (leb-true (at + n) c.args.end is)) body below

pub returns-clause-bytes : goal.returns-clause-bytes
returns-clause-bytes g c = λ within body below.
    let test : ℕ → ℕ → Bool = λ at n. leb (at + n) c.args.end in
    body-bytes test _ _ (λ at n is. c.in_ok-file.ensures.first within at n (leb-true (at + n) c.args.end is)) body below

pub returns-clause-digests : goal.returns-clause-digests
returns-clause-digests g c = λ within body below right.
    let test : ℕ → ℕ → Bool = λ at n. leb (at + n) c.args.end in
    right-kept _ _ _ test (λ at n is. c.in_ok-file.ensures.first within at n (leb-true (at + n) c.args.end is)) body (sound-body test body below) right
