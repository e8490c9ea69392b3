use Rattle.std.proofs.Common.{◌≡◌, length, true, false, refl, nat_le}
use Rattle.std.proofs.lemmas.Bool.{lt-leb, le-leb}
use Rattle.dav_wire.specs.Numbers.{number}
use Rattle.dav_wire.specs.Values.{text}
use Rattle.dav_wire.proofs.ReadLemmas.{fails_because, exit}
use Rattle.dav_wire.proofs.reader.Reader.read_bytes.Goals as goal

pub returns-in_err-len : goal.returns-in_err-len
unfolding text
returns-in_err-len c =
    exit text (λ x. x.now) _ _ c.from_residual.result _ c.from_residual.ensures.1
    (fails_because number text _ _ c.in_err-len.field-0.0 (λ none. rw none refl) c.in_err-len.ensures)

pub returns-then-len-self : goal.returns-then-len-self
unfolding text
returns-then-len-self c =
    let short : nat_le c.in_ok-len.len (length c.self.inside.rest.now) ≡ false = lt-leb c.in_ok-len.len (length c.self.inside.rest.now) c.if-len-self.true in
    rw (c.in_ok-len.ensures, ← c.self.view_is, short) refl

pub returns : goal.returns
unfolding text
returns c =
    let enough : nat_le c.in_ok-len.len (length c.self.inside.rest.now) ≡ true = le-leb c.in_ok-len.len (length c.self.inside.rest.now) c.if-len-self.false in
    rw (c.in_ok-len.ensures, ← c.self.view_is, enough, ← c.split_at.ensures.front, ← c.split_at.ensures.back) refl
