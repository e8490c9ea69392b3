use Rattle.std.proofs.Common.{◌≡◌, true, refl, arith}
use Rattle.std.proofs.lemmas.List.{take_rest}
use Rattle.byteorder.specs.Endian.{big_number}
use Rattle.dav_wire.specs.Numbers.{number}
use Rattle.dav_wire.specs.Parts.{starts_with_bytes}
use Rattle.dav_wire.proofs.ReadLemmas.{starts_short, starts_eight}
use Rattle.dav_wire.proofs.reader.Reader.read_number.Goals as goal

pub returns-in_default : goal.returns-in_default
unfolding number
returns-in_default c =
    let short = starts_short 8 c.self.inside.rest.now c.in_default.len_below in
    rw (← c.self.view_is, short) refl

pub returns-in-len8-up : goal.returns-in-len8-up
unfolding number
returns-in-len8-up c =
    let starts : starts_with_bytes 8 c.self.inside.rest.now ≡ true =
    starts_eight c.self.inside.rest.now c.in-len8-up.len_at_least (omega arith) (omega arith) (omega arith) (omega arith) (omega arith) (omega arith) (omega arith) (omega arith) in
    let value : c.from_be_bytes.result ≡ big_number 8 c.self.inside.rest.now = omega (arith, c.from_be_bytes.ensures) in
    rw (← c.self.view_is, starts, value, take_rest c.self.inside.rest.now 8) refl
