use Rattle.std.proofs.Common.{◌^◌, ◌&&◌, refl, nat_lt, arith}
use Rattle.std.proofs.lemmas.Bool.{and_from, lt-ltb}
use Rattle.dav_wire.specs.Numbers.{number}
use Rattle.dav_wire.proofs.batch.from_three_numbers.Goals as goal

pub returns : goal.returns
unfolding number
returns c =
    let a = c.args.first in
    let b = c.args.second in
    let d = c.args.third in
    record {
      valid =
          and_from (nat_lt a (256 ^ 8)) (nat_lt b (256 ^ 8) && nat_lt d (256 ^ 8)) (lt-ltb a (256 ^ 8) (omega arith))
          (and_from (nat_lt b (256 ^ 8)) (nat_lt d (256 ^ 8)) (lt-ltb b (256 ^ 8) (omega arith)) (lt-ltb d (256 ^ 8) (omega arith)));
      is = rw (c.write_u64-3.ensures, c.write_u64-2.ensures, c.write_u64.ensures) refl;
    }
