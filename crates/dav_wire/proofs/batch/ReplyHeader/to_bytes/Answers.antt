use Rattle.std.proofs.Common.{nat_lt, arith}
use Rattle.std.proofs.lemmas.Bool.{and_from, lt-ltb}
use Rattle.dav_wire.specs.Batches.{reply_header, three_numbers}
use Rattle.dav_wire.proofs.batch.ReplyHeader.to_bytes.Goals as goal

pub returns : goal.returns
unfolding reply_header
returns c =
    let written = rw c.from.ensures at c.from_three_numbers.ensures in
    record {
      valid = and_from (three_numbers.is_valid (c.args.self.number, (c.args.self.status, c.args.self.count))) (nat_lt c.args.self.status 65536) written.valid (lt-ltb c.args.self.status 65536 (omega arith));
      is = written.is;
    }
