use Rattle.std.proofs.Common.{sym, arith}
use Rattle.dav_blocks.proofs.Keeping.{in-use-kept, bytes-kept, in-use-taken, taken-at, torn-part, written-part}
use Rattle.dav_blocks.proofs.block_file.BlockFile.write_behind.Goals as goal

pub returns-in_err-write_at-clause-kept : goal.returns-in_err-write_at-clause-kept
returns-in_err-write_at-clause-kept g c =
    let torn = torn-part _ _ c.args.at c.in-Some.len c.args.bytes.now c.in-Some.ensures.most c.write_at.ensures.others in
    record {
      used = λ at n used. used;
      same = λ at n used. bytes-kept _ _ _ _ _ _ _ c.args.self.now.within c.in-Some.ensures.unused (λ a m clear. clear) torn at n used;
      safe = λ at n safe. safe;
    }

pub returns-clause-written : goal.returns-clause-written
returns-clause-written g c = λ some. record {
  most = c.in-Some.ensures.most;
  bytes = written-part _ _ c.args.at c.in-Some.len c.in-Some.ensures.most (λ none. omega arith) c.in_ok-write_at.ensures.written;
  used = in-use-taken _ _ _ _ _ (let most = c.max-self.ensures in omega arith) (taken-at _ _ _ _ _ (sym c.in-Some.ensures.room.begins) c.take_room.ensures);
}

pub returns-clause-kept : goal.returns-clause-kept
returns-clause-kept g c =
    let torn = torn-part _ _ c.args.at c.in-Some.len c.args.bytes.now c.in-Some.ensures.most c.write_at.ensures.others in
    record {
      used = λ at n used. let longer = c.max-self.ensures in in-use-kept _ _ _ _ at n (omega arith) c.take_room.ensures.kept used;
      same = λ at n used. bytes-kept _ _ _ _ _ _ _ c.args.self.now.within c.in-Some.ensures.unused (λ a m clear. clear) torn at n used;
      safe = λ at n safe. safe;
    }
