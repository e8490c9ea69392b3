use Rattle.std.proofs.Common.{refl, arith}
use Rattle.dav_blocks.proofs.Keeping.{in-use-kept, bytes-kept, in-use-taken, taken-at, torn-part, written-part, written-end, follows-part, survives-write}
use Rattle.dav_blocks.proofs.block_file.BlockFile.write.Goals as goal

pub returns-then-len-eq0-clause-kept : goal.returns-then-len-eq0-clause-kept
returns-then-len-eq0-clause-kept g c = record {
  used = λ at n used. in-use-kept _ _ _ _ at n (omega arith) c.next-at.ensures.kept used;
  same = λ at n used. refl;
  safe = λ at n safe. safe;
}

pub returns-in_err-write_at-clause-kept : goal.returns-in_err-write_at-clause-kept
returns-in_err-write_at-clause-kept g c =
    let torn = torn-part _ _ c.next-at.result.0 c.next-at.result.1 c.args.bytes.now c.next-at.ensures.most c.write_at.ensures.others in
    record {
      used = λ at n used. in-use-kept _ _ _ _ at n (omega arith) c.next-at.ensures.kept used;
      same = λ at n used. bytes-kept _ _ _ _ _ _ _ c.args.self.now.within c.next-at.ensures.unused c.next-at.ensures.kept torn at n used;
      safe = λ at n safe. safe;
    }

pub overflow_add-at : goal.overflow_add-at
overflow_add-at g c = let below = c.next-at.ensures.below in omega arith

pub invariant_of-self-2 : goal.invariant_of-self-2
invariant_of-self-2 g c =
    let below = c.next-at.ensures.below in let most = c.max-self.ensures in
    let there = written-end _ _ c.next-at.result.0 c.next-at.result.1 c.next-at.ensures.most c.if-len-eq0.false c.in_ok-write_at.ensures.written in
    let within = c.write_at.ensures.others.no_shorter in let was = c.args.self.now.within in
    let torn = torn-part _ _ c.next-at.result.0 c.next-at.result.1 c.args.bytes.now c.next-at.ensures.most c.write_at.ensures.others in
    let crash = follows-part _ _ c.next-at.result.0 c.next-at.result.1 c.args.bytes.now c.next-at.ensures.most c.write_at.ensures.crash in
    record {
      within = omega arith;
      limited = omega arith;
      before = let low = c.args.self.now.before in omega arith;
      opened = λ a m clear. c.take_next.ensures.taken.kept a m (c.next-at.ensures.kept a m (c.args.self.now.opened a m clear));
      survives = survives-write _ _ _ _ _ _ _ _ _ _ c.args.self.now.before c.args.self.now.within (λ a m clear. c.next-at.ensures.kept a m (c.args.self.now.opened a m clear)) c.next-at.ensures.unused torn crash c.args.self.now.survives;
      unchanged = λ settled. absurd (let e = settled in cc);
    }

pub returns-clause-written : goal.returns-clause-written
returns-clause-written g c = record {
  most = c.next-at.ensures.most;
  bytes = written-part _ _ c.next-at.result.0 c.next-at.result.1 c.next-at.ensures.most c.if-len-eq0.false c.in_ok-write_at.ensures.written;
  used = in-use-taken _ _ _ _ _ (let most = c.max-self.ensures in omega arith) (taken-at _ _ _ _ _ c.next-at.ensures.next.begins c.take_next.ensures.taken);
}

pub returns-clause-kept : goal.returns-clause-kept
returns-clause-kept g c =
    let torn = torn-part _ _ c.next-at.result.0 c.next-at.result.1 c.args.bytes.now c.next-at.ensures.most c.write_at.ensures.others in
    record {
      used = λ at n used.
          let longer = c.max-self.ensures in
          in-use-kept _ _ _ _ at n (omega arith) (λ a m clear. c.take_next.ensures.taken.kept a m (c.next-at.ensures.kept a m clear)) used;
      same = λ at n used. bytes-kept _ _ _ _ _ _ _ c.args.self.now.within c.next-at.ensures.unused c.next-at.ensures.kept torn at n used;
      safe = λ at n safe. safe;
    }
