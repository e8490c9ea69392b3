use Rattle.std.proofs.Common.{arith, sym, subst}
use Rattle.dav_blocks.specs.Settling.{KeepsFirst}
use Rattle.dav_blocks.proofs.Keeping.{cut-first, if-ok}
use Rattle.dav_blocks.proofs.settle.settle.Goals as goal

pub returns-clause-first : goal.returns-clause-first
returns-clause-first g c =
    let seen = g.D.Disk.seen in
    let long = c.if-len-end.false in
    let cut = c.set_len.ensures.others in
    let kept = cut-first c.args.end c.in_ok-len.len _ _ (omega arith) cut in
    let first : KeepsFirst c.args.end (seen c.args.disk.now) (seen c.sync.new.self) =
    subst (λ file. KeepsFirst c.args.end file (seen c.sync.new.self)) c.len.ensures.seen (subst (λ file. KeepsFirst c.args.end (seen c.len.new.self) file) (sym c.sync.ensures.seen) kept) in
    if-ok c.sync.result (λ _. first) c.sync.ensures.durable
