use Rattle.std.proofs.Common.{◌≡◌, ap, length, take, take_all, arith, rules}
use Rattle.dav_server.proofs.Streams.{header_sent, answer_is, writes_kept, part_of_answer}
use Rattle.dav_server.proofs.exchange.write_answer.Goals as goal

pub loop-reply-init : goal.loop-reply-init
loop-reply-init g c =
    let count : c.len.result ≡ length c.args.answer.now.replies.items = search rules in
    header_sent _ _ _ c.to_bytes.result c.args.answer.now.status (length c.args.answer.now.replies.items) c.to_bytes.ensures.is
    c.as_u16.ensures.value count c.in_ok-write_all.ensures.bytes

pub returns : goal.returns
returns g c =
    let all = c.args.answer.now.replies.items in
    let end : take c.loop-reply.reply-index all ≡ all =
    take_all c.loop-reply.reply-index all (omega (arith, ap length c.deref-reply-items.ensures.value)) in
    writes_kept _ _ _ _ (part_of_answer c.args.answer.now.number c.args.answer.now.status (length all) all) _ (rw end at c.loop-reply.invariant)
    c.flush.ensures.bytes (answer_is c.args.answer.now.number c.args.answer.now.status all)
