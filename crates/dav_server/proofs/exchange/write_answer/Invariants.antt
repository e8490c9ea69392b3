use Rattle.std.proofs.Common.{take, length}
use Rattle.std.specs.Io.KnownBytes.{Appends}
use Rattle.dav_server.proofs.Streams.{part_of_answer}
use Rattle.dav_server.proofs.exchange.write_answer.Given as goal

abbrev pub invariant-loop-reply : goal.invariant-loop-reply
invariant-loop-reply g l =
    Appends (g.W.Write.contents l.fn.output) (g.W.Write.contents l.output)
    (part_of_answer l.answer.number l.answer.status (length l.answer.replies.items) (take l.reply-index l.answer.replies.items))
