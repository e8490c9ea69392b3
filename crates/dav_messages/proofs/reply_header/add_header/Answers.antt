use Rattle.std.proofs.Common.{◌∙◌}
use Rattle.dav_messages.proofs.Headers.{insert-new}
use Rattle.dav_messages.proofs.reply_header.add_header.Goals as goal

pub returns-clause-ok : goal.returns-clause-ok
returns-clause-ok c =
    rw c.in-Some.is (c.in_ok-insert.ensures.ok ∙ insert-new c.args.headers.now c.args.name c.in-Some.value c.requires)
