use Rattle.dav_engine.proofs.FieldText.{IsFieldValue-quoted}
use Rattle.dav_engine.proofs.put_reply.quoted.Goals as goal

pub header_value-requires : goal.header_value-requires
header_value-requires c = rw c.in_ok-text.ensures (IsFieldValue-quoted c.args.tag.now c.requires)
