use Rattle.std.proofs.Common.{string_bytes}
use Rattle.dav_key.proofs.FlatLemmas.{Pushes-append}
use Rattle.dav_key.proofs.builder.KeyBuilder.push.Goals as goal

pub invariant_of-self : goal.invariant_of-self
invariant_of-self c =
    (Pushes-append (string_bytes c.self.inside.text) (string_bytes c.append_segment.new.text) c.args.segment.now c.append_segment.result c.self.invariant c.requires c.append_segment.ensures.ok c.append_segment.ensures.err).is_flat

pub returns-clause-ok : goal.returns-clause-ok
returns-clause-ok c =
    rw (← c.self.view_is) (Pushes-append (string_bytes c.self.inside.text) (string_bytes c.append_segment.new.text) c.args.segment.now c.append_segment.result c.self.invariant c.requires c.append_segment.ensures.ok c.append_segment.ensures.err).ok
