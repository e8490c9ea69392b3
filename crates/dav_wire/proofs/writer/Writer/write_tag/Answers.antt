use Rattle.dav_wire.proofs.TreeWrites.{tag_written}
use Rattle.dav_wire.proofs.writer.Writer.write_tag.Goals as goal

pub returns : goal.returns
returns c =
    tag_written c.args.element.now.tag c.args.self.now c.write_str.new.self c.write_optional_str.new.self c.write_optional_str-2.new.self c.write_attributes.new.self c.write_attributes.result
    (rw c.name.ensures at c.in_ok-write_str.ensures)
    (rw c.prefix.ensures at c.in_ok-write_optional_str.ensures)
    (rw c.namespace.ensures at c.in_ok-write_optional_str-2.ensures)
    (rw c.attributes.ensures at c.write_attributes.ensures)
