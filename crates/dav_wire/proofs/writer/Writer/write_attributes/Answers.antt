use Rattle.dav_wire.proofs.TreeWrites.{no_attributes}
use Rattle.dav_wire.proofs.writer.Writer.write_attributes.Goals as goal

pub returns-in-None : goal.returns-in-None
returns-in-None c = rw c.in-None.is (no_attributes c.args.self.now c.write_number.new.self c.write_number.result c.write_number.ensures)
