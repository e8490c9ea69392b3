use Rattle.dav_wire.specs.Views.{modified_frame_of}
use Rattle.dav_wire.proofs.PartWrites.{modified_written}
use Rattle.dav_wire.proofs.writer.Writer.write_modified.Goals as goal

pub returns : goal.returns
returns c =
    modified_written (modified_frame_of c.args.asked.now) c.args.self.now c.write_str.new.self c.write_number.new.self c.write_number.result
    c.in_ok-write_str.ensures c.write_number.ensures
