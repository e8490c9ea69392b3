use Rattle.dav_wire.specs.Views.{read_frame_of}
use Rattle.dav_wire.proofs.PartWrites.{read_written}
use Rattle.dav_wire.proofs.writer.Writer.write_read.Goals as goal

pub returns : goal.returns
returns c =
    read_written (read_frame_of c.args.part.now) c.args.self.now c.write_optional_str.new.self c.write_str.new.self
    c.write_number.new.self c.write_number-2.new.self c.write_optional_str-2.new.self c.write_optional_str-2.result
    c.in_ok-write_optional_str.ensures c.in_ok-write_str.ensures c.in_ok-write_number.ensures c.in_ok-write_number-2.ensures
    c.write_optional_str-2.ensures
