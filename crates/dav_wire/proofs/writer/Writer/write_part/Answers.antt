use Rattle.dav_wire.specs.Views.{file_part_of}
use Rattle.dav_wire.proofs.PartWrites.{part_written}
use Rattle.dav_wire.proofs.writer.Writer.write_part.Goals as goal

pub returns : goal.returns
returns c =
    part_written (file_part_of c.args.file.now) c.args.self.now c.write_number.new.self c.write_optional_number.new.self
    c.write_optional_str.new.self c.write_str.new.self c.write_bytes.new.self c.write_bytes.result
    c.in_ok-write_number.ensures c.in_ok-write_optional_number.ensures c.in_ok-write_optional_str.ensures
    c.in_ok-write_str.ensures c.write_bytes.ensures
