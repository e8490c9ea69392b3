use Rattle.dav_wire.specs.Views.{explained_frame_of}
use Rattle.dav_wire.proofs.PartWrites.{explained_written}
use Rattle.dav_wire.proofs.writer.Writer.write_explained.Goals as goal

pub returns : goal.returns
returns c =
    explained_written (explained_frame_of c.args.allowed.now) c.args.self.now c.write_optional_number.new.self c.write_flag.new.self
    c.write_flag-2.new.self c.write_flag-3.new.self c.write_flag-3.result
    c.in_ok-write_optional_number.ensures c.in_ok-write_flag.ensures c.in_ok-write_flag-2.ensures c.write_flag-3.ensures
