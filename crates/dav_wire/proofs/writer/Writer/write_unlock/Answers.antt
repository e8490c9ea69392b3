use Rattle.dav_wire.specs.Views.{unlock_frame_of}
use Rattle.dav_wire.proofs.PartWrites.{unlock_written}
use Rattle.dav_wire.proofs.writer.Writer.write_unlock.Goals as goal

pub returns : goal.returns
returns c =
    unlock_written (unlock_frame_of c.args.asked.now) c.args.self.now c.write_str.new.self c.write_str-2.new.self c.write_str-2.result
    c.in_ok-write_str.ensures c.write_str-2.ensures
