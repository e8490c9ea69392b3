use Rattle.dav_wire.specs.Views.{lock_frame_of}
use Rattle.dav_wire.proofs.PartWrites.{lock_written}
use Rattle.dav_wire.proofs.writer.Writer.write_lock.Goals as goal

pub returns : goal.returns
returns c =
    lock_written (lock_frame_of c.args.held.now) c.args.self.now c.write_str.new.self c.write_str-2.new.self c.write_optional_str.new.self
    c.write_flag.new.self c.write_flag-2.new.self c.write_optional_number.new.self c.write_optional_number.result
    c.in_ok-write_str.ensures (rw c.deref.ensures at c.in_ok-write_str-2.ensures) c.in_ok-write_optional_str.ensures c.in_ok-write_flag.ensures c.in_ok-write_flag-2.ensures
    c.write_optional_number.ensures
