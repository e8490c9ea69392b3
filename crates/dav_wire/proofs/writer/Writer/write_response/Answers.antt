use Rattle.dav_wire.specs.Views.{response_frame_of}
use Rattle.dav_wire.proofs.PartWrites.{response_written}
use Rattle.dav_wire.proofs.writer.Writer.write_response.Goals as goal

pub returns : goal.returns
returns c =
    response_written (response_frame_of c.args.frame.now) c.args.self.now c.write_number.new.self c.write_flag.new.self
    c.write_fields.new.self c.write_optional_element.new.self c.write_optional_element.result
    (rw c.from.ensures at c.in_ok-write_number.ensures) c.in_ok-write_flag.ensures
    (rw c.deref.ensures.value at c.in_ok-write_fields.ensures) c.write_optional_element.ensures
