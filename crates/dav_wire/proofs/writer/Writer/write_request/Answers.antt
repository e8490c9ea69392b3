use Rattle.dav_wire.specs.Views.{request_frame_of}
use Rattle.dav_wire.proofs.PartWrites.{request_written}
use Rattle.dav_wire.proofs.writer.Writer.write_request.Goals as goal

pub returns : goal.returns
returns c =
    request_written (request_frame_of c.args.sent.now) c.args.self.now c.write_bytes.new.self c.write_str.new.self
    c.write_optional_str.new.self c.write_str-2.new.self c.write_fields.new.self c.write_body.new.self c.write_body.result
    c.in_ok-write_bytes.ensures c.in_ok-write_str.ensures c.in_ok-write_optional_str.ensures c.in_ok-write_str-2.ensures
    (rw c.deref.ensures.value at c.in_ok-write_fields.ensures) c.write_body.ensures
