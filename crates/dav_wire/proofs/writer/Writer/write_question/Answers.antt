use Rattle.dav_wire.specs.Views.{explain_frame_of}
use Rattle.dav_wire.proofs.PartWrites.{question_written}
use Rattle.dav_wire.proofs.writer.Writer.write_question.Goals as goal

pub returns : goal.returns
returns c =
    question_written (explain_frame_of c.args.question.now) c.args.self.now c.write_optional_str.new.self c.write_str.new.self c.write_str.result
    c.in_ok-write_optional_str.ensures c.write_str.ensures
