use Rattle.std.proofs.Common.{◌∙◌, ◌++◌, take, drop, ap}
use Rattle.dav_data.proofs.Reading.{part-read}
use Rattle.dav_data.proofs.data_file.DataFile.read_piece.Goals as goal

pub returns-in_ok-extend_from_slice-in-Part-clause-ok : goal.returns-in_ok-extend_from_slice-in-Part-clause-ok
returns-in_ok-extend_from_slice-in-Part-clause-ok g c =
    let read = c.in_ok-bytes-in-Part.ensures in
    part-read _ _ _ c.in-Part.block c.in-Part.from c.in-Part.len _ _ c.in_ok-bytes-in-Part.bytes.items c.in-Part.is c.requires
    (c.in_ok-extend_from_slice-in-Part.ensures.items ∙ ap (λ bs. c.args.found.now.items ++ bs) (c.part.ensures ∙ ap (λ b. take c.in-Part.len (drop c.in-Part.from b)) c.deref.ensures.value))
    read.size read.right read.bytes
