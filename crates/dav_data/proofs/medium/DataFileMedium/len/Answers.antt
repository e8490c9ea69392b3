use Rattle.std.proofs.Common.{◌∙◌, sym}
use Rattle.dav_pieces.proofs.PieceLaws.{length-bytes_of}
use Rattle.dav_data.specs.Data.{data_of}
use Rattle.dav_data.proofs.medium.DataFileMedium.len.Goals as goal

pub returns : goal.returns
returns g c = c.len.ensures ∙ sym (length-bytes_of (data_of c.args.self.now) c.args.body.now)
