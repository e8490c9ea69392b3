use Rattle.dav_folder.proofs.Utf8Tables.{holds_utf8}
use Rattle.dav_folder.proofs.laws.show_utf8.Goals as goal

pub returns : goal.returns
returns g c = holds_utf8 g.C.Claim
