use Rattle.std.proofs.Common.{◌≡◌, ◌∙◌, ap, rules}
use Rattle.std.specs.Hash.DefaultHasher.{finish}
use Rattle.sqlite_disk.specs.Digest.{digest}
use Rattle.dav_data.specs.Digests.{hashed}
use Rattle.dav_data.proofs.hash.digest.Goals as goal

pub returns : goal.returns
unfolding digest
returns c = λ key bytes is. let at : c.finish.result ≡ finish (hashed key bytes) = c.finish.ensures ∙ ap finish is in search rules
