use Rattle.std.proofs.Common.{◌∙◌, ap}
use Rattle.std.specs.Hash.DefaultHasher.{write}
use Rattle.dav_data.proofs.Hashing.{write-append}
use Rattle.dav_data.proofs.hash.go_on.Goals as goal

pub returns : goal.returns
returns c = λ key before is. c.after.ensures ∙ ap (λ s. write s c.args.bytes.now) is ∙ write-append _ before c.args.bytes.now
