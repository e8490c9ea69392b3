use Rattle.std.proofs.Common.{refl}
use Rattle.std.specs.Hash.DefaultHasher.{initial}
use Rattle.dav_data.proofs.sip.Sip.new.Goals as goal

pub returns : goal.returns
unfolding initial
returns c = refl
