use Rattle.std.proofs.Common.{refl}
use Rattle.std.specs.Hash.DefaultHasher.{read_word}
use Rattle.dav_data.proofs.sip.word_of.Goals as goal

pub returns-clause-value : goal.returns-clause-value
unfolding read_word
returns-clause-value c = refl
