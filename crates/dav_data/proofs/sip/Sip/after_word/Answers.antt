use Rattle.std.proofs.Common.{ap}
use Rattle.std.specs.Hash.DefaultHasher.{write_word}
use Rattle.dav_data.proofs.SipWords.{mixed}
use Rattle.dav_data.proofs.sip.Sip.after_word.Goals as goal

pub returns : goal.returns
unfolding write_word
returns c = ap (λ t. mixed t c.args.word) c.round-state.ensures
