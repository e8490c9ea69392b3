use Rattle.std.proofs.Common.{◌∙◌, ap}
use Rattle.std.specs.Hash.DefaultHasher.{finish, round}
use Rattle.dav_data.proofs.SipWords.{flipped, joined}
use Rattle.dav_data.proofs.sip.Sip.finish.Goals as goal

pub returns : goal.returns
unfolding finish
returns c =
    ap joined (c.round-state.ensures ∙ ap round (c.round-2.ensures ∙ ap round (c.round.ensures ∙ ap (λ t. round (flipped t)) c.after_word-state.ensures)))
