use Rattle.std.specs.Hash.DefaultHasher.{round}
use Rattle.dav_data.proofs.sip.Sip.round.Goals as goal

pub returns : goal.returns
unfolding round
returns c = simp (c.rotate_left-6.ensures, c.rotate_left-5.ensures, c.rotate_left-4.ensures, c.rotate_left-3.ensures, c.rotate_left-2.ensures, c.rotate_left.ensures)
