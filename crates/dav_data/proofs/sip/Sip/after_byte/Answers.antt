use Rattle.std.proofs.Common.{◌%◌, refl, ap}
use Rattle.std.proofs.lemmas.Bool.{eq-eqb, ne_eqb}
use Rattle.std.specs.Hash.DefaultHasher.{write_byte, wrapping_add}
use Rattle.dav_data.proofs.SipWords.{with_tail}
use Rattle.dav_data.proofs.sip.Sip.after_byte.Goals as goal

pub returns-then-length-eq0 : goal.returns-then-length-eq0
unfolding write_byte
returns-then-length-eq0 c =
    rw (eq-eqb (wrapping_add c.args.self.length 1 % 8) 0 c.if-length-eq0.true) (ap (λ s. with_tail s 0 s.length) c.after_word.ensures)

pub returns-else-length-eq0 : goal.returns-else-length-eq0
unfolding write_byte
returns-else-length-eq0 c = rw (ne_eqb (wrapping_add c.args.self.length 1 % 8) 0 c.if-length-eq0.false) refl
