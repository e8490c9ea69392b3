use Rattle.std.proofs.Common.{◌∙◌, sym}
use Rattle.dav_seal.proofs.StoreLemmas.{when_ok, state_put, seal_put}
use Rattle.dav_seal.proofs.seals.Seals.put_state_row.Goals as goal

pub returns-then-is_seal : goal.returns-then-is_seal
returns-then-is_seal c key m was = seal_put key m c.args.self.now was c.args.row.now (c.is_seal.ensures.0 c.if-is_seal.true)

pub returns : goal.returns
returns c key m was =
    when_ok c.put_row.result c.put_row.ensures.digest c.put_row.ensures.whole
    (state_put key m c.args.self.now was c.args.row.now (λ is. let no = sym c.if-is_seal.false ∙ c.is_seal.ensures.1 is in cc) c.put_row.new.seal)
