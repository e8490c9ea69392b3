use Rattle.std.proofs.Common.{◌∙◌, ap}
use Rattle.dav_data.specs.Data.{body_bytes}
use Rattle.dav_data.proofs.Bodies.{body-bytes}
use Rattle.dav_data.proofs.Keeping.{keeps-bodies, if-err}
use Rattle.dav_data.proofs.medium.DataFileMedium.write.Goals as goal

pub returns-clause-same : goal.returns-clause-same
returns-clause-same g c =
    if-err c.write_at.result (λ is. ap (body_bytes c.write_at.new.self) is ∙ body-bytes _ _ _ c.write_at.ensures.kept.blocks.same c.args.body.now c.requires.held) c.write_at.ensures.same

pub returns-clause-kept : goal.returns-clause-kept
returns-clause-kept g c = keeps-bodies _ _ c.write_at.ensures.kept
