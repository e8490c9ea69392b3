use Rattle.dav_blocks.proofs.Keeping.{if-ok}
use Rattle.dav_data.proofs.Bodies.{body-kept, body-bytes}
use Rattle.dav_data.proofs.data_file.DataFile.sync.Goals as goal

pub returns-clause-synced : goal.returns-clause-synced
returns-clause-synced g c = if-ok c.sync.result (λ safe body held. body-kept _ _ safe body held) c.sync.ensures.safe

pub returns-clause-held : goal.returns-clause-held
returns-clause-held g c = λ body held. body-kept _ _ c.sync.ensures.kept.used body held

pub returns-clause-same : goal.returns-clause-same
returns-clause-same g c = λ body held. body-bytes _ _ _ c.sync.ensures.kept.same body held

pub returns-clause-safe : goal.returns-clause-safe
returns-clause-safe g c = λ body synced. body-kept _ _ c.sync.ensures.kept.safe body synced
