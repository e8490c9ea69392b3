use Rattle.disk_readonly.proofs.Whole.{holds-whole}
use Rattle.disk_readonly.proofs.read_only.ReadOnlyDisk.read_at.Goals as goal

pub returns-clause-read : goal.returns-clause-read
returns-clause-read g c = holds-whole c.read_at.result _ _ c.args.self.now.len c.args.at _ _ _ c.read_at.ensures.clean c.args.self.now.long c.read_at.ensures.read
