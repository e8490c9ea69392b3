use Rattle.std.proofs.Common.{subst}
use Rattle.dav_tree.specs.Patching.{ArePut}
use Rattle.dav_tree.proofs.PropertyMaps.{put-into-none}
use Rattle.dav_tree.proofs.properties.Properties.clone.Goals as goal

pub returns : goal.returns
returns c = put-into-none c.args.self.now c.put_into.new.others (subst (λ m. ArePut c.args.self.now m c.put_into.new.others) c.new-copy.ensures c.in_ok-put_into.ensures.ok)
