use Rattle.dav_tree.proofs.Patching.{taken-back}
use Rattle.dav_tree.proofs.properties.Properties.add_to.Goals as goal

pub returns-in-Err-clause-err : goal.returns-in-Err-clause-err
returns-in-Err-clause-err c = taken-back c.args.self.now c.args.others.now c.put_into.new.others c.take_out_of.new.others c.requires c.put_into.ensures.rest c.take_out_of.ensures
