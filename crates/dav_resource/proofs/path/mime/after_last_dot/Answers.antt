use Rattle.dav_resource.proofs.MimeLemmas.{after_last_dot-any}
use Rattle.dav_resource.proofs.path.mime.after_last_dot.Goals as goal

pub loop-rest-init : goal.loop-rest-init
loop-rest-init c = after_last_dot-any c.args.name.now
