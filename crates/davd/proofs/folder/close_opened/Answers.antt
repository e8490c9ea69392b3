use Rattle.davd.proofs.Failing.{opened_holds}
use Rattle.davd.proofs.folder.close_opened.Goals as goal

pub returns : goal.returns
returns g c = λ left file limit finds. opened_holds c.args.opened c.give_up-files.result c.give_up-files.ensures.alone c.give_up-files.ensures.clean left file limit finds
