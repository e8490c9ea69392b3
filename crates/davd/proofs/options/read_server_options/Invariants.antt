use Rattle.std.proofs.Common.{◌≡◌, length}
use Rattle.dav_resource.specs.Texts.{texts}
use Rattle.davd.specs.Options.{server_options_of, value_of, with_arguments}
use Rattle.davd.proofs.options.read_server_options.Given as goal

abbrev pub invariant-loop-rest : goal.invariant-loop-rest
invariant-loop-rest l = with_arguments (texts l.rest) (value_of l.options) ≡ server_options_of (texts l.fn.arguments)

abbrev pub decreases-loop-rest : goal.decreases-loop-rest
decreases-loop-rest l = length l.rest
