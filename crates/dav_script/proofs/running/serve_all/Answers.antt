use Rattle.std.proofs.Common.{subst}
use Rattle.dav_script.specs.Serving.{shared_by}
use Rattle.dav_script.proofs.running.serve_all.Goals as goal

pub returns : goal.returns
returns g c =
    let last = shared_by c.serve.new.session in
    (last, subst (λ first. g.S.Script.is_done c.args.script first last) c.in_ok-session.ensures c.in_ok-serve.ensures)
