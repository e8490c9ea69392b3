use Rattle.std.proofs.Common.{subst}
use Rattle.dav_script.specs.Serving.{first_shared}
use Rattle.dav_script.proofs.running.run_script.Goals as goal

pub returns-in-Ok-serve_all-clause-run : goal.returns-in-Ok-serve_all-clause-run
returns-in-Ok-serve_all-clause-run g c _ =
    let last = c.in-Ok-serve_all.ensures.0 in
    record {
      profile = c.in-Ok.read.1;
      script = c.in-Ok.read.2;
      read = c.in-Ok.ensures.given;
      last = last;
      done = subst (λ prefix. g.S.Script.is_done c.in-Ok.read.2 (first_shared c.in-Ok.read.1 prefix) last) c.in-Ok.ensures.prefix c.in-Ok-serve_all.ensures.1;
    }
