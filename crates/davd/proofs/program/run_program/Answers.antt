use Rattle.std.proofs.Common.{sym, ◌∙◌}
use Rattle.sqlite.specs.WalFiles.{image_at}
use Rattle.davd.proofs.Kept.{some_same, serves_folder, stops_in_folder}
use Rattle.davd.specs.Options.{value_of}
use Rattle.davd.proofs.program.run_program.Goals as goal

pub returns-in_ok-served-in-Some-2-clause-kept : goal.returns-in_ok-served-in-Some-2-clause-kept
returns-in_ok-served-in-Some-2-clause-kept g c = λ options say.
    let read = value_of c.in_ok-server.field-0 in
    let served = c.in_ok-served-in-Some-2 in
    serves_folder _ (image_at g.R.Start) g.T.Start.db read options (some_same read options (sym c.in_ok-server.ensures.ok ∙ say.0)) served.served.1 served.served.0
    (image_at g.N.Start) served.served.2 _ _ _ _ served.ensures.served

pub returns-in_ok-served-in-Some-2-clause-stopped : goal.returns-in_ok-served-in-Some-2-clause-stopped
returns-in_ok-served-in-Some-2-clause-stopped g c = λ options say.
    let read = value_of c.in_ok-server.field-0 in
    let served = c.in_ok-served-in-Some-2 in
    stops_in_folder _ (image_at g.R.Start) g.T.Start.db read options (some_same read options (sym c.in_ok-server.ensures.ok ∙ say.0)) served.served.1 served.served.0
    (image_at g.N.Start) served.served.2 _ _ _ _ _ served.ensures.stopped
