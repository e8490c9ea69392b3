use Rattle.std.proofs.Common.{arith}
use Rattle.sqlite.specs.State.{HasCleanDisk}
use Rattle.sqlite.specs.Files.{file_state}
use Rattle.dav_rows.specs.Changes.{after}
use Rattle.dav_rows_files.proofs.StartLemmas.{next_either, kept_next}
use Rattle.dav_rows_files.proofs.stopping.save_to_the_end.Goals as goal

pub returns-clause-next : goal.returns-clause-next
returns-clause-next g c clean m at left may =
    let quiet = c.into_store.ensures.quiet in
    let early : HasCleanDisk (file_state c.save-saved.new.conn) = omega (arith, quiet.clean) in
    next_either c.into_store.result m (after c.args.changes.now m) (c.into_store.ensures.numbered clean) (λ db may. c.save-saved.ensures.crash early m at db (quiet.outcomes db may)) left may

pub returns-clause-durable : goal.returns-clause-durable
returns-clause-durable g c =
    let quiet = c.into_store.ensures.quiet in
    let new = file_state c.save-saved.new.conn in
    kept_next (file_state c.args.conn) new c.into_store.result (after c.args.changes.now) c.save-saved.result c.into_store.ensures.numbered
    (λ clean. let early : HasCleanDisk new = omega (arith, quiet.clean) in c.save-saved.ensures.durable early) quiet.outcomes
