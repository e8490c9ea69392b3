use Rattle.davd.proofs.FreshFiles.{fresh_seen, fresh_image}
use Rattle.davd.proofs.Leaves.{on_ok}
use Rattle.davd.proofs.Reading.{checks}
use Rattle.davd.proofs.checking.check_pairs.Goals as goal

pub returns-clause-whole : goal.returns-clause-whole
returns-clause-whole g c =
    let files = c.in-Ok.files in let fresh = c.in-Ok.ensures.fresh in
    on_ok c.check_files-checked.result c.check_files-checked.ensures.whole
    (checks _ _ _ _ _ _ _ _ _ (fresh_image files.log files.db fresh.0 fresh.1) (fresh_seen c.in_ok-data.data.db c.in_ok-data.ensures.fresh.1) _ _)
