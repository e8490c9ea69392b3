use Rattle.std.proofs.Common.{arith}
use Rattle.std.proofs.Math.Logic.{∥∥₁_map}
use Rattle.sqlite_trees.specs.Tree.{Trees}
use Rattle.sqlite.specs.Files.{HoldsDatabase, file_state}
use Rattle.sqlite.proofs.Theorems.{opens_again}
use Rattle.dav_rows_files.proofs.stopping.into_files.Goals as goal

pub returns-clause-clean : goal.returns-clause-clean
returns-clause-clean g c clean = omega (arith, c.into_store.ensures.quiet.clean)

pub returns-clause-left : goal.returns-clause-left
returns-clause-left g c clean left may =
    let closed = c.into_store.ensures in
    ∥∥₁_map (opens_again c.into_store.result (closed.numbered clean) (closed.sound clean) left may)
    (λ found. let r : (db : Trees) × HoldsDatabase left db × (file_state c.args.conn).may_leave db = (found.0, found.2, closed.quiet.outcomes found.0 found.1) in r)
