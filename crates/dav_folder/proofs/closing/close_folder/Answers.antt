use Rattle.std.proofs.Common.{subst}
use Rattle.sqlite.specs.Files.{file_state}
use Rattle.sqlite.specs.State.{HasCleanDisk}
use Rattle.sqlite_store.specs.FileStore.{view}
use Rattle.sqlite_trees.specs.View.{IsClean}
use Rattle.dav_keep.specs.Keeping.{connection_of}
use Rattle.dav_rows_files.specs.Starting.{LeavesDatabases, LeavesWhole}
use Rattle.dav_tree.specs.TreeFs.{before_of}
use Rattle.dav_folder.specs.Folders.{keeping_of}
use Rattle.dav_folder.proofs.Leaving.{left_by, leave, leave_whole}
use Rattle.dav_folder.proofs.closing.close_folder.Goals as goal

pub returns-clause-clean : goal.returns-clause-clean
returns-clause-clean g c =
    let files = c.close-copied.result.1 in
    subst (λ conn. IsClean (view files) → HasCleanDisk (file_state conn)) c.into_connection.ensures c.close-copied.ensures.clean

pub returns-clause-whole : goal.returns-clause-whole
returns-clause-whole g c = λ copied snapshot lasts.
    let files = c.close-copied.result.1 in
    let is = c.into_connection.ensures in
    leave_whole c.into_medium-data.result c.safe_end.result c.safe_end.ensures.below c.safe_end.ensures.small files (file_state (connection_of (keeping_of c.args.folder)))
    (returns-clause-clean g c) (subst (λ conn. LeavesWhole (file_state conn) files) is (c.close-copied.ensures.whole copied))
    (left_by c.into_medium-data.result c.safe_end.result c.show_right.ensures.bytes c.safe_end.ensures.left c.show_right.ensures.left)
    (before_of c.args.store) snapshot lasts.image c.into_medium-data.ensures.last lasts.at lasts.left

pub returns-clause-alone : goal.returns-clause-alone
returns-clause-alone g c = λ numbered snapshot lasts.
    let files = c.close-copied.result.1 in
    let is = c.into_connection.ensures in
    leave c.into_medium-data.result c.safe_end.result c.safe_end.ensures.below c.safe_end.ensures.small files (file_state (connection_of (keeping_of c.args.folder)))
    (returns-clause-clean g c) (subst (λ conn. LeavesDatabases (file_state conn) files) is (c.close-copied.ensures.left numbered))
    (left_by c.into_medium-data.result c.safe_end.result c.show_right.ensures.bytes c.safe_end.ensures.left c.show_right.ensures.left)
    (before_of c.args.store) snapshot lasts.image c.into_medium-data.ensures.last lasts.at lasts.left
