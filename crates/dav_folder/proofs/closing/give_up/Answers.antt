use Rattle.std.proofs.Common.{inl, inr, sym, subst}
use Rattle.std.specs.Coded.{coded_list}
use Rattle.sqlite.specs.Files.{file_state}
use Rattle.sqlite.specs.State.{HasCleanDisk}
use Rattle.sqlite_store.specs.FileStore.{view}
use Rattle.sqlite_trees.specs.View.{IsClean}
use Rattle.dav_data.specs.Claimed.{bytes_in, is_safe}
use Rattle.dav_keep.specs.Keeping.{connection_of}
use Rattle.dav_pieces.specs.Pieces.{piece_code}
use Rattle.dav_rows_files.specs.Starting.{LeavesDatabases}
use Rattle.dav_tree.specs.Before.{HasSaved}
use Rattle.dav_tree.specs.TreeFs.{before_of, older_of}
use Rattle.dav_folder.specs.Files.{kept_at}
use Rattle.dav_folder.specs.Folders.{keeping_of, batch_of}
use Rattle.dav_folder.proofs.Leaving.{left_by, leave, leave_either, leave_first, leave_second}
use Rattle.dav_folder.proofs.closing.give_up.Goals as goal

pub returns-clause-alone : goal.returns-clause-alone
returns-clause-alone g c = λ snapshot lasts.
    let files = c.into_files-files.result in
    let is = c.into_connection.ensures in
    leave c.into_medium-data.result c.safe_end.result c.safe_end.ensures.below c.safe_end.ensures.small files (file_state (connection_of (keeping_of c.args.folder)))
    (subst (λ conn. IsClean (view files) → HasCleanDisk (file_state conn)) is c.into_files-files.ensures.clean)
    (subst (λ conn. LeavesDatabases (file_state conn) files) is c.into_files-files.ensures.left)
    (left_by c.into_medium-data.result c.safe_end.result c.show_right.ensures.bytes c.safe_end.ensures.left c.show_right.ensures.left)
    (before_of c.args.store) snapshot lasts.image c.into_medium-data.ensures.last lasts.at lasts.left

pub returns-clause-either : goal.returns-clause-either
returns-clause-either g c = λ one other lasts same.
    let files = c.into_files-files.result in
    let is = c.into_connection.ensures in
    let medium = c.into_medium-data.result in
    elim lasts [
      | inl alone ↦ leave_first files medium (batch_of c.args.folder) (kept_at one) (kept_at other) alone.number (returns-clause-alone g c one alone)
      | inr (inl alone) ↦ leave_second files medium (batch_of c.args.folder) (kept_at one) (kept_at other) alone.number (returns-clause-alone g c other alone)
      | inr (inr between) ↦
          leave_either medium c.safe_end.result c.safe_end.ensures.below c.safe_end.ensures.small files (file_state (connection_of (keeping_of c.args.folder)))
          (subst (λ conn. IsClean (view files) → HasCleanDisk (file_state conn)) is c.into_files-files.ensures.clean)
          (subst (λ conn. LeavesDatabases (file_state conn) files) is c.into_files-files.ensures.left)
          (left_by c.into_medium-data.result c.safe_end.result c.show_right.ensures.bytes c.safe_end.ensures.left c.show_right.ensures.left)
          (older_of other.store) (before_of c.args.store) one other between.first between.second (batch_of c.args.folder) between.number between.rises
          (subst (λ store. HasSaved (coded_list piece_code) (bytes_in medium) (is_safe medium) (older_of store)) (sym same) c.into_medium-data.ensures.older)
          c.into_medium-data.ensures.last between.at_first between.at_second between.left
    ]

pub returns-clause-clean : goal.returns-clause-clean
returns-clause-clean g c =
    let files = c.into_files-files.result in
    subst (λ conn. IsClean (view files) → HasCleanDisk (file_state conn)) c.into_connection.ensures c.into_files-files.ensures.clean
