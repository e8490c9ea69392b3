-- The entity tags of a run of the program: each begins with the part that the caller has drawn for the start.
use Rattle.std.proofs.Common.{◌≡◌, ℕ, List, Option, ap, map}
use Rattle.dav_store.specs.Logged.{logged_of}
use Rattle.dav_tree.specs.Lawful.{are_tagged}
use Rattle.dav_tree.specs.Memory.{Memory, tag_start}
use Rattle.dav_tree.specs.TreeFs.{memory_of, store_of}
use Rattle.dav_tree.specs.declared.medium.Medium.{Ghosts}
use Rattle.dav_tree.specs.declared.tree_fs.TreeFs.{TreeFs}
use Rattle.dav_data.specs.declared.claim.Claim as claim
use Rattle.dav_data.specs.declared.claimed_file.ClaimedFile.{ClaimedFile}
use Rattle.dav_folder.specs.Lasting.{At}
use Rattle.dav_pieces.specs.declared.piece.Piece.{Piece}
use Rattle.dav_server.specs.TagLaws.{IsTagged}
use Rattle.sqlite.specs.Recovery as database
use Rattle.sqlite_disk.specs.declared.Disk as disk
use Rattle.sqlite_store.specs.declared.store.FileStore.{FileStore}
use Rattle.davd.specs.Leaving.{BeginsWith}
use Rattle.davd.specs.Program.{ServesInMemory}
use Rattle.davd.specs.declared.folder.StartOptions.{StartOptions}
use Rattle.dav_server.specs.State.{Rules}

-- a store with this part of its tags
tagged_by : {M B : Type 0} {g : Ghosts M B} (store : TreeFs M B g) (part : Option ℕ) → (memory_of store).tag_part ≡ part → IsTagged (tag_start part) (store_of store)
tagged_by store part is = record { begins = ap tag_start is; tagged = are_tagged (memory_of store) (map logged_of store.log.items) }

-- The store that a run over a folder begins with has tags that begin with the part of its start.
pub begins_tagged : {D E C : Type 0} {d : disk.Ghosts D} {e : disk.Ghosts E} {c : claim.Ghosts C} (left : database.Image) (file : List ℕ)
    (files : FileStore D d × ClaimedFile E C e c)
    (start : StartOptions) {g : Ghosts (ClaimedFile E C e c) (List Piece)} (first : At g) → BeginsWith left file files start first
    → IsTagged (tag_start start.tag_part) (store_of first.store)
begins_tagged left file files start first begins = tagged_by first.store start.tag_part begins.tags

-- So has the store of a run in memory.
pub serves_tagged : {M B : Type 0} {medium : Ghosts M B} (rules : Rules) (quota tag_part : Option ℕ) (input input' output output' : Option (List ℕ))
    (serves : ServesInMemory medium rules quota tag_part input input' output output') → IsTagged (tag_start tag_part) (store_of serves.store)
serves_tagged rules quota tag_part input input' output output' serves =
    tagged_by serves.store tag_part (ap (λ (m : Memory). m.tag_part) serves.empty)
