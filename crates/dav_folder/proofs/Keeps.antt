-- What a call of the keeper comes to for a server.
use Rattle.std.proofs.Common.{◌≡◌, ◌≤◌, ◌∙◌, arith, inl, inr, ℕ, Bool, true, false, cond, List, map, refl, sym, ap, ap₂, subst}
use base.Stored.{Gv}
use Rattle.sqlite.specs.State.{HasCleanDisk}
use Rattle.sqlite_trees.specs.View.{doubt}
use Rattle.sqlite_trees.specs.declared.store.Store as store
use Rattle.dav_cells.specs.Locks.{kept_lock}
use Rattle.dav_data.specs.declared.claim.Claim as claim
use Rattle.dav_keep.proofs.Committing.{leaves_known}
use Rattle.dav_keep.proofs.Images.{Settles}
use Rattle.dav_keep.specs.Images.{Image}
use Rattle.dav_keep.specs.Keeping.{database, IsKept, KeepsNow, Stops}
use Rattle.dav_keep.specs.declared.keeping.Keeping.{Keeping}
use Rattle.dav_memls.specs.declared.memory_locks.MemLs.{MemLs}
use Rattle.dav_pieces.specs.declared.piece.Piece.{Piece}
use Rattle.dav_server.specs.Snapshots.{snapshot_at, KeepsOne}
use Rattle.dav_tree.specs.Before.{saved_code, IsSaved}
use Rattle.dav_tree.specs.Codes.{resources_code}
use Rattle.dav_tree.specs.Memory.{Memory, Resources, IsSound}
use Rattle.dav_tree.specs.TreeFs.{memory_of, before_of, entries_of}
use Rattle.dav_tree.specs.declared.medium.Medium.{Ghosts}
use Rattle.dav_tree.specs.declared.tree_fs.TreeFs.{TreeFs}
use Rattle.dav_folder.specs.Folders.{keeping_of, batch_of}
use Rattle.dav_folder.specs.Lasting.{At, IsImageAt, Lasts, LastsEither, IsSameKept}
use Rattle.dav_folder.specs.declared.folder.Folder.{Folder}

same_tail : (a b c d : Gv) → base.Stored.gcons a b ≡ base.Stored.gcons c d → b ≡ d
same_tail a b c d same = cc

same_resources : (a b : Gv) (q r : Resources) → saved_code a q ≡ saved_code b r → q ≡ r
same_resources a b q r same = resources_code.inj q r (same_tail a (resources_code.code q) b (resources_code.code r) same)

-- a disk that is clean was clean before
pub was_clean : {S : Type 0} {rows : store.Ghosts S} (old new : Keeping S rows) → doubt (database old).is_clean ≤ doubt (database new).is_clean
    → HasCleanDisk (database new) → HasCleanDisk (database old)
was_clean old new doubts clean = omega arith

module _ {C : Type 0} (c : claim.Ghosts C) {S M : Type 0} {rows : store.Ghosts S} {g : Ghosts M (List Piece)} (old new : Folder S rows) (first mid : TreeFs M (List Piece) g)
    (locks : MemLs) (now batch : ℕ) (before : At g) (lasts : Lasts c old (before_of first) before) where
  -- the image is saved under another value, which is the same
  abbrev resaved : (saved : Gv) → saved ≡ before_of first → IsImageAt c saved before lasts.image
  resaved saved same = record { is = lasts.at.is; time = lasts.at.time; batch = lasts.at.batch; keyed = lasts.at.keyed; sound = lasts.at.sound; resources = lasts.at.resources; saved_is = lasts.at.saved_is ∙ sym same }

  module _ (settles : Settles rows) (saved : IsSaved mid.entries) where
    -- something has changed, and then the medium may have been swept
    keeps_next : IsSound (memory_of mid).resources → (last : TreeFs M (List Piece) g) → KeepsNow true lasts.image (keeping_of new) mid locks now batch → memory_of last ≡ memory_of mid → entries_of last ≡ entries_of mid
        → batch_of new ≡ batch → KeepsOne (Lasts c) IsSameKept new (before_of last) before (snapshot_at last locks now batch)
    keeps_next resources last keeps memory entries number =
        let same : before_of last ≡ before_of mid = ap (λ (m : Memory). m.held.before) memory in
        inl (record {
          image = keeps.image;
          at = record {
            is = record { tree = keeps.is.tree ∙ sym entries; locks_are = keeps.is.locks_are; counter = keeps.is.counter ∙ sym (ap (λ (m : Memory). m.version) memory) };
            time = keeps.since.time;
            batch = keeps.since.batch_is;
            keyed = λ holds. keeps.since.key ∙ lasts.at.keyed holds;
            sound = keeps.kept.sound;
            resources = subst (λ (m : Memory). IsSound m.resources) (sym memory) resources;
            saved_is = ap₂ saved_code entries (ap (λ (m : Memory). m.resources) memory) ∙ saved ∙ sym same;
          };
          kept = subst (λ b. IsKept g.body_code (keeping_of new) b keeps.image) (sym same) keeps.kept;
          left = leaves_known settles (keeping_of new) (keeping_of new) keeps.image refl keeps.kept.known;
          number = number;
        })

    -- nothing has changed, and then the medium may have been swept
    keeps_same : (last : TreeFs M (List Piece) g) → KeepsNow false lasts.image (keeping_of new) mid locks now batch → before_of mid ≡ before_of first → memory_of last ≡ memory_of mid
        → batch_of new ≡ batch_of old → KeepsOne (Lasts c) IsSameKept new (before_of last) before (snapshot_at last locks now batch)
    keeps_same last keeps unchanged memory number =
        let same : before_of last ≡ before_of mid = ap (λ (m : Memory). m.held.before) memory in
        let kept = subst (IsKept g.body_code (keeping_of new) (before_of mid)) keeps.since keeps.kept in
        inr (
          record {
            image = lasts.image;
            at = resaved (before_of last) (same ∙ unchanged);
            kept = subst (λ b. IsKept g.body_code (keeping_of new) b lasts.image) (sym same) kept;
            left = leaves_known settles (keeping_of new) (keeping_of new) lasts.image refl kept.known;
            number = number ∙ lasts.number;
          },
          record {
            resources =
                ap (λ (m : Memory). m.resources) memory
                ∙ same_resources (entries_of mid) (entries_of before.store) (memory_of mid).resources (memory_of before.store).resources (saved ∙ unchanged ∙ sym lasts.at.saved_is);
            counter = ap (λ (m : Memory). m.version) memory ∙ sym keeps.is.counter ∙ ap (λ (i : Image). i.numbers.counter) keeps.since ∙ lasts.at.is.counter;
            locks_are = sym lasts.at.is.locks_are ∙ sym (ap (λ (i : Image). map kept_lock i.locks) keeps.since) ∙ keeps.is.locks_are;
          },
        )

    -- something has changed or not, and then the medium may have been swept
    pub keeps_one : (changed : Bool) → IsSound (memory_of mid).resources → (last : TreeFs M (List Piece) g) → KeepsNow changed lasts.image (keeping_of new) mid locks now batch
        → (changed ≡ false → before_of mid ≡ before_of first) → memory_of last ≡ memory_of mid → entries_of last ≡ entries_of mid
        → batch_of new ≡ cond changed batch (batch_of old) → KeepsOne (Lasts c) IsSameKept new (before_of last) before (snapshot_at last locks now batch)
    keeps_one true resources last keeps unchanged memory entries number = keeps_next resources last keeps memory entries number
    keeps_one false resources last keeps unchanged memory entries number = keeps_same last keeps (unchanged refl) memory number

  -- the call failed
  pub stops : batch_of new ≡ batch_of old → batch_of old ≤ batch → IsSound (memory_of mid).resources → Stops lasts.image (keeping_of new) first mid locks now batch → LastsEither c new (before_of mid) before (snapshot_at mid locks now batch)
  stops same rises resources (inl early) =
      let is = lasts.number in
      inl (record { image = lasts.image; at = resaved (before_of mid) early.saved; left = early.left; number = omega (arith, same, is) })
  stops same rises resources (inr between) = let is = lasts.number in inr (inr (record {
    first = lasts.image;
    second = between.image;
    at_first = resaved _ between.older;
    at_second = record { is = between.is; time = between.dated.time; batch = between.dated.batch_is; keyed = λ holds. between.dated.key ∙ lasts.at.keyed holds; sound = between.sound; resources = resources; saved_is = between.saved };
    left = between.left;
    number = omega (arith, same, is);
    rises = omega (arith, rises, is);
  }))
