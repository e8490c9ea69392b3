use Rattle.std.proofs.Common.{◌≡◌, ℕ, List, refl, sym, subst, ◌∙◌}
use Rattle.std.specs.Prelude.{IfOk, false}
use Rattle.dav_keep.specs.Images.{StandForImage}
use Rattle.dav_keep.specs.Loading.{first_image}
use Rattle.dav_rows.specs.Creating.{first}
use Rattle.dav_rows.specs.declared.change.Change.{Change}
use Rattle.davd.proofs.Finding.{held_as, new_as}
use Rattle.davd.proofs.FreshFiles.{fresh_seen, fresh_image}
use Rattle.davd.proofs.FreshOutcomes.{fresh_contents, fresh_outcomes}
use Rattle.davd.proofs.Failing.{moved, err_also, stays_as_held, stays_moved}
use Rattle.davd.proofs.Numbering.{unread_number}
use Rattle.sqlite.specs.Files.{image_of}
use Rattle.sqlite.specs.WalFiles.{image_at}
use Rattle.sqlite_wal.specs.Reads.{AreClean}
use Rattle.sqlite.specs.Recovery.{Image}
use Rattle.dav_rows_files.specs.Starting.{IsVacant}
use Rattle.davd.specs.Folder.{HeldSealed, HeldNumbered, HeldNamed}
use Rattle.davd.proofs.folder.open_pairs.Goals as goal

stands : {key : ℕ} (read changes : List Change) → read ≡ changes → StandForImage (first changes) (first_image key) → StandForImage (first read) (first_image key)
stands {key} read changes same stand = subst (λ these. StandForImage (first these) (first_image key)) (sym same) stand

pub returns-clause-kept : goal.returns-clause-kept
returns-clause-kept g c =
    let pairs = c.in_ok-pairs.pairs in let fresh = c.in_ok-pairs.ensures in
    held_as c.open_over.result _ _ _ _ _ _ (fresh_image pairs.0.log pairs.0.db fresh.fresh.0 fresh.fresh.1) (fresh_seen pairs.1.db fresh.fresh_data) refl
    c.open_over.ensures.kept

pub returns-clause-new : goal.returns-clause-new
returns-clause-new g c =
    let pairs = c.in_ok-pairs.pairs in let fresh = c.in_ok-pairs.ensures in
    new_as c.open_over.result _ _ _ _ _ _ (fresh_image pairs.0.log pairs.0.db fresh.fresh.0 fresh.fresh.1) (fresh_seen pairs.1.db fresh.fresh_data) refl c.args.key
    (c.open_over.ensures.new c.args.key (stands _ _ c.deref.ensures.value c.in_ok-changes.ensures.made))

pub returns-clause-sealed : goal.returns-clause-sealed
returns-clause-sealed g c =
    let pairs = c.in_ok-pairs.pairs in let fresh = c.in_ok-pairs.ensures in
    subst (λ image. IfOk c.open_over.result (HeldSealed image)) (fresh_image pairs.0.log pairs.0.db fresh.fresh.0 fresh.fresh.1) c.open_over.ensures.sealed

pub returns-clause-left : goal.returns-clause-left
returns-clause-left g c =
    let pairs = c.in_ok-pairs.pairs in let fresh = c.in_ok-pairs.ensures in
    let held = fresh_image pairs.0.log pairs.0.db fresh.fresh.0 fresh.fresh.1 in
    let left = c.open_over.ensures.left
    (λ image may. fresh_outcomes pairs.0.log pairs.0.db fresh.fresh.0 fresh.fresh.1 image may ∙ sym held)
    (fresh_contents pairs.1.db fresh.fresh_data) in
    moved (image_at g.R.Start) g.T.Start.db c.open_over.result (λ e. e.left) held (fresh_seen pairs.1.db fresh.fresh_data) left

-- no file of the number was called
pub returns-in_err-changes-clause-last_kept : goal.returns-in_err-changes-clause-last_kept
returns-in_err-changes-clause-last_kept g c = unread_number g.L.Disk c.args.last.now c.requires.other c.requires.last

pub returns-in_err-pairs-clause-last_kept : goal.returns-in_err-pairs-clause-last_kept
returns-in_err-pairs-clause-last_kept g c = unread_number g.L.Disk c.args.last.now c.requires.other c.requires.last

pub returns-clause-numbered : goal.returns-clause-numbered
returns-clause-numbered g c =
    let pairs = c.in_ok-pairs.pairs in let fresh = c.in_ok-pairs.ensures in let last = c.open_over.new.last in
    subst (λ (image : Image). IfOk c.open_over.result (λ opened. c.args.how.accepts_loss ≡ false → AreClean g.L.Disk last.log last.db
    → HeldNumbered image (image_of g.L.Disk c.args.last.now) opened)) (fresh_image pairs.0.log pairs.0.db fresh.fresh.0 fresh.fresh.1) c.open_over.ensures.numbered

pub returns-clause-made : goal.returns-clause-made
returns-clause-made g c = λ vacant.
    let pairs = c.in_ok-pairs.pairs in let fresh = c.in_ok-pairs.ensures in
    c.open_over.ensures.made (subst IsVacant (sym (fresh_image pairs.0.log pairs.0.db fresh.fresh.0 fresh.fresh.1)) vacant)

pub returns-clause-started : goal.returns-clause-started
returns-clause-started g c =
    let pairs = c.in_ok-pairs.pairs in let fresh = c.in_ok-pairs.ensures in let last = c.open_over.new.last in
    subst (λ (image : Image). IfOk c.open_over.result (λ opened. c.args.how.accepts_loss ≡ false → c.args.how.first.may_lack_number ≡ false → AreClean g.L.Disk last.log last.db
    → HeldNamed image (image_of g.L.Disk c.args.last.now) opened)) (fresh_image pairs.0.log pairs.0.db fresh.fresh.0 fresh.fresh.1) c.open_over.ensures.started

-- the files were just opened, so a crash leaves of them only what they held
pub returns-clause-refused : goal.returns-clause-refused
returns-clause-refused g c =
    let pairs = c.in_ok-pairs.pairs in let fresh = c.in_ok-pairs.ensures in
    let held = fresh_image pairs.0.log pairs.0.db fresh.fresh.0 fresh.fresh.1 in
    let shown = fresh_seen pairs.1.db fresh.fresh_data in
    err_also c.open_over.result c.open_over.ensures.refused (λ e refused judged. stays_moved e.left _ _ _ _ held shown
    (stays_as_held _ pairs.0 pairs.1.db e.left (λ image may. fresh_outcomes pairs.0.log pairs.0.db fresh.fresh.0 fresh.fresh.1 image may ∙ sym held)
    (fresh_contents pairs.1.db fresh.fresh_data) (refused judged)))
