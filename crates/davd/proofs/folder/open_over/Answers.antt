use Rattle.std.proofs.Common.{◌≡◌, refl, sym, ap, subst}
use Rattle.dav_folder.proofs.FoundImages.{were_clean}
use Rattle.dav_seal.specs.Seals.{IsSealed}
use Rattle.sqlite.specs.Files.{image_of}
use Rattle.sqlite_wal.specs.Reads.{AreClean}
use Rattle.davd.proofs.Finding.{finds_held, finds_new}
use Rattle.davd.specs.Folder.{FindsHeld, FindsNew, IsNumbered, IsNamed}
use Rattle.sqlite_disk.specs.Disk.{Only}
use Rattle.dav_folder.specs.Failing.{LeavesOnly, IsOnlyRead}
use Rattle.davd.proofs.Failing.{holds_on, only_read, not_judged}
use Rattle.davd.proofs.Numbering.{only_read_number, kept_number}
use Rattle.davd.specs.Failing.{HoldsOnLeft, AreOnlyJudged}
use Rattle.davd.proofs.folder.open_over.Goals as goal

pub returns-in-Ok-open-clause-kept : goal.returns-in-Ok-open-clause-kept
returns-in-Ok-open-clause-kept g c =
    let old = c.args.pairs.0 in let now = c.read_up_to_date.new.files in
    let read = c.in-Ok.ensures in let opens = c.in-Ok-open.ensures in
    let only = c.read_up_to_date.ensures.only in
    let same : image_of g.D.Disk now ≡ image_of g.D.Disk old = λ i. record { log = only.0.seen i; db = only.1.seen i } in
    subst (λ file. FindsHeld (image_of g.D.Disk old) file c.args.how.limit c.in-Ok-open.opened) (ap g.E.Disk.seen c.new-disk.ensures.inner)
    (finds_held c.args.how.limit _ (image_of g.D.Disk old) (image_of g.D.Disk now) same (AreClean g.D.Disk now.log now.db) c.in-Ok.found c.in-Ok-open.opened
    opens.store opens.clean read.kept opens.kept)

pub returns-in-Ok-open-clause-new : goal.returns-in-Ok-open-clause-new
returns-in-Ok-open-clause-new g c = λ key first.
    let old = c.args.pairs.0 in let now = c.read_up_to_date.new.files in
    let read = c.in-Ok.ensures in let opens = c.in-Ok-open.ensures in
    let only = c.read_up_to_date.ensures.only in
    let same : image_of g.D.Disk now ≡ image_of g.D.Disk old = λ i. record { log = only.0.seen i; db = only.1.seen i } in
    subst (λ file. FindsNew (image_of g.D.Disk old) file c.args.how.limit key c.in-Ok-open.opened) (ap g.E.Disk.seen c.new-disk.ensures.inner)
    (finds_new c.args.how.limit _ (image_of g.D.Disk old) (image_of g.D.Disk now) same (AreClean g.D.Disk now.log now.db) c.in-Ok.found c.in-Ok-open.opened
    opens.store opens.clean key c.args.changes.now first read.new opens.new read.empty opens.key)

pub returns-in-Ok-open-clause-sealed : goal.returns-in-Ok-open-clause-sealed
returns-in-Ok-open-clause-sealed g c = λ tables keeps clean.
    let opens = c.in-Ok-open.ensures in
    subst (λ key. IsSealed key tables) (sym opens.key) (c.in-Ok.ensures.sealed tables keeps (opens.clean clean))

-- nothing was written while the store was read
pub returns-in-Err-clause-left : goal.returns-in-Err-clause-left
returns-in-Err-clause-left g c = λ has only.
    let old = c.args.pairs.0 in let db = c.args.pairs.1.db in let seen = g.E.Disk.seen in
    let leaves = subst (λ db. Only (seen db) (g.E.Disk.may_leave db) → LeavesOnly (seen db) c.in-Err.data_file) c.new-disk.ensures.inner c.in-Err.ensures.unharmed in
    subst (λ e. HoldsOnLeft (image_of g.D.Disk old) (seen db) e.left) (sym c.failed_start.ensures)
    (_, refl, only_read old c.read_up_to_date.new.files c.read_up_to_date.ensures.only has (seen db) c.in-Err.data_file (leaves only))

-- nor while it was made ready
pub returns-in-Err-make_ready-clause-left : goal.returns-in-Err-make_ready-clause-left
returns-in-Err-make_ready-clause-left g c = λ has only.
    let old = c.args.pairs.0 in let db = c.args.pairs.1.db in let seen = g.E.Disk.seen in
    let read = subst (λ db. IsOnlyRead (seen db) c.in-Ok.found) c.new-disk.ensures.inner c.in-Ok.ensures.only_data in
    subst (λ e. HoldsOnLeft (image_of g.D.Disk old) (seen db) e.left) (sym c.failed_start-in-Err-make_ready.ensures)
    (_, refl, only_read old c.read_up_to_date.new.files c.read_up_to_date.ensures.only has (seen db) c.give_up.result (c.give_up.ensures (seen db) read))

pub returns-in-Err-open-clause-left : goal.returns-in-Err-open-clause-left
returns-in-Err-open-clause-left g c = λ has only.
    let old = c.args.pairs.0 in let db = c.args.pairs.1.db in let seen = g.E.Disk.seen in
    let read = subst (λ db. IsOnlyRead (seen db) c.in-Ok.found) c.new-disk.ensures.inner c.in-Ok.ensures.only_data in
    subst (λ e. HoldsOnLeft (image_of g.D.Disk old) (seen db) e.left) (sym c.failed_start-in-Err-open.ensures) (
      _,
      refl,
      holds_on old c.read_up_to_date.new.files c.read_up_to_date.ensures.only has (seen db) c.in-Err-open.left.database c.in-Err-open.left.data_file c.in-Err-open.ensures.unharmed
          (c.in-Err-open.ensures.unwritten (seen db) read),
    )

pub returns-in-Err-clause-last_kept : goal.returns-in-Err-clause-last_kept
returns-in-Err-clause-last_kept g c = only_read_number g.L.Disk c.args.last.now c.read_up_to_date.new.last c.read_up_to_date.ensures.only_last

pub returns-in-Err-make_ready-clause-last_kept : goal.returns-in-Err-make_ready-clause-last_kept
returns-in-Err-make_ready-clause-last_kept g c =
    kept_number g.L.Disk c.args.last.now c.read_up_to_date.new.last c.read_up_to_date.ensures.only_last c.make_ready.new.last _ _ c.make_ready.ensures.kept

pub returns-in-Ok-open-clause-last_kept : goal.returns-in-Ok-open-clause-last_kept
returns-in-Ok-open-clause-last_kept g c =
    kept_number g.L.Disk c.args.last.now c.read_up_to_date.new.last c.read_up_to_date.ensures.only_last c.make_ready.new.last _ _ c.make_ready.ensures.kept

pub returns-in-Err-open-clause-last_kept : goal.returns-in-Err-open-clause-last_kept
returns-in-Err-open-clause-last_kept g c =
    kept_number g.L.Disk c.args.last.now c.read_up_to_date.new.last c.read_up_to_date.ensures.only_last c.make_ready.new.last _ _ c.make_ready.ensures.kept

pub returns-in-Ok-open-clause-numbered : goal.returns-in-Ok-open-clause-numbered
returns-in-Ok-open-clause-numbered g c = λ strict calm tables keeps clean.
    let opens = c.in-Ok-open.ensures in
    subst (λ key. IsNumbered key c.in-Ok-open.opened.last (image_of g.L.Disk c.args.last.now)) (sym opens.key)
    (subst (λ batch. IsNumbered c.in-Ok.found.key batch (image_of g.L.Disk c.args.last.now)) (sym opens.last)
    (c.in-Ok.ensures.numbered strict (c.make_ready.ensures.clean calm) (opens.clean clean) tables keeps))

pub returns-in-Ok-open-clause-last_clean : goal.returns-in-Ok-open-clause-last_clean
returns-in-Ok-open-clause-last_clean g c = λ calm.
    let only = c.read_up_to_date.ensures.only_last in
    were_clean _ _ _ _ only.0.clean only.1.clean (c.make_ready.ensures.clean calm)

pub returns-in-Err-open-clause-last_clean : goal.returns-in-Err-open-clause-last_clean
returns-in-Err-open-clause-last_clean g c = λ calm.
    let only = c.read_up_to_date.ensures.only_last in
    were_clean _ _ _ _ only.0.clean only.1.clean (c.make_ready.ensures.clean calm)

pub returns-in-Ok-open-clause-made : goal.returns-in-Ok-open-clause-made
returns-in-Ok-open-clause-made g c = λ vacant clean. c.in-Ok.ensures.made_if vacant (c.in-Ok-open.ensures.clean clean)

pub returns-in-Ok-open-clause-started : goal.returns-in-Ok-open-clause-started
returns-in-Ok-open-clause-started g c = λ strict sure calm tables keeps clean.
    let opens = c.in-Ok-open.ensures in
    subst (λ key. IsNamed key (image_of g.L.Disk c.args.last.now)) (sym opens.key)
    (c.in-Ok.ensures.started strict sure (c.make_ready.ensures.clean calm) (opens.clean clean) tables keeps)

-- the files were only read before they were judged
pub returns-in-Err-clause-refused : goal.returns-in-Err-clause-refused
returns-in-Err-clause-refused g c = λ judged.
    let db = c.args.pairs.1.db in let seen = g.E.Disk.seen in
    subst (λ e. AreOnlyJudged g.E.Disk c.args.pairs.0 db e.left) (sym c.failed_start.ensures) (record {
      database = c.read_up_to_date.new.files;
      data_file = c.in-Err.data_file;
      is = refl;
      only = c.read_up_to_date.ensures.only;
      unharmed = subst (λ db. Only (seen db) (g.E.Disk.may_leave db) → LeavesOnly (seen db) c.in-Err.data_file) c.new-disk.ensures.inner c.in-Err.ensures.unharmed;
    })

-- and nothing that comes after that refuses the folder
pub returns-in-Err-make_ready-clause-refused : goal.returns-in-Err-make_ready-clause-refused
returns-in-Err-make_ready-clause-refused g c =
    not_judged _ _ (ap (λ e. e.stopped) c.failed_start-in-Err-make_ready.ensures) c.in-Err-make_ready.ensures.early

pub returns-in-Err-open-clause-refused : goal.returns-in-Err-open-clause-refused
returns-in-Err-open-clause-refused g c =
    not_judged _ _ (ap (λ e. e.stopped) c.failed_start-in-Err-open.ensures) (c.into.ensures.1 c.in-Err-open.ensures.err)

pub returns-in-Err-clause-refused_last : goal.returns-in-Err-clause-refused_last
returns-in-Err-clause-refused_last g c = λ judged. c.read_up_to_date.ensures.only_last

pub returns-in-Err-make_ready-clause-refused_last : goal.returns-in-Err-make_ready-clause-refused_last
returns-in-Err-make_ready-clause-refused_last g c =
    not_judged _ _ (ap (λ e. e.stopped) c.failed_start-in-Err-make_ready.ensures) c.in-Err-make_ready.ensures.early

pub returns-in-Err-open-clause-refused_last : goal.returns-in-Err-open-clause-refused_last
returns-in-Err-open-clause-refused_last g c =
    not_judged _ _ (ap (λ e. e.stopped) c.failed_start-in-Err-open.ensures) (c.into.ensures.1 c.in-Err-open.ensures.err)
