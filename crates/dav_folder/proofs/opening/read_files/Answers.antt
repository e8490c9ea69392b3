use Rattle.std.proofs.Common.{◌∙◌, sym}
use Rattle.dav_keep.specs.Loading.{AreRowsOfImage}
use Rattle.dav_rows.specs.Creating.{first}
use Rattle.dav_folder.proofs.FoundImages.{later, ok_anyway, reads_image, reads_empty, also, not_older}
use Rattle.dav_folder.proofs.opening.read_files.Goals as goal

pub returns-clause-kept : goal.returns-clause-kept
returns-clause-kept g c = λ image tables keeps stand whole. later _ c.read_store.result (λ clean.
    let are : AreRowsOfImage c.in-Ok.loaded.rows image tables = record { all = ((c.in-Ok.ensures.found clean).kept tables keeps).0; stand = stand; whole = whole } in
    let read = c.read_store.ensures in
    reads_image c.read_store.result _ _ c.args.limit image whole tables c.expect_empty.ensures.file.seen (read.found image tables are) (read.bytes image tables are) (read.limit image tables are))

pub returns-clause-new : goal.returns-clause-new
returns-clause-new g c = λ image vacant stand whole. later _ c.read_store.result (λ clean.
    let tables = first c.args.changes.now in
    let are : AreRowsOfImage c.in-Ok.loaded.rows image tables = record { all = ((c.in-Ok.ensures.found clean).first vacant).0; stand = stand; whole = whole } in
    let read = c.read_store.ensures in
    reads_image c.read_store.result _ _ c.args.limit image whole tables c.expect_empty.ensures.file.seen (read.found image tables are) (read.bytes image tables are) (read.limit image tables are))

pub returns-clause-vacant : goal.returns-clause-vacant
returns-clause-vacant g c = λ vacant. later _ c.read_store.result (λ clean.
    let is = (c.in-Ok.ensures.found clean).first vacant in
    also c.read_store.result c.read_store.ensures.version (λ found version. version ∙ is.1))

pub returns-clause-only_new : goal.returns-clause-only_new
returns-clause-only_new g c =
    also c.read_store.result c.read_store.ensures.version (λ found version. λ new clean. (c.in-Ok.ensures.found clean).only_new (sym version ∙ new))

pub returns-clause-empty : goal.returns-clause-empty
returns-clause-empty g c = reads_empty c.read_store.result _ _ _ c.read_store.ensures.version c.read_store.ensures.honest c.in_default.ensures.empty

pub returns-clause-sealed : goal.returns-clause-sealed
returns-clause-sealed g c = λ tables keeps. later _ c.read_store.result (λ clean.
    let is = (c.in-Ok.ensures.found clean).kept tables keeps in
    also c.read_store.result (c.read_store.ensures.sealed (not_older _ is.1)) (λ found sealed. sealed tables is.0))

pub returns-clause-sound : goal.returns-clause-sound
returns-clause-sound g c = later _ c.read_store.result (λ clean.
    ok_anyway c.read_store.result (c.in-Ok.ensures.sound clean))

pub returns-clause-current : goal.returns-clause-current
returns-clause-current g c = λ tables keeps. later _ c.read_store.result (λ clean.
    let is = (c.in-Ok.ensures.found clean).kept tables keeps in
    also c.read_store.result c.read_store.ensures.version (λ found version. version ∙ is.1))

pub returns-clause-older : goal.returns-clause-older
returns-clause-older g c = λ tables keeps. later _ c.read_store.result (λ clean.
    let is = (c.in-Ok.ensures.found clean).older tables keeps in
    also c.read_store.result c.read_store.ensures.version (λ found version. version ∙ is))
