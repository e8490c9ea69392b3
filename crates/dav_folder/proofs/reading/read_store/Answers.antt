use Rattle.std.proofs.Common.{◌≡◌, ◌∙◌, ℕ, List, Option, true, false, refl, sym, ap, subst, inl, inr, arith}
use Rattle.dav_data.specs.Claimed.{bytes_in, file_of}
use Rattle.dav_data.specs.Data.{is_below, is_honest, may_leave}
use Rattle.dav_data.specs.Digests.{are_right}
use Rattle.dav_keep.specs.declared.numbers.Numbers.{Numbers}
use Rattle.dav_pieces.specs.Pieces.{bytes_of}
use Rattle.dav_tree.proofs.Keeping.{same-resources}
use Rattle.dav_tree.specs.Before.{IsSaved}
use Rattle.dav_tree.specs.Kept.{Kept}
use Rattle.dav_tree.specs.Memory.{Memory}
use Rattle.dav_folder.proofs.LoadedBytes.{tree_below, rows_held, rows_safe}
use Rattle.dav_keep.proofs.LoadedImages.{values_below}
use Rattle.dav_folder.proofs.Starts.{disk_failed, other_bytes}
use Rattle.dav_nodes.specs.declared.nodes.loading.NumberedValue.{NumberedValue}
use Rattle.dav_store_rows.specs.Resources.{Kept as Resource}
use Rattle.dav_folder.specs.Claims.{MeetsClaim}
use Rattle.dav_folder.proofs.reading.read_store.Goals as goal

-- a store with this part of the entity tags
abbrev with_part : Option ℕ → Memory → Memory
with_part part memory = record memory { tag_part = part }

-- a store that marks directories
abbrev with_marks : Memory → Memory
with_marks memory = record memory { marks = true }

pub returns-clause-limit : goal.returns-clause-limit
returns-clause-limit g c = λ image tables are.
    let values = (c.in-Ok.ensures.loaded image tables are).values in
    ap (λ (m : Memory). m.limit) (c.set_marks_parents.ensures.memory ∙ ap with_marks (c.set_tag_part.ensures.memory ∙ ap (with_part c.args.tag_part) (c.in-Ok-stored.ensures.memory image.tree values)))

pub returns-clause-found : goal.returns-clause-found
returns-clause-found g c = λ image tables are.
    let loaded = c.in-Ok.ensures.loaded image tables are in
    let store = c.in-Ok-stored.ensures in
    record {
      knows = c.in-Ok.ensures.known image tables are;
      sound = are.whole.sound;
      entries = ap (λ (k : Kept). k.tree) (c.set_marks_parents.ensures.entries ∙ c.set_tag_part.ensures.entries) ∙ store.entries image.tree loaded.values;
      resources = c.show_sound.ensures;
      saved = subst IsSaved (sym (c.set_marks_parents.ensures.entries ∙ c.set_tag_part.ensures.entries)) store.saved;
      locks_are = loaded.locks;
      counter = ap (λ (m : Memory). m.version) (c.set_marks_parents.ensures.memory ∙ ap with_marks (c.set_tag_part.ensures.memory ∙ ap (with_part c.args.tag_part) (store.memory image.tree loaded.values))) ∙ ap (λ (n : Numbers). n.counter) loaded.numbers;
      time = ap (λ (n : Numbers). n.time) loaded.numbers;
      batch = ap (λ (n : Numbers). n.batch) loaded.numbers;
      key = ap (λ (n : Numbers). n.key) loaded.numbers;
    }

pub returns-clause-bytes : goal.returns-clause-bytes
returns-clause-bytes g c = λ image tables are within.
    let loaded = c.in-Ok.parts.1 in
    let values = (c.in-Ok.ensures.loaded image tables are).values in
    let store = c.in-Ok-stored.ensures in
    let below = values_below c.args.rows image tables are loaded.values.items values in
    let most = c.in-Ok.ensures.end.least are.whole.end below in
    let same = c.in-Ok-open.ensures.bytes (omega (arith, most, within)) in
    ap (λ (m : Memory). m.resources) (c.set_marks_parents.ensures.memory ∙ ap with_marks (c.set_tag_part.ensures.memory ∙ ap (with_part c.args.tag_part) (store.memory image.tree values)))
    ∙ same-resources (bytes_of (g.D.Disk.seen c.args.disk)) (bytes_in c.in-Ok-open.medium) (is_below loaded.end) (is_below loaded.end) (λ body below. below)
    same image.tree (tree_below loaded.values.items image.tree loaded.end values c.in-Ok.ensures.end.reached)

pub returns-in-Err-open-clause-err : goal.returns-in-Err-open-clause-err
returns-in-Err-open-clause-err g c = λ image tables are has.
    let values = c.in-Ok.parts.1.values.items in
    let below = values_below c.args.rows image tables are values (c.in-Ok.ensures.loaded image tables are).values in
    let most = c.in-Ok.ensures.end.least are.whole.end below in
    let cause = c.in-Err-open.error in
    inr (cause, refl, disk_failed g.D.Disk c.args.disk c.in-Err-open.disk c.in-Ok.parts.1.end cause c.in-Err-open.ensures.err (omega (arith, most, has.within)))

pub returns-in-Err-stored-clause-err : goal.returns-in-Err-stored-clause-err
returns-in-Err-stored-clause-err g c = λ image tables are has.
    let listed = (c.in-Ok.ensures.loaded image tables are).values in
    let sound = other_bytes image.tree (bytes_of (g.D.Disk.seen c.args.disk)) (bytes_in c.in-Ok-open.medium) has.sound in
    inl (c.into-in-Err-stored.ensures (c.in-Err-stored.ensures.err image.tree listed sound))

pub load-stored-requires : goal.load-stored-requires
load-stored-requires g c =
    let loaded = c.in-Ok.parts.1 in
    let seen = g.D.Disk.seen c.args.disk in
    rows_safe c.in-Ok-open.medium loaded.end loaded.numbers.key seen c.in-Ok-open.ensures.held loaded.values.items c.in-Ok.ensures.end.reached
    (λ up. subst (λ (rows : List (NumberedValue Resource)). MeetsClaim g.C.Claim.key seen loaded.numbers.key loaded.end rows) c.deref.ensures.value
    (c.confirms.ensures.sure c.if-not-confirms.false up))

pub returns-in-Err-stored-clause-unharmed : goal.returns-in-Err-stored-clause-unharmed
returns-in-Err-stored-clause-unharmed g c = λ only honest file may.
    let back = c.in-Err-stored.ensures.back in
    let opened = c.in-Ok-open.ensures in
    let here = subst (λ medium. may_leave (file_of medium) file) back may in
    let true_here = subst (λ medium. is_honest (file_of medium) ≡ true) back honest in
    c.show_right.ensures.settled _ file opened.settled here ∙ opened.same true_here

pub returns-then-not-confirms-clause-err : goal.returns-then-not-confirms-clause-err
returns-then-not-confirms-clause-err g c = λ image tables are has.
    let loaded = c.in-Ok.parts.1 in
    let seen = g.D.Disk.seen c.args.disk in
    let is = c.in-Ok.ensures.loaded image tables are in
    let below = values_below c.args.rows image tables are loaded.values.items is.values in
    let most = c.in-Ok.ensures.end.least are.whole.end below in
    let yes = c.confirms.ensures.all (λ up.
    subst (λ (rows : List (NumberedValue Resource)). MeetsClaim g.C.Claim.key seen loaded.numbers.key loaded.end rows) (sym c.deref.ensures.value)
    (record {
      keyed = ap (λ (n : Numbers). n.key) is.numbers ∙ (has.claimed up).keyed;
      within = omega (arith, most, has.within);
      right = rows_held (are_right g.C.Claim.key seen) loaded.values.items image.tree is.values (has.claimed up).right;
    })) in
    absurd (let clash : false ≡ true = sym c.if-not-confirms.true ∙ yes in cc)
