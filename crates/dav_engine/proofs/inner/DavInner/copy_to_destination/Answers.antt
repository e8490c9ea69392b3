use Rattle.std.proofs.Common.{◌∙◌, sym, ap, option_map}
use Rattle.dav_engine.specs.Copy.{replaced, CopiesSource, CopiesSourceInPart}
use Rattle.dav_engine.specs.DavInner.{lent, seen_by}
use Rattle.dav_engine.proofs.Copying.{source_copied, replaced_known, replaced_said, still_room}
use Rattle.dav_engine.proofs.Replacing.{cleared_so, replaces_uncleared, replaces_on}
use Rattle.dav_engine.proofs.Transferring.{names_exit}
use Rattle.dav_engine.proofs.inner.DavInner.copy_to_destination.Goals as goal

pub clear_destination-requires : goal.clear_destination-requires
clear_destination-requires g c = λ meta is. c.requires.known ∙ replaced_known c.args.depth _ meta (ap (replaced c.args.depth) (sym c.as_ref.ensures.value) ∙ sym c.replaced-there.ensures ∙ is)

pub returns-in_err-clear_destination-clause-copied : goal.returns-in_err-clear_destination-clause-copied
returns-in_err-clear_destination-clause-copied g c =
    let found = c.args.found.now in
    let there = replaced_said c.args.depth _ _ _ c.replaced-there.ensures c.as_ref.ensures.value in
    names_exit _ _ _ _ _ _ c.from_residual.ensures.1
    (replaces_uncleared (CopiesSource c.args.depth c.args.source.now found.destination) (CopiesSourceInPart c.args.depth c.args.source.now found.destination) _ _ _ _ _ _ _ (rw there at c.in_err-clear_destination.ensures.cleared))

pub do_copy-requires : goal.do_copy-requires
do_copy-requires g c =
    let mid = seen_by g.F.GuardedFileSystem.seen g.L.DavLockSystem.seen c.clear_destination.new.self in
    let there = replaced_said c.args.depth _ _ _ c.replaced-there.ensures c.as_ref.ensures.value in
    let cleared = cleared_so _ _ _ mid _ _ (rw there at c.in_ok-clear_destination.ensures.cleared) in
    record { room = λ other deep. still_room c.args.depth c.args.source.now.key c.args.found.now _ _ _ (g.met.F.GuardedFileSystem.well_formed (lent c.args.self.now)) c.requires cleared.0 deep }

pub returns-clause-copied : goal.returns-clause-copied
returns-clause-copied g c =
    let found = c.args.found.now in
    let there = replaced_said c.args.depth _ _ _ c.replaced-there.ensures c.as_ref.ensures.value in
    let copied = c.do_copy.ensures in
    replaces_on (CopiesSource c.args.depth c.args.source.now found.destination) (CopiesSourceInPart c.args.depth c.args.source.now found.destination) _ _ _ (seen_by g.F.GuardedFileSystem.seen g.L.DavLockSystem.seen c.clear_destination.new.self) _ _
    (rw there at c.in_ok-clear_destination.ensures.cleared) _ _ _
    (source_copied c.args.depth c.args.source.now found.destination _ _ _ _ _ (copied.copied c.requires.other) (ap (option_map g.L.DavLockSystem.seen) copied.same_locks))
