use Rattle.std.proofs.Common.{◌∙◌, sym}
use Rattle.dav_engine.specs.DavInner.{lent, seen_by}
use Rattle.dav_engine.specs.Move.{MovesSource, MovesInPart}
use Rattle.dav_engine.proofs.Moving.{still_free}
use Rattle.dav_engine.proofs.Replacing.{cleared_so, replaces_uncleared, replaces_on}
use Rattle.dav_engine.proofs.Transferring.{names_exit}
use Rattle.dav_engine.proofs.inner.DavInner.move_to_destination.Goals as goal

pub clear_destination-requires : goal.clear_destination-requires
clear_destination-requires g c = λ meta is. c.requires.known ∙ sym c.as_ref.ensures.value ∙ is

pub returns-in_err-clear_destination-clause-moved : goal.returns-in_err-clear_destination-clause-moved
returns-in_err-clear_destination-clause-moved g c =
    let found = c.args.found.now in
    names_exit _ _ _ _ _ _ c.from_residual.ensures.1
    (replaces_uncleared (MovesSource c.args.source.now found.destination) (MovesInPart c.args.source.now found.destination) _ _ _ _ _ _ _ (rw c.as_ref.ensures.variant at c.in_err-clear_destination.ensures.cleared))

pub move_source-requires : goal.move_source-requires
move_source-requires g c =
    let mid = seen_by g.F.GuardedFileSystem.seen g.L.DavLockSystem.seen c.clear_destination.new.self in
    let cleared = cleared_so _ _ _ mid _ _ (rw c.as_ref.ensures.variant at c.in_ok-clear_destination.ensures.cleared) in
    still_free c.args.source.now.key c.args.found.now _ _ _ (g.met.F.GuardedFileSystem.well_formed (lent c.args.self.now)) c.requires cleared.0

pub returns-clause-moved : goal.returns-clause-moved
returns-clause-moved g c =
    let found = c.args.found.now in
    replaces_on (MovesSource c.args.source.now found.destination) (MovesInPart c.args.source.now found.destination) _ _ _ (seen_by g.F.GuardedFileSystem.seen g.L.DavLockSystem.seen c.clear_destination.new.self) _ _
    (rw c.as_ref.ensures.variant at c.in_ok-clear_destination.ensures.cleared) _ _ _ c.move_source.ensures.moved
