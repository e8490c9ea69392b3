use Rattle.std.proofs.Common.{refl, ap, ◌∙◌, ◌≡◌}
use Rattle.dav_resource.specs.Errors.{dav_status}
use Rattle.dav_rights.specs.Access.{refuses, refuses_by, refuses_to}
use Rattle.dav_wire.specs.Replies.{Failed}
use Rattle.dav_wire.specs.Views.{read_frame_of}
use Rattle.dav_server.specs.Events as events
use Rattle.dav_server.specs.Finding.{found_reply}
use Rattle.dav_server.specs.State.{ServerState, at_rest, state_of, with_store}
use Rattle.dav_server.proofs.PartReads.{reads_found, reads_nothing, reads_unallowed}
use Rattle.dav_server.proofs.Reactions.{reacts}
use Rattle.dav_server.proofs.server.Server.read_part.Goals as goal

pub returns-in-Err-clause-reacts : goal.returns-in-Err-clause-reacts
returns-in-Err-clause-reacts g c =
    let says = g.F.GuardedFileSystem.reads in
    let state = state_of g.F.GuardedFileSystem.seen g.L.DavLockSystem.seen c.args.self.now in
    let asked = read_frame_of c.args.asked in
    let e = c.in-Err.error in
    reacts _ _ _ _ _ _ _ (events.FileRead asked (Failed (dav_status e))) _ refl
    (refl, reads_nothing g.F.GuardedFileSystem.seen says _ state asked e c.args.self.now.engine.fs.now.inner refl (rw c.prefix.ensures at (c.in-Err.ensures {u = tt})))
    (c.failed.ensures ∙ ap Failed c.statuscode.ensures) c.encode.ensures

pub returns-in_default-clause-reacts : goal.returns-in_default-clause-reacts
returns-in_default-clause-reacts g c =
    let says = g.F.GuardedFileSystem.reads in
    let state = state_of g.F.GuardedFileSystem.seen g.L.DavLockSystem.seen c.args.self.now in
    let asked = read_frame_of c.args.asked in
    reacts _ _ _ _ _ _ _ (events.FileRead asked (Failed 507)) _ refl
    (refl, reads_unallowed g.F.GuardedFileSystem.seen says _ state asked c.in-Ok.path c.args.self.now.engine.fs.now.inner refl (rw c.prefix.ensures at (c.in-Ok.ensures {u = tt})))
    c.failed-in_default.ensures c.encode-in_default.ensures

pub returns-clause-reacts : goal.returns-clause-reacts
returns-clause-reacts g c =
    let says = g.F.GuardedFileSystem.reads in
    let state = state_of g.F.GuardedFileSystem.seen g.L.DavLockSystem.seen c.args.self.now in
    let asked = read_frame_of c.args.asked in
    let part = c.find_part-found in
    let guarded = c.set_policy.ensures in
    let by : refuses c.set_policy.new.self.guard.policy ≡ refuses_to state.rights asked.principal =
    ap refuses guarded.policy ∙ ap refuses_by (rw c.as_ref.ensures.value at (c.in-Ok-of.ensures {u = tt})) in
    let as_before = ap (λ store. with_store state (at_rest (g.F.GuardedFileSystem.seen store))) guarded.inner in
    let same = part.ensures.same ∙ as_before in
    reacts _ _ _ _ _ _ _ (events.FileRead asked (found_reply c.in-Ok.path.key part.result)) _ refl (
      rw c.clear_log.ensures.inner same,
      reads_found g.F.GuardedFileSystem.seen says _ state asked c.in-Ok.path part.new.self.engine.fs.now.inner part.result _ by
          (ap (λ (s : ServerState). s.seen.store) same) (rw c.prefix.ensures at (c.in-Ok.ensures {u = tt}))
          (rw guarded.inner at part.ensures.found) (rw guarded.inner at part.ensures.failed),
    )
    refl c.encode_found.ensures
