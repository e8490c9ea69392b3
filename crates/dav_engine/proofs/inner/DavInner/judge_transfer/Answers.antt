use Rattle.std.proofs.Common.{◌∙◌, Some, sym}
use Rattle.dav_engine.specs.DavInner.{seen_by, settings_by}
use Rattle.dav_engine.specs.State.{state_of}
use Rattle.dav_engine.proofs.Deleting.{finds, finds_nothing}
use Rattle.dav_engine.proofs.Judging.{same_conditions, same_list}
use Rattle.dav_engine.proofs.Transferring.{same_seeing, transfer_unasked, transfer_unfound, transfer_unseen, transfer_misplaced, transfer_unheld, transfer_held}
use Rattle.dav_engine.proofs.inner.DavInner.judge_transfer.Goals as goal

pub returns-in_err-destination-clause-rules : goal.returns-in_err-destination-clause-rules
returns-in_err-destination-clause-rules g c =
    let state = state_of (seen_by g.F.GuardedFileSystem.seen g.L.DavLockSystem.seen c.args.self.now) in
    transfer_unasked c.args.moving (settings_by g.F.GuardedFileSystem.seen c.args.self.now) c.args.request.now state _ _ _ c.from_residual.ensures.1 c.in_err-destination.ensures

pub returns-in_err-meta-clause-rules : goal.returns-in_err-meta-clause-rules
returns-in_err-meta-clause-rules g c =
    let state = state_of (seen_by g.F.GuardedFileSystem.seen g.L.DavLockSystem.seen c.args.self.now) in
    transfer_unfound c.args.moving (settings_by g.F.GuardedFileSystem.seen c.args.self.now) c.args.request.now state _ c.in_ok-destination.destination c.in_ok-destination.ensures _ _ _
    c.from_residual-in_err-meta.ensures.1 (finds_nothing _ _ _ _ c.in_err-meta.ensures.declined)

pub returns-in_err-there-clause-rules : goal.returns-in_err-there-clause-rules
returns-in_err-there-clause-rules g c =
    let state = state_of (seen_by g.F.GuardedFileSystem.seen g.L.DavLockSystem.seen c.args.self.now) in
    let found = finds c.args.request.now.path.key c.in_ok-meta.meta _ _ c.in_ok-meta.ensures.granted in
    transfer_unseen c.args.moving (settings_by g.F.GuardedFileSystem.seen c.args.self.now) c.args.request.now state _ c.in_ok-destination.destination c.in_ok-destination.ensures c.in_ok-meta.meta _ found _ _ _
    c.from_residual-in_err-there.ensures.1 (same_seeing state.contents _ _ _ _ _ found.same c.in_err-there.ensures.rules)

pub returns-in_err-judge_place-clause-rules : goal.returns-in_err-judge_place-clause-rules
returns-in_err-judge_place-clause-rules g c =
    let state = state_of (seen_by g.F.GuardedFileSystem.seen g.L.DavLockSystem.seen c.args.self.now) in
    let found = finds c.args.request.now.path.key c.in_ok-meta.meta _ _ c.in_ok-meta.ensures.granted in
    let seen = same_seeing state.contents _ _ _ _ _ found.same c.in_ok-there.ensures.rules in
    transfer_misplaced c.args.moving (settings_by g.F.GuardedFileSystem.seen c.args.self.now) c.args.request.now state _ c.in_ok-destination.destination c.in_ok-destination.ensures c.in_ok-meta.meta _ found c.in_ok-there.there _ seen _ _
    c.from_residual-in_err-judge_place.ensures.1 (sym (rw c.as_ref.ensures.value at c.judge_place.ensures) ∙ c.in_err-judge_place.was)

pub returns-in_err-tokens-clause-rules : goal.returns-in_err-tokens-clause-rules
returns-in_err-tokens-clause-rules g c =
    let request = c.args.request.now in
    let state = state_of (seen_by g.F.GuardedFileSystem.seen g.L.DavLockSystem.seen c.args.self.now) in
    let found = finds request.path.key c.in_ok-meta.meta _ _ c.in_ok-meta.ensures.granted in
    let seen = same_seeing state.contents _ _ _ _ _ found.same c.in_ok-there.ensures.rules in
    let placed = sym (rw c.as_ref.ensures.value at c.judge_place.ensures) ∙ c.in_ok-judge_place.was in
    transfer_unheld c.args.moving (settings_by g.F.GuardedFileSystem.seen c.args.self.now) request state _ c.in_ok-destination.destination c.in_ok-destination.ensures c.in_ok-meta.meta _ found c.in_ok-there.there _ seen placed _ _ _
    c.from_residual-in_err-tokens.ensures.1
    (same_conditions request (Some c.in_ok-meta.meta) request.path state.contents _ state.locks _ _ _ _ (seen.same ∙ found.same) (same_list g.L.DavLockSystem.seen _ _ c.in_ok-there.ensures.same_locks) c.in_err-tokens.ensures.rules)

pub returns-clause-rules : goal.returns-clause-rules
returns-clause-rules g c =
    let request = c.args.request.now in
    let state = state_of (seen_by g.F.GuardedFileSystem.seen g.L.DavLockSystem.seen c.args.self.now) in
    let found = finds request.path.key c.in_ok-meta.meta _ _ c.in_ok-meta.ensures.granted in
    let seen = same_seeing state.contents _ _ _ _ _ found.same c.in_ok-there.ensures.rules in
    let placed = sym (rw c.as_ref.ensures.value at c.judge_place.ensures) ∙ c.in_ok-judge_place.was in
    let judged = c.in_ok-tokens.ensures in
    let permitted = rw (c.permits_transfer-permitted.ensures, c.as_slice.ensures, judged.tokens, judged.same_locks, c.in_ok-there.ensures.same_locks) at c.where_permitted.ensures in
    transfer_held c.args.moving (settings_by g.F.GuardedFileSystem.seen c.args.self.now) request state _ c.in_ok-destination.destination c.in_ok-destination.ensures c.in_ok-meta.meta _ found c.in_ok-there.there _ seen placed
    c.in_ok-tokens.tokens _ _
    (same_conditions request (Some c.in_ok-meta.meta) request.path state.contents _ state.locks _ _ _ _ (seen.same ∙ found.same) (same_list g.L.DavLockSystem.seen _ _ c.in_ok-there.ensures.same_locks) judged.rules) permitted
