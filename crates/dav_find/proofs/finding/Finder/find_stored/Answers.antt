use Rattle.std.proofs.Common.{◌≡◌, ◌∙◌, Ok, true, false, sym, ap, Vec}
use Rattle.std.specs.declared.alloc.Global.{Global}
use Rattle.dav_resource.specs.declared.property.DavProp.{DavProp}
use Rattle.dav_store.specs.PropertyCalls.{ArePropertiesAt, get_props_call}
use Rattle.dav_find.specs.Finder.{view_of}
use Rattle.dav_find.specs.Finding.{is_all_sought}
use Rattle.dav_find.proofs.Answering.{granted_is, declined_is, lacked_is}
use Rattle.dav_find.proofs.Kept.{stored_unsought, stored_lacked, stored_granted, stored_lost, stored_declined, sought_keeps}
use Rattle.dav_find.proofs.finding.Finder.find_stored.Goals as goal

pub returns-then-not-is_all_sought-clause-stored : goal.returns-then-not-is_all_sought-clause-stored
returns-then-not-is_all_sought-clause-stored g c =
    let none : is_all_sought (view_of g.L.DavLockSystem.seen c.args.self.now (g.F.GuardedFileSystem.seen c.args.fs.now).facts) ≡ false
    = sym (c.is_all_sought.ensures (g.F.GuardedFileSystem.seen c.args.fs.now).facts (sym c.have_props.ensures)) ∙ c.if-not-is_all_sought.true in
    rw (c.from_vec.ensures, c.new.ensures.items) (stored_unsought _ c.args.path.now.key _ none)

pub returns-in_err-props-clause-stored : goal.returns-in_err-props-clause-stored
returns-in_err-props-clause-stored g c =
    let key = c.args.path.now.key in
    let same = lacked_is (get_props_call (g.F.GuardedFileSystem.seen c.args.fs.now) key) (λ (props : Vec DavProp Global). ArePropertiesAt key props.items) _ _ _ _ _ c.get_props-answer.ensures c.returned_by.ensures.returned c.in_err-props.was in
    rw same (stored_lacked _ key _ _ (rw c.in_err-props.ensures.err at c.from_residual.ensures.1))

pub returns-in_err-kept_elements-in-Ok-clause-stored : goal.returns-in_err-kept_elements-in-Ok-clause-stored
returns-in_err-kept_elements-in-Ok-clause-stored g c =
    let key = c.args.path.now.key in
    let sought : is_all_sought (view_of g.L.DavLockSystem.seen c.args.self.now (g.F.GuardedFileSystem.seen c.args.fs.now).facts) ≡ true
    = sym (c.is_all_sought.ensures (g.F.GuardedFileSystem.seen c.args.fs.now).facts (sym c.have_props.ensures)) ∙ c.if-not-is_all_sought.false in
    let granted = granted_is (get_props_call (g.F.GuardedFileSystem.seen c.args.fs.now) key) (λ (props : Vec DavProp Global). ArePropertiesAt key props.items) _ _ _ _ c.in-Ok.props c.get_props-answer.ensures c.returned_by.ensures.returned (c.in_ok-props.was ∙ ap Ok c.in-Ok.is) in
    stored_lost _ key _ (sought_keeps (view_of g.L.DavLockSystem.seen c.args.self.now (g.F.GuardedFileSystem.seen c.args.fs.now).facts) sought) sought _ c.in-Ok.props _ c.from_residual-in_err-kept_elements-in-Ok.ensures.1 granted

pub returns-in_ok-kept_elements-in-Ok-clause-stored : goal.returns-in_ok-kept_elements-in-Ok-clause-stored
returns-in_ok-kept_elements-in-Ok-clause-stored g c =
    let key = c.args.path.now.key in
    let sought : is_all_sought (view_of g.L.DavLockSystem.seen c.args.self.now (g.F.GuardedFileSystem.seen c.args.fs.now).facts) ≡ true
    = sym (c.is_all_sought.ensures (g.F.GuardedFileSystem.seen c.args.fs.now).facts (sym c.have_props.ensures)) ∙ c.if-not-is_all_sought.false in
    let granted = granted_is (get_props_call (g.F.GuardedFileSystem.seen c.args.fs.now) key) (λ (props : Vec DavProp Global). ArePropertiesAt key props.items) _ _ _ _ c.in-Ok.props c.get_props-answer.ensures c.returned_by.ensures.returned (c.in_ok-props.was ∙ ap Ok c.in-Ok.is) in
    rw c.in_ok-kept_elements-in-Ok.ensures (stored_granted _ key _ (sought_keeps (view_of g.L.DavLockSystem.seen c.args.self.now (g.F.GuardedFileSystem.seen c.args.fs.now).facts) sought) sought _ c.in-Ok.props granted)

pub returns-in-Err-clause-stored : goal.returns-in-Err-clause-stored
returns-in-Err-clause-stored g c =
    let key = c.args.path.now.key in
    let sought : is_all_sought (view_of g.L.DavLockSystem.seen c.args.self.now (g.F.GuardedFileSystem.seen c.args.fs.now).facts) ≡ true
    = sym (c.is_all_sought.ensures (g.F.GuardedFileSystem.seen c.args.fs.now).facts (sym c.have_props.ensures)) ∙ c.if-not-is_all_sought.false in
    let declined = declined_is (get_props_call (g.F.GuardedFileSystem.seen c.args.fs.now) key) (λ (props : Vec DavProp Global). ArePropertiesAt key props.items) _ _ _ _ c.in-Err.status c.get_props-answer.ensures c.returned_by.ensures.returned (c.in_ok-props.was ∙ ap Ok c.in-Err.is) in
    stored_declined _ key _ (sought_keeps (view_of g.L.DavLockSystem.seen c.args.self.now (g.F.GuardedFileSystem.seen c.args.fs.now).facts) sought) sought _ c.in-Err.status declined.0 declined.1.0 declined.1.1
