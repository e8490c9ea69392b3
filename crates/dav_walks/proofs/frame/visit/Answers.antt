use Rattle.std.proofs.Common.{refl}
use Rattle.dav_walks.proofs.Visiting.{is_next, refusal_added}
use Rattle.dav_walks.specs.declared.frame.Entered.TheVariants.{Over, Opened}
use Rattle.std.proofs.Common.{Ok, Err}
use Rattle.dav_walks.proofs.frame.visit.Goals as goal

pub member_path-requires : goal.member_path-requires
member_path-requires g c = c.requires.names c.in-Ok.entry (is_next c.args.frame.now _ _ c.requires.more c.index.ensures c.in-Ok.is)

pub returns-in_ok-add_status-in-Err-clause-done : goal.returns-in_ok-add_status-in-Err-clause-done
returns-in_ok-add_status-in-Err-clause-done g c =
    let added = c.in_ok-add_status-in-Err.ensures.ok in
    (Err c.in-Err.error, is_next c.args.frame.now _ _ c.requires.more c.index.ensures c.in-Err.is, (refl, refl, refusal_added _ _ _ _ _ added.1 added.2, refl))

pub returns-in-Over-clause-done : goal.returns-in-Over-clause-done
returns-in-Over-clause-done g c =
    (Ok c.in-Ok.entry, is_next c.args.frame.now _ _ c.requires.more c.index.ensures c.in-Ok.is, (Over c.in-Over.clean, rw (c.in-Over.is, c.in_ok-path-in-Ok.ensures) at c.in_ok-entered-in-Ok.ensures.done, refl, refl))

pub returns-in-Opened-clause-done : goal.returns-in-Opened-clause-done
returns-in-Opened-clause-done g c =
    (Ok c.in-Ok.entry, is_next c.args.frame.now _ _ c.requires.more c.index.ensures c.in-Ok.is, (Opened c.in-Opened.inner, rw (c.in-Opened.is, c.in_ok-path-in-Ok.ensures) at c.in_ok-entered-in-Ok.ensures.done, refl, refl))
