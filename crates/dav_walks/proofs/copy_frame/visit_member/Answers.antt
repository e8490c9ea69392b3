use Rattle.std.proofs.Common.{◌≡◌, true, false, length, refl, ap, sym, ◌∙◌, arith}
use Rattle.dav_resource.specs.PathText.{PathValue}
use Rattle.dav_walks.specs.CopyFrames.{unshown, skipped, entered}
use Rattle.dav_walks.proofs.Visiting.{refusal_added}
use Rattle.dav_walks.proofs.CopyEntering.{next_of}
use Rattle.dav_walks.proofs.copy_frame.visit_member.Goals as goal

pub returns-then-same_key-clause-done : goal.returns-then-same_key-clause-done
returns-then-same_key-clause-done g c =
    skipped c.in-Ok.entry (next_of c.args.frame.now _ _ c.requires.more c.index.ensures c.in-Ok.is) (ap (λ (v : PathValue). v.key) (sym c.in_ok-source-in-Ok.ensures) ∙ c.if-same_key.ensures.0 refl) refl refl refl

pub returns-in_ok-add_status-in-Err-clause-done : goal.returns-in_ok-add_status-in-Err-clause-done
returns-in_ok-add_status-in-Err-clause-done g c =
    let added = c.in_ok-add_status-in-Err.ensures.ok in
    let end : c.len-frame.result ≡ length c.args.frame.now.listing.items = omega (arith, c.len-frame.ensures, c.args.frame.now.listing.ok.0) in
    unshown c.in-Err.error (next_of c.args.frame.now _ _ c.requires.more c.index.ensures c.in-Err.is) refl (refusal_added _ _ _ _ _ added.1 added.2) (λ i. record c.args.frame.now { next = end i })

pub returns-in_ok-opened-in-Ok-clause-done : goal.returns-in_ok-opened-in-Ok-clause-done
returns-in_ok-opened-in-Ok-clause-done g c =
    entered c.in-Ok.entry c.in_ok-opened-in-Ok.opened (next_of c.args.frame.now _ _ c.requires.more c.index.ensures c.in-Ok.is) (λ e. let same : false ≡ true = c.if-same_key.ensures.1 (ap (λ (v : PathValue). v.key) c.in_ok-source-in-Ok.ensures ∙ e) in cc)
    (rw (c.in_ok-source-in-Ok.ensures, c.in_ok-dest-in-Ok.ensures) at c.in_ok-opened-in-Ok.ensures.done) refl
