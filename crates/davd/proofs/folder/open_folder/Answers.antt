use Rattle.std.proofs.Common.{◌≡◌, true, refl, sym, ap, subst}
use Rattle.dav_last.specs.Batches.{IsInBoth}
use Rattle.sqlite.specs.Recovery.{Image}
use Rattle.sqlite.specs.WalFiles.{image_at}
use Rattle.davd.proofs.Failing.{found_if_opened, not_judged, untouched}
use Rattle.davd.proofs.FreshFiles.{fresh_image}
use Rattle.davd.proofs.FreshOutcomes.{fresh_outcomes}
use Rattle.davd.specs.Failing.{StaysAsHeldLeft}
use Rattle.davd.specs.Program.{is_judged}
use Rattle.davd.specs.Folder.{FindsHeld, FindsNew, IsNotOlder, HeldNumbered}
use Rattle.davd.proofs.folder.open_folder.Goals as goal
use Rattle.davd.proofs.folder.open_folder.Goals.{in-Err-remove_last, in_default}

pub returns-in-Ok-begin-clause-kept : goal.returns-in-Ok-begin-clause-kept
returns-in-Ok-begin-clause-kept g c = subst (λ limit. FindsHeld _ _ limit c.in-Ok.opened) c.limit_of.ensures c.in-Ok.ensures.kept

pub returns-in-Ok-begin-clause-new : goal.returns-in-Ok-begin-clause-new
returns-in-Ok-begin-clause-new g c = subst (λ limit. FindsNew _ _ limit c.args.options.key c.in-Ok.opened) c.limit_of.ensures c.in-Ok.ensures.new

pub returns-in-Ok-begin-clause-up_to_date : goal.returns-in-Ok-begin-clause-up_to_date
returns-in-Ok-begin-clause-up_to_date g c = λ strict clean.
    let was = c.in_ok-last.last in let fresh = c.in_ok-last.ensures.fresh in
    let held = fresh_image was.log was.db fresh.0 fresh.1 in
    subst (λ (image : Image). IsNotOlder c.in-Ok.opened.key c.in-Ok.opened.last image.log image.db) held
    (c.in-Ok.ensures.up_to_date strict (c.in-Ok-begin.ensures.clean clean))

pub returns-clause-left : goal.returns-clause-left
returns-clause-left g c = found_if_opened c.in-Ok.opened _ (image_at g.R.Start) g.T.Start.db _ c.in-Ok.ensures.kept c.unnumbered.ensures.left

pub returns-in-Ok-begin-clause-numbered : goal.returns-in-Ok-begin-clause-numbered
returns-in-Ok-begin-clause-numbered g c = λ strict clean.
    let was = c.in_ok-last.last in let fresh = c.in_ok-last.ensures.fresh in
    let held = fresh_image was.log was.db fresh.0 fresh.1 in
    subst (λ (image : Image). HeldNumbered (image_at g.R.Start) image c.in-Ok.opened) held
    (c.in-Ok.ensures.numbered strict (c.in-Ok-begin.ensures.clean clean))

pub returns-in-Ok-begin-clause-both : goal.returns-in-Ok-begin-clause-both
returns-in-Ok-begin-clause-both g c = subst (λ batch. IsInBoth batch c.in-Ok-begin.last) (sym c.in-Ok.ensures.batch) c.in-Ok-begin.ensures.both

-- the files of the number were just opened, and then only read
pub returns-in-Err-clause-refused : goal.returns-in-Err-clause-refused
returns-in-Err-clause-refused g c = elim c.match-remove_last.branch [
  | in-Err-remove_last w ↦ not_judged _ _ (ap (λ s. s.stopped) w.start-is) w.in-Err-remove_last.ensures.early
  | in_default w ↦ λ judged.
      let was = c.in_ok-last.last in let fresh = c.in_ok-last.ensures.fresh in
      let refused = subst (λ s. is_judged s.stopped ≡ true) w.start-is judged in
      untouched _ was c.open_pairs.new.last (λ image may. fresh_outcomes was.log was.db fresh.0 fresh.1 image may) (c.in-Err.ensures.refused_last refused) refl
      (subst (λ s. StaysAsHeldLeft (image_at g.R.Start) g.T.Start.db s.left) (sym w.start-is) (c.in-Err.ensures.refused refused))
]
