use Rattle.std.proofs.Common.{subst}
use Rattle.sqlite.specs.Recovery.{Image}
use Rattle.sqlite.specs.WalFiles.{image_at}
use Rattle.davd.proofs.FreshFiles.{fresh_image}
use Rattle.davd.proofs.Leaves.{on_ok}
use Rattle.davd.specs.Folder.{IsNotOlder, FoundNumbered}
use Rattle.davd.proofs.checking.check_folder.Goals as goal

pub returns-clause-whole : goal.returns-clause-whole
returns-clause-whole g c =
    let was = c.in_ok-last.last in let fresh = c.in_ok-last.ensures.fresh in
    on_ok c.check_pairs-checked.result c.check_pairs-checked.ensures.whole (λ checks. let it = checks.verified in record {
      of = checks.of;
      last = checks.last;
      verified = record {
        disk = it.disk;
        shown = it.shown;
        found = it.found;
        same = it.same;
        store = it.store;
        rows = it.rows;
        sealed = it.sealed;
        read = it.read;
        up_to_date = λ clean. subst (λ (image : Image). IsNotOlder it.found.key it.found.last image.log image.db) (fresh_image was.log was.db fresh.0 fresh.1) (it.up_to_date clean);
        numbered = λ clean calm. subst (λ (image : Image). FoundNumbered (image_at g.R.Start) image it.found) (fresh_image was.log was.db fresh.0 fresh.1) (it.numbered clean calm);
      };
    })
