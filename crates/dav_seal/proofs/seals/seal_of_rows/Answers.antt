use Rattle.std.proofs.Common.{take, subst, sym}
use Rattle.dav_seal.specs.Held.{HasDigests}
use Rattle.dav_seal.proofs.HeldLemmas.{put_all-next, put_all-rising, All-next}
use Rattle.dav_seal.proofs.seals.seal_of_rows.Goals as goal

pub rows-preserved : goal.rows-preserved
rows-preserved g c =
    let rows = c.args.rows.now in
    let i = c.rows.row-index in
    let row = c.row-item.result in
    let number = g.R.SealedRow.number_of in
    let digest = g.R.SealedRow.digest_of c.args.key in
    record {
      digests = subst (HasDigests c.put_row.new.seal) (sym (put_all-next number digest rows i row c.rows-test.true c.row-item.is))
          (c.in_ok-put_row.ensures.digest _ (put_all-rising number digest (take i rows)) c.rows.invariant.digests);
      whole = All-next g.R.SealedRow.HasCells rows i row c.rows-test.true c.row-item.is c.rows.invariant.whole c.in_ok-put_row.ensures.whole;
    }
