use Rattle.std.proofs.Common.{◌∙◌, sym}
use Rattle.dav_last.proofs.BothLemmas.{at-err, at-err-too, OnlyReads-same, StillNames-read, StillNames-log, StillNames-db}
use Rattle.dav_last.proofs.replace.replace_both.Goals as goal

pub returns-in_err-log-clause-still : goal.returns-in_err-log-clause-still
returns-in_err-log-clause-still g c =
    at-err _ (StillNames-read g.D.Disk c.args.key c.args.number _ _ _ _ c.read_slot.ensures.same (OnlyReads-same g.D.Disk c.args.key c.args.number _ c.requires.db))

pub returns-in_err-db-clause-still : goal.returns-in_err-db-clause-still
returns-in_err-db-clause-still g c =
    at-err _ (StillNames-read g.D.Disk c.args.key c.args.number _ _ _ _ c.read_slot.ensures.same c.read_slot-2.ensures.same)

pub returns-then-names_more-clause-still : goal.returns-then-names_more-clause-still
returns-then-names_more-clause-still g c =
    at-err-too _ (StillNames-log g.D.Disk c.args.key c.args.number _ _ _ _ _ _ c.in_ok-log.log c.in_ok-db.db c.in_ok-log.ensures.said c.in_ok-db.ensures.said
    c.read_slot.ensures.same c.read_slot-2.ensures.same c.replace_in_order.ensures.second_calm c.replace_in_order.ensures.first_calm (sym c.names_more.ensures ∙ c.if-names_more.true))
    c.replace_in_order.ensures.kept

pub returns-else-names_more-clause-still : goal.returns-else-names_more-clause-still
returns-else-names_more-clause-still g c =
    let e = c.replace_in_order-else-names_more.ensures in
    at-err-too _ (StillNames-db g.D.Disk c.args.key c.args.number _ _ _ _ _ _ c.in_ok-log.log c.in_ok-db.db c.in_ok-log.ensures.said c.in_ok-db.ensures.said
    c.read_slot.ensures.same c.read_slot-2.ensures.same e.first_calm e.second_calm (sym c.names_more.ensures ∙ c.if-names_more.false))
    e.kept
