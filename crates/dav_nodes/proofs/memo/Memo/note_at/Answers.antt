use Rattle.std.proofs.Common.{sym, subst}
use Rattle.dav_nodes.specs.Memo.{IsKnownAt}
use Rattle.dav_nodes.proofs.memo.Memo.note_at.Goals as goal

pub returns-in-Ok : goal.returns-in-Ok
returns-in-Ok c = λ numbers known here.
    c.note.ensures numbers known (subst (λ k. IsKnownAt numbers k c.args.above c.args.number) (sym c.in-Ok.ensures) here)
