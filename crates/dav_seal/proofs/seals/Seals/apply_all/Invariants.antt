use Rattle.std.proofs.Common.{ℕ, take}
use Rattle.dav_rows.specs.Changes.{after}
use Rattle.dav_rows.specs.Contents.{Contents}
use Rattle.dav_seal.specs.Seals.{AreSealsOf}
use Rattle.dav_seal.proofs.seals.Seals.apply_all.Given as goal

-- the seals are those after the changes so far
abbrev pub invariant-changes : goal.invariant-changes
invariant-changes l = (key : ℕ) (m : Contents) → AreSealsOf key m l.fn.self → AreSealsOf key (after (take l.change-index l.changes) m) l.self
