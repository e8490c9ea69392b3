-- A store that a policy guards, after its wrapped store was borrowed: this project's own choice.
use Rattle.std.specs.Borrow.{Lends, MutBor, Fml, RattleType}
use Rattle.dav_guarding.specs.declared.policy.Policy.{Ghosts}
use Rattle.dav_guarding.specs.declared.guarding.Guarding.{Guarding}
use Rattle.dav_guarding.specs.contracts.guarding.Guarding.{the_row}

module _ (F P : RattleType) (g : Ghosts P.Denot) where
  -- the store with another wrapped store
  abbrev pub with_inner : Guarding F.Denot P.Denot g → F.Denot → Guarding F.Denot P.Denot g
  with_inner store inner = record store { inner = inner }

  -- when the borrow ends, the wrapped store has the last value of the borrow, and the rest is as it was
  abbrev pub LendsInner : MutBor (Guarding F.Denot P.Denot g) → MutBor F.Denot → Fml
  LendsInner store inner = Lends (the_row F P g) F store inner (with_inner store.now)
