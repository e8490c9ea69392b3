-- A store that refuses by plan, after its wrapped store was borrowed: this project's own choice.
use Rattle.std.specs.Borrow.{Lends, MutBor, Fml, RattleType}
use Rattle.dav_refusing.specs.declared.refusing.Refusing.{Refusing}
use Rattle.dav_refusing.specs.contracts.refusing.Refusing.{the_row}

module _ (F : RattleType) where
  -- the store with another wrapped store
  abbrev pub with_inner : Refusing F.Denot → F.Denot → Refusing F.Denot
  with_inner store inner = record store { inner = inner }

  -- when the borrow ends, the wrapped store has the last value of the borrow, and the rest is as it was
  abbrev pub LendsInner : MutBor (Refusing F.Denot) → MutBor F.Denot → Fml
  LendsInner store inner = Lends (the_row F) F store inner (with_inner store.now)
