-- `IsFlatText` has at most one proof, so that a struct can hold the fact.
use Rattle.std.proofs.Common.{List, [], ◌∷◌, ℕ}
use Rattle.std.proofs.Props.{props}
use mathlib.Core.HLevel.{×_prop, Unit-prop}
use Rattle.dav_key.specs.Key.{Key}
use Rattle.dav_key.specs.Flat.{IsFlatSegment, IsFlatKey, IsFlatText}

IsFlatSegment-prop : (segment : List ℕ) → IsProp (IsFlatSegment segment)
IsFlatSegment-prop segment = hlevel props

IsFlatKey-prop : (key : Key) → IsProp (IsFlatKey key)
IsFlatKey-prop [] = Unit-prop
IsFlatKey-prop (segment ∷ key) = ×_prop (IsFlatSegment-prop segment) (IsFlatKey-prop key)

pub IsFlatText-prop : (text : List ℕ) → IsProp (IsFlatText text)
IsFlatText-prop text = hlevel (props, IsFlatKey-prop)
