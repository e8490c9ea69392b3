-- `IsKey` has at most one proof, so that a struct can hold the fact.
use Rattle.std.proofs.Common.{List, [], ◌∷◌, ℕ}
use Rattle.std.proofs.Props.{props}
use mathlib.Core.HLevel.{×_prop, Unit-prop}
use Rattle.dav_key.specs.Key.{Key}
use Rattle.dav_resource.specs.PathText.{IsKey, IsSegment}

IsSegment-prop : (segment : List ℕ) → IsProp (IsSegment segment)
IsSegment-prop segment = hlevel props

pub IsKey-prop : (key : Key) → IsProp (IsKey key)
IsKey-prop [] = Unit-prop
IsKey-prop (segment ∷ key) = ×_prop (IsSegment-prop segment) (IsKey-prop key)
