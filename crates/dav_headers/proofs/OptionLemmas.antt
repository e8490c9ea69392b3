-- What a value says of how it was made.
use Rattle.std.proofs.Common.{◌≡◌, Bool, true, false, Option, Some, None, option_map, option_and_then, refl}

pub by_test : (t : Bool) (P : Type 0) → (t ≡ true → P) → (t ≡ false → P) → P
by_test true P passed failed = passed refl
by_test false P passed failed = failed refl

-- what a map gave, it made from a value
pub record IsMapped {A B : Type 0} (f : A → B) (r : Option A) (z : B) : Type 0 where
  pub from : A
  pub was : r ≡ Some from
  pub is : f from ≡ z

pub option_map-some : {A B : Type 0} (f : A → B) (r : Option A) (z : B) → option_map f r ≡ Some z → IsMapped f r z
option_map-some f None z e = absurd cc
option_map-some f (Some x) z e = record { from = x; was = refl; is = cc }

-- what a chain gave, its second part made from what its first part gave
pub record IsChained {A B : Type 0} (f : A → Option B) (r : Option A) (z : B) : Type 0 where
  pub from : A
  pub was : r ≡ Some from
  pub is : f from ≡ Some z

pub option_and_then-some : {A B : Type 0} (f : A → Option B) (r : Option A) (z : B) → option_and_then f r ≡ Some z → IsChained f r z
option_and_then-some f None z e = absurd cc
option_and_then-some f (Some x) z e = record { from = x; was = refl; is = e }
