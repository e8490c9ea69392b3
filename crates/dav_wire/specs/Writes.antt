-- What a write of a value at the end of a frame promises.
use Rattle.std.specs.Prelude.{◌≡◌, ℕ, true, List, ◌++◌, Result, Ok, Err, Vec}
use Rattle.std.specs.declared.alloc.Global.{Global}
use Rattle.dav_wire.specs.Codec.{Codec}
use Rattle.dav_wire.specs.declared.error.WireError.{WireError}
use Rattle.dav_wire.specs.declared.error.WireError.TheVariants.{Malformed, Memory}

-- the bytes begin with the old ones
pub record Extends (old new : List ℕ) : Type 0 where
  pub added : List ℕ
  pub is : new ≡ old ++ added

-- the encoding is appended, and the value is valid, so that the encoding can be read back
pub record Appends {A : Type 0} (a : Codec A) (x : A) (old new : List ℕ) : Type 0 where
  pub valid : a.is_valid x ≡ true
  pub is : new ≡ old ++ a.encode x

-- a write of a value that is always valid: `old` and `new` are the bytes before and after it; it fails only if memory runs out
abbrev pub Writes : {A U E : Type 0} → Codec A → A → List ℕ → Result U E → List ℕ → Type 0
Writes a x old (Ok u) new = Appends a x old new
Writes a x old (Err e) new = Extends old new

-- why a write that may be refused fails: for this reason, or memory runs out
abbrev pub Refuses : Type 0 → WireError → Type 0
Refuses reason Malformed = reason
Refuses reason Memory = Unit {0}

-- a write that is refused only for this reason
abbrev pub WritesUnless : {A U : Type 0} → Type 0 → Codec A → A → List ℕ → Result U WireError → List ℕ → Type 0
WritesUnless reason a x old (Ok u) new = Appends a x old new
WritesUnless reason a x old (Err e) new = Refuses reason e × Extends old new

-- the bytes are the encoding of a valid value, so that it can be read back
pub record IsEncoding {A : Type 0} (a : Codec A) (x : A) (bytes : List ℕ) : Type 0 where
  pub valid : a.is_valid x ≡ true
  pub is : bytes ≡ a.encode x

-- a value written as bytes of its own, which is refused only for this reason
abbrev pub EncodesUnless : {A : Type 0} → Type 0 → Codec A → A → Result (Vec ℕ Global) WireError → Type 0
EncodesUnless reason a x (Ok bytes) = IsEncoding a x bytes.items
EncodesUnless reason a x (Err e) = Refuses reason e
