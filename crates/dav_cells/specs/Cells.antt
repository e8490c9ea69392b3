-- What it is to encode a value as a cell, and to decode a cell.
use Rattle.std.specs.Prelude.{◌≡◌, ℕ, List, ◌++◌, Some, None, Result, Ok, Err, Vec}
use Rattle.std.specs.declared.alloc.Global.{Global}
use Rattle.dav_wire.specs.Codec.{Codec, decode}
use Rattle.dav_wire.specs.Writes.{IsEncoding}
use Rattle.dav_cells.specs.declared.error.CellError.{CellError}
use Rattle.dav_cells.specs.declared.error.CellError.TheVariants.{Malformed, TooDeep, Memory}

-- ---- encoding

-- why a value is not encoded: for this reason, or memory runs out
abbrev pub NotEncoded : Type 0 → CellError → Type 0
NotEncoded reason Malformed = ⊥
NotEncoded reason TooDeep = reason
NotEncoded reason Memory = Unit {0}

-- the bytes are the encoding of the value, and the value is valid, so that it is decoded again; it is refused only for this reason
abbrev pub EncodesUnless : {A : Type 0} → Type 0 → Codec A → A → Result (Vec ℕ Global) CellError → Type 0
EncodesUnless reason a x (Ok bytes) = IsEncoding a x bytes.items
EncodesUnless reason a x (Err e) = NotEncoded reason e

-- ---- decoding

-- why a cell is not decoded: it is not the encoding of a value, or memory runs out
abbrev pub NotDecoded : {A : Type 0} → Codec A → List ℕ → CellError → Type 0
NotDecoded a bytes Malformed = decode a bytes ≡ None
NotDecoded a bytes TooDeep = ⊥
NotDecoded a bytes Memory = Unit {0}

-- the values of the cell are appended
pub record AppendsDecoded {A : Type 0} (a : Codec (List A)) (bytes : List ℕ) (old new : List A) : Type 0 where
  pub values : List A
  pub decoded : decode a bytes ≡ Some values
  pub is : new ≡ old ++ values

-- the cell is decoded
abbrev pub Decodes : {A : Type 0} → Codec A → List ℕ → Result A CellError → Type 0
Decodes a bytes (Ok x) = decode a bytes ≡ Some x
Decodes a bytes (Err e) = NotDecoded a bytes e
