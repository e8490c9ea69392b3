-- What a read of a value from the front of a frame promises.
use Rattle.std.specs.Prelude.{◌≡◌, ℕ, List, Some, None, Result, Ok, Err, ⊤}
use Rattle.dav_wire.specs.Codec.{Codec, decode}
use Rattle.dav_wire.specs.declared.error.WireError.{WireError}
use Rattle.dav_wire.specs.declared.error.WireError.TheVariants.{Malformed, Memory}

-- why a read of these bytes fails: they do not begin with a value
abbrev pub Fails : {A : Type 0} → Codec A → List ℕ → WireError → Type 0
Fails a old Malformed = a.parse old ≡ None
Fails a old Memory = ⊥

-- the same for a read that allocates: memory may also run out
abbrev pub FailsAllocating : {A : Type 0} → Codec A → List ℕ → WireError → Type 0
FailsAllocating a old Malformed = a.parse old ≡ None
FailsAllocating a old Memory = ⊤

-- a read that allocates nothing: `old` and `new` are the bytes left before and after it, and `value` is how contracts see the result
abbrev pub Reads : {A B : Type 0} → Codec A → (B → A) → List ℕ → Result B WireError → List ℕ → Type 0
Reads a value old (Ok x) new = a.parse old ≡ Some (value x, new)
Reads a value old (Err e) new = Fails a old e

-- a read that allocates
abbrev pub ReadsAllocating : {A B : Type 0} → Codec A → (B → A) → List ℕ → Result B WireError → List ℕ → Type 0
ReadsAllocating a value old (Ok x) new = a.parse old ≡ Some (value x, new)
ReadsAllocating a value old (Err e) new = FailsAllocating a old e

-- why a read of a whole input fails: it is not the encoding of one value, or memory runs out
abbrev pub FailsWhole : {A : Type 0} → Codec A → List ℕ → WireError → Type 0
FailsWhole a bytes Malformed = decode a bytes ≡ None
FailsWhole a bytes Memory = ⊤

-- a read of a whole input, which is the encoding of one value with nothing after it
abbrev pub Decodes : {A B : Type 0} → Codec A → (B → A) → List ℕ → Result B WireError → Type 0
Decodes a value bytes (Ok x) = decode a bytes ≡ Some (value x)
Decodes a value bytes (Err e) = FailsWhole a bytes e
