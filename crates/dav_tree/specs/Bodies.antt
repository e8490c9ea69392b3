-- What a medium does to bodies: this project's own choice.
use Rattle.std.specs.Prelude.{◌≡◌, ◌⊎◌, ◌<◌, ◌^◌, ℕ, Bool, true, false, List, length, ltb}
use borrow.Author.Tests.{ltb-true}
use Rattle.dav_resource.specs.declared.error.FsError.{FsError}
use Rattle.dav_resource.specs.declared.error.FsError.TheVariants as errors

-- each body that was held still is, with the same bytes, and each that was safe still is
pub record KeepsBodies {M B : Type 0} (bytes : M → B → List ℕ) (holds safe : M → B → Bool) (old new : M) : Type 0 where
  pub held : (body : B) → holds old body ≡ true → holds new body ≡ true
  pub same : (body : B) → holds old body ≡ true → bytes new body ≡ bytes old body
  pub still : (body : B) → safe old body ≡ true → safe new body ≡ true

-- what was marked still is
abbrev pub KeepsMarks : {M B : Type 0} → (M → B → Bool) → M → M → Type 0
KeepsMarks {M} {B} marked old new = (body : B) → marked old body ≡ true → marked new body ≡ true

-- each marked body is held, with the same bytes, and is safe if it was
pub record KeepsMarked {M B : Type 0} (bytes : M → B → List ℕ) (holds safe marked : M → B → Bool) (old new : M) : Type 0 where
  pub held : (body : B) → marked old body ≡ true → holds new body ≡ true
  pub same : (body : B) → marked old body ≡ true → bytes new body ≡ bytes old body
  pub still : (body : B) → marked old body ≡ true → safe old body ≡ true → safe new body ≡ true

-- a body is held and has the bytes of another
pub record IsCopy {B : Type 0} (bytes : B → List ℕ) (holds : B → Bool) (body copy : B) : Type 0 where
  pub same : bytes copy ≡ bytes body
  pub held : holds copy ≡ true

-- an error that comes where memory runs out, or one of the medium's own
abbrev pub FailsFor : (FsError → Bool) → FsError → Type 0
FailsFor refuses e = (e ≡ errors.Memory) ⊎ (refuses e ≡ true)

-- fewer than 2^63 bytes
abbrev pub is_small : List ℕ → Bool
is_small bytes = ltb (length bytes) (2 ^ 63)

pub small_is : (bytes : List ℕ) → is_small bytes ≡ true → length bytes < 2 ^ 63
small_is bytes is = ltb-true _ _ is

-- a medium in memory has no errors of its own
pub none_own : {P : Type 0} → false ≡ true → P
none_own e = absurd cc
