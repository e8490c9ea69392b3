-- What a slot holds: this project's own choice.
use Rattle.std.specs.Prelude.{◌≡◌, ◌<◌, ◌==◌, ◌||◌, ℕ, zero, suc, Bool, true, if◌then◌else◌, List, ◌++◌, length, take, slice_index, bytes_eq, Option, Some, None}
use Rattle.std.specs.Int.{w64, to_be_bytes, from_be_bytes}
use Rattle.sqlite_disk.specs.Digest.{digest}

-- the 16 bytes that name a number: itself, and its digest under the key
unfoldable pub image_of_number : ℕ → ℕ → List ℕ
image_of_number key number = to_be_bytes w64 number ++ to_be_bytes w64 (digest key (to_be_bytes w64 number))

-- the number that the first 8 bytes are
unfoldable pub first_number : List ℕ → ℕ
first_number file = from_be_bytes w64 (take 8 file)

-- the number of which a file is the image, if there is one
unfoldable pub named : ℕ → List ℕ → Option ℕ
named key file = if bytes_eq file (image_of_number key (first_number file)) then Some (first_number file) else None

-- some number up to this one passes the test
unfoldable pub any_up_to : ℕ → (ℕ → Bool) → Bool
any_up_to zero test = test 0
any_up_to (suc most) test = test (suc most) || any_up_to most test

-- the file has 16 bytes, and each is the byte at its place of the image of some number up to this one
pub record IsMixOf (key most : ℕ) (file : List ℕ) : Type 0 where
  pub whole : length file ≡ 16
  pub each : (i : ℕ) → i < 16 → any_up_to most (λ number. slice_index file i == slice_index (image_of_number key number) i) ≡ true
