-- What an image names.
use Rattle.std.proofs.Common.{◌≡◌, ◌≢◌, ◌∙◌, ℕ, ◌<◌, ◌^◌, List, length, refl, ap, inl, inr}
use Rattle.std.specs.Prelude.{Some, None, bytes_eq}
use Rattle.std.proofs.lemmas.Bool.{cases_Bool}
use Rattle.std.proofs.lemmas.Nat.{from_be_bytes-to_be_bytes_8}
use Rattle.std.proofs.lemmas.Slice.Eq.{bytes_eq-Decides}
use Rattle.dav_last.specs.Images.{image_of_number, first_number, named}

pub length-image_of_number : (key number : ℕ) → length (image_of_number key number) ≡ 16
unfolding image_of_number
length-image_of_number key number = refl

pub first_number-image_of_number : (key number : ℕ) → number < 2 ^ 64 → first_number (image_of_number key number) ≡ number
unfolding image_of_number first_number
first_number-image_of_number key number fits = from_be_bytes-to_be_bytes_8 number fits

-- an image names its number
pub named-image_of_number : (key number : ℕ) → number < 2 ^ 64 → named key (image_of_number key number) ≡ Some number
unfolding named
named-image_of_number key number fits =
    let same = (bytes_eq-Decides (image_of_number key number) (image_of_number key number)).1 refl in
    rw (first_number-image_of_number key number fits, same) refl

-- what is no image names nothing
pub named-other : (key : ℕ) (file : List ℕ) → length file ≢ 16 → named key file ≡ None
unfolding named
named-other key file other = elim (cases_Bool (bytes_eq file (image_of_number key (first_number file)))) [
  | inl same ↦ absurd (other (ap length ((bytes_eq-Decides file _).0 same) ∙ length-image_of_number key (first_number file)))
  | inr differs ↦ rw differs refl
]
