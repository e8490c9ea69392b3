-- What calls of a disk make of a slot.
use Rattle.std.proofs.Common.{◌≡◌, ◌∙◌, ℕ, zero, suc, ◌+◌, ◌<◌, ◌≤◌, ◌^◌, Bool, true, List, length, slice_index, refl, sym, ap, ap₂, subst, max, inl, inr, arith, eq-eqb}
use Rattle.std.proofs.lemmas.Bool.{or_left, or_right, cases_lt}
use Rattle.std.proofs.lemmas.List.{ext_get_or}
use Rattle.sqlite_disk.specs.Disk.{Holds, Torn, Mixed, Follows, Only}
use Rattle.dav_last.specs.Images.{image_of_number, named, any_up_to, IsMixOf}
use Rattle.dav_last.specs.Slots.{said_by, number_or_unreadable, last_in, NamesAtLeast}
use Rattle.dav_last.specs.declared.reading.Last.TheVariants.{Number}
use Rattle.dav_last.proofs.ImageLemmas.{length-image_of_number}
use Rattle.dav_last.proofs.SlotLemmas.{said_by-some, last_in-images, NamesAtLeast-image}

-- a file that is no longer than what it has at its beginning
pub holds-same : (file bytes : List ℕ) → length file ≡ length bytes → Holds file 0 bytes → file ≡ bytes
holds-same file bytes long holds = ext_get_or 0 file bytes long (λ i low.
    let at : 0 + i ≡ i = omega arith in
    sym (ap (slice_index file) at) ∙ holds.each i (omega arith))

-- what was read of a whole slot
pub said_by-read : (key : ℕ) (file bytes : List ℕ) → length file ≡ 16 → length bytes ≡ 16 → Holds file 0 bytes → number_or_unreadable (named key bytes) ≡ said_by key file
said_by-read key file bytes long n holds =
    let same = holds-same file bytes (omega arith) holds in
    ap (λ b. number_or_unreadable (named key b)) (sym same) ∙ sym (said_by-some key file (omega arith))

-- ---- a write to a slot

pub written-image : (key number : ℕ) (bytes old new : List ℕ) → bytes ≡ image_of_number key number → length old ≡ 16 → Torn 0 (length bytes) old new
    → (0 < length bytes → Holds new 0 bytes) → new ≡ image_of_number key number
written-image key number bytes old new is long torn holds =
    let n = ap length is ∙ length-image_of_number key number in
    let low = torn.no_shorter in let high = torn.no_longer in
    holds-same new bytes (omega arith) (holds (omega arith)) ∙ is

torn-whole : (bytes old new : List ℕ) → length bytes ≡ 16 → length old ≡ 16 → Torn 0 (length bytes) old new → length new ≡ 16
torn-whole bytes old new n long torn = let low = torn.no_shorter in let high = torn.no_longer in omega arith

pub whole-written : (key number : ℕ) (bytes : List ℕ) (old_may new_may : List ℕ → Type 0) → bytes ≡ image_of_number key number → Follows (Torn 0 (length bytes)) old_may new_may
    → ((c : List ℕ) → old_may c → length c ≡ 16) → (c : List ℕ) → new_may c → length c ≡ 16
whole-written key number bytes old_may new_may is follows whole = λ c left.
    let step = follows c left in
    torn-whole bytes step.0 c (ap length is ∙ length-image_of_number key number) (whole step.0 step.1) step.2

-- ---- mixes of images

pub any_up_to-this : (most : ℕ) (test : ℕ → Bool) → test most ≡ true → any_up_to most test ≡ true
unfolding any_up_to
any_up_to-this zero test is = is
any_up_to-this (suc most) test is = or_left _ _ is

pub any_up_to-more : (most more : ℕ) (test : ℕ → Bool) → most ≤ more → any_up_to most test ≡ true → any_up_to more test ≡ true
unfolding any_up_to
any_up_to-more most zero test le passes = let none : most ≡ 0 = omega arith in subst (λ n. any_up_to n test ≡ true) none passes
any_up_to-more most (suc more) test le passes = elim (cases_lt most (suc more)) [
  | inl below ↦ or_right _ _ (any_up_to-more most more test (omega arith) passes)
  | inr above ↦ let same : most ≡ suc more = omega arith in subst (λ n. any_up_to n test ≡ true) same passes
]

pub mix-more : (key most more : ℕ) (c : List ℕ) → most ≤ more → IsMixOf key most c → IsMixOf key more c
mix-more key most more c le mix = record { whole = mix.whole; each = λ i low. any_up_to-more most more _ le (mix.each i low) }

pub mix-image : (key number : ℕ) → IsMixOf key number (image_of_number key number)
mix-image key number = record {
  whole = length-image_of_number key number;
  each = λ i low. any_up_to-this number _ (eq-eqb _ _ refl);
}

pub mix-written : (key number : ℕ) (old new : List ℕ) → IsMixOf key number old → Mixed 0 (image_of_number key number) old new → IsMixOf key number new
mix-written key number old new mix mixed =
    let n = length-image_of_number key number in
    let long = mix.whole in
    record {
      whole = torn-whole _ old new n mix.whole mixed.torn;
      each = λ i low.
          let at : 0 + i ≡ i = omega arith in
          elim (mixed.each i (omega arith) (omega arith)) [
            | inl was ↦
                let same : slice_index new i ≡ slice_index old i = sym (ap (slice_index new) at) ∙ was ∙ ap (slice_index old) at in
                rw same (mix.each i low)
            | inr put ↦ any_up_to-this number _ (eq-eqb _ _ (sym (ap (slice_index new) at) ∙ put))
          ];
    }

pub mixes-written : (key number : ℕ) (bytes : List ℕ) (old_may new_may : List ℕ → Type 0) → bytes ≡ image_of_number key number
    → (0 + length bytes < 2 ^ 64 → Follows (Mixed 0 bytes) old_may new_may)
    → ((c : List ℕ) → old_may c → IsMixOf key number c) → (c : List ℕ) → new_may c → IsMixOf key number c
mixes-written key number bytes old_may new_may is follows mixes = λ c left.
    let n = ap length is ∙ length-image_of_number key number in
    let step = follows (omega arith) c left in
    mix-written key number step.0 c (mixes step.0 step.1) (subst (λ b. Mixed 0 b step.0 c) is step.2)

pub mixes-only : (key number : ℕ) (may : List ℕ → Type 0) → Only (image_of_number key number) may → (c : List ℕ) → may c → IsMixOf key number c
mixes-only key number may only = λ c left. subst (IsMixOf key number) (sym (only c left)) (mix-image key number)

pub whole-only : (key number : ℕ) (may : List ℕ → Type 0) → Only (image_of_number key number) may → (c : List ℕ) → may c → length c ≡ 16
whole-only key number may only = λ c left. ap length (only c left) ∙ length-image_of_number key number

-- what a crash leaves of a slot that was synced under a smaller number
pub mixes-only-more : (key number most : ℕ) (may : List ℕ → Type 0) → number ≤ most → Only (image_of_number key number) may → (c : List ℕ) → may c → IsMixOf key most c
mixes-only-more key number most may le only = λ c left. mix-more key number most c le (mixes-only key number may only c left)

-- two slots that are seen as images
pub last_in-both : (key m n most : ℕ) (a b : List ℕ) → a ≡ image_of_number key m → b ≡ image_of_number key n → max m n ≡ most → most < 2 ^ 64 → last_in key a b ≡ Number most
last_in-both key m n most a b first second greatest fits =
    ap₂ (last_in key) first second ∙ last_in-images key m n (omega arith) (omega arith) ∙ ap Number greatest

-- beside a slot that names the number alone, it does not matter what a crash leaves of the other one
pub names-only : (key number : ℕ) (may : List ℕ → Type 0) → number < 2 ^ 64 → Only (image_of_number key number) may → (c d : List ℕ) → may d → NamesAtLeast key number c d
names-only key number may fits only = λ c d left. subst (NamesAtLeast key number c) (sym (only d left)) (NamesAtLeast-image key number c fits)
