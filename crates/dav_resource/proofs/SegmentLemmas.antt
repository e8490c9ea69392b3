-- Strings that may be segments.
use Rattle.std.proofs.Common.{◌≡◌, ◌<◌, ℕ, Bool, true, false, not, ◌&&◌, refl, List, All, Fits, w8, get_or, arith}
use Rattle.std.specs.List.{list_all}
use Rattle.std.specs.Str.{is_utf8}
use Rattle.std.proofs.lemmas.Bool.{and_parts, and_from}
use Rattle.std.proofs.lemmas.List.Elements.{All-from_get_or}
use Rattle.dav_resource.specs.PathText.{IsSegment, is_segment, is_plain_byte, is_dropped, is_parent}

pub is_segment-of : (s : List ℕ) → IsSegment s → is_segment s ≡ true
is_segment-of s is = rw (is.kept, is.child) (and_parts (is_utf8 s) (list_all is_plain_byte s) is.written.text).1

not_true : (b : Bool) → not b ≡ true → b ≡ false
not_true true e = cc
not_true false e = refl

pub IsSegment-of : (s : List ℕ) → is_utf8 s ≡ true → All (λ b. b < 256) s → is_segment s ≡ true → IsSegment s
IsSegment-of s utf8 bytes is =
    let parts = and_parts (not (is_dropped s) && not (is_parent s)) (list_all is_plain_byte s) is in
    let kept = and_parts (not (is_dropped s)) (not (is_parent s)) parts.0 in
    record {
      written = record { text = and_from (is_utf8 s) (list_all is_plain_byte s) utf8 parts.1; bytes = bytes };
      kept = not_true (is_dropped s) kept.0;
      child = not_true (is_parent s) kept.1;
    }

-- each element of a string is a byte
pub All-bytes : (s : List ℕ) → ((k : ℕ) → Fits w8 (get_or s k 0)) → All (λ b. b < 256) s
All-bytes s fits = All-from_get_or (λ b. b < 256) s 0 (λ k h. omega (arith, fits k))
