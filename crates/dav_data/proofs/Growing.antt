-- A block that grows.
use Rattle.std.proofs.Common.{◌≡◌, ◌∙◌, ℕ, ◌+◌, ◌≤◌, Bool, true, leb, List, ◌++◌, take, length, ap, sym, length-take, arith}
use Rattle.std.proofs.lemmas.List.{take-take}
use Rattle.std.specs.Prelude.{◌&&◌}
use Rattle.sqlite_disk.specs.Digest.{digest}
use Rattle.dav_pieces.specs.Pieces.{bytes_at}
use Rattle.dav_space.specs.declared.range.Range.{Range}
use Rattle.dav_blocks.specs.Runs.{are_clear}
use Rattle.dav_data.specs.declared.hash.Tail.{Tail}
use Rattle.dav_data.specs.Digests.{hashed, IsHashed}
use Rattle.dav_data.specs.Sip.{hasher_of}
use Rattle.dav_data.proofs.Keeping.{in-use-joined, grown-bytes}

abbrev use_of : List Range → ℕ → ℕ → ℕ → Bool
use_of ranges end at n = leb (at + n) end && are_clear ranges at n

module _ (key : ℕ) (old new : List ℕ) (ranges : List Range) (end : ℕ) (tail grown : Tail) (len : ℕ) (part : List ℕ)
    (used : use_of ranges end tail.block.at tail.block.size ≡ true) (same : bytes_at new tail.block.at tail.block.size ≡ bytes_at old tail.block.at tail.block.size)
    (more : use_of ranges end (tail.block.at + tail.block.size) len ≡ true) (there : bytes_at new (tail.block.at + tail.block.size) len ≡ part)
    (at : grown.block.at ≡ tail.block.at) (size : grown.block.size ≡ tail.block.size + len) where
  bytes : bytes_at new grown.block.at grown.block.size ≡ bytes_at old tail.block.at tail.block.size ++ part
  bytes = (λ i. bytes_at new (at i) (size i)) ∙ grown-bytes old new tail.block.at tail.block.size len part same there

  pub grown-hashed : hasher_of tail.hash ≡ hashed key (bytes_at old tail.block.at tail.block.size)
      → ((before : List ℕ) → hasher_of tail.hash ≡ hashed key before → hasher_of grown.hash ≡ hashed key (before ++ part)) → IsHashed key new (use_of ranges end) grown
  grown-hashed was goes_on = record {
    used = (λ i. use_of ranges end (at i) (size i)) ∙ in-use-joined ranges end tail.block.at tail.block.size len used more;
    hash = goes_on _ was ∙ ap (hashed key) (sym bytes);
  }

  pub grown-right : hasher_of tail.hash ≡ hashed key (bytes_at old tail.block.at tail.block.size)
      → ((before : List ℕ) → hasher_of tail.hash ≡ hashed key before → grown.block.digest ≡ digest key (before ++ part)) → grown.block.digest ≡ digest key (bytes_at new grown.block.at grown.block.size)
  grown-right was goes_on = goes_on _ was ∙ ap (digest key) (sym bytes)

-- the first bytes of those that fit
pub part-len : (len most : ℕ) (bytes : List ℕ) → len ≤ length (take most bytes) → (length (take len bytes) ≡ len) × (len ≤ length bytes)
part-len len most bytes fits =
    let a = length-take most bytes in let b = length-take len bytes in
    (omega arith, omega arith)

pub part-same : (len most : ℕ) (bytes : List ℕ) → len ≤ length (take most bytes) → take len (take most bytes) ≡ take len bytes
part-same len most bytes fits = let n = length-take most bytes in take-take len most bytes (omega arith)
