-- Hashes of blocks, bit by bit.
use Rattle.std.proofs.Common.{◌≡◌, ℕ, List, [], ◌∷◌, ◌++◌, max, refl, sym}
use Rattle.std.specs.Hash.DefaultHasher.{write, finish}
use Rattle.std.specs.Hash.DefaultHasher as sip
use Rattle.std.specs.declared.hash.DefaultHasher.{DefaultHasher}
use Rattle.std.proofs.lemmas.List.Sums.{fold-append}
use Rattle.sqlite_disk.specs.Digest.{digest}
use Rattle.dav_data.specs.Digests.{hashed}

pub write-nil : (s : DefaultHasher) → write s [] ≡ s
unfolding write
write-nil s = refl

pub write-one : (s : DefaultHasher) (b : ℕ) → sip.write_byte s b ≡ write s (b ∷ [])
unfolding write
write-one s b = refl

pub write-append : (s : DefaultHasher) (a b : List ℕ) → write (write s a) b ≡ write s (a ++ b)
unfolding write
write-append s a b = sym (fold-append sip.write_byte s a b)

pub digest-hashed : (key : ℕ) (bytes : List ℕ) → max 1 (finish (hashed key bytes)) ≡ digest key bytes
unfolding digest
digest-hashed key bytes = refl
