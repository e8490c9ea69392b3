-- Where the frames of a log are.
use Rattle.std.proofs.Common.{◌≡◌, ℕ, ◌+◌, ◌-◌, ◌*◌, ◌/◌, ◌<◌, ◌≤◌, List, length, take, drop, refl, ap, arith}
use Rattle.std.proofs.Math.Nat.{le-div_iff_mul-le}
use Rattle.sqlite_wal.specs.Format.{part}
use Rattle.sqlite_wal.specs.Recovery.{frames_len, frame_at, header, frame}
use Rattle.sqlite_wal.proofs.PartLemmas.{frames_len-le}
use Rattle.dav_log.specs.Damage.{IsWithin}

pub frame_at_is : (page_size i : ℕ) → frame_at page_size i ≡ 32 + i * (24 + page_size)
unfolding frames_len
frame_at_is page_size i = refl

pub within_is : (page_size : ℕ) (log : List ℕ) (i : ℕ) → IsWithin page_size log i → 32 + i * (24 + page_size) + (24 + page_size) ≤ length log
unfolding frames_len
within_is page_size log i within = within

pub within_from : (page_size : ℕ) (log : List ℕ) (i : ℕ) → 32 + i * (24 + page_size) + (24 + page_size) ≤ length log → IsWithin page_size log i
unfolding frames_len
within_from page_size log i within = within

pub within_earlier : (page_size : ℕ) (log : List ℕ) (i j : ℕ) → IsWithin page_size log i → j ≤ i → IsWithin page_size log j
within_earlier page_size log i j within le = omega (arith, within, frames_len-le page_size j i le)

pub header_is : (log : List ℕ) → take 32 log ≡ header log
unfolding part
header_is log = refl

pub frame_is : (page_size : ℕ) (log : List ℕ) (i n : ℕ) → n ≡ 24 + page_size → take n (drop (32 + i * (24 + page_size)) log) ≡ frame page_size log i
unfolding part frames_len
frame_is page_size log i n is = ap (λ (m : ℕ). take m (drop (32 + i * (24 + page_size)) log)) is

-- a quotient counts the frames that are in the log
pub counts : (page_size : ℕ) (log : List ℕ) (n i : ℕ) → n ≡ length log - 32 → (i < n / (24 + page_size) → IsWithin page_size log i) × (IsWithin page_size log i → i < n / (24 + page_size))
counts page_size log n i is =
    let some : 0 < 24 + page_size = omega arith in
    let decides = le-div_iff_mul-le {k = 24 + page_size} {x = i + 1} {y = n} some in (
      λ low. within_from page_size log i (let le : i + 1 ≤ n / (24 + page_size) = omega arith in let fits = decides.0 le in omega (arith, fits)),
      λ within. let fits : (i + 1) * (24 + page_size) ≤ n = omega (arith, within_is page_size log i within) in let le = decides.1 fits in omega (arith, le),
    )
