-- Bodies whose blocks pass a test.
use Rattle.std.proofs.Common.{◌≡◌, ℕ, ◌+◌, ◌^◌, Bool, true, false, ltb, leb, List, [], ◌∷◌, refl}
use Rattle.std.specs.Prelude.{◌&&◌, ◌||◌}
use Rattle.std.proofs.lemmas.Bool.{and_parts, and_from}
use Rattle.dav_pieces.specs.declared.piece.Block.{Block}
use Rattle.dav_pieces.specs.declared.piece.Piece.{Piece}
use Rattle.dav_pieces.specs.declared.piece.Piece.TheVariants.{Part, Zeros}
use Rattle.dav_pieces.specs.Pieces.{bytes_at, bytes_of, size_of, is_sound, are_sound}
use Rattle.dav_data.specs.Runs.{run_passes, blocks_pass}
use Rattle.dav_data.proofs.Runs.{pass-weaker, pass-kept}

abbrev pub is_body : (ℕ → ℕ → Bool) → List Piece → Bool
is_body test body = ltb (size_of body) (2 ^ 63) && blocks_pass test body

pub sound-body : (test : ℕ → ℕ → Bool) (body : List Piece) → is_body test body ≡ true → blocks_pass test body ≡ true
sound-body test body is = (and_parts (ltb (size_of body) (2 ^ 63)) (blocks_pass test body) is).1

-- a test that passes more blocks
pub body-kept : (p q : ℕ → ℕ → Bool) → ((at n : ℕ) → p at n ≡ true → q at n ≡ true) → (body : List Piece) → is_body p body ≡ true → is_body q body ≡ true
body-kept p q then body is =
    let both = and_parts (ltb (size_of body) (2 ^ 63)) (blocks_pass p body) is in
    and_from _ _ both.0 (pass-weaker p q then body both.1)

pub body-bytes : (test : ℕ → ℕ → Bool) (old new : List ℕ) → ((at n : ℕ) → test at n ≡ true → bytes_at new at n ≡ bytes_at old at n)
    → (body : List Piece) → is_body test body ≡ true → bytes_of new body ≡ bytes_of old body
body-bytes test old new same body is = pass-kept test old new same body (sound-body test body is)

piece-both : (p q r : Block → Bool) → ((b : Block) → p b ≡ true → q b ≡ true → r b ≡ true) → (piece : Piece) → is_sound p piece ≡ true → is_sound q piece ≡ true → is_sound r piece ≡ true
piece-both p q r then (Part block from len) first second =
    let one = and_parts (leb (from + len) block.size) (p block) first in
    let two = and_parts (leb (from + len) block.size) (q block) second in
    and_from _ _ one.0 (then block one.1 two.1)
piece-both p q r then (Zeros len) first second = refl

-- two tests
pub sound-both : (p q r : Block → Bool) → ((b : Block) → p b ≡ true → q b ≡ true → r b ≡ true) → (pieces : List Piece) → are_sound p pieces ≡ true → are_sound q pieces ≡ true → are_sound r pieces ≡ true
sound-both p q r then [] first second = refl
sound-both p q r then (piece ∷ pieces) first second =
    let one = and_parts (is_sound p piece) (are_sound p pieces) first in
    let two = and_parts (is_sound q piece) (are_sound q pieces) second in
    and_from _ _ (piece-both p q r then piece one.0 two.0) (sound-both p q r then pieces one.1 two.1)

-- a body that passes both tests, where the second is open only if a flag is set
pub marked-body : (used spared kept : ℕ → ℕ → Bool) → ((at n : ℕ) → spared at n ≡ true → used at n ≡ true → kept at n ≡ true)
    → (body : List Piece) → (is_body used body && blocks_pass spared body) ≡ true → is_body kept body ≡ true
marked-body used spared kept then body is =
    let both = and_parts (is_body used body) (blocks_pass spared body) is in
    let held = and_parts (ltb (size_of body) (2 ^ 63)) (blocks_pass used body) both.0 in
    and_from _ _ held.0 (sound-both (run_passes used) (run_passes spared) (run_passes kept) (λ b u s. then b.at b.size s u) body held.1 both.1)

-- what is spared while the flag is down
pub spared-closed : (flag x : Bool) → flag ≡ false → (flag || x) ≡ true → x ≡ true
spared-closed true x down is = absurd (let e = down in cc)
spared-closed false x down is = is
