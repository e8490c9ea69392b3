-- Cuts of a file, one piece further on.
use Rattle.std.proofs.Common.{◌≡◌, ◌∙◌, ℕ, zero, suc, ◌+◌, ◌-◌, ◌<◌, ◌≤◌, min, max, List, [], ◌∷◌, ◌++◌, length, get_or, take, drop, refl, ap, sym, arith, append_assoc, length-append, length-take, length-drop}
use Rattle.std.proofs.Math.ListN.{replicate, length-replicate}
use Rattle.std.proofs.lemmas.List.{take_more, take_min, drop_min, take-append-drop, take-append-le}
use Rattle.dav_store.specs.Calls.{written_at}
use Rattle.dav_pieces.specs.declared.piece.Piece.{Piece}
use Rattle.dav_pieces.specs.declared.piece.Piece.TheVariants.{Part}
use Rattle.dav_pieces.specs.Pieces.{piece_len, piece_bytes, bytes_of, size_of}
use Rattle.dav_pieces.proofs.PieceLaws.{length-piece_bytes, length-bytes_of, bytes_of-append, bytes_of-push, size_of-push}

-- a piece of no bytes: the one that loops find past the end of a list
abbrev pub nothing : Piece
nothing = Part (record { at = 0; size = 0; digest = 0 }) 0 0

take-append : (n : ℕ) (xs ys : List ℕ) → take n (xs ++ ys) ≡ take n xs ++ take (n - length xs) ys
take-append zero xs ys = let e : zero ≡ zero - length xs = omega arith in ap (λ k. take k ys) e
take-append (suc n) [] ys = let e : suc n ≡ suc n - zero = omega arith in ap (λ k. take k ys) e
take-append (suc n) (x ∷ xs) ys =
    let e : n - length xs ≡ suc n - suc (length xs) = omega arith in
    ap (λ zs. x ∷ zs) (take-append n xs ys) ∙ ap (λ k. x ∷ take n xs ++ take k ys) e

drop-append : (n : ℕ) (xs ys : List ℕ) → drop n (xs ++ ys) ≡ drop n xs ++ drop (n - length xs) ys
drop-append zero xs ys = let e : zero ≡ zero - length xs = omega arith in ap (λ k. xs ++ drop k ys) e
drop-append (suc n) [] ys = let e : suc n ≡ suc n - zero = omega arith in ap (λ k. drop k ys) e
drop-append (suc n) (x ∷ xs) ys =
    let e : n - length xs ≡ suc n - suc (length xs) = omega arith in
    drop-append n xs ys ∙ ap (λ k. drop n xs ++ drop k ys) e

-- the first bytes of a file, one piece further on
pub first-more : (file start : List ℕ) (out more seen : List Piece) (e piece : Piece) (n left part : ℕ)
    → left ≡ n - size_of seen → part ≡ min (piece_len e) left
    → bytes_of file out ≡ start ++ take n (bytes_of file seen)
    → bytes_of file more ≡ bytes_of file out ++ piece_bytes file piece
    → piece_bytes file piece ≡ take part (piece_bytes file e)
    → bytes_of file more ≡ start ++ take n (bytes_of file (seen ++ e ∷ []))
first-more file start out more seen e piece n left part lacks short was adds is =
    let size = length-bytes_of file seen in let long = length-piece_bytes file e in
    let fits : part ≡ min (n - length (bytes_of file seen)) (length (piece_bytes file e)) = omega arith in
    let taken = is ∙ ap (λ k. take k (piece_bytes file e)) fits ∙ take_min (n - length (bytes_of file seen)) (piece_bytes file e) in
    adds ∙ (λ i. was i ++ taken i) ∙ append_assoc start (take n (bytes_of file seen)) _
    ∙ ap (λ bs. start ++ bs) (sym (take-append n (bytes_of file seen) (piece_bytes file e)) ∙ ap (take n) (sym (bytes_of-push file seen e)))

-- and those after them
pub rest-more : (file start : List ℕ) (out more seen : List Piece) (e piece : Piece) (n left part : ℕ)
    → left ≡ n - size_of seen → part ≡ min (piece_len e) left
    → bytes_of file out ≡ start ++ drop n (bytes_of file seen)
    → bytes_of file more ≡ bytes_of file out ++ piece_bytes file piece
    → piece_bytes file piece ≡ drop part (piece_bytes file e)
    → bytes_of file more ≡ start ++ drop n (bytes_of file (seen ++ e ∷ []))
rest-more file start out more seen e piece n left part lacks short was adds is =
    let size = length-bytes_of file seen in let long = length-piece_bytes file e in
    let fits : part ≡ min (n - length (bytes_of file seen)) (length (piece_bytes file e)) = omega arith in
    let dropped = is ∙ ap (λ k. drop k (piece_bytes file e)) fits ∙ drop_min (n - length (bytes_of file seen)) (piece_bytes file e) in
    adds ∙ (λ i. was i ++ dropped i) ∙ append_assoc start (drop n (bytes_of file seen)) _
    ∙ ap (λ bs. start ++ bs) (sym (drop-append n (bytes_of file seen) (piece_bytes file e)) ∙ ap (drop n) (sym (bytes_of-push file seen e)))

-- what is left of a count, one piece further on
pub left-more : (seen : List Piece) (e : Piece) (n left part : ℕ) → left ≡ n - size_of seen → part ≡ min (piece_len e) left
    → left - part ≡ n - size_of (seen ++ e ∷ [])
left-more seen e n left part lacks short = let size = size_of-push seen e in omega arith

pub size_of-taken : (i : ℕ) (pieces : List Piece) → size_of (take i pieces) ≤ size_of pieces
size_of-taken zero pieces = omega arith
size_of-taken (suc i) [] = omega arith
size_of-taken (suc i) (piece ∷ pieces) = let rest = size_of-taken i pieces in omega arith

-- the piece at a place is within the whole
pub size_of-at : (pieces : List Piece) (i : ℕ) (d : Piece) → i < length pieces → size_of (take i pieces) + piece_len (get_or pieces i d) ≤ size_of pieces
size_of-at [] i d l = absurd (omega arith)
size_of-at (piece ∷ pieces) zero d l = omega arith
size_of-at (piece ∷ pieces) (suc i) d l = let rest = size_of-at pieces i d (omega arith) in omega arith

pub size_of-more : (pieces : List Piece) (i : ℕ) (d : Piece) → i < length pieces → size_of (take (i + 1) pieces) ≡ size_of (take i pieces) + piece_len (get_or pieces i d)
size_of-more pieces i d l = ap size_of (take_more pieces i d l) ∙ size_of-push (take i pieces) (get_or pieces i d)

-- where all bytes that are asked for are in the first pieces
pub taken-early : (file : List ℕ) (n i : ℕ) (pieces : List Piece) → n ≤ size_of (take i pieces) → take n (bytes_of file (take i pieces)) ≡ take n (bytes_of file pieces)
taken-early file n i pieces h =
    let long = length-bytes_of file (take i pieces) in
    sym (take-append-le n (bytes_of file (take i pieces)) (bytes_of file (drop i pieces)) (omega arith))
    ∙ ap (take n) (sym (bytes_of-append file (take i pieces) (drop i pieces)) ∙ ap (bytes_of file) (take-append-drop i pieces))

pub written-some : (bytes : List ℕ) (place : ℕ) (body : List ℕ) → (length body ≡ 0 → ⊥)
    → written_at bytes place body ≡ take place bytes ++ replicate (place - length bytes) 0 ++ body ++ drop (place + length body) bytes
written-some bytes place [] some = absurd (some refl)
written-some bytes place (b ∷ more) some = refl

pub written-none : (bytes : List ℕ) (place : ℕ) (body : List ℕ) → length body ≡ 0 → bytes ≡ written_at bytes place body
written-none bytes place [] none = refl
written-none bytes place (b ∷ more) none = absurd (omega arith)

-- a file's first bytes, zeros, the new bytes, and what follows them
pub spliced : (file : List ℕ) (none first filled put all old new : List Piece) (place missing end : ℕ)
    → 0 < size_of new → end ≡ place + size_of new → missing ≡ place - size_of old → none ≡ []
    → bytes_of file first ≡ bytes_of file none ++ take place (bytes_of file old)
    → bytes_of file filled ≡ bytes_of file first ++ replicate missing 0
    → put ≡ filled ++ new
    → bytes_of file all ≡ bytes_of file put ++ drop end (bytes_of file old)
    → bytes_of file all ≡ written_at (bytes_of file old) place (bytes_of file new)
spliced file none first filled put all old new place missing end some ends gap is_none a b c d =
    let old_bytes = bytes_of file old in let body = bytes_of file new in
    let body_long = length-bytes_of file new in
    let l : end ≡ place + length body = omega arith in
    let g : missing ≡ place - length old_bytes = gap ∙ ap (λ k. place - k) (sym (length-bytes_of file old)) in
    let first_is = a ∙ ap (λ es. bytes_of file es ++ take place old_bytes) is_none in
    let filled_is = b ∙ (λ i. first_is i ++ replicate (g i) 0) in
    let put_is = ap (bytes_of file) c ∙ bytes_of-append file filled new ∙ ap (λ bs. bs ++ body) filled_is in
    d ∙ (λ i. put_is i ++ drop (l i) old_bytes)
    ∙ sym (written-some old_bytes place body (λ e. omega arith))

-- the size of a file after bytes were written
pub written-size : (file : List ℕ) (old new all : List Piece) (place end : ℕ) → 0 < size_of new → end ≡ place + size_of new
    → bytes_of file all ≡ written_at (bytes_of file old) place (bytes_of file new)
    → size_of all ≡ max (size_of old) end
written-size file old new all place end some ends is =
    let bytes = bytes_of file old in let body = bytes_of file new in
    let old_long = length-bytes_of file old in let new_long = length-bytes_of file new in let all_long = length-bytes_of file all in
    let long = ap length (is ∙ written-some bytes place body (λ e. omega arith)) in
    let a = length-append (take place bytes ++ replicate (place - length bytes) 0 ++ body) (drop (place + length body) bytes) in
    let b = length-append (take place bytes ++ replicate (place - length bytes) 0) body in
    let c = length-append (take place bytes) (replicate (place - length bytes) 0) in
    let d = length-replicate {A = ℕ} (place - length bytes) 0 in
    let t = length-take place bytes in let r = length-drop (place + length body) bytes in
    omega arith

module _ (xs : List Piece) (e rest : Piece) (n from skip left skipped part : ℕ)
    (skip_is : skip ≡ from - size_of xs) (left_is : left ≡ n - (size_of xs - from))
    (skipped_is : skipped ≡ min (piece_len e) skip) (rest_len : piece_len rest ≡ piece_len e - skipped)
    (part_is : part ≡ min (piece_len rest) left) where
  pub cut-skip-more : skip - skipped ≡ from - size_of (xs ++ e ∷ [])
  cut-skip-more = let more = size_of-push xs e in omega arith

  pub cut-left-more : left - part ≡ n - (size_of (xs ++ e ∷ []) - from)
  cut-left-more = let more = size_of-push xs e in omega arith

  pub cut-more : (file got : List ℕ) (piece : Piece) → piece_bytes file rest ≡ drop skipped (piece_bytes file e)
      → piece_bytes file piece ≡ take part (piece_bytes file rest)
      → got ≡ take n (drop from (bytes_of file xs))
      → got ++ piece_bytes file piece ≡ take n (drop from (bytes_of file (xs ++ e ∷ [])))
  cut-more file got piece rest_is piece_is was =
      let front = bytes_of file xs in let last = piece_bytes file e in
      let size = length-bytes_of file xs in let long = length-piece_bytes file e in
      let skips : skipped ≡ min (from - length front) (length last) = omega arith in
      let behind = drop (from - length front) last in
      let is_behind : piece_bytes file rest ≡ behind = rest_is ∙ ap (λ k. drop k last) skips ∙ drop_min (from - length front) last in
      let behind_long : length behind ≡ piece_len rest = ap length (sym is_behind) ∙ length-piece_bytes file rest in
      let cut = drop from front in
      let cut_long = length-drop from front in
      let parts : part ≡ min (n - length cut) (length behind) = omega arith in
      let is_piece = piece_is ∙ (λ i. take (parts i) (is_behind i)) ∙ take_min (n - length cut) behind in
      (λ i. was i ++ is_piece i) ∙ sym (take-append n cut behind) ∙ ap (take n) (sym (drop-append from front last))
      ∙ ap (λ bs. take n (drop from bs)) (sym (bytes_of-push file xs e))

-- where the first pieces have all bytes of a cut
pub cut-early : (file : List ℕ) (n from i : ℕ) (pieces : List Piece) → n ≤ size_of (take i pieces) - from
    → take n (drop from (bytes_of file (take i pieces))) ≡ take n (drop from (bytes_of file pieces))
cut-early file n from i pieces h =
    let front = bytes_of file (take i pieces) in let back = bytes_of file (drop i pieces) in
    let long = length-bytes_of file (take i pieces) in let cut_long = length-drop from front in
    sym (take-append-le n (drop from front) (drop (from - length front) back) (omega arith))
    ∙ ap (take n) (sym (drop-append from front back) ∙ ap (drop from) (sym (bytes_of-append file (take i pieces) (drop i pieces)) ∙ ap (bytes_of file) (take-append-drop i pieces)))
