-- Bytes at the end of a body: in a block that has grown, and in new blocks.
use Rattle.std.proofs.Common.{◌≡◌, ◌∙◌, ℕ, ◌+◌, ◌-◌, ◌<◌, ◌≤◌, ◌^◌, Bool, true, ltb, List, ◌++◌, Option, Some, None, take, drop, length, refl, ap, sym, append_assoc, length-drop, arith}
use Rattle.std.specs.Prelude.{◌==◌}
use Rattle.std.proofs.lemmas.Bool.{lt-ltb}
use Rattle.std.proofs.lemmas.List.{take-append-drop}
use Rattle.sqlite_disk.specs.Digest.{digest}
use Rattle.dav_pieces.specs.declared.piece.Block.{Block}
use Rattle.dav_pieces.specs.declared.piece.Piece.{Piece}
use Rattle.dav_pieces.specs.Pieces.{bytes_at, bytes_of, size_of, last_block}
use Rattle.dav_pieces.specs.Growth.{IsGrown, growth, grown_bytes, is_grown_in}
use Rattle.dav_pieces.specs.Changes.{IsAppended}
use Rattle.dav_pieces.proofs.RunBytes.{bytes_at-within}
use Rattle.dav_pieces.proofs.PieceLaws.{length-bytes_of}
use Rattle.dav_data.specs.Runs.{run_passes}
use Rattle.dav_data.specs.Digests.{is_right}

pub grown-used-kept : (old new : ℕ → ℕ → Bool) → ((at n : ℕ) → old at n ≡ true → new at n ≡ true) → (grown : Option Block)
    → is_grown_in (run_passes old) grown ≡ true → is_grown_in (run_passes new) grown ≡ true
grown-used-kept old new used None is = refl
grown-used-kept old new used (Some grown) is = used grown.at grown.size is

module _ (old new : List ℕ) (test : ℕ → ℕ → Bool) (same : (at n : ℕ) → test at n ≡ true → bytes_at new at n ≡ bytes_at old at n) where
  pub grown-right-kept : (key : ℕ) (grown : Option Block) → is_grown_in (run_passes test) grown ≡ true → is_grown_in (is_right key old) grown ≡ true → is_grown_in (is_right key new) grown ≡ true
  grown-right-kept key None used is = refl
  grown-right-kept key (Some grown) used is = ap (λ bytes. digest key bytes == grown.digest) (same grown.at grown.size used) ∙ is

  -- the bytes by which a block in use has grown
  pub grown-bytes-kept : (last grown : Option Block) → IsGrown last grown → is_grown_in (run_passes test) grown ≡ true → grown_bytes new last grown ≡ grown_bytes old last grown
  grown-bytes-kept None None grows used = refl
  grown-bytes-kept None (Some grown) grows used = absurd grows
  grown-bytes-kept (Some last) None grows used = refl
  grown-bytes-kept (Some last) (Some grown) grows used =
      let more = grown.size - last.size in
      let longer = grows.1 in
      let fits : last.size + more ≤ grown.size = omega arith in
      let moved = λ (file : List ℕ). ap (λ at. bytes_at file (at + last.size) more) (sym grows.0) in
      moved new ∙ bytes_at-within new grown.at grown.size last.size more fits ∙ ap (λ bytes. take more (drop last.size bytes)) (same grown.at grown.size used)
      ∙ sym (bytes_at-within old grown.at grown.size last.size more fits) ∙ sym (moved old)

pub appended-bytes : (before file : List ℕ) (body new more : List Piece) (grown : Option Block) (len : ℕ) (bytes : List ℕ) → IsAppended body grown more new
    → bytes_of file body ≡ bytes_of before body → grown_bytes file (last_block body) grown ≡ take len bytes → bytes_of file more ≡ drop len bytes → bytes_of file new ≡ bytes_of before body ++ bytes
appended-bytes before file body new more grown len bytes is same first rest =
    is file ∙ (λ i. (same i ++ first i) ++ rest i) ∙ append_assoc (bytes_of before body) (take len bytes) (drop len bytes) ∙ ap (λ bs. bytes_of before body ++ bs) (take-append-drop len bytes)

-- how many bytes the new blocks have
pub rest-size : (file : List ℕ) (more : List Piece) (len : ℕ) (bytes rest : List ℕ) → bytes_of file more ≡ rest → rest ≡ drop len bytes → size_of more ≡ length bytes - len
rest-size file more len bytes rest same is = sym (length-bytes_of file more) ∙ ap length (same ∙ is) ∙ length-drop len bytes

pub appended-small : (body new more : List Piece) (grown : Option Block) (len : ℕ) (bytes : List ℕ) → len ≤ length bytes → growth (last_block body) grown ≡ len → size_of more ≡ length bytes - len
    → size_of body + length bytes < 2 ^ 63 → size_of new ≡ size_of body + growth (last_block body) grown + size_of more → ltb (size_of new) (2 ^ 63) ≡ true
appended-small body new more grown len bytes most grows rest small is = lt-ltb (size_of new) (2 ^ 63) (omega arith)

pub append-fits : (size grows more len total : ℕ) → grows ≡ len → more ≡ total - len → len ≤ total → size + total < 2 ^ 63 → size + grows + more < 2 ^ 63
append-fits size grows more len total is rest most fits = omega arith
