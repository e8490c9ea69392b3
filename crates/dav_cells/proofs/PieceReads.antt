-- Pieces, decoded one after the other.
use Rattle.std.proofs.Common.{◌≡◌, ◌≢◌, ◌∙◌, ℕ, ◌-◌, ◌<◌, refl, ap, sym, List, [], ◌∷◌, ◌++◌, length, take, Some, None, append-nil, append_assoc}
use Rattle.std.proofs.lemmas.List.{take_at}
use Rattle.dav_pieces.specs.declared.piece.Piece.{Piece}
use Rattle.dav_wire.specs.Codec.{decode, whole}
use Rattle.dav_wire.specs.Numbers.{number}
use Rattle.dav_wire.proofs.ListLemmas.{ListSoFar, list_begin, list_begin-fails, list_more, list_fail, list_end}
use Rattle.dav_cells.specs.Cells.{AppendsDecoded}
use Rattle.dav_cells.specs.Pieces.{piece_codec, pieces_codec}

-- what is decoded so far: `left` pieces are still in `rest`
pub record PiecesSoFar (bytes : List ℕ) (old now : List Piece) (left : ℕ) (rest : List ℕ) : Type 0 where
  pub done : List Piece
  pub is : now ≡ old ++ done
  pub so_far : ListSoFar piece_codec bytes done left rest

pub pieces_begin : (bytes : List ℕ) (old : List Piece) (n : ℕ) (rest : List ℕ) → number.parse bytes ≡ Some (n, rest) → PiecesSoFar bytes old old n rest
pieces_begin bytes old n rest e = record { done = []; is = sym (append-nil old); so_far = list_begin piece_codec bytes n rest e }

pub pieces_begin-fails : (bytes : List ℕ) → number.parse bytes ≡ None → decode pieces_codec bytes ≡ None
unfolding pieces_codec
pieces_begin-fails bytes none = ap whole (list_begin-fails piece_codec bytes none)

pub pieces_more :
    (bytes : List ℕ) (old now : List Piece) (left : ℕ) (rest after : List ℕ) (x : Piece)
    → PiecesSoFar bytes old now left rest → 0 < left → piece_codec.parse rest ≡ Some (x, after) → PiecesSoFar bytes old (now ++ x ∷ []) (left - 1) after
pieces_more bytes old now left rest after x h more e =
    record {
      done = h.done ++ x ∷ [];
      is = ap (λ (xs : List Piece). xs ++ x ∷ []) h.is ∙ append_assoc old h.done (x ∷ []);
      so_far = list_more piece_codec bytes h.done left rest after x h.so_far more e;
    }

pub pieces_fail :
    (bytes : List ℕ) (old now : List Piece) (left : ℕ) (rest : List ℕ)
    → PiecesSoFar bytes old now left rest → 0 < left → piece_codec.parse rest ≡ None → decode pieces_codec bytes ≡ None
unfolding pieces_codec
pieces_fail bytes old now left rest h more none = ap whole (list_fail piece_codec bytes h.done left rest h.so_far more none)

pub pieces_kept : (bytes : List ℕ) (old now : List Piece) (left : ℕ) (rest : List ℕ) → PiecesSoFar bytes old now left rest → take (length old) now ≡ old
pieces_kept bytes old now left rest h = ap (take (length old)) h.is ∙ take_at old h.done (length old) refl

pub pieces_end :
    (bytes : List ℕ) (old now : List Piece) (left : ℕ) (rest : List ℕ)
    → PiecesSoFar bytes old now left rest → left ≡ 0 → rest ≡ [] → AppendsDecoded pieces_codec bytes old now
unfolding pieces_codec
pieces_end bytes old now left rest h none_left at_end =
    record {
      values = h.done;
      decoded = ap whole (list_end piece_codec bytes h.done left rest h.so_far none_left) ∙ ap (λ (r : List ℕ). whole (Some (h.done, r))) at_end;
      is = h.is;
    }

-- what follows the pieces makes the cell malformed

not_whole : {A : Type 0} (x : A) (rest : List ℕ) → rest ≢ [] → whole (Some (x, rest)) ≡ None
not_whole x [] more = absurd (more refl)
not_whole x (b ∷ rest) more = refl

pub pieces_left :
    (bytes : List ℕ) (old now : List Piece) (left : ℕ) (rest : List ℕ)
    → PiecesSoFar bytes old now left rest → left ≡ 0 → rest ≢ [] → decode pieces_codec bytes ≡ None
unfolding pieces_codec
pieces_left bytes old now left rest h none_left more =
    ap whole (list_end piece_codec bytes h.done left rest h.so_far none_left) ∙ not_whole h.done rest more
