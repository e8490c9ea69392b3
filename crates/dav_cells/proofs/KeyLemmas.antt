-- Keys, written and read segment by segment.
use Rattle.std.proofs.Common.{◌≡◌, ◌∙◌, ◌-◌, ◌<◌, ℕ, Some, Bool, true, false, not, ◌&&◌, refl, ap, sym, subst, List, [], ◌∷◌, ◌++◌, All, Fits, w8, get_or, arith, append-nil, append_assoc}
use Rattle.dav_key.specs.Key.{Key}
use Rattle.dav_resource.specs.PathText.{IsSegment, IsKey}
use Rattle.dav_resource.proofs.KeyLemmas.{IsKey-push}
use Rattle.dav_wire.specs.Numbers.{number}
use Rattle.dav_wire.specs.Writes.{Appends}
use Rattle.dav_wire.proofs.ListLemmas.{ListSoFar, list_begin, list_more}
use Rattle.dav_wire.proofs.WriteLemmas.{Run, run_begin, run_more}
use Rattle.dav_cells.specs.Paths.{segment_codec}

-- what is written so far: the segments before those that are left
pub record KeySoFar (key left : Key) (old now : List ℕ) : Type 0 where
  pub done : Key
  pub is : key ≡ done ++ left
  pub rest : IsKey left
  pub run : Run segment_codec done old now

pub key_begin : (key left : Key) (bytes : List ℕ) → left ≡ key → IsKey left → KeySoFar key left bytes bytes
key_begin key left bytes same is = record { done = []; is = sym same; rest = is; run = run_begin segment_codec bytes }

pub key_more :
    (key left : Key) (s : List ℕ) (after : Key) (old now new : List ℕ)
    → KeySoFar key left old now → left ≡ s ∷ after → Appends segment_codec s now new → KeySoFar key after old new
key_more key left s after old now new h next written =
    record {
      done = h.done ++ s ∷ [];
      is = h.is ∙ ap (λ (xs : Key). h.done ++ xs) next ∙ sym (append_assoc h.done (s ∷ []) after);
      rest = (subst IsKey next h.rest).1;
      run = run_more segment_codec h.done s old now new h.run written;
    }

-- nothing is left
pub key_end : (key left : Key) (old now : List ℕ) → KeySoFar key left old now → left ≡ [] → Run segment_codec key old now
key_end key left old now h none_left =
    let same : h.done ≡ key = sym (h.is ∙ ap (λ (xs : Key). h.done ++ xs) none_left ∙ append-nil h.done) in
    subst (λ (xs : Key). Run segment_codec xs old now) same h.run

-- ---- reads

-- what is read so far: `left` segments are still in `rest`
pub record KeyRead (bytes : List ℕ) (key : Key) (left : ℕ) (rest : List ℕ) : Type 0 where
  pub so_far : ListSoFar segment_codec bytes key left rest
  pub is : IsKey key

pub key_read_begin : (bytes : List ℕ) (n : ℕ) (rest : List ℕ) → number.parse bytes ≡ Some (n, rest) → KeyRead bytes [] n rest
key_read_begin bytes n rest e = record { so_far = list_begin segment_codec bytes n rest e; is = tt }

pub key_read_more :
    (bytes : List ℕ) (key : Key) (left : ℕ) (rest after s : List ℕ)
    → KeyRead bytes key left rest → 0 < left → segment_codec.parse rest ≡ Some (s, after) → IsSegment s → KeyRead bytes (key ++ s ∷ []) (left - 1) after
key_read_more bytes key left rest after s h more e is =
    record { so_far = list_more segment_codec bytes key left rest after s h.so_far more e; is = IsKey-push key s h.is is }
