-- Keys as flat texts: a NUL before each segment. This project's own choice.
use Rattle.std.specs.Prelude.{◌≡◌, ℕ, ◌≢◌, Bool, true, ◌&&◌, ◌==◌, nat_eq, List, [], ◌∷◌, ◌++◌, length, drop, All}
use Rattle.std.specs.List.{slice_split, starts_with}
use Rattle.std.specs.Str.{IsUtf8}
use Rattle.dav_key.specs.Key.{Key, parent}

-- the text of a key: a NUL before each segment; the root's is empty
abbrev pub flat : Key → List ℕ
flat [] = []
flat (segment ∷ key) = 0 ∷ segment ++ flat key

-- NUL
abbrev pub is_nul : ℕ → Bool
is_nul b = b == 0

-- the segments of a text: what follows each NUL, up to the next
abbrev pub segments_of : List ℕ → Key
segments_of text = drop 1 (slice_split is_nul text)

-- the length of the parent's text
abbrev pub length_above : Key → ℕ
length_above key = length (flat (parent key))

-- the text ends here, or its next segment begins
abbrev pub is_at_segment : List ℕ → Bool
is_at_segment [] = true
is_at_segment (b ∷ bs) = is_nul b

-- the text begins with the other, and a segment ends there
abbrev pub is_text_below : List ℕ → List ℕ → Bool
is_text_below text other = starts_with nat_eq text other && is_at_segment (drop (length other) text)

-- the string may be a segment: it has no NUL, and is UTF-8
pub record IsFlatSegment (segment : List ℕ) : Type 0 where
  pub no_nul : All (λ b. b ≢ 0) segment
  pub utf8 : IsUtf8 segment

-- every element of the key may be a segment
abbrev pub IsFlatKey : Key → Type 0
IsFlatKey [] = Unit {0}
IsFlatKey (segment ∷ key) = IsFlatSegment segment × IsFlatKey key

-- the text is that of a key
pub record IsFlatText (text : List ℕ) : Type 0 where
  pub plain : IsFlatKey (segments_of text)
  pub same : flat (segments_of text) ≡ text
