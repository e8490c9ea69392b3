-- The text of a key, and those of the keys above it: this project's own choice.
use Rattle.std.specs.Prelude.{◌≡◌, ◌==◌, ◌&&◌, ℕ, Bool, false, List, length, Option}
use Rattle.std.specs.Option.{MatchOption}
use Rattle.dav_key.specs.Key.{Key, is_same_key}
use Rattle.dav_key.specs.Flat.{flat, segments_of, IsFlatText}
use Rattle.dav_store.specs.Locks.{is_at_or_below}

-- the text is that of the key
pub record IsTextOf (key : Key) (text : List ℕ) : Type 0 where
  pub is_flat : IsFlatText text
  pub key_is : segments_of text ≡ key

-- whether the key is at or below the other, whose text has this length
abbrev pub ends_at : Key → ℕ → Key → Bool
ends_at key n above = is_at_or_below key above && (length (flat above) == n)

-- the text of the one key of this length that the key is at or below
pub record IsTextAbove (key : Key) (n : ℕ) (text : List ℕ) : Type 0 where
  pub is_flat : IsFlatText text
  pub only : (above : Key) → ends_at key n above ≡ is_same_key (segments_of text) above

-- the text of the one key of this length that the key is at or below; `None` if there is no such key
abbrev pub FindsAbove : Key → ℕ → Option (List ℕ) → Type 0
FindsAbove key n found = MatchOption found ((above : Key) → ends_at key n above ≡ false) (IsTextAbove key n)
