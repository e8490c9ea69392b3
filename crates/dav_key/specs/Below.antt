-- Keys at or below another key (RFC 4918, section 5.1), and values of finite maps at keys: this project's own choice.
use Rattle.std.specs.Prelude.{◌≡◌, Bool, false, bytes_eq, not, ◌&&◌, ◌++◌, filter_map, Option, Some, None}
use Rattle.std.specs.Option.{option_map}
use Rattle.std.specs.List.{starts_with}
use Rattle.std.specs.FinMap.{FinMap, from_entries, get, insert, remove, entries}
use Rattle.dav_key.specs.Key.{Key, key_cmp, is_same_key}

-- the key is the other one, or begins with its segments
abbrev pub is_at_or_below : Key → Key → Bool
is_at_or_below key above = starts_with bytes_eq key above

-- the key is at or below the other one, and is not it
abbrev pub is_below : Key → Key → Bool
is_below key above = is_at_or_below key above && not (is_same_key key above)

-- neither key is at or below the other
pub record AreApart (one other : Key) : Type 0 where
  pub one_other : is_at_or_below one other ≡ false
  pub other_one : is_at_or_below other one ≡ false

-- the map with this value at a key, or with no value there
abbrev pub put_at : {X : Type 0} → FinMap key_cmp X → Key → Option X → FinMap key_cmp X
put_at map key (Some x) = insert map key x
put_at map key None = remove map key

-- the results of `give` for the values of a map, each at its key
abbrev pub each : {X Y : Type 0} → (X → Option Y) → FinMap key_cmp X → FinMap key_cmp Y
each give map = from_entries (filter_map (λ e. option_map (λ y. (e.0, y)) (give e.1)) (entries map))

-- what was at or below the one key is now at or below the other, and nothing is left at or below the one; values at all other keys stay the same
pub record IsMoved {X : Type 0} (from to : Key) (old new : FinMap key_cmp X) : Type 0 where
  pub moved : (below : Key) → get new (to ++ below) ≡ get old (from ++ below)
  pub gone : (below : Key) → get new (from ++ below) ≡ None
  pub rest : (key : Key) → is_at_or_below key from ≡ false → is_at_or_below key to ≡ false → get new key ≡ get old key
