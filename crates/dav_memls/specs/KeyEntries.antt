-- The entries of a map from the texts of keys to numbers: this project's own choice.
use Rattle.std.specs.Prelude.{◌≢◌, ◌&&◌, ℕ, Bool, List, [], Option, Some, All, bytes_eq}
use Rattle.std.specs.declared.alloc.Global.{Global}
use Rattle.std.specs.declared.rc.RcStr.{RcStr}
use Rattle.std.specs.declared.cmp.Ordering.{Ordering}
use Rattle.std.specs.Cmp.Lexicographic.{slice_cmp}
use Rattle.std.specs.Map.{lookup}
use Rattle.std.specs.Option.{option_map, option_map_or}
use Rattle.std.specs.Ordering.{nat_cmp}
use Rattle.std.specs.Rc.{rc_str_bytes}
use Rattle.dav_key.specs.Key.{Key, is_same_key}
use Rattle.dav_key.specs.Flat.{flat, segments_of, IsFlatText}
use Rattle.dav_memls.specs.declared.memory_locks.numbers.Numbers.{Numbers}

abbrev pub OwnKey : Type 0
OwnKey = RcStr Global

-- the text of an entry's key
abbrev pub own_text : OwnKey → List ℕ
own_text own = rc_str_bytes own

-- an entry's key
abbrev pub own_key : OwnKey → Key
own_key own = segments_of (own_text own)

-- the order of texts, which is that of their keys
abbrev pub own_cmp : OwnKey → OwnKey → Ordering
own_cmp a b = slice_cmp nat_cmp (own_text a) (own_text b)

-- whether the key has this text, and is the key of this text
abbrev pub is_text_of : Key → List ℕ → Bool
is_text_of key text = is_same_key key (segments_of text) && bytes_eq (flat key) text

-- the numbers that these entries have for a key, if there is an entry for it
abbrev pub found_in : List (OwnKey × Numbers) → Key → Option Numbers
found_in entries key = lookup (λ (own : OwnKey). is_text_of key (own_text own)) entries

-- the list of numbers in the entry for a key, if there is one
abbrev pub entry_in : List (OwnKey × Numbers) → Key → Option (List ℕ)
entry_in entries key = option_map (λ (numbers : Numbers). numbers.set.keys) (found_in entries key)

-- the numbers that were found; none if nothing was found
abbrev pub listed : Option Numbers → List ℕ
listed found = option_map_or (λ (numbers : Numbers). numbers.set.keys) found []

-- the list of numbers for a key in these entries; none if there is no entry for it
abbrev pub numbers_in : List (OwnKey × Numbers) → Key → List ℕ
numbers_in entries key = listed (found_in entries key)

-- no entry is without numbers
abbrev pub IsTidy : List (OwnKey × Numbers) → Type 0
IsTidy entries = (key : Key) → entry_in entries key ≢ Some []

-- each of these is the text of a key
abbrev pub AreFlat : List OwnKey → Type 0
AreFlat owns = All (λ own. IsFlatText (own_text own)) owns
