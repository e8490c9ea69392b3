-- What a memo of places says of the numbers of keys: this project's own choice.
use Rattle.std.specs.Prelude.{◌≡◌, ◌≢◌, ℕ, Option, Some}
use Rattle.std.specs.Option.{ForSome}
use Rattle.std.specs.Coded.{Coded-set, coded_option, coded_ℕ}
use Rattle.dav_key.specs.Key.{Key, parent}
use Rattle.dav_nodes.specs.declared.place.Place.{Place}
use Rattle.dav_nodes.specs.declared.memo.Memo.{Memo}

-- the numbers keep what they say, except of one number
abbrev pub KeepsOthers : ℕ → (Key → Option ℕ) → (Key → Option ℕ) → Type 0
KeepsOthers number old new = (key : Key) (n : ℕ) → n ≢ number → old key ≡ Some n → new key ≡ Some n

module _ (numbers : Key → Option ℕ) where
  -- the number of a key's parent is `above`, and its own is this one, if there is one
  pub record IsKnownAt (key : Key) (above : ℕ) (number : Option ℕ) : Type 0 where
    pub parent_at : numbers (parent key) ≡ Some above
    pub own : ForSome number (λ n. numbers key ≡ Some n)

  -- what the place says is so
  abbrev pub IsKnown : Place → Type 0
  IsKnown place = IsKnownAt place.key place.above place.number

  -- what the place, if there is one, says is so
  abbrev pub ArePlaces : Option Place → Type 0
  ArePlaces place = ForSome place IsKnown

  -- what the memo says is so
  pub record AreKnown (memo : Memo) : Type 0 where
    pub last : ArePlaces memo.last
    pub other : ArePlaces memo.other

  IsKnown-prop : (place : Place) → IsProp (IsKnown place)
  IsKnown-prop place x y = λ i. record {
    parent_at = Coded-set (coded_option coded_ℕ) _ _ x.parent_at y.parent_at i;
    own = λ n is. Coded-set (coded_option coded_ℕ) _ _ (x.own n is) (y.own n is) i;
  }

  -- there is one way only
  pub AreKnown-prop : (memo : Memo) → IsProp (AreKnown memo)
  AreKnown-prop memo x y = λ i. record {
    last = λ place is. IsKnown-prop place (x.last place is) (y.last place is) i;
    other = λ place is. IsKnown-prop place (x.other place is) (y.other place is) i;
  }
