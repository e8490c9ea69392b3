-- What two slots name: this project's own choice.
use Rattle.std.specs.Prelude.{◌≡◌, ◌≤◌, ℕ, max, Bool, true, false, nat_lt, List, [], ◌∷◌, Option, Some, None}
use Rattle.dav_last.specs.Images.{named}
use Rattle.dav_last.specs.declared.reading.Last.{Last}
use Rattle.dav_last.specs.declared.reading.Last.TheVariants.{Nothing, Unreadable, Number}

-- a number, or that there is none
abbrev pub number_or_unreadable : Option ℕ → Last
number_or_unreadable (Some number) = Number number
number_or_unreadable None = Unreadable

-- what one file says: the number that it names, if it has a byte
unfoldable pub said_by : ℕ → List ℕ → Last
said_by key [] = Nothing
said_by key (byte ∷ rest) = number_or_unreadable (named key (byte ∷ rest))

-- The greater number. Without one, there is nothing unless both have bytes: the first number of all is written to one slot and then to the other, so beside an
-- empty slot no number can be lost.
abbrev pub later : Last → Last → Last
later (Number m) (Number n) = Number (max m n)
later (Number m) Nothing = Number m
later (Number m) Unreadable = Number m
later Nothing (Number n) = Number n
later Nothing Nothing = Nothing
later Nothing Unreadable = Nothing
later Unreadable (Number n) = Number n
later Unreadable Nothing = Nothing
later Unreadable Unreadable = Unreadable

-- what two files say together
abbrev pub last_in : ℕ → List ℕ → List ℕ → Last
last_in key log db = later (said_by key log) (said_by key db)

-- the number, if there is one
abbrev pub number_in : Last → Option ℕ
number_in (Number n) = Some n
number_in Nothing = None
number_in Unreadable = None

-- the first names a number, and the second a smaller one or none
abbrev pub names_more : Last → Last → Bool
names_more (Number m) (Number n) = nat_lt n m
names_more (Number m) Nothing = true
names_more (Number m) Unreadable = true
names_more Nothing other = false
names_more Unreadable other = false

-- two files name this number or a greater one
abbrev pub NamesAtLeast : ℕ → ℕ → List ℕ → List ℕ → Type 0
NamesAtLeast key number log db = (greatest : ℕ) × (last_in key log db ≡ Number greatest) × (number ≤ greatest)
