-- What two slots name together.
use Rattle.std.proofs.Common.{◌≡◌, ◌∙◌, ℕ, ◌<◌, ◌≤◌, ◌^◌, max, true, false, List, [], ◌∷◌, length, refl, sym, ap, arith}
use Rattle.std.specs.Prelude.{Option, Some, None}
use Rattle.dav_last.specs.Images.{image_of_number, named}
use Rattle.dav_last.specs.Slots.{said_by, number_or_unreadable, later, last_in, number_in, names_more, NamesAtLeast}
use Rattle.dav_last.specs.declared.reading.Last.{Last}
use Rattle.dav_last.specs.declared.reading.Last.TheVariants.{Nothing, Unreadable, Number}
use Rattle.dav_last.proofs.ImageLemmas.{length-image_of_number, named-image_of_number, named-other}

pub said_by-empty : (key : ℕ) (file : List ℕ) → length file ≡ 0 → said_by key file ≡ Nothing
unfolding said_by
said_by-empty key [] none = refl
said_by-empty key (byte ∷ rest) none = absurd (omega arith)

-- a file that has a byte
pub said_by-some : (key : ℕ) (file : List ℕ) → 0 < length file → said_by key file ≡ number_or_unreadable (named key file)
unfolding said_by
said_by-some key [] some = absurd (omega arith)
said_by-some key (byte ∷ rest) some = refl

pub said_by-image_of_number : (key number : ℕ) → number < 2 ^ 64 → said_by key (image_of_number key number) ≡ Number number
said_by-image_of_number key number fits =
    said_by-some key _ (omega (arith, length-image_of_number key number)) ∙ ap number_or_unreadable (named-image_of_number key number fits)

pub said_by-other : (key : ℕ) (file : List ℕ) → 0 < length file → (length file ≡ 16 → ⊥) → said_by key file ≡ Unreadable
said_by-other key file some other = said_by-some key file some ∙ ap number_or_unreadable (named-other key file other)

same_number : (o : Option ℕ) → number_in (number_or_unreadable o) ≡ o
same_number (Some number) = refl
same_number None = refl

pub number_in-said_by : (key : ℕ) (file : List ℕ) → number_in (said_by key file) ≡ named key file
unfolding said_by
number_in-said_by key [] = sym (named-other key [] (omega arith))
number_in-said_by key (byte ∷ rest) = same_number (named key (byte ∷ rest))

-- ---- two files

-- the one that names more says all
more_says_all : (a b : Last) → names_more a b ≡ true → number_in (later a b) ≡ number_in a
more_says_all (Number m) (Number n) more = grind arith
more_says_all (Number m) Nothing more = refl
more_says_all (Number m) Unreadable more = refl
more_says_all Nothing b more = absurd (cc)
more_says_all Unreadable b more = absurd (cc)

-- the one that names no less says all
other_says_all : (a b : Last) → names_more a b ≡ false → number_in (later b a) ≡ number_in b
other_says_all (Number m) (Number n) less = grind arith
other_says_all (Number m) Nothing less = absurd (cc)
other_says_all (Number m) Unreadable less = absurd (cc)
other_says_all Nothing (Number n) less = refl
other_says_all Nothing Nothing less = refl
other_says_all Nothing Unreadable less = refl
other_says_all Unreadable (Number n) less = refl
other_says_all Unreadable Nothing less = refl
other_says_all Unreadable Unreadable less = refl

pub greatest-more : (key : ℕ) (a b : List ℕ) → names_more (said_by key a) (said_by key b) ≡ true → number_in (last_in key a b) ≡ named key a
greatest-more key a b more = more_says_all (said_by key a) (said_by key b) more ∙ number_in-said_by key a

pub greatest-other : (key : ℕ) (a b : List ℕ) → names_more (said_by key a) (said_by key b) ≡ false → number_in (last_in key b a) ≡ named key b
greatest-other key a b less = other_says_all (said_by key a) (said_by key b) less ∙ number_in-said_by key b

-- it does not matter which file is the log
pub later_comm : (a b : Last) → later a b ≡ later b a
later_comm (Number m) (Number n) = ap Number (omega arith)
later_comm (Number m) Nothing = refl
later_comm (Number m) Unreadable = refl
later_comm Nothing (Number n) = refl
later_comm Nothing Nothing = refl
later_comm Nothing Unreadable = refl
later_comm Unreadable (Number n) = refl
later_comm Unreadable Nothing = refl
later_comm Unreadable Unreadable = refl

pub last_in_comm : (key : ℕ) (a b : List ℕ) → last_in key a b ≡ last_in key b a
last_in_comm key a b = later_comm (said_by key a) (said_by key b)

-- two images
pub last_in-images : (key m n : ℕ) → m < 2 ^ 64 → n < 2 ^ 64 → last_in key (image_of_number key m) (image_of_number key n) ≡ Number (max m n)
last_in-images key m n low high = rw (said_by-image_of_number key m low, said_by-image_of_number key n high) refl

at_least : (a : Last) (number : ℕ) → (greatest : ℕ) × (later a (Number number) ≡ Number greatest) × (number ≤ greatest)
at_least (Number m) number = (max m number, refl, omega arith)
at_least Nothing number = (number, refl, omega arith)
at_least Unreadable number = (number, refl, omega arith)

-- an image beside any file
pub NamesAtLeast-image : (key number : ℕ) (file : List ℕ) → number < 2 ^ 64 → NamesAtLeast key number file (image_of_number key number)
NamesAtLeast-image key number file fits = rw (said_by-image_of_number key number fits) (at_least (said_by key file) number)
