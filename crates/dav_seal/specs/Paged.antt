-- The numbers at the places of pages.
use Rattle.std.specs.Prelude.{◌≡◌, ℕ, ◌/◌, ◌%◌, ◌==◌, cond, List, Option, None, Some, nat_eq, slice_index}
use Rattle.std.specs.HashMap.{get}
use Rattle.dav_seal.specs.declared.pages.Pages.{Pages}

-- the number in a slot of a page: 0 where there is no page
abbrev pub in_page : Option (List ℕ) → ℕ → ℕ
in_page None slot = 0
in_page (Some page) slot = slice_index page slot

-- the number at a place
abbrev pub number_at : Pages → ℕ → ℕ
number_at pages place = in_page (get nat_eq pages.map (place / 4)) (place % 4)

-- each place has 0
abbrev pub IsZero : Pages → Type 0
IsZero pages = (place : ℕ) → number_at pages place ≡ 0

-- both have the same numbers
abbrev pub AreSame : Pages → Pages → Type 0
AreSame old new = (place : ℕ) → number_at new place ≡ number_at old place

-- the new pages have this number at this place, and at each other place what the old ones have
abbrev pub Writes : ℕ → ℕ → Pages → Pages → Type 0
Writes place number old new = (p : ℕ) → number_at new p ≡ cond (place == p) number (number_at old p)
