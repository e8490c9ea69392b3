-- The arguments that the program accepts: at most one prefix; this project's own choice.
use Rattle.std.specs.Prelude.{ℕ, List, [], ◌∷◌, IsOk}
use Rattle.dav_resource.specs.PathText.{read_prefix}

-- at most one argument, and it can be parsed as a prefix
abbrev pub AreUsable : List (List ℕ) → Type 0
AreUsable [] = Unit {0}
AreUsable (prefix ∷ []) = IsOk (read_prefix prefix)
AreUsable (prefix ∷ another ∷ more) = ⊥
