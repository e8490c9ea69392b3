-- Which arguments say a check.
use Rattle.std.proofs.Common.{◌≡◌, ◌∙◌, ◌<◌, ◌≤◌, false, arith, List, [], ◌∷◌, length, refl, sym, ap}
use Rattle.std.specs.Prelude.{get_or, if◌then◌else◌}
use Rattle.std.specs.String.{string_bytes}
use Rattle.std.proofs.Common.{String, Global}
use Rattle.dav_resource.specs.Texts.{texts}
use Rattle.davd.specs.Options.{options_of, server_options_of, check_of, is_check}

-- fewer than two arguments say a server
pub few_serve : (ss : List (String Global)) → length ss < 2 → options_of (texts ss) ≡ server_options_of (texts ss)
few_serve [] below = refl
few_serve (a ∷ []) below = refl
few_serve (a ∷ b ∷ ss) below = absurd (omega (arith, below))

-- so do three or more
pub many_serve : (ss : List (String Global)) → 3 ≤ length ss → options_of (texts ss) ≡ server_options_of (texts ss)
many_serve [] least = refl
many_serve (a ∷ []) least = refl
many_serve (a ∷ b ∷ []) least = absurd (omega (arith, least))
many_serve (a ∷ b ∷ c ∷ ss) least = refl

-- and others that do not begin with the word for a check
pub others_serve : (ss : List (String Global)) (name : String Global) → name ≡ get_or ss 0 name → is_check (string_bytes name) ≡ false → options_of (texts ss) ≡ server_options_of (texts ss)
others_serve [] name is other = refl
others_serve (a ∷ []) name is other = refl
others_serve (a ∷ b ∷ []) name is other =
    ap (λ t. if t then check_of (string_bytes b) else server_options_of (texts (a ∷ b ∷ []))) (ap (λ s. is_check (string_bytes s)) (sym is) ∙ other)
others_serve (a ∷ b ∷ c ∷ ss) name is other = refl
