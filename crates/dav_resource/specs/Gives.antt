-- A call's result compared with the expected result: this project's own choice.
use Rattle.std.specs.Prelude.{◌≡◌, ◌⊎◌, Result, Ok, Err, MatchResult}
use Rattle.dav_resource.specs.declared.error.DavError.{DavError}
use Rattle.dav_resource.specs.declared.error.DavError.TheVariants.{Memory}

-- the result, mapped by `view`, is the expected result, unless the call returned `Memory`
abbrev pub GivesBy : {T U : Type 0} → (T → U) → Result T DavError → Result U DavError → Type 0
GivesBy view result expected =
    MatchResult result (λ x. expected ≡ Ok (view x)) (λ e. (expected ≡ Err e) ⊎ (e ≡ Memory))
