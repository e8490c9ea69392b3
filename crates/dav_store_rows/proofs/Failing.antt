-- Why saving fails, at the exit of a `?`.
use Rattle.std.proofs.Common.{◌≡◌, sym, subst, Result, Ok, Err}
use Rattle.std.specs.Result.{IfErr, IsErrAnd}
use Rattle.dav_store_rows.specs.declared.saving.error.SaveError.{SaveError}
use Rattle.dav_store_rows.specs.declared.saving.error.SaveError.TheVariants.{TooLarge, TooDeep, Memory}
use Rattle.dav_store_rows.specs.SaveErrors.{FailsUnless}

weaker : (fits flat less_fits less_flat : Type 0) (error : SaveError) → FailsUnless less_fits less_flat error → (fits → less_fits) → (flat → less_flat)
    → FailsUnless fits flat error
weaker fits flat less_fits less_flat TooLarge why more more_flat = λ all. why (more all)
weaker fits flat less_fits less_flat TooDeep why more more_flat = λ all. why (more_flat all)
weaker fits flat less_fits less_flat Memory why more more_flat = tt

-- what a call in it says of the error says why a function fails, if what fits in all fits in the call
pub fails_on : {A : Type 0} (result : Result A SaveError) (fits flat less_fits less_flat : Type 0) (error : SaveError) → IsErrAnd result (λ e. e ≡ error)
    → FailsUnless less_fits less_flat error → (fits → less_fits) → (flat → less_flat) → IfErr result (FailsUnless fits flat)
fails_on (Ok x) fits flat less_fits less_flat error given why more more_flat = absurd given
fails_on (Err e) fits flat less_fits less_flat error given why more more_flat =
    subst (FailsUnless fits flat) (sym given) (weaker fits flat less_fits less_flat error why more more_flat)
