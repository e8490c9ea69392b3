-- Keys below others.
use Rattle.std.proofs.Common.{not, ◌≡◌, ◌∙◌, sym, ◌&&◌, Bool, true, ap}
use Rattle.std.specs.Bool.{Decides}
use Rattle.std.proofs.lemmas.Bool.Decides.{same_from_decides}
use Rattle.dav_key.specs.Key.{Key, is_same_key, same_key_decides}
use Rattle.dav_key.specs.Below.{is_at_or_below, is_below}

pub below_test : (above same : Bool) (key other : Key) → above ≡ true → above ≡ is_at_or_below key other → Decides same (key ≡ other) → not same ≡ is_below key other
below_test above same key other t is d =
    ap not (same_from_decides same (is_same_key key other) d (same_key_decides key other)) ∙ ap (λ b. b && not (is_same_key key other)) (sym t ∙ is)
