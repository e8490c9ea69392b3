-- The laws of keys at or below another key: this project's own choice.
use Rattle.std.proofs.Common.{◌≡◌, true, [], ◌∷◌, ◌++◌, bytes_eq, refl, sym}
use Rattle.std.proofs.lemmas.Bool.{and_parts, and_from}
use Rattle.std.proofs.lemmas.Slice.Eq.{bytes_eq-Decides}
use Rattle.dav_key.specs.Key.{Key}
use Rattle.dav_key.specs.Below.{is_at_or_below}

pub at_or_below-append : (above below : Key) → is_at_or_below (above ++ below) above ≡ true
at_or_below-append [] below = refl
at_or_below-append (segment ∷ above) below = and_from _ _ ((bytes_eq-Decides segment segment).1 refl) (at_or_below-append above below)

pub at_or_below-tail : (above key : Key) → is_at_or_below key above ≡ true → (below : Key) × (key ≡ above ++ below)
at_or_below-tail [] key e = (key, refl)
at_or_below-tail (segment ∷ above) [] e = absurd cc
at_or_below-tail (segment ∷ above) (first ∷ key) e =
    let p = and_parts (bytes_eq segment first) (is_at_or_below key above) e in
    let (below, is) = at_or_below-tail above key p.1 in
    (below, λ i. sym ((bytes_eq-Decides segment first).0 p.0) i ∷ is i)
