-- What is in lists.
use Rattle.std.proofs.Common.{◌≡◌, ◌⊎◌, List, [], ◌∷◌, ◌++◌, map, inl, inr, refl, sym, ap}
use Rattle.dav_store.specs.Members.{IsIn, AreDistinct}

module _ {X : Type 0} where
  pub in_left : (x : X) (xs ys : List X) → IsIn x xs → IsIn x (xs ++ ys)
  in_left x [] ys i = absurd i
  in_left x (y ∷ xs) ys (inl e) = inl e
  in_left x (y ∷ xs) ys (inr i) = inr (in_left x xs ys i)

  pub in_right : (x : X) (xs ys : List X) → IsIn x ys → IsIn x (xs ++ ys)
  in_right x [] ys i = i
  in_right x (y ∷ xs) ys i = inr (in_right x xs ys i)

  pub in_either : (x : X) (xs ys : List X) → IsIn x (xs ++ ys) → IsIn x xs ⊎ IsIn x ys
  in_either x [] ys i = inr i
  in_either x (y ∷ xs) ys (inl e) = inl (inl e)
  in_either x (y ∷ xs) ys (inr i) = further (in_either x xs ys i)
    where
      further : IsIn x xs ⊎ IsIn x ys → IsIn x (y ∷ xs) ⊎ IsIn x ys
      further (inl j) = inl (inr j)
      further (inr j) = inr j

pub in_map : {X Y : Type 0} (f : X → Y) (x : X) (xs : List X) → IsIn x xs → IsIn (f x) (map f xs)
in_map f x [] i = absurd i
in_map f x (y ∷ xs) (inl e) = inl (ap f e)
in_map f x (y ∷ xs) (inr i) = inr (in_map f x xs i)

pub out_map : {X Y : Type 0} (f : X → Y) (y : Y) (xs : List X) → IsIn y (map f xs) → (x : X) × IsIn x xs × (y ≡ f x)
out_map f y [] i = absurd i
out_map f y (x ∷ xs) (inl e) = (x, inl refl, sym e)
out_map f y (x ∷ xs) (inr i) = let p = out_map f y xs i in (p.0, inr p.1, p.2)

-- a new element at the end
pub distinct_last : {X : Type 0} (x : X) (xs : List X) → AreDistinct xs → (IsIn x xs → ⊥) → AreDistinct (xs ++ x ∷ [])
distinct_last x [] once new = ((λ i. i), tt)
distinct_last {X} x (y ∷ xs) once new = ((λ i. which (in_either y xs (x ∷ []) i)), distinct_last x xs once.1 (λ i. new (inr i)))
  where
    which : IsIn y xs ⊎ IsIn y (x ∷ []) → ⊥
    which (inl i) = once.0 i
    which (inr (inl e)) = new (inl (sym e))
    which (inr (inr i)) = i
