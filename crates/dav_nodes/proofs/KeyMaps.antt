-- Maps by key after a change at one key, and keys with one segment more.
use Rattle.std.proofs.Common.{◌≡◌, ◌≢◌, ℕ, Bool, true, false, cond, List, [], ◌∷◌, ◌++◌, length, Some, None, refl, sym, ap, ◌∙◌, ◌⊎◌, inl, inr, arith, length-append}
use Rattle.std.specs.Bool.{Decides}
use Rattle.std.specs.Str.{bytes_eq}
use Rattle.std.specs.Ordering.{eq_by_cmp}
use Rattle.std.specs.FinMap.{FinMap, get, insert, remove, get-insert, get-remove}
use Rattle.std.proofs.lemmas.Bool.{false_from_ne_true}
use Rattle.std.proofs.lemmas.Slice.Eq.{bytes_eq-Decides}
use Rattle.dav_key.specs.Key.{Key, parent, key_cmp, key_cmp_total, tied_decides, is_same_key, same_key_decides}
use Rattle.dav_key.proofs.FlatLemmas.{parent-push}

-- ---- the same or not

tested : {P : Type 0} (b : Bool) → Decides b P → P ⊎ (P → ⊥)
tested true d = inl (d.0 refl)
tested false d = inr (λ p. absurd (let e = d.1 p in cc))

pub key_same_or_not : (a b : Key) → (a ≡ b) ⊎ (a ≢ b)
key_same_or_not a b = tested (is_same_key a b) (same_key_decides a b)

pub name_same_or_not : (s t : List ℕ) → (s ≡ t) ⊎ (s ≢ t)
name_same_or_not s t = tested (bytes_eq s t) (bytes_eq-Decides s t)

-- ---- one segment more

last_or : List ℕ → Key → List ℕ
last_or s [] = s
last_or s (t ∷ key) = last_or t key

last-push : (d : List ℕ) (key : Key) (s : List ℕ) → last_or d (key ++ s ∷ []) ≡ s
unfolding last_or
last-push d [] s = refl
last-push d (t ∷ key) s = last-push t key s

-- keys with one segment more are the same just where both parts are
pub same_above : (a b : Key) (s t : List ℕ) → a ++ s ∷ [] ≡ b ++ t ∷ [] → a ≡ b
same_above a b s t e = sym (parent-push a s) ∙ ap parent e ∙ parent-push b t

pub same_last : (a b : Key) (s t : List ℕ) → a ++ s ∷ [] ≡ b ++ t ∷ [] → s ≡ t
same_last a b s t e = sym (last-push [] a s) ∙ ap (last_or []) e ∙ last-push [] b t

pub not_own_member : (a : Key) (s : List ℕ) → a ≢ a ++ s ∷ []
not_own_member a s e = omega (arith, ap length e, length-append a (s ∷ []))

-- ---- the value at a key after a change

module _ {X : Type 0} (m : FinMap key_cmp X) (key : Key) where
  pub insert-here : (x : X) → get (insert m key x) key ≡ Some x
  insert-here x = get-insert key_cmp_total m key x key ∙ ap (λ b. cond b (Some x) (get m key)) ((tied_decides key key).1 refl)

  pub insert-elsewhere : (x : X) (q : Key) → q ≢ key → get (insert m key x) q ≡ get m q
  insert-elsewhere x q apart =
      get-insert key_cmp_total m key x q
      ∙ ap (λ b. cond b (Some x) (get m q)) (false_from_ne_true (eq_by_cmp key_cmp q key) (λ e. apart ((tied_decides q key).0 e)))

  pub remove-here : get (remove m key) key ≡ None
  remove-here = get-remove key_cmp_total m key key ∙ ap (λ b. cond b None (get m key)) ((tied_decides key key).1 refl)

  pub remove-elsewhere : (q : Key) → q ≢ key → get (remove m key) q ≡ get m q
  remove-elsewhere q apart =
      get-remove key_cmp_total m key q
      ∙ ap (λ b. cond b None (get m q)) (false_from_ne_true (eq_by_cmp key_cmp q key) (λ e. apart ((tied_decides q key).0 e)))
