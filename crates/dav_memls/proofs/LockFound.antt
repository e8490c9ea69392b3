-- What a look along a path, from the root on, finds of the locks.
use Rattle.std.proofs.Common.{◌≡◌, ◌∙◌, ℕ, Bool, true, false, cond, not, ◌&&◌, ◌||◌, List, [], ◌∷◌, refl, sym, ap}
use Rattle.std.specs.List.{filter, list_all, list_any}
use Rattle.dav_key.specs.Key.{Key}
use Rattle.dav_store.specs.declared.lock.DavLock.{DavLock}
use Rattle.dav_memls.proofs.Reached.{reached}

-- the locks at the key or above it whose own keys have fewer than d segments
abbrev pub is_reached : ℕ → Key → DavLock → Bool
is_reached d key lock = reached d key lock.path.key

-- ---- tests of two kinds

both_any : (q x y : Bool) → (q || (x || y)) ≡ ((q || x) || (q || y))
both_any true x y = refl
both_any false x y = refl

right_any : (q x y : Bool) → (q || (x || y)) ≡ (x || (q || y))
right_any true true y = refl
right_any true false y = refl
right_any false x y = refl

left_any : (q x y : Bool) → (q || (x || y)) ≡ ((q || x) || y)
left_any true x y = refl
left_any false x y = refl

pub any-or : {X : Type 0} (p a b : X → Bool) (ls : List X) → list_any p (filter (λ l. a l || b l) ls) ≡ (list_any p (filter a ls) || list_any p (filter b ls))
any-or p a b [] = refl
any-or p a b (l ∷ ls) = split (a l) (b l) (any-or p a b ls)
  where
    split : (x y : Bool) → list_any p (filter (λ l. a l || b l) ls) ≡ (list_any p (filter a ls) || list_any p (filter b ls)) → list_any p (cond (x || y) (l ∷ filter (λ l. a l || b l) ls) (filter (λ l. a l || b l) ls)) ≡ (list_any p (cond x (l ∷ filter a ls) (filter a ls)) || list_any p (cond y (l ∷ filter b ls) (filter b ls)))
    split true true more = ap (λ w. p l || w) more ∙ both_any (p l) _ _
    split true false more = ap (λ w. p l || w) more ∙ left_any (p l) _ _
    split false true more = ap (λ w. p l || w) more ∙ right_any (p l) _ _
    split false false more = more

or_true : (b : Bool) → (b || true) ≡ true
or_true true = refl
or_true false = refl

-- what passes among some passes among more
pub any_wider : (p a b : DavLock → Bool) → ((l : DavLock) → a l ≡ true → b l ≡ true) → (ls : List DavLock) → list_any p (filter a ls) ≡ true → list_any p (filter b ls) ≡ true
any_wider p a b wider [] e = e
any_wider p a b wider (l ∷ ls) e = split (a l) (b l) (wider l) (any_wider p a b wider ls) e
  where
    first : (q : Bool) (u v : Bool) → (u ≡ true → v ≡ true) → (q || u) ≡ true → (q || v) ≡ true
    first true u v h e = refl
    first false u v h e = h e

    split : (x y : Bool) → (x ≡ true → y ≡ true) → (list_any p (filter a ls) ≡ true → list_any p (filter b ls) ≡ true) → list_any p (cond x (l ∷ filter a ls) (filter a ls)) ≡ true → list_any p (cond y (l ∷ filter b ls) (filter b ls)) ≡ true
    split true true wide more e = first (p l) _ _ more e
    split true false wide more e = absurd (let no : false ≡ true = wide refl in cc)
    split false true wide more e = ap (λ w. p l || w) (more e) ∙ or_true (p l)
    split false false wide more e = more e

all_not : (q : DavLock → Bool) (ls : List DavLock) → list_all q ls ≡ not (list_any (λ l. not (q l)) ls)
all_not q [] = refl
all_not q (l ∷ ls) = elim (q l) as (λ b. (b && list_all q ls) ≡ not (not b || list_any (λ l. not (q l)) ls)) [ true ↦ all_not q ls | false ↦ refl ]

pub all_from_any : (q : DavLock → Bool) (ls : List DavLock) → not (list_any (λ l. not (q l)) ls) ≡ list_all q ls
all_from_any q ls = sym (all_not q ls)
