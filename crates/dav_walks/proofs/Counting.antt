-- How many keys stand at or below one: a directory and the keys below its members are together at most as many as its own.
use Rattle.std.proofs.Common.{◌≡◌, ◌≤◌, ◌+◌, ◌*◌, ℕ, Bool, true, false, cond, bytes_eq, List, [], ◌∷◌, ◌++◌, length, Option, None, Some, refl, sym, ap, ◌∙◌, subst, inl, inr, arith}
use Rattle.std.specs.Prelude.{is_some}
use Rattle.std.proofs.Math.Nat.{mul-suc, add_comm}
use Rattle.std.proofs.lemmas.Slice.Eq.{bytes_eq-Decides}
use Rattle.dav_key.specs.Key.{Key}
use Rattle.dav_store.specs.Members.{IsIn, AreDistinct, member}
use Rattle.dav_walks.specs.KeyCall.{path_to}
use Rattle.dav_walks.specs.Counting.{total, one, is_below, count_below}

pub total-cons : {X : Type 0} (f : X → ℕ) (x : X) (xs : List X) → total f (x ∷ xs) ≡ f x + total f xs
unfolding total
total-cons f x xs = refl

pub total-append : {X : Type 0} (f : X → ℕ) (xs ys : List X) → total f (xs ++ ys) ≡ total f xs + total f ys
unfolding total
total-append f [] ys = omega arith
total-append f (x ∷ xs) ys = omega (arith, total-append f xs ys)

pub total-plus : {X : Type 0} (f g : X → ℕ) (xs : List X) → total (λ x. f x + g x) xs ≡ total f xs + total g xs
unfolding total
total-plus f g [] = refl
total-plus f g (x ∷ xs) = omega (arith, total-plus f g xs)

total-zero : {X : Type 0} (xs : List X) → total (λ (x : X). 0) xs ≡ 0
unfolding total
total-zero [] = refl
total-zero (x ∷ xs) = omega (arith, total-zero xs)

starts : Option Key → List ℕ → ℕ
starts None n = 0
starts (Some []) n = 0
starts (Some (m ∷ x)) n = one (bytes_eq n m)

is_here : Option Key → ℕ
is_here None = 0
is_here (Some []) = 1
is_here (Some (m ∷ x)) = 0

below_child : (k : Key) (n : List ℕ) (q : Key) → is_below (member k n) q ≡ starts (path_to k q) n
unfolding is_below starts
below_child [] n [] = refl
below_child [] n (b ∷ q) = go (bytes_eq n b)
  where
    go : (t : Bool) → one (is_some (cond t (Some q) None)) ≡ one t
    go true = refl
    go false = refl
below_child (a ∷ k) n [] = refl
below_child (a ∷ k) n (b ∷ q) = go (bytes_eq a b) (below_child k n q)
  where
    go : (t : Bool) → one (is_some (path_to (member k n) q)) ≡ starts (path_to k q) n → one (is_some (cond t (path_to (member k n) q) None)) ≡ starts (cond t (path_to k q) None) n
    go true e = e
    go false e = refl

pub path_here : (k : Key) → path_to k k ≡ Some []
path_here [] = refl
path_here (a ∷ k) = ap (λ b. cond b (path_to k k) None) ((bytes_eq-Decides a a).1 refl) ∙ path_here k

no_start : (names : List (List ℕ)) (m : List ℕ) → (IsIn m names → ⊥) → total (λ n. one (bytes_eq n m)) names ≡ 0
unfolding total
no_start [] m apart = refl
no_start (n ∷ names) m apart = go (bytes_eq n m) refl (no_start names m (λ i. apart (inr i)))
  where
    go : (b : Bool) → bytes_eq n m ≡ b → total (λ n. one (bytes_eq n m)) names ≡ 0 → cond b 1 0 + total (λ n. one (bytes_eq n m)) names ≡ 0
    go true e rest = absurd (apart (inl ((bytes_eq-Decides n m).0 e)))
    go false e rest = omega arith

one_start : (names : List (List ℕ)) (m : List ℕ) → AreDistinct names → total (λ n. one (bytes_eq n m)) names ≤ 1
unfolding total
one_start [] m once = omega arith
one_start (n ∷ names) m once = go (bytes_eq n m) refl (one_start names m once.1)
  where
    go : (b : Bool) → bytes_eq n m ≡ b → total (λ n. one (bytes_eq n m)) names ≤ 1 → cond b 1 0 + total (λ n. one (bytes_eq n m)) names ≤ 1
    go true e rest = let none : total (λ n. one (bytes_eq n m)) names ≡ 0 = no_start names m (λ i. once.0 (subst (λ j. IsIn j names) (sym ((bytes_eq-Decides n m).0 e)) i)) in omega arith
    go false e rest = omega arith

-- at one key
at_most_one : (names : List (List ℕ)) → AreDistinct names → (o : Option Key) → total (starts o) names + is_here o ≤ one (is_some o)
unfolding starts is_here
at_most_one names once None = omega (arith, total-zero names)
at_most_one names once (Some []) = omega (arith, total-zero names)
at_most_one names once (Some (m ∷ x)) = omega (arith, one_start names m once)

pub total-same : {X : Type 0} (f g : X → ℕ) → ((x : X) → f x ≡ g x) → (xs : List X) → total f xs ≡ total g xs
unfolding total
total-same f g e [] = refl
total-same f g e (x ∷ xs) = omega (arith, e x, total-same f g e xs)

all_counted : (k : Key) (names : List (List ℕ)) → AreDistinct names → (ks : List Key) → total (λ n. count_below (member k n) ks) names + total (λ q. is_here (path_to k q)) ks ≤ count_below k ks
unfolding count_below total is_below
all_counted k names once [] = omega (arith, total-zero names)
all_counted k names once (q ∷ ks) =
    let split : total (λ n. is_below (member k n) q + total (is_below (member k n)) ks) names ≡ total (λ n. is_below (member k n) q) names + total (λ n. total (is_below (member k n)) ks) names = total-plus _ _ names in
    let here : total (λ n. is_below (member k n) q) names ≡ total (starts (path_to k q)) names = total-same _ _ (λ n. below_child k n q) names in
    let most : total (starts (path_to k q)) names + is_here (path_to k q) ≤ one (is_some (path_to k q)) = at_most_one names once (path_to k q) in
    let rest : total (λ n. total (is_below (member k n)) ks) names + total (λ q. is_here (path_to k q)) ks ≤ total (is_below k) ks = all_counted k names once ks in
    omega arith

here_once : (k : Key) (ks : List Key) → IsIn k ks → 1 ≤ total (λ q. is_here (path_to k q)) ks
unfolding total is_here
here_once k [] i = absurd i
here_once k (q ∷ ks) (inl p) = let e : is_here (path_to k q) ≡ 1 = ap (λ j. is_here (path_to k j)) p ∙ ap is_here (path_here k) in omega arith
here_once k (q ∷ ks) (inr i) = omega (arith, here_once k ks i)

-- a directory, and the keys of its children
pub children_count : (k : Key) (names : List (List ℕ)) (ks : List Key) → AreDistinct names → IsIn k ks → total (λ n. count_below (member k n) ks) names + 1 ≤ count_below k ks
children_count k names ks once i = omega (arith, all_counted k names once ks, here_once k ks i)

pub counts_itself : (k : Key) (ks : List Key) → IsIn k ks → 1 ≤ count_below k ks
counts_itself k ks i = let c = children_count k [] ks tt i in omega (arith, c)

pub total-nil : {X : Type 0} (f : X → ℕ) → total f [] ≡ 0
unfolding total
total-nil f = refl

pub total-most : {X : Type 0} (f : X → ℕ) (n : ℕ) (xs : List X) → ((x : X) → IsIn x xs → f x ≤ n) → total f xs ≤ n * length xs
unfolding total
total-most f n [] most = omega arith
total-most f n (x ∷ xs) most =
    let here : f x ≤ n = most x (inl refl) in let rest : total f xs ≤ n * length xs = total-most f n xs (λ y i. most y (inr i)) in
    let product : n * length (x ∷ xs) ≡ n + n * length xs = mul-suc n (length xs) ∙ add_comm (n * length xs) n in
    omega arith

pub total-at_least : {X : Type 0} (f : X → ℕ) (x : X) (xs : List X) → IsIn x xs → f x ≤ total f xs
unfolding total
total-at_least f x [] i = absurd i
total-at_least f x (y ∷ xs) (inl p) = let e : f y ≡ f x = ap f p in omega arith
total-at_least f x (y ∷ xs) (inr i) = omega (arith, total-at_least f x xs i)

pub path_below : (p x : Key) → path_to p (p ++ x) ≡ Some x
path_below [] x = refl
path_below (a ∷ p) x = ap (λ b. cond b (path_to p (p ++ x)) None) ((bytes_eq-Decides a a).1 refl) ∙ path_below p x

pub path_is : (p q : Key) → is_some (path_to p q) ≡ true → (x : Key) × (q ≡ p ++ x)
path_is [] q e = (q, refl)
path_is (a ∷ p) [] e = let f : false ≡ true = e in absurd (cc)
path_is (a ∷ p) (b ∷ q) e = go (bytes_eq a b) refl e (path_is p q)
  where
    go : (t : Bool) → bytes_eq a b ≡ t → is_some (cond t (path_to p q) None) ≡ true → (is_some (path_to p q) ≡ true → (x : Key) × (q ≡ p ++ x)) → (x : Key) × (b ∷ q ≡ (a ∷ p) ++ x)
    go true s e further = let f = further e in (f.0, let h : b ≡ a = sym ((bytes_eq-Decides a b).0 s) in λ i. h i ∷ f.1 i)
    go false s e further = let f : false ≡ true = e in absurd (cc)
