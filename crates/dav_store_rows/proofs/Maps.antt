-- Finite maps by their entries.
use Rattle.std.proofs.Common.{◌≡◌, ◌<◌, ℕ, ◌⊎◌, Bool, true, false, cond, T, List, [], ◌∷◌, Option, Some, None, refl, sym, ap, ◌∙◌, inl, inr, arith}
use Rattle.std.specs.Prelude.{◌&&◌}
use Rattle.std.specs.List.{AllByRecursion}
use Rattle.std.specs.Option.{option_or}
use Rattle.std.specs.declared.cmp.Ordering.{Ordering}
use Rattle.std.specs.declared.cmp.Ordering.TheVariants.{Less, Equal, Greater}
use Rattle.std.specs.Ordering.{eq_by_cmp, is_lt, is_eq}
use Rattle.std.specs.Cmp.{IsTotalOrder, tied_itself}
use Rattle.std.specs.FinMap.{FinMap, empty, get, insert, entries, entries_sorted, get-entries, get-insert, get-empty, IsAntisymmetric, same_map}
use Rattle.std.specs.FinMap.Entries.{find, is_sorted, below_all}
use Rattle.std.proofs.lemmas.Option.{same_Some}
use Rattle.std.proofs.lemmas.Bool.{cases_order}

first : (a b : Bool) → T (a && b) → T a
first true b p = tt
first false b p = p

second : (a b : Bool) → T (a && b) → T b
second true b p = p
second false b p = absurd p

less_apart : (o : Ordering) → T (is_lt o) → is_eq o ≡ false
less_apart Less h = refl
less_apart Equal h = absurd h
less_apart Greater h = absurd h

pub equal : (o : Ordering) → is_eq o ≡ true → o ≡ Equal
equal Less h = cc
equal Equal h = refl
equal Greater h = cc

module _ {K V : Type 0} {R : K → K → Ordering} (total : IsTotalOrder R) (same : IsAntisymmetric R) where
  find-above : (k : K) (es : List (K × V)) → T (below_all R k es) → find R k es ≡ None
  find-above k [] h = refl
  find-above k (e ∷ es) h =
      ap (λ b. cond b (Some e.1) (find R k es)) (less_apart (R k e.0) (first _ _ h)) ∙ find-above k es (second _ _ h)

  find-first : (e : K × V) (es : List (K × V)) → find R e.0 (e ∷ es) ≡ Some e.1
  find-first e es = ap (λ b. cond b (Some e.1) (find R e.0 es)) (ap is_eq (tied_itself total e.0))

  find-tied : (q : K) (e : K × V) (es : List (K × V)) → T (is_sorted R (e ∷ es)) → eq_by_cmp R q e.0 ≡ true → find R q es ≡ None
  find-tied q e es sorted tied =
      ap (λ k. find R k es) (same q e.0 (equal _ tied)) ∙ find-above e.0 es (first _ _ sorted)

  -- a value of the later entries is one of all
  pub find-later : (e : K × V) (es : List (K × V)) → T (is_sorted R (e ∷ es)) → (key : K) (v : V) → find R key es ≡ Some v → find R key (e ∷ es) ≡ Some v
  find-later e es sorted key v found =
      elim (eq_by_cmp R key e.0) as (λ b. eq_by_cmp R key e.0 ≡ b → cond b (Some e.1) (find R key es) ≡ Some v) [
        | true ↦ λ tied. absurd (let none = find-tied key e es sorted tied in cc)
        | false ↦ λ off. found
      ] refl

  all-entries : (P : K × V → Type 0) (es : List (K × V)) → T (is_sorted R es) → ((k : K) (v : V) → find R k es ≡ Some v → P (k, v)) → AllByRecursion P es
  all-entries P [] sorted holds = tt
  all-entries P (e ∷ es) sorted holds =
      (holds e.0 e.1 (find-first e es), all-entries P es (second _ _ sorted) (λ k v found. holds k v (find-later e es sorted k v found)))

  -- what is so of each key with its value is so of each entry
  pub each-entry : (P : K × V → Type 0) (m : FinMap R V) → ((k : K) (v : V) → get m k ≡ Some v → P (k, v)) → AllByRecursion P (entries m)
  each-entry P m holds = all-entries P (entries m) (entries_sorted m) (λ k v found. holds k v (get-entries m k ∙ found))

  -- ---- entries put one after the other

  abbrev pub put_all : FinMap R V → List (K × V) → FinMap R V
  put_all m [] = m
  put_all m (e ∷ es) = put_all (insert m e.0 e.1) es

  put-step : (b : Bool) (there : Option V) (v : V) (old : Option V) → (b ≡ true → there ≡ None) → option_or there (cond b (Some v) old) ≡ option_or (cond b (Some v) there) old
  put-step true there v old none = ap (λ o. option_or o (Some v)) (none refl)
  put-step false there v old none = refl

  get-put_all : (es : List (K × V)) (m : FinMap R V) (q : K) → T (is_sorted R es) → get (put_all m es) q ≡ option_or (find R q es) (get m q)
  get-put_all [] m q sorted = refl
  get-put_all (e ∷ es) m q sorted =
      get-put_all es (insert m e.0 e.1) q (second _ _ sorted)
      ∙ ap (λ o. option_or (find R q es) o) (get-insert total m e.0 e.1 q)
      ∙ put-step (eq_by_cmp R q e.0) (find R q es) e.1 (get m q) (find-tied q e es sorted)

  or-none : (o : Option V) → option_or o None ≡ o
  or-none None = refl
  or-none (Some v) = refl

  -- a map is made of its entries
  pub put_all-entries : (m : FinMap R V) → put_all empty (entries m) ≡ m
  put_all-entries m =
      same_map total same _ _ (λ q. get-put_all (entries m) empty q (entries_sorted m)
      ∙ ap (λ o. option_or (find R q (entries m)) o) (get-empty R q)
      ∙ or-none (find R q (entries m)) ∙ sym (get-entries m q))

-- ---- the key of a number

module _ {K : Type 0} {R : K → K → Ordering} (total : IsTotalOrder R) (same : IsAntisymmetric R) (n : ℕ) where
  abbrev HasKey : List (K × ℕ) → Type 0
  HasKey es = (key : K) × (find R key es ≡ Some n)

  abbrev HasNoKey : List (K × ℕ) → Type 0
  HasNoKey es = (key : K) → find R key es ≡ Some n → ⊥

  differs : (v : ℕ) → (v < n) ⊎ (n < v) → v ≡ n → ⊥
  differs v (inl lt) e = omega arith
  differs v (inr lt) e = omega arith

  not-later : (e : K × ℕ) (es : List (K × ℕ)) → (e.1 ≡ n → ⊥) → HasNoKey es → HasNoKey (e ∷ es)
  not-later e es ne none key =
      elim (eq_by_cmp R key e.0) as (λ b. cond b (Some e.1) (find R key es) ≡ Some n → ⊥) [
        | true ↦ λ h. ne (same_Some e.1 n h)
        | false ↦ λ h. none key h
      ]

  search-next : (e : K × ℕ) (es : List (K × ℕ)) → T (is_sorted R (e ∷ es)) → (e.1 ≡ n → ⊥) → HasKey es ⊎ HasNoKey es → HasKey (e ∷ es) ⊎ HasNoKey (e ∷ es)
  search-next e es sorted ne (inl (key, found)) = inl (key, find-later total same e es sorted key n found)
  search-next e es sorted ne (inr none) = inr (not-later e es ne none)

  search-list : (es : List (K × ℕ)) → T (is_sorted R es) → HasKey es ⊎ HasNoKey es
  search-list [] sorted = inr (λ key h. cc)
  search-list (e ∷ es) sorted =
      let rest = search-list es (second _ _ sorted) in
      elim (cases_order e.1 n) [
        | inl at ↦ inl (e.0, find-first total same e es ∙ ap (λ v. Some v) at)
        | inr off ↦ search-next e es sorted (differs e.1 off) rest
      ]

  abbrev NumberOf : FinMap R ℕ → Type 0
  NumberOf m = (key : K) × (get m key ≡ Some n)

  -- a key has this number, or none has
  pub key-or-none : (m : FinMap R ℕ) → ((key : K) × (get m key ≡ Some n)) ⊎ ((key : K) → get m key ≡ Some n → ⊥)
  key-or-none m = elim (search-list (entries m) (entries_sorted m)) [
    | inl (key, found) ↦ inl (key, get-entries m key ∙ found)
    | inr none ↦ inr (λ key h. none key (sym (get-entries m key) ∙ h))
  ]
