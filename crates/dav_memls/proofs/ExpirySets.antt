-- The set of times and numbers: what it contains after a change, and its first entry.
use Rattle.std.proofs.Common.{◌≡◌, ◌∙◌, ◌<◌, ◌≤◌, ◌↔◌, ◌&&◌, ◌||◌, ℕ, Bool, true, false, cond, not, List, [], ◌∷◌, length, Option, Some, None, IsSome, IsTrue, IfSome, MatchOption, Bor, refl, sym, ap, ap₂, subst, nat_cmp, arith}
use Rattle.std.proofs.lemmas.Bool.Decides.{nat_tests}
use Rattle.std.specs.BTreeMap.{is_at}
use Rattle.std.specs.BTreeSet.{contains, btree_set_len, IsLowerBound}
use Rattle.std.specs.List.{list_any}
use Rattle.std.specs.Option.{option_copied}
use Rattle.std.specs.Ordering.{is_eq, is_gt, ordering_then}
use Rattle.std.specs.declared.cmp.Ordering.{Ordering}
use Rattle.std.specs.declared.cmp.Ordering.TheVariants.{Less, Equal, Greater}
use Rattle.dav_memls.specs.declared.memory_locks.expiries.Expiries.{Expiries}
use Rattle.dav_memls.specs.Expiries.{Expiry, expiry_cmp, is_due, is_entry, AddsExpiry, RemovesExpiry, IsFirst}
use Rattle.dav_memls.proofs.Ascending.{is_eq-same, same_turned}

-- ---- two pairs

both_equal : (o p : Ordering) → is_eq (ordering_then o p) ≡ (is_eq p && is_eq o)
both_equal Less Less = refl
both_equal Less Equal = refl
both_equal Less Greater = refl
both_equal Equal Less = refl
both_equal Equal Equal = refl
both_equal Equal Greater = refl
both_equal Greater Less = refl
both_equal Greater Equal = refl
both_equal Greater Greater = refl

pub same_entry : (at n time m : ℕ) → is_at (expiry_cmp (at, n)) (time, m) ≡ is_entry (Some at) n time m
same_entry at n time m = both_equal (nat_cmp at time) (nat_cmp n m) ∙ ap₂ (λ a b. a && b) (same_turned n m) (is_eq-same at time)

not_later : (at n time m : ℕ) → is_gt (expiry_cmp (at, n) (time, m)) ≡ false → at ≤ time
not_later at n time m h = grind (arith, nat_tests)

-- ---- a pair that is added or removed

added : (b x : Bool) → cond b true x ≡ (x || b)
added true true = refl
added true false = refl
added false true = refl
added false false = refl

removed : (b x : Bool) → cond b false x ≡ (x && not b)
removed true true = refl
removed true false = refl
removed false true = refl
removed false false = refl

pub adds_one : (given : Option ℕ) (at n : ℕ) (old new : Expiries) → given ≡ Some at → ((q : Expiry) → contains expiry_cmp new.set q ≡ cond (is_at (expiry_cmp (at, n)) q) true (contains expiry_cmp old.set q)) → AddsExpiry given n old new
adds_one given at n old new is updates = subst (λ a. AddsExpiry a n old new) (sym is) (λ time m. updates (time, m) ∙ ap (λ b. cond b true (is_due old time m)) (same_entry at n time m) ∙ added (is_entry (Some at) n time m) (is_due old time m))

pub removes_one : (given : Option ℕ) (at n : ℕ) (old new : Expiries) → given ≡ Some at → ((q : Expiry) → contains expiry_cmp new.set q ≡ cond (is_at (expiry_cmp (at, n)) q) false (contains expiry_cmp old.set q)) → RemovesExpiry given n old new
removes_one given at n old new is updates = subst (λ a. RemovesExpiry a n old new) (sym is) (λ time m. updates (time, m) ∙ ap (λ b. cond b false (is_due old time m)) (same_entry at n time m) ∙ removed (is_entry (Some at) n time m) (is_due old time m))

-- ---- the first pair

pub first_is : (s : Expiries) (o : Option (Bor Expiry)) (r : Option Expiry) → r ≡ option_copied o → IsSome o ↔ (0 < btree_set_len s.set) → IfSome o (λ k. IsTrue (contains expiry_cmp s.set k.now)) → IfSome o (λ k. IsLowerBound expiry_cmp s.set k.now) → MatchOption r ((time n : ℕ) → is_due s time n ≡ false) (IsFirst s)
first_is s None r is variant member least = rw is (λ time n. none s.set.keys (λ e. variant.1 e) time n)
  where
    none : (keys : List Expiry) → (0 < length keys → false ≡ true) → (time n : ℕ) → list_any (is_at (expiry_cmp (time, n))) keys ≡ false
    none [] h time n = refl
    none (k ∷ ks) h time n = absurd (let e : false ≡ true = h (omega arith) in cc)
first_is s (Some k) r is variant member least = rw is (record { due = member; least = λ time m due. not_later k.now.0 k.now.1 time m (least (time, m) due) })
