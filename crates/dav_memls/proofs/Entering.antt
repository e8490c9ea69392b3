-- A lock that enters the index or leaves it: what each register finds then.
use Rattle.std.proofs.Common.{◌≡◌, ◌∙◌, ◌++◌, ◌&&◌, not, ℕ, List, [], cond, Result, Ok, Err, OnOk, OnErr, is_err, true, false, refl, ap}
use Rattle.dav_key.specs.Key.{Key, is_same_key}
use Rattle.dav_store.specs.declared.lock.DavLock.{DavLock}
use Rattle.dav_store.specs.Locks.{has_token}
use Rattle.dav_memls.specs.declared.memory_locks.by_key.ByKey.{ByKey}
use Rattle.dav_memls.specs.declared.memory_locks.index.LockIndex.{LockIndex}
use Rattle.dav_memls.specs.declared.memory_locks.index.Register.{Register}
use Rattle.dav_memls.specs.declared.memory_locks.index.Register.TheVariants.{All, Deep, Exclusive}
use Rattle.dav_memls.specs.Numbers.{IsAbove}
use Rattle.dav_memls.specs.ByKey.{numbers_at, only_if, without_if, KeepsNumbers, JoinsNumber, LeavesNumber}
use Rattle.dav_memls.specs.declared.memory_locks.expiries.Expiries.{Expiries}
use Rattle.dav_memls.specs.Expiries.{is_due, is_time, is_entry, KeepsExpiries, AddsExpiry, RemovesExpiry}
use Rattle.dav_memls.specs.LockIndex.{among, belongs, by_token, found_at, is_of_key, register_of, EntersIndex, IsPartlyEntered, KeepsIndex, LeavesIndex}
use Rattle.dav_memls.proofs.Expiring.{entry_absent, entry_undone}
use Rattle.dav_memls.proofs.Indexing.{unjoined, joined_leaves, token_free}

-- ---- results

pub no_ok : {A E : Type 0} (r : Result A E) (P : Type 0) → is_err r ≡ true → OnOk r P
no_ok (Ok a) P e = absurd cc
no_ok (Err f) P e = tt

pub no_err : {A E : Type 0} (r : Result A E) (P : Type 0) → is_err r ≡ false → OnErr r P
no_err (Ok a) P e = tt
no_err (Err f) P e = absurd cc

pub always_err : {A E P : Type 0} (r : Result A E) → P → OnErr r P
always_err (Ok a) p = tt
always_err (Err f) p = p

pub at_err : {A E P : Type 0} (r : Result A E) → is_err r ≡ true → OnErr r P → P
at_err (Ok a) e p = absurd cc
at_err (Err f) e p = p

module _ (lock : DavLock) (n : ℕ) (old : LockIndex) where
  -- ---- a lock that enters

  -- the number is put behind those of the lock's key in a register that has it
  abbrev Joins : Register → Key → ByKey → Type 0
  Joins register q new = JoinsNumber (λ k. belongs register lock && is_same_key k q) n (register_of old register) new

  pub entered : (new : LockIndex) (q : Key) → q ≡ lock.path.key → ((t : List ℕ) → by_token new t ≡ by_token old t ++ only_if (has_token t lock) n) → Joins All q new.all → Joins Deep q new.deep → Joins Exclusive q new.exclusive → AddsExpiry lock.timeout_at n old.expiries new.expiries → EntersIndex lock n old new
  entered new q same tokens all deep exclusive expiries = record { tokens = tokens; at = at; expiries = expiries }
    where
      as_lock : (register : Register) (k : Key) → numbers_at (register_of old register) k ++ only_if (belongs register lock && is_same_key k q) n ≡ found_at old register k ++ only_if (among register (is_of_key k) lock) n
      as_lock register k = ap (λ x. found_at old register k ++ only_if (belongs register lock && is_same_key k x) n) same

      at : (register : Register) (k : Key) → found_at new register k ≡ found_at old register k ++ only_if (among register (is_of_key k) lock) n
      at All k = all k ∙ as_lock All k
      at Deep k = deep k ∙ as_lock Deep k
      at Exclusive k = exclusive k ∙ as_lock Exclusive k

  -- the register may have the number there, and else has what it had
  abbrev pub MayHave : Register → ByKey → Type 0
  MayHave register new = (k : Key) → without_if (among register (is_of_key k) lock) n (numbers_at new k) ≡ found_at old register k

  -- the set of times may have the number at the lock's time, and else has what it had
  abbrev pub MayExpire : Expiries → Type 0
  MayExpire new = (time m : ℕ) → (is_due new time m && not (is_entry lock.timeout_at n time m)) ≡ is_due old.expiries time m

  pub partly : (new : LockIndex) → ((t : List ℕ) → by_token new t ≡ by_token old t) → MayHave All new.all → MayHave Deep new.deep → MayHave Exclusive new.exclusive → MayExpire new.expiries → IsPartlyEntered lock n old new
  partly new tokens all deep exclusive expiries = record { tokens = tokens; at = at; expiries = expiries }
    where
      at : (register : Register) (k : Key) → without_if (among register (is_of_key k) lock) n (found_at new register k) ≡ found_at old register k
      at All = all
      at Deep = deep
      at Exclusive = exclusive

  module _ (above : (register : Register) (key : Key) → IsAbove n (found_at old register key)) where
    pub has_old : (register : Register) → MayHave register (register_of old register)
    has_old register k = unjoined (among register (is_of_key k) lock) n (found_at old register k) (found_at old register k) (above register k) refl

    pub has_kept : (register : Register) (new : ByKey) → KeepsNumbers (register_of old register) new → MayHave register new
    has_kept register new keeps k = unjoined (among register (is_of_key k) lock) n (found_at old register k) (numbers_at new k) (above register k) (keeps k)

    pub has_joined : (register : Register) (new : ByKey) (q : Key) → q ≡ lock.path.key → Joins register q new → MayHave register new
    has_joined register new q same joins k =
        joined_leaves (among register (is_of_key k) lock) n (found_at old register k) (numbers_at new k) (above register k)
        (joins k ∙ ap (λ x. found_at old register k ++ only_if (belongs register lock && is_same_key k x) n) same)

  module _ (unused : (time : ℕ) → is_due old.expiries time n ≡ false) where
    pub expires_old : MayExpire old.expiries
    expires_old time m = entry_absent (is_due old.expiries time) n m (is_time lock.timeout_at time) (unused time)

    pub expires_kept : (new : Expiries) → KeepsExpiries old.expiries new → MayExpire new
    expires_kept new keeps time m = ap (λ b. b && not (is_entry lock.timeout_at n time m)) (keeps time m) ∙ expires_old time m

    pub expires_added : (new : Expiries) → AddsExpiry lock.timeout_at n old.expiries new → MayExpire new
    expires_added new adds time m = ap (λ b. b && not (is_entry lock.timeout_at n time m)) (adds time m) ∙ entry_undone (is_due old.expiries time) n m (is_time lock.timeout_at time) (unused time)

  -- ---- a lock that leaves

  abbrev Leaves : Register → Key → ByKey → Type 0
  Leaves register q new = LeavesNumber (λ k. belongs register lock && is_same_key k q) n (register_of old register) new

  pub left_index : (new : LockIndex) (q : Key) → q ≡ lock.path.key → ((t : List ℕ) → by_token new t ≡ cond (has_token t lock) [] (by_token old t)) → Leaves All q new.all → Leaves Deep q new.deep → Leaves Exclusive q new.exclusive → RemovesExpiry lock.timeout_at n old.expiries new.expiries → LeavesIndex lock n old new
  left_index new q same tokens all deep exclusive expiries = record { tokens = tokens; at = at; expiries = expiries }
    where
      as_lock : (register : Register) (k : Key) → without_if (belongs register lock && is_same_key k q) n (found_at old register k) ≡ without_if (among register (is_of_key k) lock) n (found_at old register k)
      as_lock register k = ap (λ x. without_if (belongs register lock && is_same_key k x) n (found_at old register k)) same

      at : (register : Register) (k : Key) → found_at new register k ≡ without_if (among register (is_of_key k) lock) n (found_at old register k)
      at All k = all k ∙ as_lock All k
      at Deep k = deep k ∙ as_lock Deep k
      at Exclusive k = exclusive k ∙ as_lock Exclusive k

-- one that was partly entered leaves the index as it was
pub left_as_before : (lock : DavLock) (n : ℕ) (old mid new : LockIndex) → by_token old lock.token ≡ [] → IsPartlyEntered lock n old mid → LeavesIndex lock n mid new → KeepsIndex old new
left_as_before lock n old mid new free partly leaves = record {
  tokens = λ t. leaves.tokens t ∙ ap (cond (has_token t lock) []) (partly.tokens t) ∙ token_free lock (by_token old) free t;
  at = λ register k. leaves.at register k ∙ partly.at register k;
  expiries = λ time m. leaves.expiries time m ∙ partly.expiries time m;
}
