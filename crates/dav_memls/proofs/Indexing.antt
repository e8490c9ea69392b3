-- The index of locks: what a lock that is added, removed or refreshed leaves of it.
use Rattle.std.proofs.Common.{◌≡◌, ◌∙◌, ◌==◌, ℕ, Bool, true, false, cond, List, [], ◌∷◌, ◌++◌, ◌&&◌, ◌||◌, not, Option, Some, None, bytes_eq, refl, sym, ap, subst, nat_cmp}
use Rattle.std.proofs.lemmas.List.{append-nil, map-append}
use Rattle.std.proofs.lemmas.Slice.Eq.{bytes_eq-Decides}
use Rattle.std.specs.BTreeMap.{is_at}
use Rattle.std.specs.HashMap.{get_by_text}
use Rattle.std.specs.List.{list_any}
use Rattle.std.specs.Map.{keys_of, values_of, remove_entry, set_value}
use Rattle.std.specs.Option.{option_to_list}
use Rattle.dav_key.specs.Key.{Key}
use Rattle.dav_store.specs.declared.lock.DavLock.{DavLock}
use Rattle.dav_memls.specs.declared.memory_locks.index.LockIndex.{LockIndex}
use Rattle.dav_memls.specs.declared.memory_locks.index.Register.{Register}
use Rattle.dav_memls.specs.declared.memory_locks.index.Register.TheVariants.{All, Deep, Exclusive}
use Rattle.dav_store.specs.Locks.{has_token}
use Rattle.dav_store.specs.LockCalls.{refreshed, timeout_end}
use Rattle.dav_memls.specs.Numbers.{IsAbove}
use Rattle.dav_memls.specs.ByKey.{only_if, without_if}
use Rattle.dav_memls.specs.Expiries.{is_due, is_time, is_entry}
use Rattle.dav_memls.specs.LockIndex.{Row, IsIndexed, EntersIndex, KeepsIndex, LeavesIndex, MovesInIndex, ends_at, among, belongs, by_token, found_at, numbers_of, lock_of, is_of_key}
use Rattle.dav_memls.proofs.Ascending.{Rises, rises-push, without_below, without_push}
use Rattle.dav_memls.proofs.Expiring.{ends, ends-push, ends-remove, ends-set, absent_above, read_same}
use Rattle.dav_memls.proofs.Reached.{bytes_eq-sym}
use Rattle.dav_memls.proofs.LockRows.{pushed_found, pushed_removed, numbers-push, numbers-remove, numbers-set, number_kept, only_number, none_numbers, all_numbers}

pub indexed_push : (old new : LockIndex) (rows : List Row) (n : ℕ) (l : DavLock) → IsAbove n (keys_of rows) → IsIndexed old rows → EntersIndex l n old new → IsIndexed new (rows ++ (n, l) ∷ [])
indexed_push old new rows n l above h enters = record {
  tokens = λ token. enters.tokens token ∙ ap (λ xs. xs ++ only_if (has_token token l) n) (h.tokens token) ∙ sym (numbers-push (has_token token) rows n l);
  at = λ register key. enters.at register key ∙ ap (λ xs. xs ++ only_if (among register (is_of_key key) l) n) (h.at register key) ∙ sym (numbers-push (among register (is_of_key key)) rows n l);
  expiries = λ time m. enters.expiries time m ∙ ap (λ b. b || is_entry l.timeout_at n time m) (h.expiries time m) ∙ sym (ends-push rows n l time m above);
}

pub indexed_remove : (old new : LockIndex) (rows : List Row) (n : ℕ) (l : DavLock) → Rises (keys_of rows) → lock_of n rows ≡ Some l → IsIndexed old rows → LeavesIndex l n old new → IsIndexed new (remove_entry (is_at (nat_cmp n)) rows)
indexed_remove old new rows n l rises held h leaves = record {
  tokens = λ token. leaves.tokens token ∙ gone token (has_token token l) refl ∙ sym (numbers-remove (has_token token) rows n l rises held);
  at = λ register key. leaves.at register key ∙ ap (without_if (among register (is_of_key key) l) n) (h.at register key) ∙ sym (numbers-remove (among register (is_of_key key)) rows n l rises held);
  expiries = λ time m. leaves.expiries time m ∙ ap (λ b. b && not (is_entry l.timeout_at n time m)) (h.expiries time m) ∙ sym (ends-remove rows n l time m rises held);
}
  where
    gone : (token : List ℕ) (b : Bool) → has_token token l ≡ b → cond b [] (by_token old token) ≡ without_if b n (numbers_of (has_token token) rows)
    gone token true e =
        sym (ap (without_if true n) (sym (h.tokens token))
        ∙ only_number n (get_by_text old.tokens token) (ap (list_any (λ m. m == n)) (h.tokens token) ∙ number_kept (has_token token) rows n l held e))
    gone token false e = h.tokens token

-- one that was entered last leaves the index as it was
pub indexed_undone : (old mid new : LockIndex) (rows : List Row) (n : ℕ) (l : DavLock) → Rises (keys_of rows) → IsAbove n (keys_of rows) → IsIndexed old rows → EntersIndex l n old mid → LeavesIndex l n mid new → IsIndexed new rows
indexed_undone old mid new rows n l rises above h enters leaves =
    subst (IsIndexed new) (pushed_removed rows n l above)
    (indexed_remove mid new (rows ++ (n, l) ∷ []) n l (subst Rises (sym (map-append (λ (row : Row). row.0) rows ((n, l) ∷ []))) (rises-push n (keys_of rows) rises above)) (pushed_found rows n l above) (indexed_push old mid rows n l above h enters) leaves)

pub indexed_refreshed : (old new : LockIndex) (rows : List Row) (n : ℕ) (timeout : Option ℕ) (now : ℕ) (l : DavLock) → lock_of n rows ≡ Some l → IsIndexed old rows → MovesInIndex (timeout_end now timeout) n old new → IsIndexed new (set_value (is_at (nat_cmp n)) rows (refreshed timeout now l))
indexed_refreshed old new rows n timeout now l held h moves = record {
  tokens = λ token. moves.tokens token ∙ h.tokens token ∙ sym (numbers-set (has_token token) rows n l (refreshed timeout now l) held refl);
  at = λ register key. moves.at register key ∙ h.at register key ∙ sym (numbers-set (among register (is_of_key key)) rows n l (refreshed timeout now l) held (ap (λ b. b && is_of_key key l) (same_register register)));
  expiries = λ time m. moved time m ∙ sym (ends-set rows n l (refreshed timeout now l) time m held);
}
  where
    same_register : (register : Register) → belongs register (refreshed timeout now l) ≡ belongs register l
    same_register All = refl
    same_register Deep = refl
    same_register Exclusive = refl

    moved : (time m : ℕ) → is_due new.expiries time m ≡ cond (m == n) (is_time (timeout_end now timeout) time) (ends_at rows time m)
    moved time m = elim (m == n) as (λ b. (m == n) ≡ b → is_due new.expiries time m ≡ cond b (is_time (timeout_end now timeout) time) (ends_at rows time m)) [
      | true ↦ λ e. ap (is_due new.expiries time) (read_same m n e) ∙ moves.expiries.own time
      | false ↦ λ e. moves.expiries.others time m e ∙ h.expiries time m
    ] refl

pub free_token : (index : LockIndex) (rows : List Row) (token : List ℕ) → IsIndexed index rows → list_any (has_token token) (values_of rows) ≡ false → by_token index token ≡ []
free_token index rows token h free = h.tokens token ∙ none_numbers (has_token token) rows free

-- an index that finds the same finds the same locks
pub indexed_kept : (old new : LockIndex) (rows : List Row) → IsIndexed old rows → KeepsIndex old new → IsIndexed new rows
indexed_kept old new rows h keeps = record {
  tokens = λ token. keeps.tokens token ∙ h.tokens token;
  at = λ register key. keeps.at register key ∙ h.at register key;
  expiries = λ time n. keeps.expiries time n ∙ h.expiries time n;
}

-- a number above all others is not in the set
pub unused : (index : LockIndex) (rows : List Row) (n : ℕ) → IsIndexed index rows → IsAbove n (keys_of rows) → (time : ℕ) → is_due index.expiries time n ≡ false
unused index rows n h above time = h.expiries time n ∙ ap (ends time) (absent_above rows n above)

pub above_at : (index : LockIndex) (rows : List Row) (n : ℕ) → IsIndexed index rows → IsAbove n (keys_of rows) → (register : Register) (key : Key) → IsAbove n (found_at index register key)
above_at index rows n h above register key = subst (IsAbove n) (sym (h.at register key)) (all_numbers _ (among register (is_of_key key)) rows above)

-- ---- a token

pub token_enters : (lock : DavLock) (n : ℕ) (bs t : List ℕ) (o new : Option ℕ) → bs ≡ lock.token → (t ≡ lock.token → option_to_list o ≡ []) → new ≡ cond (bytes_eq bs t) (Some n) o → option_to_list new ≡ option_to_list o ++ only_if (has_token t lock) n
token_enters lock n bs t o new same free is =
    ap option_to_list (is ∙ ap (λ b. cond b (Some n) o) (ap (λ x. bytes_eq x t) same ∙ bytes_eq-sym lock.token t))
    ∙ split (has_token t lock) (λ e. free ((bytes_eq-Decides t lock.token).0 e))
  where
    split : (b : Bool) → (b ≡ true → option_to_list o ≡ []) → option_to_list (cond b (Some n) o) ≡ option_to_list o ++ only_if b n
    split true none = ap (λ xs. xs ++ n ∷ []) (sym (none refl))
    split false none = sym (append-nil (option_to_list o))

pub token_leaves : (lock : DavLock) (bs t : List ℕ) (o new : Option ℕ) → bs ≡ lock.token → new ≡ cond (bytes_eq bs t) None o → option_to_list new ≡ cond (has_token t lock) [] (option_to_list o)
token_leaves lock bs t o new same is =
    ap option_to_list (is ∙ ap (λ b. cond b None o) (ap (λ x. bytes_eq x t) same ∙ bytes_eq-sym lock.token t))
    ∙ split (has_token t lock)
  where
    split : (b : Bool) → option_to_list (cond b None o) ≡ cond b [] (option_to_list o)
    split true = refl
    split false = refl

-- where the token is free, it leads to nothing without the lock too
pub token_free : (lock : DavLock) (find : List ℕ → List ℕ) → find lock.token ≡ [] → (t : List ℕ) → cond (has_token t lock) [] (find t) ≡ find t
token_free lock find free t = split (has_token t lock) refl
  where
    split : (b : Bool) → has_token t lock ≡ b → cond b [] (find t) ≡ find t
    split true e = sym (ap find ((bytes_eq-Decides t lock.token).0 e) ∙ free)
    split false e = refl

-- ---- a number that joined and leaves

pub unjoined : (b : Bool) (n : ℕ) (old new : List ℕ) → IsAbove n old → new ≡ old → without_if b n new ≡ old
unjoined true n old new above same = ap (without_if true n) same ∙ without_below n old above
unjoined false n old new above same = same

pub joined_leaves : (b : Bool) (n : ℕ) (old new : List ℕ) → IsAbove n old → new ≡ old ++ only_if b n → without_if b n new ≡ old
joined_leaves true n old new above joined = ap (without_if true n) joined ∙ without_push n old above
joined_leaves false n old new above joined = joined ∙ append-nil old
