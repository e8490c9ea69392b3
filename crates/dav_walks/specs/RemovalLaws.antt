-- Consequences for every deletion, whatever the store refuses.
use Rattle.std.proofs.Common.{◌≡◌, ◌≢◌, ◌∙◌, Bool, true, false, cond, Some, None, List, [], ◌∷◌, ◌++◌, ap, refl, sym, inl, inr, arith}
use Rattle.std.specs.Ordering.{eq_by_cmp}
use Rattle.std.specs.FinMap.{FinMap, get, remove, get-remove}
use Rattle.dav_key.specs.Key.{Key, key_cmp, key_cmp_total, tied_decides}
use Rattle.dav_resource.specs.PathText.{PathValue}
use Rattle.dav_resource.specs.declared.error.FsError.{FsError}
use Rattle.dav_resource.specs.declared.record.Outcome.TheVariants.{Granted, Barred, Refused}
use Rattle.dav_resource.specs.declared.record.Outcome.{Outcome}
use Rattle.dav_resource.specs.declared.request.Depth.{Depth}
use Rattle.dav_resource.specs.declared.request.Depth.TheVariants.{Zero, One, Infinity, Default}
use Rattle.dav_store.specs.Logged.{Logged}
use Rattle.dav_store.specs.Store.{Contents}
use Rattle.dav_resource.specs.Errors.{fs_status}
use Rattle.dav_store.specs.Calls.{error_of}
use Rattle.dav_store.specs.Members.{IsRemovedAt}
use Rattle.dav_messages.specs.Multistatus.{Item}
use Rattle.dav_walks.specs.KeyCall.{standing}
use Rattle.dav_walks.specs.Deletion.{Removes, RemovesInPart, RemovesAlone, IsLawfulRemoval}

-- a map without one key holds at every other key what it held before
kept_elsewhere : {X : Type 0} (m : FinMap key_cmp X) (k q : Key) → q ≢ k → get (remove m k) q ≡ get m q
kept_elsewhere m k q apart = get-remove key_cmp_total m k q ∙ same (eq_by_cmp key_cmp q k) refl
  where
    same : (b : Bool) → eq_by_cmp key_cmp q k ≡ b → cond b None (get m q) ≡ get m q
    same true e = absurd (apart ((tied_decides q k).0 e))
    same false e = refl

pub append-nothing : (k : Key) → k ++ [] ≡ k
append-nothing [] = refl
append-nothing (n ∷ k) = ap (λ x. n ∷ x) (append-nothing k)

removed_elsewhere : (key : Key) (old new : Contents) → IsRemovedAt key old new → (q : Key) → ((x : Key) → q ≢ key ++ x) → standing new q ≡ standing old q
removed_elsewhere key old new r q apart =
    let other : q ≢ key = λ e. apart [] (e ∙ sym (append-nothing key)) in
    λ i. ((ap (λ t. get t q) r.tree ∙ kept_elsewhere old.tree key q other) i, (ap (λ p. get p q) r.properties ∙ kept_elsewhere old.properties key q other) i)

alone_within : (path : PathValue) (old new : Contents) (records : List Logged) (names : List Item) → RemovesAlone path old new records names → (q : Key) → ((x : Key) → q ≢ path.key ++ x) → standing new q ≡ standing old q
alone_within path old new records names r q apart = by_outcome r.outcome r.granted r.refused
  where
    by_outcome : (o : Outcome) → (o ≡ Granted → IsRemovedAt path.key old new × (names ≡ [])) → ((e : FsError) → error_of o ≡ Some e → (new ≡ old) × (names ≡ (path, fs_status e) ∷ [])) → standing new q ≡ standing old q
    by_outcome Granted granted refused = removed_elsewhere path.key old new (granted refl).0 q apart
    by_outcome (Barred e) granted refused = ap (λ c. standing c q) (refused e refl).0
    by_outcome (Refused e) granted refused = ap (λ c. standing c q) (refused e refl).0

-- a deletion that has made no call yet is lawful
none_lawful : (p : Key) (old : Contents) → IsLawfulRemoval p old old []
none_lawful p old = record {
  within = λ call i. absurd i;
  reached = λ x c i. absurd i;
  entries = λ x outcome i. absurd i;
  once = λ x. tt;
  fits = λ call i. absurd i;
  few = λ x. omega arith;
  bound = omega arith;
  barred = λ call e i. absurd i;
  own = λ call e i. absurd i;
  kept_or_gone = λ x. inl refl;
  outside = λ key h. refl;
  limit = refl;
  removed = λ x r. absurd r.2;
  gone = λ x there none. absurd (there none);
  untouched = λ none. refl;
}

pub nothing_removed : (depth : Depth) (path : PathValue) (old : Contents) → RemovesInPart depth path old old []
nothing_removed Zero path old = inl (refl, refl)
nothing_removed One path old = ([], refl, none_lawful path.key old)
nothing_removed Infinity path old = ([], refl, none_lawful path.key old)
nothing_removed Default path old = ([], refl, none_lawful path.key old)

-- a deletion that came to its end is one that may be incomplete
pub whole_in_part : (depth : Depth) (path : PathValue) (old new : Contents) (records : List Logged) (names : List Item) → Removes depth path old new records names → RemovesInPart depth path old new records
whole_in_part Zero path old new records names r = inr (names, r)
whole_in_part One path old new records names r = (r.0, r.1, r.2.lawful)
whole_in_part Infinity path old new records names r = (r.0, r.1, r.2.lawful)
whole_in_part Default path old new records names r = (r.0, r.1, r.2.lawful)

-- nothing changes except at the path and below it
pub removes_within : (depth : Depth) (path : PathValue) (old new : Contents) (records : List Logged) → RemovesInPart depth path old new records → (q : Key) → ((x : Key) → q ≢ path.key ++ x) → standing new q ≡ standing old q
removes_within Zero path old new records (inl none) q apart = ap (λ c. standing c q) none.1
removes_within Zero path old new records (inr alone) q apart = alone_within path old new records alone.0 alone.1 q apart
removes_within One path old new records r q apart = r.2.outside q apart
removes_within Infinity path old new records r q apart = r.2.outside q apart
removes_within Default path old new records r q apart = r.2.outside q apart
