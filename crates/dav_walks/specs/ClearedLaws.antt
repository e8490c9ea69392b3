-- If a deletion reports nothing, all that it was to delete is removed. Each reported status is the status of a store error.
use Rattle.std.proofs.Common.{◌≡◌, ◌≢◌, Bool, true, false, cond, Option, [], ◌∷◌, ◌++◌, append-nil, Some, None, inl, inr, refl, sym, ap, ◌∙◌, subst}
use Rattle.std.specs.FinMap.{get, get-remove}
use Rattle.std.specs.Option.{option_map}
use Rattle.std.specs.Prelude.{List, IsPermutation}
use Rattle.dav_key.specs.Key.{Key, key_cmp_total, tied_decides}
use Rattle.dav_resource.specs.PathText.{PathValue}
use Rattle.dav_resource.specs.Errors.{fs_status}
use Rattle.dav_resource.specs.declared.error.FsError.{FsError}
use Rattle.dav_resource.specs.declared.request.Depth.{Depth}
use Rattle.dav_resource.specs.declared.request.Depth.TheVariants.{Zero, One, Infinity, Default}
use Rattle.dav_resource.specs.declared.record.Op.{Op}
use Rattle.dav_resource.specs.declared.record.Op.TheVariants.{ReadDir, Entry}
use Rattle.dav_resource.specs.declared.record.Outcome.{Outcome}
use Rattle.dav_resource.specs.declared.record.Outcome.TheVariants.{Granted, Barred, Refused}
use Rattle.dav_store.specs.Calls.{error_of}
use Rattle.dav_store.specs.Logged.{Logged}
use Rattle.dav_store.specs.Store.{Contents, Node}
use Rattle.dav_store.specs.Members.{IsIn, IsRemovedAt}
use Rattle.dav_store.specs.MemberLaws.{come_from, kept_in, IsIn-permuted, IsIn-unpermuted}
use Rattle.dav_messages.specs.Multistatus.{Item}
use Rattle.dav_walks.specs.KeyCall.{KeyCall, calls_at, same_key}
use Rattle.dav_walks.specs.Deletion.{Calls, under, calls_below, WasRefused, IsHidden, IsLeft, named_path, named_by, named_in, Deletes, Removes}

-- ---- calls and the paths they report

-- each of the calls on a key is one of all calls
pub record_of_call : (rs : List KeyCall) (k : Key) (c : Op × Outcome) → IsIn c (calls_at rs k) → IsIn (record { key = k; op = c.0; outcome = c.1 }) rs
record_of_call [] k c i = absurd i
record_of_call (r ∷ rs) k c i = go (same_key r.key k) refl (λ j. record_of_call rs k c j) i
  where
    go : (b : Bool) → same_key r.key k ≡ b → (IsIn c (calls_at rs k) → IsIn (record { key = k; op = c.0; outcome = c.1 }) rs)
        → IsIn c (cond b ((r.op, r.outcome) ∷ calls_at rs k) (calls_at rs k)) → IsIn (record { key = k; op = c.0; outcome = c.1 }) (r ∷ rs)
    go true e further (inl is) = inl (λ t. record { key = (tied_decides r.key k).0 e t; op = (is t).0; outcome = (is t).1 })
    go true e further (inr j) = inr (further j)
    go false e further j = inr (further j)

-- an outcome that is not granted has an error
pub error_there : (outcome : Outcome) → WasRefused outcome → (e : FsError) × (error_of outcome ≡ Some e)
error_there Granted refused = absurd (refused refl)
error_there (Barred e) refused = (e, refl)
error_there (Refused e) refused = (e, refl)

-- if something was not granted, something is reported
pub refusal_named : (path : PathValue) (calls : List KeyCall) (names : List Item) → IsPermutation (named_in path calls) names → (call : KeyCall) → IsIn call calls → WasRefused call.outcome → names ≢ []
refusal_named path calls names bag call inside refused none =
    let error = error_there call.outcome refused in
    let item : Item = (named_path path call.op call.key, fs_status error.0) in
    let i = kept_in (named_by path) calls call item (ap (option_map (λ e. (named_path path call.op call.key, fs_status e))) error.1) inside in
    subst (λ (l : List Item). IsIn item l) none (IsIn-permuted _ _ _ bag i)

-- ---- if nothing is reported

-- if a key is hidden, something was not granted
hidden_refused : (calls : Calls) (x : Key) → IsHidden calls x → (z : Key) × (c : Op × Outcome) × IsIn c (calls z) × WasRefused c.1
hidden_refused calls [] u = ([], (Entry, u.0), u.1, u.2)
hidden_refused calls (n ∷ x) (inl u) = ([], (Entry, u.0), u.1, u.2)
hidden_refused calls (n ∷ x) (inr (inl u)) = ([], (ReadDir, u.0), u.1, u.2)
hidden_refused calls (n ∷ x) (inr (inr h)) = let r = hidden_refused (under calls n) x h in (n ∷ r.0, r.1, r.2, r.3)

pub clean_leaves_nothing : (path : PathValue) (old new : Contents) (calls : List KeyCall) → Deletes path old new calls [] → (x : Key) → get new.tree (path.key ++ x) ≡ None
clean_leaves_nothing path old new calls deletes x = go (get new.tree (path.key ++ x)) refl
  where
    unleft : IsLeft [] (calls_below calls path.key) path.key x → ⊥
    unleft (inl n) = n.2
    unleft (inr h) =
        let r = hidden_refused (calls_below calls path.key) x h in
        refusal_named path calls [] deletes.named (record { key = path.key ++ r.0; op = r.1.0; outcome = r.1.1 }) (record_of_call calls (path.key ++ r.0) r.1 r.2) r.3 (λ i. [])

    go : (node : Option Node) → get new.tree (path.key ++ x) ≡ node → get new.tree (path.key ++ x) ≡ None
    go None is = is
    go (Some node) is = absurd (unleft (deletes.left x (λ none. let no : Some node ≡ None = sym is ∙ none in cc)))

-- ---- a deletion of any depth

-- how a deletion of Depth 0 ends with this outcome
abbrev IsEndOf : Outcome → PathValue → Contents → Contents → List Item → Type 0
IsEndOf outcome path old new names = (outcome ≡ Granted → IsRemovedAt path.key old new × (names ≡ [])) × ((e : FsError) → error_of outcome ≡ Some e → (new ≡ old) × (names ≡ (path, fs_status e) ∷ []))

-- if nothing is reported, nothing exists at the path
pub path_gone : (depth : Depth) (path : PathValue) (old new : Contents) (records : List Logged) → Removes depth path old new records [] → get new.tree path.key ≡ None
path_gone Zero path old new records alone = by_outcome alone.outcome (alone.granted, alone.refused)
  where
    by_outcome : (outcome : Outcome) → IsEndOf outcome path old new [] → get new.tree path.key ≡ None
    by_outcome Granted end = ap (λ t. get t path.key) (end.0 refl).0.tree ∙ get-remove key_cmp_total old.tree path.key path.key ∙ ap (λ b. cond b None (get old.tree path.key)) ((tied_decides path.key path.key).1 refl)
    by_outcome (Barred e) end = absurd (let none : [] ≡ (path, fs_status e) ∷ [] = (end.1 e refl).1 in cc)
    by_outcome (Refused e) end = absurd (let none : [] ≡ (path, fs_status e) ∷ [] = (end.1 e refl).1 in cc)
path_gone One path old new records r = subst (λ k. get new.tree k ≡ None) (append-nil path.key) (clean_leaves_nothing path old new r.0 r.2 [])
path_gone Infinity path old new records r = subst (λ k. get new.tree k ≡ None) (append-nil path.key) (clean_leaves_nothing path old new r.0 r.2 [])
path_gone Default path old new records r = subst (λ k. get new.tree k ≡ None) (append-nil path.key) (clean_leaves_nothing path old new r.0 r.2 [])

-- and, unless Depth is 0, nothing exists below it
pub all_gone : (depth : Depth) (path : PathValue) (old new : Contents) (records : List Logged) → depth ≢ Zero → Removes depth path old new records [] → (x : Key) → get new.tree (path.key ++ x) ≡ None
all_gone Zero path old new records deep r = absurd (deep refl)
all_gone One path old new records deep r = clean_leaves_nothing path old new r.0 r.2
all_gone Infinity path old new records deep r = clean_leaves_nothing path old new r.0 r.2
all_gone Default path old new records deep r = clean_leaves_nothing path old new r.0 r.2

-- the status of an item is the status of a store error
name_refused : (path : PathValue) (calls : List KeyCall) (names : List Item) → IsPermutation (named_in path calls) names → (item : Item) → IsIn item names → (e : FsError) × (fs_status e ≡ item.1)
name_refused path calls names bag item inside =
    let from = come_from (named_by path) calls item (IsIn-unpermuted _ _ _ bag inside) in
    by_outcome from.0 from.0.outcome from.2
  where
    by_outcome : (call : KeyCall) (outcome : Outcome) → option_map (λ e. (named_path path call.op call.key, fs_status e)) (error_of outcome) ≡ Some item → (e : FsError) × (fs_status e ≡ item.1)
    by_outcome call Granted is = absurd (let none : None ≡ Some item = is in cc)
    by_outcome call (Barred e) is = (e, let same : (named_path path call.op call.key, fs_status e) ≡ item = cc in ap (λ (i : Item). i.1) same)
    by_outcome call (Refused e) is = (e, let same : (named_path path call.op call.key, fs_status e) ≡ item = cc in ap (λ (i : Item). i.1) same)

alone_refused : (path : PathValue) (old new : Contents) (names : List Item) (outcome : Outcome) → IsEndOf outcome path old new names → (item : Item) → IsIn item names → (e : FsError) × (fs_status e ≡ item.1)
alone_refused path old new names Granted end item inside = absurd (let named : IsIn item [] = subst (IsIn item) (end.0 refl).1 inside in named)
alone_refused path old new names (Barred e) end item inside = (e, first (subst (IsIn item) (end.1 e refl).1 inside))
  where
    first : IsIn item ((path, fs_status e) ∷ []) → fs_status e ≡ item.1
    first (inl same) = ap (λ (i : Item). i.1) same
    first (inr none) = absurd none
alone_refused path old new names (Refused e) end item inside = (e, first (subst (IsIn item) (end.1 e refl).1 inside))
  where
    first : IsIn item ((path, fs_status e) ∷ []) → fs_status e ≡ item.1
    first (inl same) = ap (λ (i : Item). i.1) same
    first (inr none) = absurd none

-- each reported status is the status of a store error
pub names_refused : (depth : Depth) (path : PathValue) (old new : Contents) (records : List Logged) (names : List Item) → Removes depth path old new records names → (item : Item) → IsIn item names → (e : FsError) × (fs_status e ≡ item.1)
names_refused Zero path old new records names alone = alone_refused path old new names alone.outcome (alone.granted, alone.refused)
names_refused One path old new records names r = name_refused path r.0 names r.2.named
names_refused Infinity path old new records names r = name_refused path r.0 names r.2.named
names_refused Default path old new records names r = name_refused path r.0 names r.2.named
