-- A walk is a deletion: what the trace says key by key, said of sets.
use Rattle.std.proofs.Common.{◌≡◌, ◌≢◌, ◌⊎◌, Bool, true, false, List, [], ◌∷◌, ◌++◌, length, None, Some, refl, sym, ap, ◌∙◌, subst, inl, inr, append_assoc, if◌then◌else◌}
use Rattle.std.specs.Prelude.{IsPermutation}
use Rattle.std.specs.Option.{option_map}
use Rattle.std.specs.List.{cons_option}
use Rattle.std.proofs.lemmas.List.Sorted.{length_permutation}
use Rattle.std.proofs.lemmas.List.{nil_from_length}
use Rattle.dav_key.specs.Key.{Key, parent}
use Rattle.dav_resource.specs.PathText.{PathValue}
use Rattle.dav_resource.specs.Errors.{fs_status}
use Rattle.dav_resource.specs.declared.record.Op.{Op}
use Rattle.dav_resource.specs.declared.record.Op.TheVariants as op
use Rattle.dav_resource.specs.declared.record.Outcome.{Outcome}
use Rattle.dav_resource.specs.declared.record.Outcome.TheVariants.{Granted, Barred, Refused}
use Rattle.dav_resource.specs.declared.error.FsError.{FsError}
use Rattle.dav_store.specs.Logged.{Logged}
use Rattle.dav_store.specs.Store.{Contents, IsWellFormed}
use Rattle.dav_store.specs.Calls.{error_of}
use Rattle.dav_store.specs.Members.{IsIn}
use Rattle.dav_store.specs.MemberLaws.{kept_in, come_from, IsIn-permuted, IsIn-unpermuted}
use Rattle.dav_messages.specs.Multistatus.{Item}
use Rattle.dav_walks.specs.KeyCall.{KeyCall, same_key, calls_at}
use Rattle.dav_walks.specs.Deletion.{calls_below, WasRefused, IsHidden, path_at, named_path, named_by, named_in, IsLeft, IsLawfulRemoval}
use Rattle.dav_walks.specs.Trace.{AllGranted, SomeRefused, Walks, Halts, WalksWhole}
use Rattle.dav_walks.specs.ClearedLaws.{error_there, record_of_call, refusal_named}
use Rattle.dav_walks.proofs.Keys.{same_key_is, append-nothing, parent_above, parent-append, calls_at-IsIn}
use Rattle.dav_walks.proofs.Facts.{HasName, HasRefusal, left_only, left_stays, on_reached, few_calls, partly_on_reached, partly_few_calls, entry_at, partly_entry_at, entry_below}
use Rattle.dav_walks.proofs.Removed.{walked_fits, partly_fits, call_fits, removed_gone, partly_removed_gone, gone_removed, partly_gone_removed}
use Rattle.dav_walks.proofs.Bound.{call_bound}
use Rattle.dav_walks.proofs.Kept.{kept_or_gone, kept_same}

-- ---- what a call names

pub path_at-key : (path : PathValue) (slash : Bool) (key : Key) → (path_at path slash key).key ≡ key
path_at-key path slash key = go (same_key key path.key) refl
  where
    go : (b : Bool) → same_key key path.key ≡ b → (if b then path else record path { star = false; slash = slash; key = key }).key ≡ key
    go true e = sym (same_key_is key path.key e)
    go false e = refl

-- the key that a refused call names
abbrev pub named_key : Op → Key → Key
named_key op.Entry key = parent key
named_key _ key = key

pub named_path-key : (path : PathValue) (kind : Op) (key : Key) → (named_path path kind key).key ≡ named_key kind key
named_path-key path op.RemoveFile key = path_at-key path false key
named_path-key path op.Entry key = path_at-key path true (parent key)
named_path-key path _ key = path_at-key path true key

pub refused_there : (path : PathValue) (call : KeyCall) (item : Item) → named_by path call ≡ Some item → WasRefused call.outcome × (named_key call.op call.key ≡ item.0.key)
refused_there path call item e = go call.outcome e
  where
    named : (f : FsError) → Some (named_path path call.op call.key, fs_status f) ≡ Some item → named_key call.op call.key ≡ item.0.key
    named f q = let p : (named_path path call.op call.key, fs_status f) ≡ item = cc in sym (named_path-key path call.op call.key) ∙ ap (λ (i : Item). i.0.key) p

    go : (outcome : Outcome) → option_map (λ f. (named_path path call.op call.key, fs_status f)) (error_of outcome) ≡ Some item → WasRefused outcome × (named_key call.op call.key ≡ item.0.key)
    go Granted q = absurd (let p : None ≡ Some item = q in cc)
    go (Barred f) q = ((λ g. cc), named f q)
    go (Refused f) q = ((λ g. cc), named f q)

-- what a call names is its key, or above it
named_above : (kind : Op) (key : Key) → (x : Key) × (key ≡ named_key kind key ++ x)
named_above op.Entry key = parent_above key
named_above _ key = ([], sym (append-nothing key))

-- and at or below what the call is below
named_below : (kind : Op) (key z : Key) → (kind ≡ op.Entry → z ≢ []) → (x : Key) × (named_key kind (key ++ z) ≡ key ++ x)
named_below op.Entry key [] strict = absurd (strict refl refl)
named_below op.Entry key (name ∷ z) strict = (parent (name ∷ z), parent-append key name z)
named_below _ key z strict = (z, refl)

-- ---- the names and the refused calls

module _ (path : PathValue) (calls : List KeyCall) (names : List Item) (bag : IsPermutation (named_in path calls) names) where
  name_of_call : (x : Key) → HasName (calls_below calls path.key) x → (z : Key) × (item : Item) × IsIn item names × (item.0.key ≡ (path.key ++ x) ++ z)
  name_of_call x h =
      let z = h.0 in let c = h.1 in
      let error = error_there c.1 h.3 in
      let i : IsIn c (calls_at calls ((path.key ++ x) ++ z)) = subst (λ j. IsIn c (calls_at calls j)) (sym (append_assoc path.key x z)) h.2 in
      let call : KeyCall = record { key = (path.key ++ x) ++ z; op = c.0; outcome = c.1 } in
      let j : IsIn call calls = record_of_call calls ((path.key ++ x) ++ z) c i in
      let item : Item = (named_path path call.op call.key, fs_status error.0) in
      let below = named_below c.0 (path.key ++ x) z h.4 in
      let named : named_by path call ≡ Some item = ap (option_map (λ e. (named_path path call.op call.key, fs_status e))) error.1 in
      (below.0, item, IsIn-permuted _ _ _ bag (kept_in (named_by path) calls call item named j), named_path-key path call.op call.key ∙ below.1)

  call_of_name : (x z : Key) (item : Item) → IsIn item names → item.0.key ≡ (path.key ++ x) ++ z → HasRefusal (calls_below calls path.key) x
  call_of_name x z item i at =
      let f = come_from (named_by path) calls item (IsIn-unpermuted _ _ _ bag i) in
      let call = f.0 in let o = refused_there path call item f.2 in
      let above = named_above call.op call.key in
      let at_key : call.key ≡ path.key ++ (x ++ (z ++ above.0)) = above.1 ∙ ap (λ k. k ++ above.0) (o.1 ∙ at) ∙ append_assoc (path.key ++ x) z above.0 ∙ append_assoc path.key x (z ++ above.0) in
      (z ++ above.0, (call.op, call.outcome), subst (λ k. IsIn (call.op, call.outcome) (calls_at calls k)) at_key (calls_at-IsIn calls call f.1), o.0)

  pub left_from : (x : Key) → HasName (calls_below calls path.key) x ⊎ IsHidden (calls_below calls path.key) x → IsLeft names (calls_below calls path.key) path.key x
  left_from x (inl h) = inl (name_of_call x h)
  left_from x (inr h) = inr h

  pub refusal_from : (x : Key) → IsLeft names (calls_below calls path.key) path.key x → HasRefusal (calls_below calls path.key) x ⊎ IsHidden (calls_below calls path.key) x
  refusal_from x (inl n) = inl (call_of_name x n.0 n.1 n.2 n.3)
  refusal_from x (inr h) = inr h

  pub none_named : AllGranted calls → names ≡ []
  none_named granted = nil_from_length names (length_permutation _ _ bag ∙ ap length (go calls granted))
    where
      go : (rest : List KeyCall) → AllGranted rest → named_in path rest ≡ []
      go [] all = refl
      go (call ∷ rest) all = ap (λ o. cons_option (option_map (λ e. (named_path path call.op call.key, fs_status e)) (error_of o)) (named_in path rest)) (all call (inl refl)) ∙ go rest (λ s i. all s (inr i))

  pub some_named : SomeRefused calls → names ≢ []
  some_named s = refusal_named path calls names bag s.0 s.1 s.2

-- ---- the theorem

pub walk_deletes : (path : PathValue) (old new : Contents) (before after : List Logged) (had has : List Item) (clean : Bool) → IsWellFormed old
    → Walks path old new before after had has path.key clean → WalksWhole path old new before after had has clean
walk_deletes path old new before after had has clean formed w = record {
  calls = w.calls;
  log = w.log;
  names = w.names;
  added = w.named;
  deletes = record {
    lawful = record {
      within = w.within;
      reached = on_reached w.walked;
      entries = λ x o i. entry_below _ _ x o w.no_entry i (entry_at w.walked x o i);
      once = λ x. (few_calls w.walked x).0;
      fits = call_fits old.tree path.key w.calls w.within (walked_fits w.walked);
      few = λ x. (few_calls w.walked x).1;
      bound = call_bound old.tree path.key w.calls w.within (on_reached w.walked) (λ x. (few_calls w.walked x).1);
      barred = w.barred;
      own = w.own;
      kept_or_gone = λ x. kept_or_gone old new w.is_kept (path.key ++ x);
      outside = w.outside;
      limit = w.is_kept.limit;
      removed = removed_gone w.walked;
      gone = gone_removed w.walked;
      untouched = w.untouched;
    };
    named = w.bag;
    left = λ x there. left_from path w.calls w.names w.bag x (left_only w.walked x there);
    same = λ x is. kept_same old new formed w.is_kept (path.key ++ x) (left_stays w.walked x (refusal_from path w.calls w.names w.bag x is));
  };
  clean_is = ((λ e. none_named path w.calls w.names w.bag (w.granted e)), λ none. go clean refl none);
}
  where
    go : (b : Bool) → clean ≡ b → w.names ≡ [] → clean ≡ true
    go true e none = e
    go false e none = absurd (some_named path w.calls w.names w.bag (w.refused e) none)

pub halt_lawful : (path : PathValue) (old new : Contents) (before after : List Logged) (had has : List Item) (p : Key) (h : Halts path old new before after had has p) → IsLawfulRemoval p old new h.calls
halt_lawful path old new before after had has p h = record {
  within = h.within;
  reached = partly_on_reached h.partly;
  entries = λ x o i. entry_below _ _ x o h.no_entry i (partly_entry_at h.partly x o i);
  once = λ x. (partly_few_calls h.partly x).0;
  fits = call_fits old.tree p h.calls h.within (partly_fits h.partly);
  few = λ x. (partly_few_calls h.partly x).1;
  bound = call_bound old.tree p h.calls h.within (partly_on_reached h.partly) (λ x. (partly_few_calls h.partly x).1);
  barred = h.barred;
  own = h.own;
  kept_or_gone = λ x. kept_or_gone old new h.is_kept (p ++ x);
  outside = h.outside;
  limit = h.is_kept.limit;
  removed = partly_removed_gone h.partly;
  gone = partly_gone_removed h.partly;
  untouched = h.untouched;
}
