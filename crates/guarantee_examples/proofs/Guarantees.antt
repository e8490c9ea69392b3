-- Both guarantees, from a run.
use Rattle.std.proofs.Common.{◌≡◌, ◌≢◌, ◌∙◌, ◌||◌, ◌&&◌, cond, if◌then◌else◌, ℕ, Bool, true, false, List, [], ◌∷◌, append-nil, Option, Some, None, ◌⊎◌, inl, inr, refl, sym, ap, subst}
use Rattle.std.specs.FinMap.{get}
use Rattle.std.specs.List.{list_any, list_all, filter}
use Rattle.std.specs.Option.{option_map_or}
use Rattle.std.specs.Str.{bytes_eq}
use Rattle.std.proofs.lemmas.Bool.{and_parts}
use Rattle.std.proofs.lemmas.Slice.Eq.{bytes_eq-Decides}
use Rattle.dav_key.specs.Key.{Key, is_same_key, same_key_decides}
use Rattle.dav_resource.specs.Methods.{method_of}
use Rattle.dav_resource.specs.declared.method.DavMethod.{DavMethod}
use Rattle.dav_resource.specs.declared.method.DavMethod.TheVariants.{Head, Get, Put, Patch, Options, PropFind, PropPatch, MkCol, Copy, Move, Delete, Lock, Unlock}
use Rattle.dav_resource.specs.declared.request.DavRequest.{DavRequest}
use Rattle.dav_headers.specs.LockToken.{lock_token_of}
use Rattle.dav_key.specs.Below.{is_at_or_below}
use Rattle.dav_store.specs.BelowLaws.{at_or_below-append}
use Rattle.dav_store.specs.LockCalls.{is_named}
use Rattle.dav_store.specs.Locks.{covers, covering, at_or_below, permits, permits_at, is_submitted}
use Rattle.dav_store.specs.Logged.{Logged}
use Rattle.dav_store.specs.Members.{IsIn}
use Rattle.dav_store.specs.Store.{Node, File, Directory}
use Rattle.dav_store.specs.declared.lock.DavLock.{DavLock}
use Rattle.dav_messages.specs.Conditions.{submitted_tokens}
use Rattle.dav_messages.specs.Reply.{Answer}
use Rattle.dav_walks.specs.KeyCall.{standing}
use Rattle.dav_engine.specs.Bounds.{is_at_destination, may_change, may_change_lock}
use Rattle.dav_engine.specs.Guarded.{IsPermitted, IsLockedFile}
use Rattle.dav_engine.specs.Law.{MethodLaw}
use Rattle.dav_engine.specs.Locking.{is_refresh}
use Rattle.dav_engine.specs.Put.{new_bytes}
use Rattle.dav_engine.specs.Rules.{is_permitted, permits_by}
use Rattle.dav_engine.specs.Settings.{Settings}
use Rattle.dav_engine.specs.State.{State, Seen, state_of}
use Rattle.dav_engine.specs.Step.{RunsOne, Run, Runs}
use Rattle.guarantee_examples.specs.Guarantees.{KeepsUnreached, carries, AreWithout, IsProtected, KeepsFirstPut}

-- ---- truth values and lists

neither : (one other : Bool) → (one || other) ≡ false → (one ≡ false) × (other ≡ false)
neither true other is = absurd cc
neither false other is = (refl, is)

not_both : (b : Bool) → b ≡ true → b ≡ false → ⊥
not_both b holds fails = let absurdity : true ≡ false = sym holds ∙ fails in cc

unless : (a b : Bool) → (a || b) ≡ true → a ≡ false → b ≡ true
unless true b is fails = absurd cc
unless false b is fails = is

all_pass : {X : Type 0} (test : X → Bool) (x : X) (xs : List X) → IsIn x xs → list_all test xs ≡ true → test x ≡ true
all_pass test x [] inside all = absurd inside
all_pass test x (y ∷ xs) (inl same) all = ap test (sym same) ∙ (and_parts (test y) (list_all test xs) all).0
all_pass test x (y ∷ xs) (inr inside) all = all_pass test x xs inside (and_parts (test y) (list_all test xs) all).1

stays_in : {X : Type 0} (test : X → Bool) (x : X) (xs : List X) → test x ≡ true → IsIn x xs → IsIn x (filter test xs)
stays_in test x [] passes inside = absurd inside
stays_in {X} test x (y ∷ xs) passes inside = by_test (test y) refl inside (stays_in test x xs passes)
  where
    by_test : (b : Bool) → test y ≡ b → IsIn x (y ∷ xs) → (IsIn x xs → IsIn x (filter test xs)) → IsIn x (cond b (y ∷ filter test xs) (filter test xs))
    by_test true is (inl same) further = inl same
    by_test true is (inr inside) further = inr (further inside)
    by_test false is (inl same) further = absurd (not_both (test x) passes (ap test (sym same) ∙ is))
    by_test false is (inr inside) further = further inside

-- ---- keys

below_itself : (key : Key) → is_at_or_below key key ≡ true
below_itself key = ap (λ k. is_at_or_below k key) (sym (append-nil key)) ∙ at_or_below-append key []

same_below : (key above : Key) → is_same_key key above ≡ true → is_at_or_below key above ≡ true
same_below key above same = subst (λ k. is_at_or_below k above ≡ true) (sym ((same_key_decides key above).0 same)) (below_itself above)

apart : (key above : Key) → is_at_or_below key above ≡ false → is_same_key key above ≡ false
apart key above other = by_test (is_same_key key above) refl
  where
    by_test : (b : Bool) → is_same_key key above ≡ b → is_same_key key above ≡ false
    by_test true same = absurd (not_both (is_at_or_below key above) (same_below key above same) other)
    by_test false differs = differs

-- of two keys above the same key, one is above the other
one_above : (one other below : Key) → is_at_or_below below one ≡ true → is_at_or_below below other ≡ true → (is_at_or_below one other ≡ true) ⊎ (is_at_or_below other one ≡ true)
one_above [] other below first second = inr refl
one_above (segment ∷ one) [] below first second = inl refl
one_above (segment ∷ one) (next ∷ other) [] first second = absurd cc
one_above (segment ∷ one) (next ∷ other) (name ∷ below) first second =
    let p = and_parts (bytes_eq segment name) (is_at_or_below below one) first in
    let q = and_parts (bytes_eq next name) (is_at_or_below below other) second in
    let same : segment ≡ next = (bytes_eq-Decides segment name).0 p.0 ∙ sym ((bytes_eq-Decides next name).0 q.0) in
    further same (one_above one other below p.1 q.1)
  where
    further : segment ≡ next → (is_at_or_below one other ≡ true) ⊎ (is_at_or_below other one ≡ true) → (is_at_or_below (segment ∷ one) (next ∷ other) ≡ true) ⊎ (is_at_or_below (next ∷ other) (segment ∷ one) ≡ true)
    further same (inl h) = inl (rw ((bytes_eq-Decides next segment).1 (sym same)) h)
    further same (inr h) = inr (rw ((bytes_eq-Decides segment next).1 same) h)

-- ---- what requests do not reach

not_reached : (method : Option DavMethod) (settings : Settings) (request : DavRequest) (key : Key) → (is_at_or_below key request.path.key || is_at_destination settings request key) ≡ false → may_change method settings request key ≡ false
not_reached method settings request key outside = by_method method
  where
    both : (is_at_or_below key request.path.key ≡ false) × (is_at_destination settings request key ≡ false)
    both = neither (is_at_or_below key request.path.key) (is_at_destination settings request key) outside

    other : is_same_key key request.path.key ≡ false
    other = apart key request.path.key both.0

    by_method : (method : Option DavMethod) → may_change method settings request key ≡ false
    by_method None = refl
    by_method (Some Head) = refl
    by_method (Some Get) = refl
    by_method (Some Options) = refl
    by_method (Some PropFind) = refl
    by_method (Some Unlock) = refl
    by_method (Some Put) = other
    by_method (Some Patch) = other
    by_method (Some PropPatch) = other
    by_method (Some MkCol) = other
    by_method (Some Lock) = other
    by_method (Some Copy) = both.1
    by_method (Some Move) = outside
    by_method (Some Delete) = both.0

keeps_unreached : (settings : Settings) (requests : List DavRequest) (old new : State) (records : List Logged) (answers : List Answer) → Run settings old requests records answers new → KeepsUnreached settings requests old new
keeps_unreached settings [] old new records [] run key elsewhere = ap (λ (s : State). standing s.contents key) run.1
keeps_unreached settings [] old new records (answer ∷ answers) run key elsewhere = absurd run
keeps_unreached settings (request ∷ requests) old new records [] run key elsewhere = absurd run
keeps_unreached settings (request ∷ requests) old new records (answer ∷ answers) run key elsewhere =
    let one = run.4.law.bounded.elsewhere key (not_reached (method_of request.method) settings request key elsewhere.0) in
    keeps_unreached settings requests run.2 new run.1 answers run.5 key elsewhere.1 ∙ one

-- of what is seen
pub runs_keep_unreached : (settings : Settings) (old new : Seen) (requests : List DavRequest) (answers : List Answer) → Runs settings old requests answers new → KeepsUnreached settings requests (state_of old) (state_of new)
runs_keep_unreached settings old new requests answers runs = keeps_unreached settings requests (state_of old) (state_of new) runs.records answers runs.run

-- ---- the lock stays

unlike : (a b : List ℕ) → bytes_eq a b ≡ false → bytes_eq b a ≡ false
unlike a b differs = by_test (bytes_eq b a) refl
  where
    by_test : (c : Bool) → bytes_eq b a ≡ c → bytes_eq b a ≡ false
    by_test true same = absurd (not_both (bytes_eq a b) ((bytes_eq-Decides a b).1 (sym ((bytes_eq-Decides b a).0 same))) differs)
    by_test false is = is

module _ (lock : DavLock) where
  unnamed_by : (token : List ℕ) (key : Key) → bytes_eq lock.token token ≡ false → is_named key token lock ≡ false
  unnamed_by token key differs = ap (λ b. b && is_at_or_below key lock.path.key) (unlike lock.token token differs)

  none_named : (key : Key) (tokens : List (List ℕ)) → list_any (bytes_eq lock.token) tokens ≡ false → list_any (λ token. is_named key token lock) tokens ≡ false
  none_named key [] none = refl
  none_named key (token ∷ tokens) none =
      let p = neither (bytes_eq lock.token token) (list_any (bytes_eq lock.token) tokens) none in
      rw (unnamed_by token key p.0) (none_named key tokens p.1)

  not_by_header : (key : Key) (named : Option (List ℕ)) → option_map_or (bytes_eq lock.token) named false ≡ false → option_map_or (λ token. is_named key token lock) named false ≡ false
  not_by_header key None none = refl
  not_by_header key (Some token) none = unnamed_by token key none

  unsubmitted : (principal : Option (List ℕ)) (tokens : List (List ℕ)) → list_any (bytes_eq lock.token) tokens ≡ false → is_submitted principal false tokens lock ≡ false
  unsubmitted principal tokens none = rw none refl

  may_not : (a : Bool) → (a && false) ≡ false
  may_not true = refl
  may_not false = refl

  not_changed : (method : Option DavMethod) (settings : Settings) (request : DavRequest) → carries lock.token request ≡ false → may_change_lock method settings request lock ≡ false
  not_changed method settings request without = by_method method
    where
      both : (list_any (bytes_eq lock.token) (submitted_tokens request) ≡ false) × (option_map_or (bytes_eq lock.token) (lock_token_of request.headers) false ≡ false)
      both = neither _ _ without

      not_submitted : (b : Bool) → (b && is_submitted request.principal false (submitted_tokens request) lock) ≡ false
      not_submitted b = ap (λ c. b && c) (unsubmitted request.principal (submitted_tokens request) both.0) ∙ may_not b

      by_method : (method : Option DavMethod) → may_change_lock method settings request lock ≡ false
      by_method None = refl
      by_method (Some Head) = refl
      by_method (Some Get) = refl
      by_method (Some Options) = refl
      by_method (Some PropFind) = refl
      by_method (Some Put) = refl
      by_method (Some Patch) = refl
      by_method (Some PropPatch) = refl
      by_method (Some MkCol) = refl
      by_method (Some Unlock) = not_by_header request.path.key (lock_token_of request.headers) both.1
      by_method (Some Lock) = ap (λ c. is_refresh settings.facts.bodies request.body && c) (none_named request.path.key (submitted_tokens request) both.0) ∙ may_not (is_refresh settings.facts.bodies request.body)
      by_method (Some Copy) = not_submitted (may_change (Some Copy) settings request lock.path.key)
      by_method (Some Move) = not_submitted (may_change (Some Move) settings request lock.path.key)
      by_method (Some Delete) = not_submitted (may_change (Some Delete) settings request lock.path.key)

-- ---- what the lock covers stays

module _ (lock : DavLock) (exclusive : lock.shared ≡ false) (principal : Option (List ℕ)) (tokens : List (List ℕ)) (none : list_any (bytes_eq lock.token) tokens ≡ false) where
  submitted : DavLock → Bool
  submitted = is_submitted principal false tokens

  no_entry : (list : List DavLock) (key : Key) (deep : Bool) → IsIn lock list → covers lock key ≡ true → permits list key principal false deep tokens ≡ true → ⊥
  no_entry list key deep inside over permitted =
      let p = and_parts (permits_at (covering list key) (is_submitted principal false tokens)) _ permitted in
      let each = and_parts (list_all (λ (l : DavLock). l.shared || is_submitted principal false tokens l) (covering list key)) _ p.0 in
      let passes = all_pass (λ (l : DavLock). l.shared || is_submitted principal false tokens l) lock (covering list key) (stays_in (λ l. covers l key) lock list over inside) each.0 in
      not_both (is_submitted principal false tokens lock) (unless lock.shared (is_submitted principal false tokens lock) passes exclusive) (unsubmitted lock principal tokens none)

  no_deep_entry : (list : List DavLock) (top : Key) → IsIn lock list → is_at_or_below lock.path.key top ≡ true → permits list top principal false true tokens ≡ true → ⊥
  no_deep_entry list top inside below permitted =
      let p = and_parts (permits_at (covering list top) (is_submitted principal false tokens)) _ permitted in
      let passes = all_pass (is_submitted principal false tokens) lock (at_or_below list top) (stays_in (λ (l : DavLock). is_at_or_below l.path.key top) lock list below inside) p.1 in
      not_both (is_submitted principal false tokens lock) passes (unsubmitted lock principal tokens none)

  -- a lock above a key that covers something below it covers the key
  covers_between : (top key : Key) → is_at_or_below key top ≡ true → covers lock key ≡ true → (is_at_or_below lock.path.key top ≡ true) ⊎ (covers lock top ≡ true)
  covers_between top key below over = by_depth lock.deep refl
    where
      by_depth : (deep : Bool) → lock.deep ≡ deep → (is_at_or_below lock.path.key top ≡ true) ⊎ (covers lock top ≡ true)
      by_depth true deep =
          let above : is_at_or_below key lock.path.key ≡ true = ap (λ d. if d then is_at_or_below key lock.path.key else is_same_key key lock.path.key) (sym deep) ∙ over in
          by_order deep (one_above lock.path.key top key above below)
        where
          by_order : lock.deep ≡ true → (is_at_or_below lock.path.key top ≡ true) ⊎ (is_at_or_below top lock.path.key ≡ true) → (is_at_or_below lock.path.key top ≡ true) ⊎ (covers lock top ≡ true)
          by_order deep (inl h) = inl h
          by_order deep (inr h) = inr (ap (λ d. if d then is_at_or_below top lock.path.key else is_same_key top lock.path.key) deep ∙ h)
      by_depth false shallow =
          let same : is_same_key key lock.path.key ≡ true = ap (λ d. if d then is_at_or_below key lock.path.key else is_same_key key lock.path.key) (sym shallow) ∙ over in
          inl (subst (λ k. is_at_or_below k top ≡ true) ((same_key_decides key lock.path.key).0 same) below)

not_permitted : (lock : DavLock) (request : DavRequest) (state : State) (key : Key) → IsProtected key lock state → carries lock.token request ≡ false → IsPermitted request state key → ⊥
not_permitted lock request state key protected without = by_way
  where
    none : list_any (bytes_eq lock.token) (submitted_tokens request) ≡ false
    none = (neither (list_any (bytes_eq lock.token) (submitted_tokens request)) _ without).0

    list : List DavLock
    list = protected.there.0

    listed : (place : Key) (deep : Bool) → is_permitted request state place deep ≡ true → permits list place request.principal false deep (submitted_tokens request) ≡ true
    listed place deep permitted = ap (λ l. permits_by l place request.principal deep (submitted_tokens request)) (sym protected.there.1) ∙ permitted

    by_way : IsPermitted request state key → ⊥
    by_way (inl at) = no_entry lock protected.exclusive request.principal (submitted_tokens request) none list key false protected.there.2 protected.covers (listed key false at)
    by_way (inr (top, below, deep)) = by_place (covers_between lock protected.exclusive request.principal (submitted_tokens request) none top key below protected.covers)
      where
        by_place : (is_at_or_below lock.path.key top ≡ true) ⊎ (covers lock top ≡ true) → ⊥
        by_place (inl inside) = no_deep_entry lock protected.exclusive request.principal (submitted_tokens request) none list top protected.there.2 inside (listed top true deep)
        by_place (inr over) = no_entry lock protected.exclusive request.principal (submitted_tokens request) none list top true protected.there.2 over (listed top true deep)

-- a file that does not change has the same bytes
same_file : (bytes : List ℕ) (old new : Option Node) → old ≡ Some (File bytes) → (old ≢ new → ⊥) → new ≡ Some (File bytes)
same_file bytes old None is unchanged = absurd (unchanged (λ same. let no : Some (File bytes) ≡ None = sym is ∙ same in cc))
same_file bytes old (Some Directory) is unchanged = absurd (unchanged (λ same. let no : Some (File bytes) ≡ Some Directory = sym is ∙ same in cc))
same_file bytes old (Some (File other)) is unchanged = by_test (bytes_eq other bytes) refl
  where
    by_test : (b : Bool) → bytes_eq other bytes ≡ b → Some (File other) ≡ Some (File bytes)
    by_test true same = ap (λ bs. Some (File bs)) ((bytes_eq-Decides other bytes).0 same)
    by_test false differs = absurd (unchanged (λ same. let p : Some (File bytes) ≡ Some (File other) = sym is ∙ same in let q : bytes ≡ other = cc in not_both (bytes_eq other bytes) ((bytes_eq-Decides other bytes).1 (sym q)) differs))

one_keeps : (settings : Settings) (request : DavRequest) (old new : State) (records : List Logged) (answer : Answer) (lock : DavLock) (key : Key) (bytes : List ℕ) → RunsOne settings request old records answer new
    → IsProtected key lock old → carries lock.token request ≡ false → get old.contents.tree key ≡ Some (File bytes) → get new.contents.tree key ≡ Some (File bytes)
one_keeps settings request old new records answer lock key bytes one protected without file =
    same_file bytes (get old.contents.tree key) (get new.contents.tree key) file (λ differs. by_cause (one.guarded key (inl differs)))
  where
    by_cause : IsPermitted request old key ⊎ IsLockedFile (method_of request.method) request key old.contents new.contents → ⊥
    by_cause (inl permitted) = not_permitted lock request old key protected without permitted
    by_cause (inr locked) = let no : Some (File bytes) ≡ None = sym file ∙ ap (get old.contents.tree) locked.here ∙ here in cc
      where
        here : get old.contents.tree request.path.key ≡ None
        here = ap (get old.contents.tree) (sym locked.here) ∙ locked.nothing

still_protected : (settings : Settings) (request : DavRequest) (old new : State) (records : List Logged) (answer : Answer) (lock : DavLock) (key : Key) → RunsOne settings request old records answer new
    → may_change_lock (method_of request.method) settings request lock ≡ false → IsProtected key lock old → IsProtected key lock new
still_protected settings request old new records answer lock key one other protected =
    record { there = one.law.bounded.locks.kept lock protected.there other; exclusive = protected.exclusive; covers = protected.covers }

run_keeps : (settings : Settings) (requests : List DavRequest) (old new : State) (records : List Logged) (answers : List Answer) (lock : DavLock) (key : Key) (bytes : List ℕ) → Run settings old requests records answers new
    → IsProtected key lock old → AreWithout lock.token requests → get old.contents.tree key ≡ Some (File bytes) → get new.contents.tree key ≡ Some (File bytes)
run_keeps settings [] old new records [] lock key bytes run protected without file = ap (λ (s : State). get s.contents.tree key) run.1 ∙ file
run_keeps settings [] old new records (answer ∷ answers) lock key bytes run protected without file = absurd run
run_keeps settings (request ∷ requests) old new records [] lock key bytes run protected without file = absurd run
run_keeps settings (request ∷ requests) old new records (answer ∷ answers) lock key bytes run protected without file =
    run_keeps settings requests run.2 new run.1 answers lock key bytes run.5
    (still_protected settings request old run.2 run.0 answer lock key run.4 (not_changed lock (method_of request.method) settings request without.0) protected) without.1
    (one_keeps settings request old run.2 run.0 answer lock key bytes run.4 protected without.0 file)

first_put_kept : (settings : Settings) (put : DavRequest) (requests : List DavRequest) (old new : State) (records : List Logged) (answer : Answer) (answers : List Answer)
    → Run settings old (put ∷ requests) records (answer ∷ answers) new → KeepsFirstPut settings (put ∷ requests) (answer ∷ answers) old new
first_put_kept settings put requests old new records answer answers run lock protected whole transferred without =
    let law = subst (λ m. MethodLaw m settings put old run.0 answer run.2) whole.put run.4.law.own in
    run_keeps settings requests run.2 new run.1 answers lock put.path.key (new_bytes settings.facts.bodies put.body) run.5
    (still_protected settings put old run.2 run.0 answer lock put.path.key run.4 (ap (λ m. may_change_lock m settings put lock) whole.put) protected) without
    (law.whole transferred (record { put = refl; no_range = whole.no_range }))

keeps_first_put : (settings : Settings) (requests : List DavRequest) (old new : State) (records : List Logged) (answers : List Answer) → Run settings old requests records answers new → KeepsFirstPut settings requests answers old new
keeps_first_put settings [] old new records [] run = tt
keeps_first_put settings [] old new records (answer ∷ answers) run = absurd run
keeps_first_put settings (put ∷ requests) old new records [] run = absurd run
keeps_first_put settings (put ∷ requests) old new records (answer ∷ answers) run = first_put_kept settings put requests old new records answer answers run

pub runs_keep_first_put : (settings : Settings) (old new : Seen) (requests : List DavRequest) (answers : List Answer) → Runs settings old requests answers new → KeepsFirstPut settings requests answers (state_of old) (state_of new)
runs_keep_first_put settings old new requests answers runs = keeps_first_put settings requests (state_of old) (state_of new) runs.records answers runs.run
