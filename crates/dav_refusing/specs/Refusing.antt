-- What each call does in a store that refuses by plan or by number: this project's own choice.
use Rattle.std.specs.Prelude.{◌≡◌, ◌≢◌, ℕ, true, List, [], ◌∷◌, ◌++◌, map, filter_map, Option, Some, None, Result, Ok, Err, Vec, ◌⊎◌}
use Rattle.std.specs.declared.alloc.Global.{Global}
use Rattle.dav_key.specs.Key.{Key}
use Rattle.dav_resource.specs.PathText.{PathValue}
use Rattle.dav_resource.specs.declared.meta.DirEntry.{DirEntry}
use Rattle.dav_resource.specs.declared.record.Op.{Op}
use Rattle.dav_resource.specs.declared.record.Op.TheVariants.{ReadBytes, ReadDir}
use Rattle.dav_resource.specs.declared.record.Outcome.{Outcome}
use Rattle.dav_resource.specs.declared.record.Outcome.TheVariants.{Granted, Refused}
use Rattle.dav_resource.specs.declared.record.Record.{Record}
use Rattle.dav_resource.specs.declared.error.FsError.{FsError}
use Rattle.dav_resource.specs.declared.error.FsError.TheVariants.{Memory}
use Rattle.dav_store.specs.Logged.{logged_of}
use Rattle.dav_store.specs.Store.{Store}
use Rattle.dav_store.specs.BodyCalls.{stored_bytes}
use Rattle.dav_store.specs.Calls.{Reads, ReadsBytes}
use Rattle.dav_store.specs.Members.{Lists, ReadsDir, unseen_record}
use Rattle.dav_store.specs.Logged.{record_with, record_on}
use Rattle.dav_wrapping.specs.Wrapping.{Leave, seen_with}
use Rattle.dav_wrapping.specs.Hiding.{shown_by, hidden_by}
use Rattle.dav_refusing.specs.Plans.{Plan, first_key, why_by, left_by}
use Rattle.dav_refusing.specs.Pending as pendings
use Rattle.dav_refusing.specs.Pending.{Pending, due, after_call}
use Rattle.dav_refusing.specs.declared.refusing.Refusing.{Refusing}

-- all calls are allowed, and the members that the wrapped store may show
abbrev pub all_allowed : Leave
all_allowed = record { allows = λ _ _. true; shows = λ facts. facts.shows }

module _ {F : Type 0} where
  -- the wrapped store
  abbrev pub inner_of : Refusing F → F
  inner_of store = store.inner

  -- the refusals that are still to come
  abbrev pub pending_of : Refusing F → Pending
  pending_of store = pendings.pending_of store.pending

  -- the plan in these
  abbrev pub plan_of : Refusing F → Plan
  plan_of store = (pending_of store).plan

  -- its records, the oldest first
  abbrev pub records_of : Refusing F → List Record
  records_of store = store.log.items

  -- what contracts see: what they see of the wrapped store, but all calls are allowed, and the log is its own
  abbrev pub seen_behind : (F → Store) → Refusing F → Store
  seen_behind see store = seen_with all_allowed (see store.inner) (map logged_of store.log.items)

  -- the bytes of a body, which the wrapped store holds under a number
  abbrev pub body_behind : (F → Store) → Refusing F → ℕ → List ℕ
  body_behind see store number = stored_bytes (see store.inner).facts.bodies number

  -- ---- a call

  -- nothing changes, neither here nor in the wrapped store
  pub record IsWhollyKept (old new : Refusing F) : Type 0 where
    pub inner : inner_of new ≡ inner_of old
    pub pending : pending_of new ≡ pending_of old
    pub records : records_of new ≡ records_of old

  -- nothing changes that contracts see, here or in the wrapped store
  pub record IsSeenKept (see : F → Store) (old new : Refusing F) : Type 0 where
    pub inner : see (inner_of new) ≡ see (inner_of old)
    pub pending : pending_of new ≡ pending_of old
    pub records : records_of new ≡ records_of old

  -- the call is refused with the error that is due, which is used up; the wrapped store does not change
  pub record Refuses (op : Op) (paths : List PathValue) (e : FsError) (old new : Refusing F) : Type 0 where
    pub is_due : due op (first_key paths) (pending_of old) ≡ Some e
    pub inner : inner_of new ≡ inner_of old
    pub left : pending_of new ≡ after_call op (first_key paths) (pending_of old)
    pub records : records_of new ≡ records_of old ++ record_on op paths (Refused e) ∷ []

  -- the result is one that the wrapped store may return, and that store has changed accordingly; the record has the outcome and the statuses of that
  -- store's record
  pub record Passes {A : Type 0} (see : F → Store) (op : Op) (paths : List PathValue) (Behind : Store → Result A FsError → Store → Type 0) (old : Refusing F) (answer : Result A FsError) (new : Refusing F) : Type 0 where
    pub behind : Behind (see (inner_of old)) answer (see (inner_of new))
    pub left : pending_of new ≡ after_call op (first_key paths) (pending_of old)
    pub outcome : Outcome
    pub statuses : List ℕ
    pub recorded : (see (inner_of new)).log ≡ (see (inner_of old)).log ++ logged_of (record_with op paths outcome statuses) ∷ []
    pub records : records_of new ≡ records_of old ++ record_with op paths outcome statuses ∷ []

  -- a call for which an error is due is refused with it; each other call is passed on
  abbrev pub GoesByPlan : {A : Type 0} → Op → List PathValue → (Refusing F → Result A FsError → Refusing F → Type 0) → Option FsError → Refusing F → Result A FsError → Refusing F → Type 0
  GoesByPlan op paths Passed (Some e) old answer new = (answer ≡ Err e) × Refuses op paths e old new
  GoesByPlan op paths Passed None old answer new = Passed old answer new

  -- a call goes by the plan, or memory runs out and what `Kept` says stays as it was
  abbrev pub FollowsPlan : {A : Type 0} → (Refusing F → Refusing F → Type 0) → Op → List PathValue → (Refusing F → Result A FsError → Refusing F → Type 0) → Refusing F → Result A FsError → Refusing F → Type 0
  FollowsPlan Kept op paths Passed old answer new =
      ((answer ≡ Err Memory) × Kept old new) ⊎ ((answer ≢ Err Memory) × GoesByPlan op paths Passed (due op (first_key paths) (pending_of old)) old answer new)

  -- a call of the wrapped store goes by the plan; if memory runs out, nothing changes that contracts see
  abbrev pub Follows : {A : Type 0} → (F → Store) → Op → List PathValue → (Store → Result A FsError → Store → Type 0) → Refusing F → Result A FsError → Refusing F → Type 0
  Follows see op paths Behind = FollowsPlan (IsSeenKept see) op paths (Passes see op paths Behind)

  -- ---- read_bytes

  -- the bytes are those of the wrapped store, or it says what it says of an error
  abbrev pub ReadsBehind : (F → Reads) → (F → Store) → Key → ℕ → ℕ → Refusing F → Result (Vec ℕ Global) FsError → Refusing F → Type 0
  ReadsBehind reads see key place count old answer new = ReadsBytes (reads (inner_of new)) (seen_behind see old) key place count answer (seen_behind see new)

  -- a read of bytes goes by the plan
  abbrev pub FollowsRead : (F → Reads) → (F → Store) → PathValue → ℕ → ℕ → Refusing F → Result (Vec ℕ Global) FsError → Refusing F → Type 0
  FollowsRead reads see path place count old answer new =
      Follows see ReadBytes (path ∷ []) (λ s. ReadsBytes (reads (inner_of new)) s path.key place count) old answer new

  -- ---- read_dir

  -- a listing that the wrapped store may return, except for the members for which the plan has a refusal: each is refused with it, and the refusal is
  -- used up. The records of the members that are not listed follow that of the call, in the order of the listing. Those of members that the wrapped
  -- store does not list have the keys and outcomes of its own records
  pub record PassesListing (see : F → Store) (path : PathValue) (old : Refusing F) (answer : List (Result DirEntry FsError)) (new : Refusing F) : Type 0 where
    pub listed : List (Result DirEntry FsError)
    pub behind : Lists path.key (see (inner_of old)) listed (see (inner_of new))
    pub shown : answer ≡ map (λ c. c.1) (shown_by (why_by (plan_of old)) path.key behind.children)
    pub left : pending_of new ≡ record (after_call ReadDir path.key (pending_of old)) { plan = left_by (plan_of old) path.key behind.children }
    pub hidden : List Record
    pub recorded : map logged_of hidden ≡ filter_map (unseen_record path.key) behind.children
    pub records : records_of new ≡ records_of old ++ record_on ReadDir (path ∷ []) Granted ∷ hidden_by (why_by (plan_of old)) path behind.children hidden

  abbrev pub PassesReadDir : (F → Store) → PathValue → Refusing F → Result (Vec (Result DirEntry FsError) Global) FsError → Refusing F → Type 0
  PassesReadDir see path old (Ok listing) new = PassesListing see path old listing.items new
  PassesReadDir see path old (Err e) new = Passes see ReadDir (path ∷ []) (λ s. ReadsDir s path.key) old (Err e) new

  -- no error is due for the listing, and the wrapped store has listed the directory, which changes only its log
  pub record HasListed (see : F → Store) (path : PathValue) (old new : Refusing F) : Type 0 where
    pub free : due ReadDir path.key (pending_of old) ≡ None
    pub listed : List (Result DirEntry FsError)
    pub behind : Lists path.key (see (inner_of old)) listed (see (inner_of new))

  -- nothing changes that contracts see, here or in the wrapped store, except that the latter may have listed the directory
  pub record KeepsReading (see : F → Store) (path : PathValue) (old new : Refusing F) : Type 0 where
    pub inner : (see (inner_of new) ≡ see (inner_of old)) ⊎ HasListed see path old new
    pub pending : pending_of new ≡ pending_of old
    pub records : records_of new ≡ records_of old

  -- a listing goes by the plan; if memory runs out, the wrapped store may have listed the directory
  abbrev pub FollowsReading : (F → Store) → PathValue → Refusing F → Result (Vec (Result DirEntry FsError) Global) FsError → Refusing F → Type 0
  FollowsReading see path = FollowsPlan (KeepsReading see path) ReadDir (path ∷ []) (PassesReadDir see path)
