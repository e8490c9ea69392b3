-- What each call does in a store that a policy guards: this project's own choice.
use Rattle.std.specs.Prelude.{◌≡◌, ◌≢◌, ℕ, Bool, false, List, [], ◌∷◌, ◌++◌, map, filter_map, Result, Ok, Err, Vec, ◌⊎◌, ◌+◌, length, MatchResult}
use Rattle.std.proofs.Common.{sym, subst}
use Rattle.std.specs.declared.alloc.Global.{Global}
use Rattle.dav_key.specs.Key.{Key}
use Rattle.dav_resource.specs.PathText.{PathValue}
use Rattle.dav_resource.specs.declared.meta.DirEntry.{DirEntry}
use Rattle.dav_resource.specs.declared.meta.DavFile.{DavFile}
use Rattle.dav_resource.specs.declared.record.Op.{Op}
use Rattle.dav_resource.specs.declared.record.Op.TheVariants.{ReadDir, ReadBytes, WriteBytes}
use Rattle.dav_resource.specs.declared.record.Outcome.{Outcome}
use Rattle.dav_resource.specs.declared.record.Outcome.TheVariants.{Granted}
use Rattle.dav_resource.specs.declared.record.Record.{Record}
use Rattle.dav_resource.specs.declared.error.FsError.{FsError}
use Rattle.dav_resource.specs.declared.error.FsError.TheVariants.{Memory, Forbidden}
use Rattle.dav_store.specs.Logged.{logged_of, record_with, record_on}
use Rattle.dav_store.specs.Allowed.{IsAllowed}
use Rattle.dav_store.specs.Store.{Store}
use Rattle.dav_store.specs.Calls.{Reads, ReadsBytes, Writes, place_of}
use Rattle.dav_store.specs.BodyCalls.{stored_bytes}
use Rattle.dav_store.specs.Members.{Lists, ReadsDir, unseen_record}
use Rattle.dav_wrapping.specs.Wrapping.{seen_with}
use Rattle.dav_wrapping.specs.Hiding.{shown_by, hidden_by}
use Rattle.dav_guarding.specs.declared.policy.Policy.{Ghosts}
use Rattle.dav_guarding.specs.Policy.{Refusals, leave_by, why_by, Reveals, AreAllowed}
use Rattle.dav_guarding.specs.Guard as guards
use Rattle.dav_guarding.specs.declared.guarding.Guarding.{Guarding}

module _ {F P : Type 0} {g : Ghosts P} where
  -- the wrapped store
  abbrev pub inner_of : Guarding F P g → F
  inner_of store = store.inner

  abbrev pub policy_of : Guarding F P g → P
  policy_of store = store.guard.policy

  -- which calls are refused
  abbrev pub refusals_of : Guarding F P g → Refusals
  refusals_of store = g.refusals store.guard.policy

  -- its records, the oldest first
  abbrev pub records_of : Guarding F P g → List Record
  records_of store = store.guard.records.items

  -- a call of this kind on these paths is refused
  abbrev pub is_refused : Guarding F P g → Op → List PathValue → Bool
  is_refused store = guards.is_refused store.guard

  -- what contracts see: what they see of the wrapped store, but allowed and shown is what is not refused, and the log is its own
  abbrev pub seen_behind : (F → Store) → Guarding F P g → Store
  seen_behind see store = seen_with (leave_by (refusals_of store)) (see (inner_of store)) (map logged_of (records_of store))

  -- the bytes of a body, which the wrapped store holds under a number
  abbrev pub body_behind : (F → Store) → Guarding F P g → ℕ → List ℕ
  body_behind see store number = stored_bytes (see (inner_of store)).facts.bodies number

  -- each call in the log whose outcome reveals something is allowed
  pub log_allowed : (store : Guarding F P g) → AreAllowed (refusals_of store) (records_of store)
  log_allowed store = store.guard.allowed

  pub is_allowed : (see : F → Store) (store : Guarding F P g) → IsAllowed (seen_behind see store)
  is_allowed see store call is granted = log_allowed store call is (subst Reveals (sym granted) tt)

  -- ---- a call

  -- nothing changes that contracts see, here or in the wrapped store
  pub record IsSeenKept (see : F → Store) (old new : Guarding F P g) : Type 0 where
    pub inner : see (inner_of new) ≡ see (inner_of old)
    pub policy : policy_of new ≡ policy_of old
    pub records : records_of new ≡ records_of old

  -- the call is refused, and not passed on
  pub record Refuses (op : Op) (paths : List PathValue) (old new : Guarding F P g) : Type 0 where
    pub guarded : guards.Refuses op paths old.guard new.guard
    pub inner : inner_of new ≡ inner_of old

  -- The call is passed on. The result is one that the wrapped store may return, and that store has changed accordingly; the record has the outcome and
  -- the statuses of that store's record.
  pub record Passes {A : Type 0} (see : F → Store) (op : Op) (paths : List PathValue) (Behind : Store → Result A FsError → Store → Type 0) (old : Guarding F P g) (answer : Result A FsError) (new : Guarding F P g) : Type 0 where
    pub free : is_refused old op paths ≡ false
    pub behind : Behind (see (inner_of old)) answer (see (inner_of new))
    pub policy : policy_of new ≡ policy_of old
    pub outcome : Outcome
    pub statuses : List ℕ
    pub recorded : (see (inner_of new)).log ≡ (see (inner_of old)).log ++ logged_of (record_with op paths outcome statuses) ∷ []
    pub records : records_of new ≡ records_of old ++ record_with op paths outcome statuses ∷ []

  -- a call is refused or passed on, or memory runs out and what `Kept` says stays as it was
  abbrev pub GuardsKeeping : {A : Type 0} → (Guarding F P g → Guarding F P g → Type 0) → Op → List PathValue → (Guarding F P g → Result A FsError → Guarding F P g → Type 0) → Guarding F P g → Result A FsError → Guarding F P g → Type 0
  GuardsKeeping Kept op paths Passed old answer new =
      ((answer ≡ Err Memory) × Kept old new) ⊎ ((answer ≡ Err Forbidden) × Refuses op paths old new) ⊎ ((answer ≢ Err Memory) × Passed old answer new)

  -- a call of the wrapped store is guarded; if memory runs out, nothing changes that contracts see
  abbrev pub Guards : {A : Type 0} → (F → Store) → Op → List PathValue → (Store → Result A FsError → Store → Type 0) → Guarding F P g → Result A FsError → Guarding F P g → Type 0
  Guards see op paths Behind = GuardsKeeping (IsSeenKept see) op paths (Passes see op paths Behind)

  -- ---- bytes

  -- what is said of a read: what the wrapped store says, and that it may be refused
  abbrev pub reads_behind : (F → Reads) → Guarding F P g → Reads
  reads_behind reads store = record { reading = (reads (inner_of store)).reading; may_fail = λ e. (e ≡ Forbidden) ⊎ (reads (inner_of store)).may_fail e }

  -- a read, as contracts see it, and as it is guarded; `reads` is what the wrapped store says of it
  abbrev pub ReadsBehind : (F → Reads) → (F → Store) → Key → ℕ → ℕ → Guarding F P g → Result (Vec ℕ Global) FsError → Guarding F P g → Type 0
  ReadsBehind reads see key place count old answer new = ReadsBytes (reads (inner_of new)) (seen_behind see old) key place count answer (seen_behind see new)

  abbrev pub GuardsRead : (F → Reads) → (F → Store) → PathValue → ℕ → ℕ → Guarding F P g → Result (Vec ℕ Global) FsError → Guarding F P g → Type 0
  GuardsRead reads see path place count old answer new = Guards see ReadBytes (path ∷ []) (λ s. ReadsBytes (reads (inner_of new)) s path.key place count) old answer new

  -- a write of these bytes to an open file, as it is guarded
  abbrev pub GuardsWrite : (F → Store) → DavFile → List ℕ → Guarding F P g → Result (Unit {0}) FsError → Guarding F P g → Type 0
  GuardsWrite see file bytes = Guards see WriteBytes (file.path ∷ []) (λ s. Writes s file bytes)

  -- the handle after it: its offset is behind the bytes, or as it was if they are not written
  abbrev pub MovesHandle : (F → Store) → Guarding F P g → DavFile → List ℕ → Result (Unit {0}) FsError → DavFile → Type 0
  MovesHandle see store old bytes answer new = MatchResult answer (λ _. new ≡ record old { pos = place_of old (seen_behind see store).contents + length bytes }) (λ _. new ≡ old)

  -- ---- read_dir

  -- A listing that the wrapped store may return, except for the members whose entries are refused: each is hidden. The records of the members that are
  -- not listed follow that of the call, in the order of the listing. Those of members that the wrapped store does not list have the keys and outcomes of
  -- its own records.
  pub record PassesListing (see : F → Store) (path : PathValue) (old : Guarding F P g) (answer : List (Result DirEntry FsError)) (new : Guarding F P g) : Type 0 where
    pub free : is_refused old ReadDir (path ∷ []) ≡ false
    pub listed : List (Result DirEntry FsError)
    pub behind : Lists path.key (see (inner_of old)) listed (see (inner_of new))
    pub policy : policy_of new ≡ policy_of old
    pub shown : answer ≡ map (λ c. c.1) (shown_by (why_by (refusals_of old)) path.key behind.children)
    pub hidden : List Record
    pub recorded : map logged_of hidden ≡ filter_map (unseen_record path.key) behind.children
    pub records : records_of new ≡ records_of old ++ record_on ReadDir (path ∷ []) Granted ∷ hidden_by (why_by (refusals_of old)) path behind.children hidden

  abbrev pub PassesReadDir : (F → Store) → PathValue → Guarding F P g → Result (Vec (Result DirEntry FsError) Global) FsError → Guarding F P g → Type 0
  PassesReadDir see path old (Ok listing) new = PassesListing see path old listing.items new
  PassesReadDir see path old (Err e) new = Passes see ReadDir (path ∷ []) (λ s. ReadsDir s path.key) old (Err e) new

  -- the listing is not refused, and the wrapped store has listed the directory, which changes only its log
  pub record HasListed (see : F → Store) (path : PathValue) (old new : Guarding F P g) : Type 0 where
    pub free : is_refused old ReadDir (path ∷ []) ≡ false
    pub listed : List (Result DirEntry FsError)
    pub behind : Lists path.key (see (inner_of old)) listed (see (inner_of new))

  -- nothing changes that contracts see, here or in the wrapped store, except that the latter may have listed the directory
  pub record KeepsReading (see : F → Store) (path : PathValue) (old new : Guarding F P g) : Type 0 where
    pub inner : (see (inner_of new) ≡ see (inner_of old)) ⊎ HasListed see path old new
    pub policy : policy_of new ≡ policy_of old
    pub records : records_of new ≡ records_of old

  -- a listing is guarded; if memory runs out, the wrapped store may have listed the directory
  abbrev pub GuardsReading : (F → Store) → PathValue → Guarding F P g → Result (Vec (Result DirEntry FsError) Global) FsError → Guarding F P g → Type 0
  GuardsReading see path = GuardsKeeping (KeepsReading see path) ReadDir (path ∷ []) (PassesReadDir see path)
