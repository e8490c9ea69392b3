-- Replies to reads of parts of files.
use Rattle.std.proofs.Common.{◌≡◌, ◌∙◌, ℕ, true, false, [], ◌∷◌, Option, Some, None, Result, Ok, Err, refl, sym, ap, subst, inl, inr, ◌⊎◌}
use Rattle.std.specs.FinMap.{get}
use Rattle.std.proofs.lemmas.Option.{same_Some}
use Rattle.dav_resource.specs.Errors.{dav_status, fs_status}
use Rattle.dav_key.specs.Key.{Key}
use Rattle.dav_resource.specs.PathText.{PathValue, read_path}
use Rattle.dav_resource.specs.declared.error.DavError.{DavError}
use Rattle.dav_resource.specs.declared.error.DavError.TheVariants as dav_errors
use Rattle.dav_resource.specs.declared.error.FsError.{FsError}
use Rattle.dav_resource.specs.declared.error.FsError.TheVariants.{NotFound, Forbidden, Memory}
use Rattle.dav_resource.specs.declared.meta.Meta.{Meta}
use Rattle.dav_resource.specs.declared.record.Op.TheVariants.{Metadata, ReadBytes}
use Rattle.dav_resource.specs.declared.record.Outcome.{Outcome}
use Rattle.dav_resource.specs.declared.record.Outcome.TheVariants.{Granted, Barred, Refused}
use Rattle.dav_store.specs.Calls.{IsOwn, IsLawful, error_of, metadata_bar, must_be_file, LooksUp, Reads, FailsToRead}
use Rattle.dav_store.specs.Store.{Store, Contents, Node, File, Directory, MetaFits}
use Rattle.dav_guarding.specs.Guarding.{Guards, GuardsRead, inner_of, refusals_of, is_refused}
use Rattle.dav_guarding.specs.Policy.{Refusals}
use Rattle.dav_guarding.specs.declared.guarding.Guarding.{Guarding}
use Rattle.dav_guarding.specs.declared.policy.Policy.{Ghosts}
use Rattle.dav_rights.specs.declared.access.Access.{Access}
use Rattle.dav_rights.specs.Access.{refuses_to}
use Rattle.dav_wire.specs.Frames.{ReadValue}
use Rattle.dav_wire.specs.Replies.{Failed}
use Rattle.std.specs.Result.{IfOk, IfErr}
use Rattle.dav_server.specs.declared.parts.Found.{Found}
use Rattle.dav_server.specs.declared.parts.Found.TheVariants.{Collection, Part}
use Rattle.dav_server.specs.Finding.{Finds, found_reply}
use Rattle.dav_server.specs.Parts.{MayList, IsMissing, IsStoresStatus, IsUnlisted, IsUnread, ReturnsAt, ReadsBy, ReadsFile}
use Rattle.dav_server.specs.State.{Rules, ServerState, at_rest}

-- ---- calls that fail

-- an error of a call that fails only if there is no file, or no file or directory: there is none, or it is one of the store's own
unread_by : (bar : Option FsError) (outcome : Outcome) (e : FsError) → error_of outcome ≡ Some e → IsLawful bar outcome → IsOwn e ⊎ (bar ≡ Some e)
unread_by bar Granted e cause lawful = cc
unread_by bar (Barred d) e cause lawful = inr (lawful ∙ cause)
unread_by bar (Refused d) e cause lawful = inl (subst IsOwn (same_Some d e cause) lawful)

stores : (e : FsError) → IsOwn e → IsStoresStatus (fs_status e)
stores e own = inl (e, own, refl)

pub forbidden_is_own : IsOwn Forbidden
forbidden_is_own = record { not_missing = λ p. cc; not_there = λ p. cc; not_memory = λ p. cc }

-- a lookup that fails: nothing is there
unlisted_by : (node : Option Node) (e : FsError) → metadata_bar node ≡ Some e → (fs_status e ≡ 404) × (node ≡ None)
unlisted_by None e bar = (ap fs_status (sym (same_Some NotFound e bar)), refl)
unlisted_by (Some node) e bar = cc

-- why a guarded lookup fails
pub look_fails : {F : Type 0} {g : Ghosts Access} (see : F → Store) (old new : Guarding F Access g) (path : PathValue) (e : FsError)
    → Guards {A = Meta} see Metadata (path ∷ []) (λ s. LooksUp s path.key) old (Err e) new
    → IsUnlisted (refusals_of old) (see (inner_of old)).contents path.key (fs_status e)
look_fails see old new path e (inl (memory, kept)) = let is : e ≡ Memory = cc in inr (inr (ap fs_status is))
look_fails see old new path e (inr (inl (forbidden, refuses))) =
    let is : e ≡ Forbidden = cc in inr (subst (λ d. IsStoresStatus (fs_status d)) (sym is) (stores Forbidden forbidden_is_own))
look_fails see old new path e (inr (inr (not_memory, passes))) = elim passes.behind.declined [
  | inl p ↦ inr (inr (ap fs_status p.0))
  | inr d ↦ elim (unread_by _ d.outcome e d.cause d.lawful) [
    | inl own ↦ inr (stores e own)
    | inr bar ↦ let nothing = unlisted_by (get (see (inner_of old)).contents.tree path.key) e bar in inl (passes.free, nothing.0, nothing.1)
  ]
]

-- a read that fails at this node: nothing is there, or a directory is
missing_by : (node : Option Node) (e : FsError) → must_be_file node ≡ Some e → ((fs_status e ≡ 404) × (node ≡ None)) ⊎ ((fs_status e ≡ 403) × (node ≡ Some Directory))
missing_by None e bar = inl (ap fs_status (sym (same_Some NotFound e bar)), refl)
missing_by (Some (File bytes)) e bar = cc
missing_by (Some Directory) e bar = inr (ap fs_status (sym (same_Some Forbidden e bar)), refl)

-- why a guarded read fails
pub read_fails : {F : Type 0} {g : Ghosts Access} (see : F → Store) (says : F → Reads) (old new : Guarding F Access g) (path : PathValue) (place count : ℕ) (e : FsError)
    → GuardsRead says see path place count old (Err e) new
    → (is_refused old ReadBytes (path ∷ []) ≡ false → FailsToRead (says (inner_of new)) (see (inner_of old)) path.key e)
    → IsMissing (refusals_of old) (says (inner_of new)) (see (inner_of old)).contents path.key (fs_status e)
read_fails see says old new path place count e (inl (memory, kept)) passed = let is : e ≡ Memory = cc in inr (inr (inr (inr (ap fs_status is))))
read_fails see says old new path place count e (inr (inl (forbidden, refuses))) passed =
    let is : e ≡ Forbidden = cc in inr (inr (inl (ap fs_status is, refuses.guarded.refused)))
read_fails see says old new path place count e (inr (inr (not_memory, passes))) passed = which (passed passes.free)
  where
    barred : must_be_file (get (see (inner_of old)).contents.tree path.key) ≡ Some e → IsMissing (refusals_of old) (says (inner_of new)) (see (inner_of old)).contents path.key (fs_status e)
    barred bar = elim (missing_by (get (see (inner_of old)).contents.tree path.key) e bar) [
      | inl nothing ↦ inl nothing
      | inr directory ↦ inr (inl directory)
    ]

    by_own : IsOwn e ⊎ (must_be_file (get (see (inner_of old)).contents.tree path.key) ≡ Some e) → (says (inner_of new)).may_fail e
        → IsMissing (refusals_of old) (says (inner_of new)) (see (inner_of old)).contents path.key (fs_status e)
    by_own (inl kind) cause = inr (inr (inr (inl (record { error = e; own = kind; cause = cause; is = refl }))))
    by_own (inr bar) cause = barred bar

    by_fault : (says (inner_of new)).may_fail e → IsMissing (refusals_of old) (says (inner_of new)) (see (inner_of old)).contents path.key (fs_status e)
    by_fault cause = elim passes.behind.declined [
      | inl p ↦ absurd (not_memory (ap Err p.0))
      | inr d ↦ by_own (unread_by _ d.outcome e d.cause d.lawful) cause
    ]

    which : FailsToRead (says (inner_of new)) (see (inner_of old)) path.key e → IsMissing (refusals_of old) (says (inner_of new)) (see (inner_of old)).contents path.key (fs_status e)
    which (inl memory) = absurd (not_memory (ap Err memory))
    which (inr (inl bar)) = barred bar
    which (inr (inr cause)) = by_fault cause

-- a failed read where the metadata says that there is a file
pub read_of_file : (refuses : Refusals) (said : Reads) (contents : Contents) (key : Key) (asked : ReadValue) (meta : Meta) (status : ℕ) → MayList refuses key
    → contents.metas key ≡ Some meta → meta.dir ≡ false → MetaFits (get contents.tree key) (contents.metas key) → IsMissing refuses said contents key status → IsUnread refuses said contents key asked status
read_of_file refuses said contents key asked meta status may known file fits (inl nothing) = inl (may, inl nothing)
read_of_file refuses said contents key asked meta status may known file fits (inr (inl directory)) =
    let sound : MetaFits (Some Directory) (Some meta) = rw (directory.1, known) at fits in absurd (let no : true ≡ false = sym (kind_of meta sound) ∙ file in cc)
  where
    kind_of : (m : Meta) → MetaFits (Some Directory) (Some m) → m.dir ≡ true
    kind_of m sound = sound.0
read_of_file refuses said contents key asked meta status may known file fits (inr (inr fails)) = inr (inr fails)

-- ---- replies

returns_at : (refuses : Refusals) (said : Reads) (contents : Contents) (key : Key) (asked : ReadValue) (found : Result Found ℕ)
    → IfOk found (Finds refuses said contents key asked) → IfErr found (IsUnread refuses said contents key asked) → ReturnsAt refuses said contents key asked (found_reply key found)
returns_at refuses said contents key asked (Ok Collection) finds fails = finds
returns_at refuses said contents key asked (Ok (Part meta bytes)) finds fails = finds
returns_at refuses said contents key asked (Err status) finds fails = fails

module _ {F : Type 0} (see_store : F → Store) (says : F → Reads) where
  -- the path is one of this server: the reply is what was found there
  pub reads_found : (rules : Rules) (state : ServerState) (asked : ReadValue) (path : PathValue) (store : F) (found : Result Found ℕ)
      → (refuses : Refusals) → refuses ≡ refuses_to state.rights asked.principal
      → at_rest (see_store store) ≡ state.seen.store → read_path asked.path rules.prefix ≡ Ok path
      → IfOk found (Finds refuses (says store) state.seen.store.contents path.key asked) → IfErr found (IsUnread refuses (says store) state.seen.store.contents path.key asked)
      → ReadsFile see_store says rules state asked (found_reply path.key found)
  reads_found rules state asked path store found refuses by seen read finds fails =
      record {
        store = store;
        seen = seen;
        reads = rw (← by, read) (inl (returns_at refuses (says store) state.seen.store.contents path.key asked found finds fails));
      }

  -- the path is one of this server, and memory runs out
  pub reads_unallowed : (rules : Rules) (state : ServerState) (asked : ReadValue) (path : PathValue) (store : F)
      → at_rest (see_store store) ≡ state.seen.store → read_path asked.path rules.prefix ≡ Ok path → ReadsFile see_store says rules state asked (Failed 507)
  reads_unallowed rules state asked path store seen read = record { store = store; seen = seen; reads = rw read (inr refl) }

  -- the path is none of this server, or memory runs out
  pub reads_nothing : (rules : Rules) (state : ServerState) (asked : ReadValue) (e : DavError) (store : F)
      → at_rest (see_store store) ≡ state.seen.store → (read_path asked.path rules.prefix ≡ Err e) ⊎ (e ≡ dav_errors.Memory)
      → ReadsFile see_store says rules state asked (Failed (dav_status e))
  reads_nothing rules state asked e store seen why =
      record { store = store; seen = seen; reads = fails (read_path asked.path rules.prefix) why }
    where
      fails : (read : Result PathValue DavError) → (read ≡ Err e) ⊎ (e ≡ dav_errors.Memory)
          → ReadsBy read (refuses_to state.rights asked.principal) (says store) state.seen.store.contents asked (Failed (dav_status e))
      fails (Ok path) (inl h) = cc
      fails (Ok path) (inr h) = inr (ap (λ (d : DavError). Failed (dav_status d)) h)
      fails (Err d) (inl h) = let is : e ≡ d = cc in inl (ap (λ (d' : DavError). Failed (dav_status d')) is)
      fails (Err d) (inr h) = inr (ap (λ (d' : DavError). Failed (dav_status d')) h)
