-- What a PUT wrote is what a later read returns.
use Rattle.std.proofs.Common.{◌≡◌, ◌≢◌, ◌∙◌, ◌⊎◌, inl, inr, ℕ, false, List, [], ◌∷◌, ◌++◌, length, Option, Some, None, Ok, Err, refl, sym, ap, subst, arith, append-nil}
use Rattle.std.specs.List.{AllZip, list_any}
use Rattle.std.specs.FinMap.{get}
use Rattle.std.proofs.lemmas.Bool.{or_parts}
use Rattle.dav_key.specs.Key.{Key}
use Rattle.dav_resource.specs.Methods.{method_of}
use Rattle.dav_resource.specs.PathText.{PathValue, read_path}
use Rattle.dav_resource.specs.declared.method.DavMethod.{DavMethod}
use Rattle.dav_resource.specs.declared.method.DavMethod.TheVariants.{Put, Patch, Copy, Move, Delete}
use Rattle.dav_resource.specs.declared.request.DavRequest.{DavRequest}
use Rattle.dav_store.specs.Calls.{Reads, bytes_from}
use Rattle.dav_store.specs.Store.{Store, Facts, Tree, Bodies, Contents, Node, File, Directory}
use Rattle.dav_messages.specs.Reply.{Answer}
use Rattle.dav_engine.specs.Law.{MethodLaw}
use Rattle.dav_engine.specs.Put.{new_bytes}
use Rattle.dav_engine.specs.State.{Seen, state_of}
use Rattle.dav_guarding.specs.Policy.{Refusals}
use Rattle.dav_rights.specs.Access.{refuses_to}
use Rattle.dav_wire.specs.Frames.{RequestValue, ReadValue}
use Rattle.dav_wire.specs.Replies.{PartValue, ReplyValue, Part, Collection, Failed}
use Rattle.dav_server.specs.Batches.{BatchAnswer, Exchange, bare_answer, AnswersBatch, SkipsBatch, begun}
use Rattle.dav_server.specs.Events.{Action, Malformed, OutOfMemory, BodyStarted, BodyExtended, BodyDropped, FileRead, ExpiryReturned, HeldReturned, BackupBegun, BackupEnded, RightsRead, RightsExplained, LocksListed, LockRemoved, ModifiedSet, Rejected, Served, Acts, Happen, events_of, ServesRequest}
use Rattle.dav_server.specs.Exchanges.{InOrder, IsAnswered}
use Rattle.dav_server.specs.Keeping.{IsAnsweredAndSaved}
use Rattle.dav_server.specs.Snapshots.{saved_of, resaved, OnlySavedDiffers}
use Rattle.dav_resource.specs.declared.error.FsError.TheVariants.{Forbidden}
use Rattle.dav_server.proofs.PartReads.{forbidden_is_own}
use Rattle.dav_server.specs.Parts.{ReadsFile, ReadsBy, ReturnsAt, ReturnsPart, FailsToReadFile, IsStoresStatus, is_same_version}
use Rattle.dav_server.specs.State.{Rules, ServerState, seen_for, settings_at}
use Rattle.dav_server.proofs.KeepingFiles.{file_stays}
use Rattle.dav_server.proofs.OperatorSteps.{removes_keep, changes_keep}
use Rattle.dav_server.proofs.Reactions.{rights_keep}
use Rattle.dav_server.specs.Guarantees.{AreFor, bodies_by, bodies_after, may_rewrite, rewrites, WritesWhole, IsPartOf, IsReplyFrom, ReadsBack, joined, IsQuiet, IsSameStore, ActInOrder, AreOneRun}

-- the file or directory at a key of a state
abbrev node_at : ServerState → Key → Option Node
node_at state key = get state.seen.store.contents.tree key

-- the bodies that the store holds
abbrev held_in : ServerState → Bodies
held_in state = state.seen.store.facts.bodies

-- ---- one request

-- what a request may change does not depend on the state
rewrite_same : (method : Option DavMethod) (rules : Rules) (one other : Seen) (request : DavRequest) (key : Key)
    → may_rewrite method (settings_at rules one) request key ≡ may_rewrite method (settings_at rules other) request key
rewrite_same (Some Copy) rules one other request key = refl
rewrite_same (Some Move) rules one other request key = refl
rewrite_same (Some Put) rules one other request key = refl
rewrite_same (Some Patch) rules one other request key = refl
rewrite_same (Some Delete) rules one other request key = refl
rewrite_same _ rules one other request key = refl

-- a request that may not change a file leaves it as it is
request_keeps : (rules : Rules) (frame : RequestValue) (request : DavRequest) (answer : Answer) (first old new : ServerState) (key : Key) (bytes : List ℕ)
    → ServesRequest rules frame request answer old new → may_rewrite (method_of request.method) (settings_at rules first.seen) request key ≡ false
    → node_at old key ≡ Some (File bytes) → node_at new key ≡ Some (File bytes)
request_keeps rules frame request answer first old new key bytes served apart file =
    let step = served.executes.served in
    let seen = seen_for old request.principal in
    ap (λ (s : ServerState). node_at s key) served.executes.emptied
    ∙ file_stays (settings_at rules seen) request (state_of seen) step.records answer (state_of served.executes.after) (method_of request.method) key bytes step.step step.law
    (rewrite_same (method_of request.method) rules seen first.seen request key ∙ apart) file

-- no request changes the bodies that the store holds
request_holds : (rules : Rules) (frame : RequestValue) (request : DavRequest) (answer : Answer) (old new : ServerState)
    → ServesRequest rules frame request answer old new → held_in new ≡ held_in old
request_holds rules frame request answer old new served =
    ap held_in served.executes.emptied ∙ ap (λ p. p.0.bodies) served.executes.served.fixed

-- after a PUT of a whole file the file has its body
put_writes : (rules : Rules) (frame : RequestValue) (put : DavRequest) (answer : Answer) (old new : ServerState)
    → ServesRequest rules frame put answer old new → WritesWhole put answer → node_at new put.path.key ≡ Some (File (new_bytes (held_in old) put.body))
put_writes rules frame put answer old new served whole =
    let step = served.executes.served in
    let seen = seen_for old put.principal in
    let law = subst (λ m. MethodLaw m (settings_at rules seen) put (state_of seen) step.records answer (state_of served.executes.after)) whole.method step.law.own in
    ap (λ (s : ServerState). node_at s put.path.key) served.executes.emptied ∙ law.whole whole.transferred (record { put = refl; no_range = whole.no_range })

-- ---- one read

-- a part of a file with these bytes
part_of : (said : Reads) (contents : Contents) (key : Key) (asked : ReadValue) (part : PartValue) (bytes : List ℕ)
    → get contents.tree key ≡ Some (File bytes) → ReturnsPart said contents key asked part → IsPartOf said bytes asked part
part_of said contents key asked part bytes file returns =
    let there : Some (File returns.bytes) ≡ Some (File bytes) = sym returns.file ∙ file in
    let same : returns.bytes ≡ bytes = cc in
    let is_length : part.length ≡ returns.meta.len = ap (λ (p : PartValue). p.length) returns.is in
    let are_bytes : part.bytes ≡ returns.read = ap (λ (p : PartValue). p.bytes) returns.is in
    record {
      whole = is_length ∙ returns.whole ∙ ap length same;
      count = ap length are_bytes ∙ returns.count ∙ ap (λ bs. length (bytes_from asked.place asked.length bs)) same;
      answer = subst (λ bs. said.reading bs asked.place asked.length part.bytes) same (subst (said.reading returns.bytes asked.place asked.length) (sym are_bytes) returns.answer);
    }

other_version : (version tag : Option (List ℕ)) → is_same_version version tag ≡ false → version ≢ None
other_version None tag other = absurd cc
other_version (Some version) tag other = λ h. cc

-- the status of a read that fails
status_of : (refuses : Refusals) (said : Reads) (key : Key) (status : ℕ) → FailsToReadFile refuses said key status → IsStoresStatus status
status_of refuses said key status (inl (forbidden, refused)) = inl (Forbidden, forbidden_is_own, forbidden)
status_of refuses said key status (inr (inl fault)) = inl (fault.error, fault.own, fault.is)
status_of refuses said key status (inr (inr full)) = inr full

-- the reply to a read of a file with these bytes
reply_from : (refuses : Refusals) (said : Reads) (contents : Contents) (key : Key) (asked : ReadValue) (reply : ReplyValue) (bytes : List ℕ)
    → get contents.tree key ≡ Some (File bytes) → ReturnsAt refuses said contents key asked reply ⊎ (reply ≡ Failed 507) → IsReplyFrom said bytes asked reply
reply_from refuses said contents key asked (Part part) bytes file (inl (may, returns)) = part_of said contents key asked part bytes file returns
reply_from refuses said contents key asked Collection bytes file (inl (may, there)) = let no : Some Directory ≡ Some (File bytes) = sym there ∙ file in absurd cc
reply_from refuses said contents key asked (Failed status) bytes file (inl (inl (may, inl (missing, none)))) = let no : None ≡ Some (File bytes) = sym none ∙ file in absurd cc
reply_from refuses said contents key asked (Failed status) bytes file (inl (inl (may, inr (recorded, version)))) =
    inl (recorded, other_version asked.version version.meta.etag version.other)
reply_from refuses said contents key asked (Failed status) bytes file (inl (inr (inl own))) = inr own
reply_from refuses said contents key asked (Failed status) bytes file (inl (inr (inr fails))) = inr (status_of refuses said key status fails)
reply_from refuses said contents key asked reply bytes file (inl returns) = absurd returns
reply_from refuses said contents key asked reply bytes file (inr full) = subst (IsReplyFrom said bytes asked) (sym full) (inr (inr refl))

-- ---- one action

module _ {F : Type 0} (see_store : F → Store) (says : F → Reads) (rules : Rules) where
  -- an action that may not change a file leaves it as it is
  keeps : (action : Action) (first old new : ServerState) (key : Key) (bytes : List ℕ)
      → Acts see_store says rules action old new → rewrites (settings_at rules first.seen) key action ≡ false
      → node_at old key ≡ Some (File bytes) → node_at new key ≡ Some (File bytes)
  keeps Malformed first old new key bytes acts apart file = ap (λ (s : ServerState). node_at s key) acts ∙ file
  keeps (OutOfMemory frame) first old new key bytes acts apart file = ap (λ (s : ServerState). node_at s key) acts ∙ file
  keeps (BodyStarted (Ok number)) first old new key bytes acts apart file = ap (λ (s : Store). get s.contents.tree key) acts.change.started.begun ∙ file
  keeps (BodyStarted (Err e)) first old new key bytes acts apart file = ap (λ (s : Store). get s.contents.tree key) acts.change.refused.0 ∙ file
  keeps (BodyExtended number more (Ok done)) first old new key bytes acts apart file = ap (λ (s : Store). get s.contents.tree key) acts.change.added.extended ∙ file
  keeps (BodyExtended number more (Err e)) first old new key bytes acts apart file = ap (λ (s : Store). get s.contents.tree key) acts.change.1 ∙ file
  keeps (BodyDropped number) first old new key bytes acts apart file = ap (λ (s : ServerState). node_at s key) acts ∙ file
  keeps (FileRead asked reply) first old new key bytes acts apart file = ap (λ (s : ServerState). node_at s key) acts.0 ∙ file
  keeps (ExpiryReturned time) first old new key bytes acts apart file = ap (λ (s : ServerState). node_at s key) acts.0 ∙ file
  keeps (HeldReturned reply) first old new key bytes acts apart file = ap (λ (s : ServerState). node_at s key) acts.0 ∙ file
  keeps BackupBegun first old new key bytes acts apart file = ap (λ (s : ServerState). node_at s key) acts ∙ file
  keeps BackupEnded first old new key bytes acts apart file = ap (λ (s : ServerState). node_at s key) acts ∙ file
  keeps (RightsRead text reply) first old new key bytes acts apart file = ap (λ (s : Seen). get s.store.contents.tree key) (rights_keep text reply old new acts) ∙ file
  keeps (RightsExplained asked reply) first old new key bytes acts apart file = ap (λ (s : ServerState). node_at s key) acts.0 ∙ file
  keeps (LocksListed reply) first old new key bytes acts apart file = ap (λ (s : ServerState). node_at s key) acts.0 ∙ file
  keeps (LockRemoved asked reply) first old new key bytes acts apart file =
      ap (λ (s : Store). get s.contents.tree key) (removes_keep (read_path asked.path rules.prefix) asked old new reply acts).store ∙ file
  keeps (ModifiedSet asked reply) first old new key bytes acts apart file =
      ap (λ (t : Tree). get t key) (changes_keep (read_path asked.path rules.prefix) asked old new reply acts).tree ∙ file
  keeps (Rejected frame e) first old new key bytes acts apart file = ap (λ (s : ServerState). node_at s key) acts.0 ∙ file
  keeps (Served frame request answer) first old new key bytes acts apart file = request_keeps rules frame request answer first old new key bytes acts apart file

  -- the bodies after an action
  holds : (action : Action) (old new : ServerState) → Acts see_store says rules action old new → held_in new ≡ bodies_by action (held_in old)
  holds Malformed old new acts = ap held_in acts
  holds (OutOfMemory frame) old new acts = ap held_in acts
  holds (BodyStarted (Ok number)) old new acts = ap (λ (s : Store). s.facts.bodies) acts.change.started.begun
  holds (BodyStarted (Err e)) old new acts = ap (λ (s : Store). s.facts.bodies) acts.change.refused.0
  holds (BodyExtended number more (Ok done)) old new acts = ap (λ (s : Store). s.facts.bodies) acts.change.added.extended
  holds (BodyExtended number more (Err e)) old new acts = ap (λ (s : Store). s.facts.bodies) acts.change.1
  holds (BodyDropped number) old new acts = ap held_in acts
  holds (FileRead asked reply) old new acts = ap held_in acts.0
  holds (ExpiryReturned time) old new acts = ap held_in acts.0
  holds (HeldReturned reply) old new acts = ap held_in acts.0
  holds BackupBegun old new acts = ap held_in acts
  holds BackupEnded old new acts = ap held_in acts
  holds (RightsRead text reply) old new acts = ap (λ (s : Seen). s.store.facts.bodies) (rights_keep text reply old new acts)
  holds (RightsExplained asked reply) old new acts = ap held_in acts.0
  holds (LocksListed reply) old new acts = ap held_in acts.0
  holds (LockRemoved asked reply) old new acts = ap (λ (s : Store). s.facts.bodies) (removes_keep (read_path asked.path rules.prefix) asked old new reply acts).store
  holds (ModifiedSet asked reply) old new acts = ap (λ (f : Facts). f.bodies) (changes_keep (read_path asked.path rules.prefix) asked old new reply acts).facts
  holds (Rejected frame e) old new acts = ap held_in acts.0
  holds (Served frame request answer) old new acts = request_holds rules frame request answer old new acts

  -- a read of a file with these bytes
  read_gives : (old : ServerState) (asked : ReadValue) (reply : ReplyValue) (path : PathValue) (key : Key) (bytes : List ℕ)
      → (reads : ReadsFile see_store says rules old asked reply) → read_path asked.path rules.prefix ≡ Ok path → path.key ≡ key
      → node_at old key ≡ Some (File bytes) → IsReplyFrom (says reads.store) bytes asked reply
  read_gives old asked reply path key bytes reads read same file =
      reply_from (refuses_to old.rights asked.principal) (says reads.store) old.seen.store.contents path.key asked reply bytes (ap (node_at old) same ∙ file)
      (subst (λ r. ReadsBy r (refuses_to old.rights asked.principal) (says reads.store) old.seen.store.contents asked reply) read reads.reads)

-- ---- actions in order

-- a relation of stores that keeps the files and the bodies
pub record KeepsFiles (Stays : Store → Store → Type 0) : Type 0 where
  pub none : (store : Store) → Stays store store
  pub both : (one two three : Store) → Stays one two → Stays two three → Stays one three
  pub tree : (old new : Store) → Stays old new → new.contents.tree ≡ old.contents.tree
  pub bodies : (old new : Store) → Stays old new → new.facts.bodies ≡ old.facts.bodies

module _ {F : Type 0} (see_store : F → Store) (says : F → Reads) (rules : Rules) (Stays : Store → Store → Type 0) (still : KeepsFiles Stays) where
  -- the file at a key and the bodies are the same
  same_node : (old new : Store) (key : Key) → Stays old new → get new.contents.tree key ≡ get old.contents.tree key
  same_node old new key stays = ap (λ t. get t key) (still.tree old new stays)

  -- the same store and rights
  same_state : (old new : ServerState) → new.seen.store ≡ old.seen.store → new.rights ≡ old.rights → IsQuiet Stays old new
  same_state old new same rights = record { store = subst (Stays old.seen.store) (sym same) (still.none old.seen.store); rights = rights }

  -- one change that is quiet after another
  both_quiet : (one two three : ServerState) → IsQuiet Stays one two → IsQuiet Stays two three → IsQuiet Stays one three
  both_quiet one two three first second =
      record { store = still.both one.seen.store two.seen.store three.seen.store first.store second.store; rights = second.rights ∙ first.rights }

  -- the actions up to a place, and those from there on
  split : (xs ys : List Action) (old new : ServerState) → ActInOrder see_store says Stays rules (xs ++ ys) old new
      → (mid : ServerState) × ActInOrder see_store says Stays rules xs old mid × ActInOrder see_store says Stays rules ys mid new
  split [] ys old new run = (old, same_state old old refl refl, run)
  split (x ∷ xs) ys old new run =
      let (before, after, same, acts, others) = run in
      let (mid, first, second) = split xs ys after new others in
      (mid, (before, after, same, acts, first), second)

  all_keep : (actions : List Action) (first old new : ServerState) (key : Key) (bytes : List ℕ)
      → ActInOrder see_store says Stays rules actions old new → list_any (rewrites (settings_at rules first.seen) key) actions ≡ false
      → node_at old key ≡ Some (File bytes) → node_at new key ≡ Some (File bytes)
  all_keep [] first old new key bytes run apart file = same_node old.seen.store new.seen.store key run.store ∙ file
  all_keep (action ∷ actions) first old new key bytes run apart file =
      let (before, after, same, acts, others) = run in
      let p = or_parts (rewrites (settings_at rules first.seen) key action) (list_any (rewrites (settings_at rules first.seen) key) actions) apart in
      let here = same_node old.seen.store before.seen.store key same.store ∙ file in
      all_keep actions first after new key bytes others p.1 (keeps see_store says rules action first before after key bytes acts p.0 here)

  all_hold : (actions : List Action) (old new : ServerState) → ActInOrder see_store says Stays rules actions old new → held_in new ≡ bodies_after actions (held_in old)
  all_hold [] old new run = still.bodies old.seen.store new.seen.store run.store
  all_hold (action ∷ actions) old new run =
      let (before, after, same, acts, others) = run in
      all_hold actions after new others
      ∙ ap (bodies_after actions)
      (holds see_store says rules action before after acts ∙ ap (bodies_by action) (still.bodies old.seen.store before.seen.store same.store))

  -- what a PUT wrote is what a later read returns
  pub reads_back : (actions : List Action) (old new : ServerState) → ActInOrder see_store says Stays rules actions old new
      → ReadsBack says (settings_at rules old.seen) actions
  reads_back actions old new run h =
      let all = subst (λ list. ActInOrder see_store says Stays rules list old new) h.in_order run in
      let (start, earlier, (put_at, written, same, put, later)) = split h.before (Served h.frame h.put h.answer ∷ (h.between ++ FileRead h.asked h.reply ∷ h.after)) old new all in
      let (end, middle, (read_at, left, kept, read, last)) = split h.between (FileRead h.asked h.reply ∷ h.after) written new later in
      let key = h.put.path.key in
      let bytes = new_bytes (bodies_after h.before (held_in old)) h.put.body in
      let body : held_in put_at ≡ bodies_after h.before (held_in old) =
      still.bodies start.seen.store put_at.seen.store same.store ∙ all_hold h.before old start earlier in
      let file : node_at written key ≡ Some (File bytes) =
      put_writes rules h.frame h.put h.answer put_at written put h.whole ∙ ap (λ (held : Bodies). Some (File (new_bytes held h.put.body))) body in
      let stays : node_at read_at key ≡ Some (File bytes) =
      same_node end.seen.store read_at.seen.store key kept.store ∙ all_keep h.between old written end key bytes middle h.unchanged file in
      (read.1.store, read_gives see_store says rules read_at h.asked h.reply h.path key bytes read.1 h.read h.same stays)

  -- ---- the actions of batches

  from_same : (actions : List Action) (one other new : ServerState) → IsQuiet Stays other one
      → ActInOrder see_store says Stays rules actions one new → ActInOrder see_store says Stays rules actions other new
  from_same [] one other new same run = both_quiet other one new same run
  from_same (action ∷ actions) one other new same (before, after, kept, acts, others) =
      (before, after, both_quiet other one before same kept, acts, others)

  join : (xs ys : List Action) (old mid new : ServerState)
      → ActInOrder see_store says Stays rules xs old mid → ActInOrder see_store says Stays rules ys mid new
      → ActInOrder see_store says Stays rules (xs ++ ys) old new
  join [] ys old mid new same second = from_same ys mid old new same second
  join (x ∷ xs) ys old mid new (before, after, kept, acts, others) second = (before, after, kept, acts, join xs ys after mid new others second)

  -- the actions of a batch, between which locks expire
  in_order : (actions : List Action) (old new : ServerState) → Happen see_store says rules (events_of actions) old new
      → ActInOrder see_store says Stays rules actions old new
  in_order [] old new same = same_state old new (ap (λ (s : ServerState). s.seen.store) same) (ap (λ (s : ServerState). s.rights) same)
  in_order (action ∷ actions) old new (expired, is, (after, acts, others)) =
      (expired, after, same_state old expired (ap (λ (s : ServerState). s.seen.store) is) (ap (λ (s : ServerState). s.rights) is), acts, in_order actions after new others)

  -- the actions for the batch of an exchange
  pub record HasActions (exchange : Exchange) (old new : ServerState) : Type 0 where
    pub actions : List Action
    pub of : AreFor exchange actions
    pub in_order : ActInOrder see_store says Stays rules actions old new

  pub actions_of : (exchange : Exchange) (old new : ServerState) → IsAnswered see_store says rules exchange old new → HasActions exchange old new
  actions_of exchange old new h = by_answer h.answers
    where
      none : (number status : ℕ) → exchange.answer ≡ bare_answer number status → status ≢ 200 → new.seen.store ≡ old.seen.store → new.rights ≡ old.rights
          → HasActions exchange old new
      none number status recorded other same rights =
          record {
            actions = [];
            of = inr (record { status = λ h. other (sym (ap (λ (a : BatchAnswer). a.status) recorded) ∙ h); none = refl });
            in_order = same_state old new same rights;
          }

      skipped : (status : ℕ) → SkipsBatch status exchange.header exchange.answer old new → status ≢ 200 → HasActions exchange old new
      skipped status skips other = none exchange.header.number status skips.answered other (ap (λ (s : ServerState). s.seen.store) skips.same) (ap (λ (s : ServerState). s.rights) skips.same)

      by_answer : AnswersBatch see_store says rules exchange.header exchange.content exchange.answer old new → HasActions exchange old new
      by_answer (inl serves) =
          record {
            actions = serves.served.actions;
            of = inl (record { status = serves.status; frames = serves.frames; read = serves.read; of = serves.served.read; sent = serves.served.sent });
            in_order = from_same serves.served.actions (begun exchange.header old) old new (same_state old (begun exchange.header old) refl refl) (in_order serves.served.actions (begun exchange.header old) new serves.served.happen);
          }
      by_answer (inr (inl (unread, skips))) = skipped 400 skips (λ h. omega arith)
      by_answer (inr (inr (inl skips))) = skipped 507 skips (λ h. omega arith)
      by_answer (inr (inr (inr refuses))) = none old.last 409 refuses.answered (λ h. omega arith) (ap (λ (s : ServerState). s.seen.store) refuses.same) (ap (λ (s : ServerState). s.rights) refuses.same)

  -- the same, where the store stays after the batch
  pub actions_before : (exchange : Exchange) (old mid new : ServerState) → HasActions exchange old mid → IsQuiet Stays mid new → HasActions exchange old new
  actions_before exchange old mid new h stays =
      record { actions = h.actions; of = h.of; in_order = subst (λ list. ActInOrder see_store says Stays rules list old new) (append-nil h.actions) (join h.actions [] old mid new h.in_order stays) }

  -- ---- a run

  module _ (Does : Exchange → ServerState → ServerState → Type 0)
      (acts_for : (exchange : Exchange) (old new : ServerState) → Does exchange old new → HasActions exchange old new) where
    -- the actions for each of some exchanges, in order
    record HasActionsOfAll (exchanges : List Exchange) (old new : ServerState) : Type 0 where
      actions : List (List Action)
      of : AllZip AreFor exchanges actions
      in_order : ActInOrder see_store says Stays rules (joined actions) old new

    actions_of_all : (exchanges : List Exchange) (old new : ServerState) → InOrder Does exchanges old new → HasActionsOfAll exchanges old new
    actions_of_all [] old new same =
        record { actions = []; of = tt; in_order = same_state old new (ap (λ (s : ServerState). s.seen.store) same) (ap (λ (s : ServerState). s.rights) same) }
    actions_of_all (exchange ∷ exchanges) old new (mid, does, others) =
        let first = acts_for exchange old mid does in
        let rest = actions_of_all exchanges mid new others in
        record {
          actions = first.actions ∷ rest.actions;
          of = (first.of, rest.of);
          in_order = join first.actions (joined rest.actions) old mid new first.in_order rest.in_order;
        }

    pub run_of : (exchanges : List Exchange) (old new : ServerState) → InOrder Does exchanges old new
        → AreOneRun see_store says Stays rules exchanges old new
    run_of exchanges old new run =
        let h = actions_of_all exchanges old new run in
        record { actions = h.actions; of = h.of; in_order = h.in_order; reads_back = reads_back (joined h.actions) old new h.in_order }

-- the same store keeps its files
same_files : KeepsFiles IsSameStore
same_files =
    record {
      none = λ store. refl;
      both = λ one two three first second. second ∙ first;
      tree = λ old new same. ap (λ (s : Store). s.contents.tree) same;
      bodies = λ old new same. ap (λ (s : Store). s.facts.bodies) same;
    }

-- so does a store of which only what is saved differs
resaved_files : KeepsFiles OnlySavedDiffers
resaved_files =
    record {
      none = λ store. refl;
      both = λ one two three first second. second ∙ ap (resaved (saved_of three)) first;
      tree = λ old new differs. ap (λ (s : Store). s.contents.tree) differs;
      bodies = λ old new differs. ap (λ (s : Store). s.facts.bodies) differs;
    }

module _ {F : Type 0} (see_store : F → Store) (says : F → Reads) (rules : Rules) where
  pub one_run : (exchanges : List Exchange) (old new : ServerState) → InOrder (IsAnswered see_store says rules) exchanges old new
      → AreOneRun see_store says IsSameStore rules exchanges old new
  one_run exchanges old new answered =
      run_of see_store says rules IsSameStore same_files (IsAnswered see_store says rules)
      (actions_of see_store says rules IsSameStore same_files) exchanges old new answered

  -- the actions for a batch, after which only what is saved of the store changes
  saved_actions : (exchange : Exchange) (old new : ServerState) → IsAnsweredAndSaved see_store says rules exchange old new
      → HasActions see_store says rules OnlySavedDiffers resaved_files exchange old new
  saved_actions exchange old new h =
      actions_before see_store says rules OnlySavedDiffers resaved_files exchange old h.served new
      (actions_of see_store says rules OnlySavedDiffers resaved_files exchange old h.served h.answered)
      (record { store = ap (λ (s : ServerState). s.seen.store) h.saved; rights = ap (λ (s : ServerState). s.rights) h.saved })

  pub saved_run : (exchanges : List Exchange) (old new : ServerState) → InOrder (IsAnsweredAndSaved see_store says rules) exchanges old new
      → AreOneRun see_store says OnlySavedDiffers rules exchanges old new
  saved_run exchanges old new answered =
      run_of see_store says rules OnlySavedDiffers resaved_files (IsAnsweredAndSaved see_store says rules) saved_actions exchanges old new answered
