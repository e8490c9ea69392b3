-- The entity tags of a run: all begin as those of the store that it began with.
use Rattle.std.proofs.Common.{◌≡◌, ◌∙◌, inl, inr, ℕ, List, [], ◌∷◌, ◌++◌, Option, Some, None, Result, Ok, Err, if◌then◌else◌, true, false, option_map, refl, sym, ap, subst}
use Rattle.std.specs.Option.{ForSome}
use Rattle.dav_key.specs.Key.{Key, is_same_key}
use Rattle.dav_resource.specs.PathText.{PathValue, read_path}
use Rattle.dav_resource.specs.declared.error.DavError.{DavError}
use Rattle.dav_resource.specs.declared.meta.Meta.{Meta}
use Rattle.dav_store.specs.Calls.{Reads}
use Rattle.dav_store.specs.Store.{Store, StartsWith, HasTagFrom, AreTagged}
use Rattle.dav_tree.specs.Modified.{SetsModified, modified_metas, modified_meta}
use Rattle.dav_wire.specs.Frames.{ReadValue, ModifiedValue, UnlockValue}
use Rattle.dav_wire.specs.Replies.{PartValue, ReplyValue, Part, Done, Failed, Refused}
use Rattle.dav_rights.specs.Access.{refuses_to}
use Rattle.dav_server.specs.Events.{Action, Malformed, OutOfMemory, BodyStarted, BodyExtended, BodyDropped, FileRead, ExpiryReturned, HeldReturned, BackupBegun, BackupEnded, RightsRead, RightsExplained, LocksListed, LockRemoved, ModifiedSet, Rejected, Served, Acts, ReadsRights}
use Rattle.dav_server.specs.Guarantees.{ActInOrder, IsSameStore}
use Rattle.dav_server.specs.Operating.{ChangesAt, ChangesAsked, RemovesAt, RemovesAsked}
use Rattle.dav_server.specs.Parts.{ReadsBy}
use Rattle.dav_server.specs.Snapshots.{OnlySavedDiffers}
use Rattle.dav_server.specs.State.{Rules, ServerState}

-- each entity tag of the store begins with these bytes, and so do those that it gives later
pub record IsTagged (start : List ℕ) (store : Store) : Type 0 where
  pub begins : store.facts.tag_start ≡ start
  pub tagged : AreTagged store

-- a relation of stores that keeps this
abbrev pub KeepsTags : (Store → Store → Type 0) → Type 0
KeepsTags Stays = (start : List ℕ) (old new : Store) → Stays old new → IsTagged start old → IsTagged start new

-- the relations of a run in memory and of one over a folder do
pub same_keeps_tags : KeepsTags IsSameStore
same_keeps_tags start old new same old_tags = subst (IsTagged start) (sym same) old_tags

pub saved_keeps_tags : KeepsTags OnlySavedDiffers
saved_keeps_tags start old new resaved tags = subst (IsTagged start) (sym resaved) (record { begins = tags.begins; tagged = tags.tagged })

-- ---- the time of a resource

later_tag : (start : List ℕ) (time : ℕ) (o : Option Meta) → ForSome o (HasTagFrom start) → ForSome (option_map (modified_meta time) o) (HasTagFrom start)
later_tag start time None has meta e = absurd (let no : None ≡ Some meta = e in cc)
later_tag start time (Some old) has meta e =
    let is : modified_meta time old ≡ meta = cc in
    subst (HasTagFrom start) is (has old refl)

later_tags : (start : List ℕ) (key : Key) (time : ℕ) (metas : Key → Option Meta) → ((k : Key) → ForSome (metas k) (HasTagFrom start))
    → (k : Key) → ForSome (modified_metas key time metas k) (HasTagFrom start)
later_tags start key time metas has k =
    elim (is_same_key k key) as (λ same. ForSome (if same then option_map (modified_meta time) (metas k) else metas k) (HasTagFrom start)) [
      | true ↦ later_tag start time (metas k) (has k)
      | false ↦ has k
    ]

sets_tags : (start : List ℕ) (key : Key) (time : ℕ) (old new : Store) → SetsModified key time old new → IsTagged start old → IsTagged start new
sets_tags start key time old new sets tags =
    subst (IsTagged start) (sym sets.changed)
    (record { begins = tags.begins; tagged = later_tags old.facts.tag_start key time old.contents.metas tags.tagged })

changes_tags : (start : List ℕ) (key : Key) (time : ℕ) (old new : ServerState) (reply : ReplyValue) → ChangesAt key time old reply new
    → IsTagged start old.seen.store → IsTagged start new.seen.store
changes_tags start key time old new Done changed tags = sets_tags start key time old.seen.store new.seen.store changed.sets tags
changes_tags start key time old new (Failed status) (same, why) tags = subst (λ (s : ServerState). IsTagged start s.seen.store) (sym same) tags
changes_tags start key time old new _ none tags = absurd none

asked_tags : (start : List ℕ) (read : Result PathValue DavError) (asked : ModifiedValue) (old new : ServerState) (reply : ReplyValue)
    → ChangesAsked read asked old reply new → IsTagged start old.seen.store → IsTagged start new.seen.store
asked_tags start (Ok path) asked old new reply changes tags = changes_tags start path.key asked.time old new reply changes tags
asked_tags start (Err e) asked old new reply (same, why) tags = subst (λ (s : ServerState). IsTagged start s.seen.store) (sym same) tags

-- ---- what leaves the store

-- a lock is removed, or not
removal_leaves : (key : Key) (token : List ℕ) (old new : ServerState) (reply : ReplyValue) → RemovesAt key token old reply new → new.seen.store ≡ old.seen.store
removal_leaves key token old new Done removed = ap (λ (s : ServerState). s.seen.store) removed.same
removal_leaves key token old new (Failed status) (same, why) = ap (λ (s : ServerState). s.seen.store) same
removal_leaves key token old new _ none = absurd none

unlock_leaves : (read : Result PathValue DavError) (asked : UnlockValue) (old new : ServerState) (reply : ReplyValue) → RemovesAsked read asked old reply new
    → new.seen.store ≡ old.seen.store
unlock_leaves (Ok path) asked old new reply (inl h) = removal_leaves path.key asked.token old new reply h
unlock_leaves (Ok path) asked old new reply (inr (same, none)) = ap (λ (s : ServerState). s.seen.store) same
unlock_leaves (Err e) asked old new reply (same, why) = ap (λ (s : ServerState). s.seen.store) same

-- other access rules are read, or not
rights_leave : (text : List ℕ) (reply : ReplyValue) (old new : ServerState) → ReadsRights text reply old new → new.seen.store ≡ old.seen.store
rights_leave text Done old new (rules, has, is) = ap (λ (s : ServerState). s.seen.store) is
rights_leave text (Refused reason) old new (none, same) = ap (λ (s : ServerState). s.seen.store) same
rights_leave text (Failed status) old new (recorded, same) = ap (λ (s : ServerState). s.seen.store) same
rights_leave text _ old new none = absurd none

-- ---- actions

module _ {F : Type 0} (see_store : F → Store) (says : F → Reads) (rules : Rules) (start : List ℕ) where
  -- the state has such tags
  abbrev HasTags : ServerState → Type 0
  HasTags state = IsTagged start state.seen.store

  unchanged : (old new : ServerState) → new ≡ old → HasTags old → HasTags new
  unchanged old new same tags = subst HasTags (sym same) tags

  with_same : (old : ServerState) (new : ServerState) (store : Store) → new.seen.store ≡ store → IsTagged start store → HasTags new
  with_same old new store is tags = subst (IsTagged start) (sym is) tags

  action_tags : (action : Action) (old new : ServerState) → Acts see_store says rules action old new → HasTags old → HasTags new
  action_tags Malformed old new acts tags = unchanged old new acts tags
  action_tags (OutOfMemory frame) old new acts tags = unchanged old new acts tags
  action_tags (BodyStarted (Ok number)) old new acts tags =
      with_same old new _ acts.change.started.begun (record { begins = tags.begins; tagged = tags.tagged })
  action_tags (BodyStarted (Err e)) old new acts tags = with_same old new old.seen.store acts.change.refused.0 tags
  action_tags (BodyExtended number more (Ok done)) old new acts tags =
      with_same old new _ acts.change.added.extended (record { begins = tags.begins; tagged = tags.tagged })
  action_tags (BodyExtended number more (Err e)) old new acts tags =
      with_same old new _ acts.change.1 (record { begins = tags.begins; tagged = tags.tagged })
  action_tags (BodyDropped number) old new acts tags =
      unchanged _ new acts (record { begins = tags.begins; tagged = tags.tagged })
  action_tags (FileRead asked reply) old new acts tags = unchanged old new acts.0 tags
  action_tags (ExpiryReturned time) old new acts tags = unchanged old new acts.0 tags
  action_tags (HeldReturned reply) old new acts tags = unchanged old new acts.0 tags
  action_tags BackupBegun old new acts tags = unchanged old new acts tags
  action_tags BackupEnded old new acts tags = unchanged old new acts tags
  action_tags (RightsRead text reply) old new acts tags = with_same old new old.seen.store (rights_leave text reply old new acts) tags
  action_tags (RightsExplained asked reply) old new acts tags = unchanged old new acts.0 tags
  action_tags (LocksListed reply) old new acts tags = unchanged old new acts.0 tags
  action_tags (LockRemoved asked reply) old new acts tags =
      with_same old new old.seen.store (unlock_leaves (read_path asked.path rules.prefix) asked old new reply acts) tags
  action_tags (ModifiedSet asked reply) old new acts tags = asked_tags start (read_path asked.path rules.prefix) asked old new reply acts tags
  action_tags (Rejected frame e) old new acts tags = unchanged old new acts.0 tags
  action_tags (Served frame request answer) old new acts tags =
      let done = acts.executes in
      subst HasTags (sym done.emptied) (record { begins = ap (λ p. p.0.tag_start) done.served.fixed ∙ tags.begins; tagged = done.tagged })

  module _ (Stays : Store → Store → Type 0) (keeps : KeepsTags Stays) where
    -- after these actions the tags of the store begin as before
    pub tags_stay : (actions : List Action) (old new : ServerState) → ActInOrder see_store says Stays rules actions old new → HasTags old → HasTags new
    tags_stay [] old new run tags = keeps start old.seen.store new.seen.store run.store tags
    tags_stay (action ∷ actions) old new (before, after, same, acts, others) tags =
        tags_stay actions after new others (action_tags action before after acts (keeps start old.seen.store before.seen.store same.store tags))

    -- the tag of a part that is read begins so
    pub read_tag : (actions : List Action) (asked : ReadValue) (part : PartValue) (more : List Action) (old new : ServerState)
        → ActInOrder see_store says Stays rules (actions ++ FileRead asked (Part part) ∷ more) old new → HasTags old
        → ForSome part.version (StartsWith start)
    read_tag [] asked part more old new (before, after, same, acts, others) tags =
        by (read_path asked.path rules.prefix) acts.1.reads (keeps start old.seen.store before.seen.store same.store tags)
      where
        by : (read : Result PathValue DavError) → ReadsBy read (refuses_to before.rights asked.principal) (says acts.1.store) before.seen.store.contents asked (Part part) → HasTags before → ForSome part.version (StartsWith start)
        by (Ok path) (inl (may, returned)) tags = subst (λ (p : PartValue). ForSome p.version (StartsWith start)) (sym returned.is)
            (subst (λ begins. HasTagFrom begins returned.meta) tags.begins (tags.tagged path.key returned.meta returned.known))
        by (Ok path) (inr other) tags = cc
        by (Err e) (inl other) tags = cc
        by (Err e) (inr other) tags = cc
    read_tag (action ∷ actions) asked part more old new (before, after, same, acts, others) tags =
        read_tag actions asked part more after new others (action_tags action before after acts (keeps start old.seen.store before.seen.store same.store tags))
