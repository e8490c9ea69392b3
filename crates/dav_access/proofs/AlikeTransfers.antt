-- DELETE, COPY and MOVE, over contents that look alike: a caller cannot distinguish them, and what they leave looks alike too.
use Rattle.std.proofs.Common.{◌≡◌, ◌⊎◌, ◌∙◌, Bool, true, false, List, [], ◌∷◌, Option, Some, None, refl, sym, ap, subst, inl, inr, is_some}
use Rattle.dav_resource.specs.PathText.{PathValue}
use Rattle.dav_resource.specs.declared.profile.Profile.{Profile}
use Rattle.dav_resource.specs.declared.error.FsError.{FsError}
use Rattle.dav_resource.specs.declared.meta.Meta.{Meta}
use Rattle.dav_resource.specs.declared.record.Outcome.{Outcome}
use Rattle.dav_resource.specs.declared.record.Outcome.TheVariants.{Granted, Barred, Refused}
use Rattle.dav_resource.specs.declared.request.Depth.{Depth}
use Rattle.dav_resource.specs.declared.request.Depth.TheVariants.{Infinity}
use Rattle.dav_resource.specs.declared.request.DavRequest.{DavRequest}
use Rattle.dav_store.specs.Logged.{Logged}
use Rattle.dav_store.specs.Store.{Contents}
use Rattle.dav_store.specs.Calls.{Call, IsLawful, record_of, error_of}
use Rattle.dav_store.specs.Members.{IsIn}
use Rattle.dav_store.specs.Transfers.{rename_call}
use Rattle.dav_messages.specs.Multistatus.{Item}
use Rattle.dav_messages.specs.Reply.{Answer}
use Rattle.dav_walks.specs.Deletion.{Removes}
use Rattle.dav_walks.specs.RemovalLaws.{whole_in_part}
use Rattle.dav_engine.specs.Copy.{replaced, CopiesSource, CopiesSourceInPart, Copies, CopyWork, CopyCut}
use Rattle.dav_engine.specs.Delete.{LeavesLocks, DeleteWork, DeleteCut}
use Rattle.dav_engine.specs.Move.{RenamesAlone, MovesSource, MovesInPart, Moves, MoveWork, MoveCut}
use Rattle.dav_engine.specs.Rules.{depth_or_all, fixed_path}
use Rattle.dav_engine.specs.State.{State, LocksStay, DropsLocks}
use Rattle.dav_engine.specs.Transferring.{ClearsIf, ClearsInPart, UnlessNamed, Replaces, ReplacesInPart, TransferWork, source_path}
use Rattle.dav_engine.specs.Methods.{copy_method}
use Rattle.dav_guarding.specs.Policy.{Reveals}
use Rattle.dav_access.specs.Sight.{Sight, AreSeen}
use Rattle.dav_access.proofs.AlikeCalls.{same_rename}
use Rattle.dav_access.proofs.AlikeChanges.{Follows, followed, follows_same, follows_renamed}
use Rattle.dav_access.proofs.AlikeCopies.{follows_copies, follows_copies_part}
use Rattle.dav_access.proofs.AlikeDialogues.{seen_first, seen_rest}
use Rattle.dav_access.proofs.AlikeRemovals.{follows_removes, follows_part}
use Rattle.dav_access.proofs.AlikeRules.{with}
use Rattle.dav_access.proofs.Shadow.{Mirrored, looks_alike}

-- what the rules of a COPY or a MOVE pass on
abbrev pub Found : Type 0
Found = copy_method.Found

-- ---- states

-- states to which the same leads from the state with the other contents
abbrev pub FollowsTo : Sight → State → (State → Type 0) → Type 0
FollowsTo sight new Leads = Follows sight new.contents (λ after. Leads (with new after))

-- nothing changes
pub follows_stay : (sight : Sight) (old new : State) (other : Contents) → Mirrored sight old.contents other → new ≡ old → FollowsTo sight new (λ after. after ≡ with old other)
follows_stay sight old new other alike same = record {
  after = other;
  leads = ap (λ s. with s other) same;
  alike = subst (λ (s : State). Mirrored sight s.contents other) (sym same) alike;
}

-- the contents stay the same
pub follows_contents : (sight : Sight) (old new : State) (other : Contents) → Mirrored sight old.contents other → new.contents ≡ old.contents → Follows sight new.contents (λ after. after ≡ other)
follows_contents sight old new other alike same = follows_same alike same

-- the locks, whatever the contents
same_locks : (names : List Item) (path : PathValue) (old new : State) (before after : Contents) → LeavesLocks names path old new → LeavesLocks names path (with old before) (with new after)
same_locks [] path old new before after locks = locks
same_locks (item ∷ names) path old new before after locks = locks

module _ (sight : Sight) where
  -- ---- DELETE

  module _ (request : DavRequest) (meta : Meta) (old new : State) (other : Contents) (alike : Mirrored sight old.contents other) (records : List Logged) where
    target : PathValue
    target = fixed_path request.path (Some meta)

    pub follows_delete : (profile : Profile) (answer : Answer) → DeleteWork profile request meta old records answer new → FollowsTo sight new (λ after. DeleteWork profile request meta (with old other) records answer after)
    follows_delete profile answer work = followed (λ after removed. record {
      names = work.names;
      removed = removed;
      locks = same_locks work.names request.path old new other after work.locks;
      answered = work.answered;
    }) (follows_removes sight old.contents new.contents other alike (depth_or_all request) (fixed_path request.path (Some meta)) records work.names work.removed)

    pub follows_delete_cut : DeleteCut request meta old records new → FollowsTo sight new (λ after. DeleteCut request meta (with old other) records after)
    follows_delete_cut cut = by cut.locks
      where
        by : LocksStay old new ⊎ (Removes (depth_or_all request) (fixed_path request.path (Some meta)) old.contents new.contents records [] × DropsLocks request.path.key old new)
            → FollowsTo sight new (λ after. DeleteCut request meta (with old other) records after)
        by (inl stay) = followed (λ after removed. record { removed = removed; locks = inl stay }) (follows_part sight old.contents new.contents other alike (depth_or_all request) (fixed_path request.path (Some meta)) records cut.removed)
        by (inr dropped) = followed (λ after removed. record {
          removed = whole_in_part (depth_or_all request) (fixed_path request.path (Some meta)) other after records [] removed;
          locks = inr (removed, dropped.1);
        }) (follows_removes sight old.contents new.contents other alike (depth_or_all request) (fixed_path request.path (Some meta)) records [] dropped.0)

  -- ---- what exists at the destination

  -- a part of the work that a caller cannot distinguish
  abbrev FollowsDo : (State → List Logged → List Item → State → Type 0) → Type 0
  FollowsDo Do = (old new : State) (other : Contents) → Mirrored sight old.contents other → (records : List Logged) (names : List Item) → AreSeen sight records → Do old records names new → FollowsTo sight new (λ after. Do (with old other) records names after)

  abbrev FollowsCut : (State → List Logged → State → Type 0) → Type 0
  FollowsCut Cut = (old new : State) (other : Contents) → Mirrored sight old.contents other → (records : List Logged) → AreSeen sight records → Cut old records new → FollowsTo sight new (λ after. Cut (with old other) records after)

  follows_clears : (there : Bool) (destination : PathValue) → FollowsDo (ClearsIf there destination)
  follows_clears true destination old new other alike records names seen clears = followed (λ after removed. record {
    removed = removed;
    locks = same_locks names destination old new other after clears.locks;
    system = record { there = clears.system.there; reliable = clears.system.reliable };
  }) (follows_removes sight old.contents new.contents other alike Infinity destination records names clears.removed)
  follows_clears false destination old new other alike records names seen none = followed (λ after same. (none.0, none.1, same)) (follows_stay sight old new other alike none.2)

  follows_clears_part : (there : Bool) (destination : PathValue) → FollowsCut (ClearsInPart there destination)
  follows_clears_part true destination old new other alike records seen part = followed (λ after removed. (removed, part.1)) (follows_part sight old.contents new.contents other alike Infinity destination records part.0)
  follows_clears_part false destination old new other alike records seen none = followed (λ after same. (none.0, same)) (follows_stay sight old new other alike none.1)

  follows_unless : (Do : State → List Logged → List Item → State → Type 0) → FollowsDo Do → (left : List Item) → FollowsDo (UnlessNamed Do left)
  follows_unless Do go [] old new other alike records names seen work = go old new other alike records names seen work
  follows_unless Do go (item ∷ left) old new other alike records names seen stops = followed (λ after same. (stops.0, stops.1, same)) (follows_stay sight old new other alike stops.2)

  module _ (there : Bool) (destination : PathValue) where
    follows_replaces : (Do : State → List Logged → List Item → State → Type 0) → FollowsDo Do → FollowsDo (Replaces Do there destination)
    follows_replaces Do go old new other alike records names seen replaces =
        let cleared = follows_clears there destination old replaces.between other alike replaces.removal replaces.left (seen_first sight replaces.removal replaces.after records replaces.cut seen) replaces.cleared in
        followed (λ after follows. record {
          removal = replaces.removal;
          after = replaces.after;
          cut = replaces.cut;
          left = replaces.left;
          between = with replaces.between cleared.after;
          cleared = cleared.leads;
          follows = follows;
        }) (follows_unless Do go replaces.left replaces.between new cleared.after cleared.alike replaces.after names (seen_rest sight replaces.removal replaces.after records replaces.cut seen) replaces.follows)

    follows_replaces_part : (Part : State → List Logged → State → Type 0) → FollowsCut Part → FollowsCut (ReplacesInPart Part there destination)
    follows_replaces_part Part go old new other alike records seen (inl clears) = followed (λ after leads. inl leads) (follows_clears_part there destination old new other alike records seen clears)
    follows_replaces_part Part go old new other alike records seen (inr then) =
        let cleared = follows_clears there destination old then.between other alike then.removal [] (seen_first sight then.removal then.after records then.cut seen) then.cleared in
        followed (λ after part. inr (record {
          removal = then.removal;
          after = then.after;
          cut = then.cut;
          between = with then.between cleared.after;
          cleared = cleared.leads;
          part = part;
        })) (go then.between new cleared.after cleared.alike then.after (seen_rest sight then.removal then.after records then.cut seen) then.part)

  follows_transfer : (profile : Profile) (Do : State → List Logged → List Item → State → Type 0) → FollowsDo Do → (source : PathValue) (there : Option Meta) (old new : State) (other : Contents) → Mirrored sight old.contents other
      → (records : List Logged) (answer : Answer) → AreSeen sight records → TransferWork profile Do source there old records answer new → FollowsTo sight new (λ after. TransferWork profile Do source there (with old other) records answer after)
  follows_transfer profile Do go source there old new other alike records answer seen work =
      followed (λ after done. record { names = work.names; done = done; answered = work.answered }) (go old new other alike records work.names seen work.done)

  -- ---- COPY

  follows_source : (depth : Depth) (source destination : PathValue) → FollowsDo (CopiesSource depth source destination)
  follows_source depth source destination old new other alike records names seen copies =
      followed (λ after copied. record { copied = copied; locks = copies.locks }) (follows_copies sight old.contents new.contents other alike source destination destination.key depth records names seen copies.copied)

  follows_source_part : (depth : Depth) (source destination : PathValue) → FollowsCut (CopiesSourceInPart depth source destination)
  follows_source_part depth source destination old new other alike records seen copies =
      followed (λ after copied. record { copied = copied; locks = copies.locks }) (follows_copies_part sight old.contents new.contents other alike source destination destination.key depth records seen copies.copied)

  module _ (request : DavRequest) (found : Found) where
    pub follows_copy : (profile : Profile) (old new : State) (other : Contents) → Mirrored sight old.contents other → (records : List Logged) (answer : Answer) → AreSeen sight records → CopyWork profile request found old records answer new → FollowsTo sight new (λ after. CopyWork profile request found (with old other) records answer after)
    follows_copy profile = follows_transfer profile (Copies (depth_or_all request) (source_path request found) found) (follows_replaces (is_some (replaced (depth_or_all request) found.there)) found.destination
        (CopiesSource (depth_or_all request) (source_path request found) found.destination) (follows_source (depth_or_all request) (source_path request found) found.destination)) (source_path request found) found.there

    pub follows_copy_cut : FollowsCut (CopyCut request found)
    follows_copy_cut = follows_replaces_part (is_some (replaced (depth_or_all request) found.there)) found.destination
        (CopiesSourceInPart (depth_or_all request) (source_path request found) found.destination) (follows_source_part (depth_or_all request) (source_path request found) found.destination)

  -- ---- MOVE

  module _ (source destination : PathValue) (old new other : Contents) (alike : Mirrored sight old other) (records : List Logged) (names : List Item) (seen : AreSeen sight records) (renames : RenamesAlone source destination old new records names) where
    same_call : rename_call other source.key destination.key ≡ rename_call old source.key destination.key
    same_call = same_rename sight old other (looks_alike sight old other alike) source.key destination.key

    lawful_call : IsLawful (rename_call other source.key destination.key).bar renames.outcome
    lawful_call = subst (λ (c : Call). IsLawful c.bar renames.outcome) (sym same_call) renames.lawful

    called_too : records ≡ record_of (rename_call other source.key destination.key) renames.outcome ∷ []
    called_too = renames.called ∙ ap (λ c. record_of c renames.outcome ∷ []) (sym same_call)

    follows_renames : Follows sight new (λ after. RenamesAlone source destination other after records names)
    follows_renames = by renames.outcome refl
      where
        failed : (e : FsError) → error_of renames.outcome ≡ Some e → Follows sight new (λ after. RenamesAlone source destination other after records names)
        failed e cause =
            let ends = renames.refused e cause in
            followed (λ after same. record {
              outcome = renames.outcome;
              called = called_too;
              lawful = lawful_call;
              granted = λ granted. absurd (let no : None ≡ Some e = ap error_of (sym granted) ∙ cause in cc);
              refused = λ d is. (same, (renames.refused d is).1);
            }) (follows_same alike ends.0)

        by : (outcome : Outcome) → renames.outcome ≡ outcome → Follows sight new (λ after. RenamesAlone source destination other after records names)
        by Granted granted =
            let ends = renames.granted granted in
            let first : IsIn (record_of (rename_call old source.key destination.key) renames.outcome) records = subst (IsIn (record_of (rename_call old source.key destination.key) renames.outcome)) (sym renames.called) (inl refl) in
            followed (λ after moved. record {
              outcome = renames.outcome;
              called = called_too;
              lawful = lawful_call;
              granted = λ _. (moved, ends.1);
              refused = λ d is. absurd (let no : None ≡ Some d = ap error_of (sym granted) ∙ is in cc);
            }) (follows_renamed sight old new other alike source.key destination.key (seen (record_of (rename_call old source.key destination.key) renames.outcome) first (subst Reveals (sym granted) tt)) ends.0)
        by (Barred e) barred = failed e (ap error_of barred)
        by (Refused e) refused = failed e (ap error_of refused)

  follows_moves : (source destination : PathValue) → FollowsDo (MovesSource source destination)
  follows_moves source destination old new other alike records names seen moves =
      followed (λ after renamed. record {
        free = ap (λ (c : Call). c.bar) (same_rename sight old.contents other (looks_alike sight old.contents other alike) source.key destination.key) ∙ moves.free;
        renamed = renamed;
        locks = same_locks names source old new other after moves.locks;
      }) (follows_renames source destination old.contents new.contents other alike records names seen moves.renamed)

  follows_moves_part : (source destination : PathValue) → FollowsCut (MovesInPart source destination)
  follows_moves_part source destination old new other alike records seen (inl none) = followed (λ after same. inl (none.0, same)) (follows_stay sight old new other alike none.1)
  follows_moves_part source destination old new other alike records seen (inr moves) = followed (λ after leads. inr (moves.0, leads)) (follows_moves source destination old new other alike records moves.0 seen moves.1)

  module _ (request : DavRequest) (found : Found) where
    pub follows_move : (profile : Profile) (old new : State) (other : Contents) → Mirrored sight old.contents other → (records : List Logged) (answer : Answer) → AreSeen sight records → MoveWork profile request found old records answer new → FollowsTo sight new (λ after. MoveWork profile request found (with old other) records answer after)
    follows_move profile = follows_transfer profile (Moves (source_path request found) found) (follows_replaces (is_some found.there) found.destination (MovesSource (source_path request found) found.destination) (follows_moves (source_path request found) found.destination)) (source_path request found) found.there

    pub follows_move_cut : FollowsCut (MoveCut request found)
    follows_move_cut = follows_replaces_part (is_some found.there) found.destination (MovesInPart (source_path request found) found.destination) (follows_moves_part (source_path request found) found.destination)
