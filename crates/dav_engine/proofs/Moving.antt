-- MOVE: its work.
use Rattle.std.proofs.Common.{◌≡◌, ◌≢◌, ◌⊎◌, ◌∙◌, true, false, if◌then◌else◌, not, ◌&&◌, List, [], ◌∷◌, ◌++◌, Some, None, is_some, Result, Ok, Err, inl, inr, refl, sym, ap, subst, append-nil, option_map}
use Rattle.std.specs.FinMap.{get}
use Rattle.std.specs.Option.{option_map_or}
use Rattle.dav_resource.specs.Errors.{fs_status}
use Rattle.dav_key.specs.Key.{Key, parent, is_same_key}
use Rattle.dav_resource.specs.PathText.{PathValue}
use Rattle.dav_resource.specs.declared.error.DavError.{DavError}
use Rattle.dav_resource.specs.declared.error.DavError.TheVariants.{Memory, Status}
use Rattle.dav_resource.specs.declared.error.FsError.{FsError}
use Rattle.dav_resource.specs.declared.error.FsError.TheVariants as fs
use Rattle.dav_resource.specs.declared.record.Outcome.{Outcome}
use Rattle.dav_resource.specs.declared.record.Outcome.TheVariants.{Granted, Barred, Refused}
use Rattle.dav_resource.specs.declared.request.DavRequest.{DavRequest}
use Rattle.dav_key.specs.Below.{is_at_or_below, AreApart}
use Rattle.dav_store.specs.Calls.{Call, Grants, Declines, record_of, error_of}
use Rattle.dav_store.specs.Locks.{Locks, all_reliable}
use Rattle.dav_store.specs.Logged.{Logged}
use Rattle.dav_store.specs.Store.{Store, Node, Directory, IsWellFormed}
use Rattle.dav_store.specs.Transfers.{rename_call, rename_bar, IsRenamedTo}
use Rattle.dav_messages.specs.Dialogues.{unlike}
use Rattle.dav_messages.specs.Multistatus.{Item}
use Rattle.dav_walks.specs.KeyCall.{standing}
use Rattle.dav_engine.specs.State.{State, Seen, state_of, DropsSeen}
use Rattle.dav_engine.specs.Transferring.{ClearsIf, Names, NamesBy, source_path}
use Rattle.dav_engine.specs.Move.{RenamesAlone, RenamesOrStops, Renaming, MayMove, MovesSource, MovesInPart, Moves, MovesSoFar, MoveCut}
use Rattle.dav_engine.specs.declared.transfer.Transfer.{Transfer}
use Rattle.dav_engine.proofs.Deleting.{none_named, some_named, same_facts, same_locks, drops, named_locks}
use Rattle.dav_engine.proofs.Replacing.{apart_below, parent_apart, fits_some, clear_outside, clear_gone, IsWork, replacing_is_work, replaced_outside, replaced_part_outside}

-- ---- the one call

module _ (source destination : PathValue) (old new : Store) where
  abbrev call : Call
  call = rename_call old.contents source.key destination.key

  alone_declined : (error : FsError) (d : Declines call error old new) → RenamesAlone source destination old.contents new.contents (record_of call d.outcome ∷ []) ((source, fs_status error) ∷ [])
  alone_declined error d = record {
    outcome = d.outcome;
    called = refl;
    lawful = d.lawful;
    granted = λ is. absurd (unlike error d.outcome d.cause is);
    refused = λ e cause. (d.same, let is : Some error ≡ Some e = sym d.cause ∙ cause in let same : error ≡ e = cc in ap (λ f. (source, fs_status f) ∷ []) same);
  }

  pub renames : (had : List Item) → Grants call (IsRenamedTo source.key destination.key) old new → Renaming source destination old new had had (Ok tt)
  renames had g = record {
    records = record_of call Granted ∷ [];
    recorded = g.recorded;
    fixed = g.fixed;
    done = inl (
      [],
      sym (append-nil had),
      record {
        outcome = Granted;
        called = refl;
        lawful = g.allowed;
        granted = λ is. (g.effect, refl);
        refused = λ e cause. absurd (let none : None ≡ Some e = cause in cc);
      },
      refl,
    );
  }

  -- memory was lacking
  pub renames_unbegun : (had : List Item) → ((fs.Memory ≡ fs.Memory) × (new ≡ old)) ⊎ Declines call fs.Memory old new → Renaming source destination old new had had (Err Memory)
  renames_unbegun had (inr d) = absurd (d.not_memory refl)
  renames_unbegun had (inl (memory, same)) = record {
    records = [];
    recorded = ap (λ (s : Store). s.log) same ∙ sym (append-nil old.log);
    fixed = ap (λ (s : Store). s.facts) same;
    done = inr (refl, (ap (λ (s : Store). s.contents) same, inl refl), refl);
  }

  module _ (error : FsError) (other : error ≢ fs.Memory) (had has : List Item) where
    -- it was refused, and memory was lacking for its name
    pub renames_unnamed : ((error ≡ fs.Memory) × (new ≡ old)) ⊎ Declines call error old new → has ≡ had → Renaming source destination old new had has (Err Memory)
    renames_unnamed (inl lacking) kept = absurd (other lacking.0)
    renames_unnamed (inr d) kept = record {
      records = record_of call d.outcome ∷ [];
      recorded = d.recorded;
      fixed = d.fixed;
      done = inr (refl, (d.same, inr ((source, fs_status error), alone_declined error d)), kept);
    }

    -- it was refused, and named
    pub renames_named : ((error ≡ fs.Memory) × (new ≡ old)) ⊎ Declines call error old new → has ≡ had ++ (source, fs_status error) ∷ [] → Renaming source destination old new had has (Err (Status (fs_status error)))
    renames_named (inl lacking) named = absurd (other lacking.0)
    renames_named (inr d) named = record {
      records = record_of call d.outcome ∷ [];
      recorded = d.recorded;
      fixed = d.fixed;
      done = inl ((source, fs_status error) ∷ [], named, alone_declined error d, refl);
    }

-- ---- the source is moved

same_seen : (old new : Seen) → new.store.contents ≡ old.store.contents → new.locks ≡ old.locks → state_of new ≡ state_of old
same_seen old new same locks = λ i. record { contents = same i; locks = option_map (λ (l : Locks). l.list) (locks i); reliable = option_map_or (λ (l : Locks). l.reliable) (locks i) all_reliable }

module _ (source destination : PathValue) (old mid : Seen) (had has : List Item) (free : (rename_call old.store.contents source.key destination.key).bar ≡ None) where
  abbrev Moved : Seen → Result (Unit {0}) DavError → Type 0
  Moved seen answer = Names (MovesSource source destination) (MovesInPart source destination) old had has answer seen

  -- it was refused, or memory ran out
  pub source_named : (e : DavError) → Renaming source destination old.store mid.store had has (Err e) → mid.locks ≡ old.locks → Moved mid (Err e)
  source_named e h locks = record {
    records = h.records;
    recorded = h.recorded;
    fixed = same_facts old mid h.fixed locks;
    done = by_end h.done;
  }
    where
      by_part : mid.store.contents ≡ old.store.contents → (h.records ≡ []) ⊎ ((item : Item) × RenamesAlone source destination old.store.contents mid.store.contents h.records (item ∷ [])) → MovesInPart source destination (state_of old) h.records (state_of mid)
      by_part same (inl none) = inl (none, same_seen old mid same locks)
      by_part same (inr (item, alone)) = inr (item ∷ [], record { free = free; renamed = alone; locks = same_locks old mid locks })

      by_end : RenamesOrStops source destination old.store.contents mid.store.contents h.records had has (Err e) → NamesBy (MovesSource source destination) (MovesInPart source destination) (state_of old) h.records had has (Err e) (state_of mid)
      by_end (inl whole) = inl (whole.0, whole.1, record { free = free; renamed = whole.2; locks = named_locks whole.0 source _ _ (some_named e whole.0 whole.3) (same_locks old mid locks) }, whole.3)
      by_end (inr part) = inr (part.0, by_part part.1.0 part.1.1)

  -- it is renamed, and the locks there are dropped
  pub source_moved : (new : Seen) → Renaming source destination old.store mid.store had has (Ok tt) → mid.locks ≡ old.locks → DropsSeen source.key mid new → Moved new (Ok tt)
  source_moved new h locks dropped = record {
    records = h.records;
    recorded = ap (λ (s : Store). s.log) dropped.store ∙ h.recorded;
    fixed = dropped.fixed ∙ same_facts old mid h.fixed locks;
    done = by_end h.done;
  }
    where
      by_end : RenamesOrStops source destination old.store.contents mid.store.contents h.records had has (Ok tt) → NamesBy (MovesSource source destination) (MovesInPart source destination) (state_of old) h.records had has (Ok tt) (state_of new)
      by_end (inl whole) =
          let none = none_named whole.0 whole.3 in
          inl (
            [],
            whole.1 ∙ ap (λ names. had ++ names) none,
            record {
              free = free;
              renamed = subst (λ (s : Store). RenamesAlone source destination old.store.contents s.contents h.records []) (sym dropped.store) (subst (λ names. RenamesAlone source destination old.store.contents mid.store.contents h.records names) none whole.2);
              locks = drops source.key old mid new locks dropped.dropped;
            },
            refl,
          )
      by_end (inr part) = absurd cc

-- ---- nothing bars it, once the destination is cleared

free_by : (from to : Key) (node : Node) → AreApart from to → rename_bar from to (Some node) None (Some Directory) ≡ None
free_by [] to node apart = let no : true ≡ false = apart.other_one in absurd cc
free_by (segment ∷ from) to node apart = ap (λ b. if b && not (is_same_key to (segment ∷ from)) then Some fs.Forbidden else None) apart.other_one

pub still_free : (source : Key) (found : Transfer) (old mid : State) (head : List Logged) → IsWellFormed old.contents → MayMove source found old.contents → ClearsIf (is_some found.there) found.destination old head [] mid
    → (rename_call mid.contents source found.destination.key).bar ≡ None
still_free source found old mid head formed may cleared =
    let to = found.destination.key in
    let there = fits_some (get old.contents.tree source) (old.contents.metas source) found.meta (formed.metas source) may.source_there in
    let outside = clear_outside (is_some found.there) found.destination old mid head [] cleared in
    let at_source : get mid.contents.tree source ≡ Some there.0 = ap (λ s. s.0) (outside source (apart_below source to may.apart.one_other)) ∙ there.1 in
    let above : get mid.contents.tree (parent to) ≡ Some Directory = ap (λ s. s.0) (outside (parent to) (parent_apart source to may.apart.one_other)) ∙ may.above in
    let gone = clear_gone found.there found.destination old mid head formed may.known cleared in
    rw (at_source, gone, above) (free_by source to there.0 may.apart)

-- ---- the work

pub move_is_work : (request : DavRequest) (found : Transfer) → IsWork (Moves (source_path request found) found) (MoveCut request found)
move_is_work request found =
    replacing_is_work (MovesSource (source_path request found) found.destination) (MovesInPart (source_path request found) found.destination) (is_some found.there) found.destination (λ old new records names w. inr (names, w))

-- ---- what it changes

-- a key that is at or below neither
abbrev pub IsOutside : Key → PathValue → PathValue → Type 0
IsOutside q source destination = (is_at_or_below q source.key ≡ false) × (is_at_or_below q destination.key ≡ false)

source_outside : (source destination : PathValue) (mid new : State) (rest : List Logged) (names : List Item) → MovesSource source destination mid rest names new → (q : Key) → IsOutside q source destination → standing new.contents q ≡ standing mid.contents q
source_outside source destination mid new rest names moves q outside = by_outcome moves.renamed.outcome moves.renamed.granted moves.renamed.refused
  where
    by_outcome : (outcome : Outcome) → (outcome ≡ Granted → IsRenamedTo source.key destination.key mid.contents new.contents × (names ≡ []))
        → ((e : FsError) → error_of outcome ≡ Some e → (new.contents ≡ mid.contents) × (names ≡ (source, fs_status e) ∷ [])) → standing new.contents q ≡ standing mid.contents q
    by_outcome Granted granted refused = let renamed = (granted refl).0 in λ i. (renamed.tree.rest q outside.0 outside.1 i, renamed.properties.rest q outside.0 outside.1 i)
    by_outcome (Barred e) granted refused = ap (λ c. standing c q) (refused e refl).0
    by_outcome (Refused e) granted refused = ap (λ c. standing c q) (refused e refl).0

module _ (source : PathValue) (found : Transfer) (old new : State) (records : List Logged) (q : Key) (outside : IsOutside q source found.destination) where
  pub moved_outside : (names : List Item) → Moves source found old records names new → standing new.contents q ≡ standing old.contents q
  moved_outside names w =
      replaced_outside (is_some found.there) found.destination old new records q outside.1 (MovesSource source found.destination) names w
      (λ mid rest follows. source_outside source found.destination mid new rest names follows q outside)

  pub moved_part_outside : MovesSoFar source found old records new → standing new.contents q ≡ standing old.contents q
  moved_part_outside w = replaced_part_outside (is_some found.there) found.destination old new records q outside.1 (MovesInPart source found.destination) w by_part
    where
      by_part : (mid : State) (rest : List Logged) → MovesInPart source found.destination mid rest new → standing new.contents q ≡ standing mid.contents q
      by_part mid rest (inl none) = ap (λ (s : State). standing s.contents q) none.1
      by_part mid rest (inr (names, moves)) = source_outside source found.destination mid new rest names moves q outside
