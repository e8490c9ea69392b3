-- The steps of a walk by a list of directories: an entry is visited.
use Rattle.std.proofs.Common.{◌≡◌, ◌<◌, ◌+◌, false, List, [], ◌∷◌, ◌++◌, length, get_or, Some, None, Ok, Err, refl, sym, ap, ◌∙◌, subst, inl, inr}
use Rattle.std.specs.Prelude.{◌&&◌}
use Rattle.dav_resource.specs.PathText.{PathValue, IsSegment}
use Rattle.dav_resource.specs.declared.meta.DirEntry.{DirEntry}
use Rattle.dav_resource.specs.Errors.{fs_status, dav_status, from_fs}
use Rattle.dav_resource.specs.declared.error.DavError.{DavError}
use Rattle.dav_resource.specs.declared.error.FsError.{FsError}
use Rattle.dav_resource.specs.declared.error.FsError.TheVariants.{NotImplemented, GeneralFailure, Exists, NotFound, Forbidden, InsufficientStorage, LoopDetected, PathTooLong, TooLarge, IsRemote, Memory}
use Rattle.dav_store.specs.Store.{Store, IsWellFormed}
use Rattle.dav_walks.specs.declared.frame.Frame.{Frame}
use Rattle.dav_walks.specs.declared.frame.Entered.TheVariants.{Over, Opened}
use Rattle.dav_walks.specs.Trace.{Halts}
use Rattle.dav_walks.specs.Frames.{IsNext, VisitsShown, Visits, IsCutNext, path_of_entry}
use Rattle.dav_walks.proofs.Listings.{Shown}
use Rattle.dav_walks.proofs.Single.{Names}
use Rattle.dav_walks.proofs.Going.{Going, work_left, going_unseen, unseen_smaller, going_segment, going_child, child_smaller, going_opened, opened_smaller}
use Rattle.dav_walks.proofs.Ending.{going_halts, going_child_halts, going_opened_halts}

status_of_refusal : (error : FsError) → dav_status (from_fs error) ≡ fs_status error
status_of_refusal NotImplemented = refl
status_of_refusal GeneralFailure = refl
status_of_refusal Exists = refl
status_of_refusal NotFound = refl
status_of_refusal Forbidden = refl
status_of_refusal InsufficientStorage = refl
status_of_refusal LoopDetected = refl
status_of_refusal PathTooLong = refl
status_of_refusal TooLarge = refl
status_of_refusal IsRemote = refl
status_of_refusal Memory = refl

-- what was added is the path with the refusal's status
pub refusal_added : (path : PathValue) (had has : Names) (error : FsError) (e : DavError) → e ≡ from_fs error → has ≡ had ++ (path, dav_status e) ∷ [] → has ≡ had ++ (path, fs_status error) ∷ []
refusal_added path had has error e is named = named ∙ ap (λ status. had ++ (path, status) ∷ []) (ap dav_status is ∙ status_of_refusal error)

not_opened : {A : Type 0} {inner : Frame} → None ≡ Some inner → A
not_opened p = cc

same_frame : (inner other : Frame) → Some inner ≡ Some other → other ≡ inner
same_frame inner other p = cc

-- what an index gives is what is next
pub is_next : (frame : Frame) (at_index shown : Shown) → frame.next < length frame.listing.items → at_index ≡ get_or frame.listing.items frame.next at_index → at_index ≡ shown → IsNext frame shown
is_next frame at_index shown small is same = (small, subst (λ s. get_or frame.listing.items frame.next s ≡ s) same (sym is))

module _ {path : PathValue} {old mid : Store} {had names : Names} {frame : Frame} {parents : List Frame} (going : Going path old mid had names frame parents) where
  -- a listing's names may stand in a path
  pub next_segment : (entry : DirEntry) → IsNext frame (Ok entry) → IsSegment entry.name
  next_segment entry (small, at_place) = going_segment going small (Ok entry) entry at_place

  module _ (new : Store) (sound : IsWellFormed new.contents) where
    -- memory was lacking
    pub visit_cut : IsCutNext frame mid new → Halts path old.contents new.contents old.log new.log had names path.key
    visit_cut (inl same) = subst (λ (s : Store). Halts path old.contents s.contents old.log s.log had names path.key) (sym same) (going_halts going)
    visit_cut (inr (entry, (small, at_place), cut)) = going_child_halts going small (Ok entry) entry at_place (path_of_entry frame.path entry) refl new sound cut

    module _ (finally : Names) (after : Frame) where
      -- the walk goes on in the same directory, and there is less to do
      abbrev GoesOn : Frame → Type 0
      GoesOn f = Going path old new had finally f parents × (work_left old.contents.tree f parents < work_left old.contents.tree frame parents)

      stays_here : (shown : Shown) → IsNext frame shown → VisitsShown shown frame after mid new names finally None → GoesOn after
      stays_here (Err error) (small, at_place) (none, same, named, is) = subst GoesOn (sym is) (
        subst (λ (s : Store). Going path old s had finally (record frame { next = frame.next + 1; clean = false }) parents) (sym same) (going_unseen going small (Err error) finally error at_place named),
        unseen_smaller going small (Err error) error at_place,
      )
      stays_here (Ok entry) (small, at_place) (Over clean, enters, none, is) = subst GoesOn (sym is) (
        going_child going small (Ok entry) entry at_place (path_of_entry frame.path entry) refl new finally clean sound enters,
        child_smaller going small (Ok entry) entry at_place (path_of_entry frame.path entry) refl (frame.clean && clean),
      )
      stays_here (Ok entry) next (Opened inner, enters, none, is) = not_opened none

      pub visit_over : Visits frame after mid new names finally None → GoesOn after
      visit_over (shown, next, visits) = stays_here shown next visits

      -- or in the one that was opened, while the other waits
      abbrev GoesDown : Frame → List Frame → Type 0
      GoesDown inner waiting = Going path old new had finally inner waiting × (work_left old.contents.tree inner waiting < work_left old.contents.tree frame parents) × Halts path old.contents new.contents old.log new.log had finally path.key

      down_here : (inner : Frame) (shown : Shown) → IsNext frame shown → VisitsShown shown frame after mid new names finally (Some inner) → GoesDown inner (parents ++ after ∷ [])
      down_here inner (Err error) next (opened, same, named, is) = not_opened (sym opened)
      down_here inner (Ok entry) next (Over clean, enters, opened, is) = not_opened (sym opened)
      down_here inner (Ok entry) (small, at_place) (Opened other, enters, opened, is) =
          subst (λ (f : Frame). GoesDown inner (parents ++ f ∷ [])) (sym is) (subst (λ (f : Frame). GoesDown f (parents ++ record frame { next = frame.next + 1 } ∷ [])) (same_frame inner other opened) (
            going_opened going small (Ok entry) entry at_place (path_of_entry frame.path entry) refl new finally other enters,
            opened_smaller going small (Ok entry) entry at_place (path_of_entry frame.path entry) refl new finally other enters,
            going_opened_halts going small (Ok entry) entry at_place (path_of_entry frame.path entry) refl new finally other enters,
          ))

      pub visit_opened : (inner : Frame) (waiting : List Frame) → waiting ≡ parents ++ after ∷ [] → Visits frame after mid new names finally (Some inner) → GoesDown inner waiting
      visit_opened inner waiting pushed (shown, next, visits) = subst (GoesDown inner) (sym pushed) (down_here inner shown next visits)
