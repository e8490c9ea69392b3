-- What the calls that add a member to a directory or remove one leave as it is: this project's own choice. A cache of what is elsewhere stays right.
use Rattle.std.proofs.Common.{◌≡◌, ◌≢◌, ◌∙◌, ℕ, ◌+◌, ◌^◌, ltb, ◌||◌, not, false, if◌then◌else◌, Option, Some, None, refl, sym, ap, subst}
use Rattle.std.specs.Option.{option_map}
use Rattle.std.specs.FinMap.{get}
use Rattle.dav_key.specs.Key.{Key, parent}
use Rattle.dav_key.specs.Below.{is_at_or_below}
use Rattle.dav_resource.specs.declared.error.FsError.{FsError}
use Rattle.dav_resource.specs.declared.error.FsError.TheVariants as errors
use Rattle.dav_store.specs.Store.{Node}
use Rattle.dav_tree.specs.Memory.{Stored, Memory, fresh, copy_of, marked, made, without, copied, added, removed, marked_by_copy, copied_into, IsRenamed, IsRenamedAndMarked}
use Rattle.dav_tree.specs.MemoryCalls.{change_error, mark_error, member_error}
use Rattle.dav_tree.specs.MarkingLaws.{put-other, unmarked, marked-other}

-- the resource at this key is as it was
abbrev pub IsKept : Key → Memory → Memory → Type 0
IsKept key old new = get new.resources key ≡ get old.resources key

module _ (key other : Key) (apart : other ≢ key) (beside : other ≢ parent key) (old : Memory) where
  -- where something is created
  pub added-other : (node : Node) → IsKept other old (added key node old)
  added-other node =
      marked-other (parent key) (made key node old) other beside ∙ put-other old.resources key (Some (fresh node (old.version + 1) old.moment)) other apart

  -- where something is removed
  pub removed-other : IsKept other old (removed key old)
  removed-other = marked-other (parent key) (without key old) other beside ∙ put-other old.resources key None other apart

  -- where a file is copied to the key
  pub copied-other : (from : Key) → IsKept other old (copied_into from key old)
  copied-other from =
      by (get old.resources key)
      ∙ put-other old.resources key (option_map (copy_of (get old.resources key) (old.version + 1) old.moment) (get old.resources from)) other apart
    where
      by : (there : Option Stored) → get (marked_by_copy there key (copied from key old)).resources other ≡ get (copied from key old).resources other
      by None = marked-other (parent key) (copied from key old) other beside
      by (Some s) = refl

-- where something is renamed: at each key that is not at or below one of the two, and is not the parent of one
pub renamed-other : (from to : Key) (old new : Memory) → IsRenamedAndMarked from to old new → (other : Key) → is_at_or_below other from ≡ false → is_at_or_below other to ≡ false
    → other ≢ parent from → other ≢ parent to → IsKept other old new
renamed-other from to old new renamed other outside elsewhere left entered =
    ap (λ (m : Memory). get m.resources other) renamed.becomes
    ∙ marked-other (parent to) (marked (parent from) renamed.between) other entered
    ∙ marked-other (parent from) renamed.between other left
    ∙ renamed.renamed.resources.rest other outside elsewhere

-- ---- where directories are not marked

module _ (old : Memory) (off : old.marks ≡ false) where
  -- the calls change no more than the one resource
  pub added-off : (key : Key) (node : Node) → added key node old ≡ made key node old
  added-off key node = unmarked (parent key) (made key node old) off

  pub removed-off : (key : Key) → removed key old ≡ without key old
  removed-off key = unmarked (parent key) (without key old) off

  pub copied-off : (from to : Key) → copied_into from to old ≡ copied from to old
  copied-off from to = by (get old.resources to)
    where
      by : (there : Option Stored) → marked_by_copy there to (copied from to old) ≡ copied from to old
      by None = unmarked (parent to) (copied from to old) off
      by (Some s) = refl

  pub renamed-off : (from to : Key) (new : Memory) → IsRenamedAndMarked from to old new → IsRenamed from to old new
  renamed-off from to new r =
      let none = r.renamed.marks ∙ off in
      let left = unmarked (parent from) r.between none in
      subst (IsRenamed from to old) (sym (r.becomes ∙ ap (marked (parent to)) left ∙ unmarked (parent to) r.between none)) r.renamed

  -- and nothing is refused for the marks
  pub mark_error-off : (changes : ℕ) (error : Option FsError) → mark_error changes error old ≡ error
  mark_error-off changes (Some e) = refl
  mark_error-off changes None = ap (λ marks. if not marks || ltb (old.version + changes) (2 ^ 64) then None else Some errors.GeneralFailure) off

  pub member_error-off : (bar : Option FsError) → member_error bar old ≡ change_error bar old
  member_error-off bar = mark_error-off 2 (change_error bar old)
