-- COPY: its work.
use Rattle.std.proofs.Common.{◌≡◌, ◌≢◌, ◌∙◌, Bool, true, false, if◌then◌else◌, not, ◌||◌, List, [], Option, Some, None, is_some, Result, inl, inr, refl, sym, ap, append-nil, Bor, option_copied}
use Rattle.std.specs.FinMap.{get}
use Rattle.dav_key.specs.Key.{Key, parent}
use Rattle.dav_resource.specs.PathText.{PathValue}
use Rattle.dav_resource.specs.declared.error.DavError.{DavError}
use Rattle.dav_resource.specs.declared.meta.Meta.{Meta}
use Rattle.dav_resource.specs.declared.request.DavRequest.{DavRequest}
use Rattle.dav_resource.specs.declared.request.Depth.{Depth}
use Rattle.dav_resource.specs.declared.request.Depth.TheVariants.{Zero, One, Infinity, Default}
use Rattle.dav_key.specs.Below.{is_at_or_below}
use Rattle.dav_store.specs.BelowLaws.{at_or_below-append}
use Rattle.dav_store.specs.Logged.{Logged}
use Rattle.dav_store.specs.Store.{IsWellFormed}
use Rattle.dav_messages.specs.Multistatus.{Item}
use Rattle.dav_walks.specs.Copying.{HasRoom}
use Rattle.dav_walks.specs.Copied.{Copying, CopiesOrStops}
use Rattle.dav_walks.specs.CopyLaws.{whole_copy_in_part, copies_within}
use Rattle.dav_walks.specs.KeyCall.{standing}
use Rattle.dav_engine.specs.State.{State, Seen, state_of}
use Rattle.dav_engine.specs.Rules.{depth_or_all, is_directory, is_deep}
use Rattle.dav_engine.specs.Transferring.{ClearsIf, Names, NamesBy, source_path}
use Rattle.dav_engine.specs.Copy.{replaced, MayCopy, CopiesSource, CopiesSourceInPart, Copies, CopiesSoFar, CopyCut}
use Rattle.dav_engine.specs.declared.transfer.Transfer.{Transfer}
use Rattle.dav_engine.proofs.Deleting.{same_facts, same_locks}
use Rattle.dav_engine.proofs.Replacing.{apart_below, parent_apart, fits_some, clear_outside, clear_gone, IsWork, replacing_is_work, replaced_outside, replaced_part_outside}

-- ---- the source is copied

module _ (depth : Depth) (source destination : PathValue) (old mid : Seen) (had has : List Item) where
  pub source_copied : (answer : Result (Unit {0}) DavError) → Copying depth source destination destination.key old.store mid.store had has answer → mid.locks ≡ old.locks
      → Names (CopiesSource depth source destination) (CopiesSourceInPart depth source destination) old had has answer mid
  source_copied answer h locks = record { records = h.records; recorded = h.recorded; fixed = same_facts old mid h.fixed locks; done = by_end h.done }
    where
      by_end : CopiesOrStops depth source destination destination.key old.store.contents mid.store.contents h.records had has answer
          → NamesBy (CopiesSource depth source destination) (CopiesSourceInPart depth source destination) (state_of old) h.records had has answer (state_of mid)
      by_end (inl whole) = inl (whole.0, whole.1, record { copied = whole.2; locks = same_locks old mid locks }, whole.3)
      by_end (inr part) = inr (part.0, record { copied = part.1.part; locks = same_locks old mid locks })

-- what ended is more than what was broken off
source_in_part : (depth : Depth) (source destination : PathValue) (old new : State) (records : List Logged) (names : List Item) → CopiesSource depth source destination old records names new → CopiesSourceInPart depth source destination old records new
source_in_part depth source destination old new records names w = record { copied = whole_copy_in_part depth source destination destination.key old.contents new.contents records names w.copied; locks = w.locks }

-- ---- there is room, once the destination is cleared

reaches_deep : (depth : Depth) → depth ≢ Zero → is_deep depth ≡ true
reaches_deep Zero other = absurd (other refl)
reaches_deep One other = refl
reaches_deep Infinity other = refl
reaches_deep Default other = refl

pub replaced_deep : (depth : Depth) (there : Option Meta) → is_deep depth ≡ true → replaced depth there ≡ there
replaced_deep depth there deep = ap (λ b. if b || not (is_directory there) then there else None) deep

-- what is replaced was there
pub replaced_known : (depth : Depth) (there : Option Meta) (meta : Meta) → replaced depth there ≡ Some meta → there ≡ Some meta
replaced_known depth there meta is = by_test (is_deep depth || not (is_directory there)) is
  where
    by_test : (b : Bool) → (if b then there else None) ≡ Some meta → there ≡ Some meta
    by_test true e = e
    by_test false e = let no : None ≡ Some meta = e in absurd (cc)

-- whether a borrowed value is there is whether the value is
some_said : {A : Type 0} (lent : Option (Bor A)) (value : Option A) → option_copied lent ≡ value → is_some lent ≡ is_some value
some_said None value is = ap is_some is
some_said (Some lent) value is = ap is_some is

pub replaced_said : (depth : Depth) (lent looked : Option (Bor Meta)) (there : Option Meta) → option_copied lent ≡ replaced depth (option_copied looked) → option_copied looked ≡ there → is_some lent ≡ is_some (replaced depth there)
replaced_said depth lent looked there is known = some_said lent (replaced depth there) (is ∙ ap (replaced depth) known)

at_itself : (key : Key) → is_at_or_below key key ≡ true
at_itself key = ap (λ k. is_at_or_below k key) (sym (append-nil key)) ∙ at_or_below-append key []

pub still_room : (depth : Depth) (source : Key) (found : Transfer) (old mid : State) (head : List Logged) → IsWellFormed old.contents → MayCopy depth source found old.contents
    → ClearsIf (is_some (replaced depth found.there)) found.destination old head [] mid → depth ≢ Zero → HasRoom source found.destination.key found.destination.key mid.contents
still_room depth source found old mid head formed may cleared other =
    let to = found.destination.key in
    let deep = reaches_deep depth other in
    let apart = may.apart deep in
    let there = fits_some (get old.contents.tree source) (old.contents.metas source) found.meta (formed.metas source) may.source_there in
    let outside = clear_outside (is_some (replaced depth found.there)) found.destination old mid head [] cleared in
    let at_source : get mid.contents.tree source ≡ Some there.0 = ap (λ s. s.0) (outside source (apart_below source to apart)) ∙ there.1 in
    record {
      source = λ none. let no : Some there.0 ≡ None = sym at_source ∙ none in cc;
      free = clear_gone (replaced depth found.there) found.destination old mid head formed (may.known ∙ sym (replaced_deep depth found.there deep)) cleared;
      above = ap (λ s. s.0) (outside (parent to) (parent_apart source to apart)) ∙ may.above;
      within = at_itself to;
      apart = apart;
    }

-- ---- the work

pub copy_is_work : (request : DavRequest) (found : Transfer) → IsWork (Copies (depth_or_all request) (source_path request found) found) (CopyCut request found)
copy_is_work request found = by_depth (depth_or_all request) (source_path request found)
  where
    by_depth : (depth : Depth) (source : PathValue) → IsWork (Copies depth source found) (CopiesSoFar depth source found)
    by_depth depth source =
        replacing_is_work (CopiesSource depth source found.destination) (CopiesSourceInPart depth source found.destination) (is_some (replaced depth found.there)) found.destination (λ old new records names. source_in_part depth source found.destination old new records names)

-- ---- what it changes

module _ (depth : Depth) (source : PathValue) (found : Transfer) (old new : State) (records : List Logged) (q : Key) (outside : is_at_or_below q found.destination.key ≡ false) where
  source_outside : (mid : State) (rest : List Logged) → CopiesSourceInPart depth source found.destination mid rest new → standing new.contents q ≡ standing mid.contents q
  source_outside mid rest part = copies_within depth source found.destination found.destination.key mid.contents new.contents rest part.copied q (apart_below q found.destination.key outside)

  pub copied_outside : (names : List Item) → Copies depth source found old records names new → standing new.contents q ≡ standing old.contents q
  copied_outside names w =
      replaced_outside (is_some (replaced depth found.there)) found.destination old new records q outside (CopiesSource depth source found.destination) names w
      (λ mid rest follows. source_outside mid rest (source_in_part depth source found.destination mid new rest names follows))

  pub copied_part_outside : CopiesSoFar depth source found old records new → standing new.contents q ≡ standing old.contents q
  copied_part_outside w = replaced_part_outside (is_some (replaced depth found.there)) found.destination old new records q outside (CopiesSourceInPart depth source found.destination) w source_outside
