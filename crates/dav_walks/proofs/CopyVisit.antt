-- A copy goes on by one member.
use Rattle.std.proofs.Common.{◌≡◌, ◌≢◌, ◌<◌, ◌≤◌, ◌+◌, ◌*◌, ℕ, true, List, [], ◌∷◌, ◌++◌, Option, None, Some, Ok, Err, drop, length, refl, sym, ap, ◌∙◌, subst, inl, inr, arith, append_assoc}
use Rattle.std.proofs.lemmas.List.{append-nil, drop_more}
use Rattle.std.proofs.Math.Seq.{drop-length}
use Rattle.std.proofs.Math.ListN.{drop_of_length-le}
use Rattle.dav_key.specs.Key.{Key}
use Rattle.dav_resource.specs.PathText.{PathValue, IsSegment}
use Rattle.dav_resource.specs.declared.meta.DirEntry.{DirEntry}
use Rattle.dav_resource.specs.declared.record.Op.TheVariants.{Metadata}
use Rattle.dav_resource.specs.declared.request.Depth.TheVariants.{Infinity}
use Rattle.dav_store.specs.Store.{Store, IsWellFormed}
use Rattle.dav_store.specs.Members.{IsIn, member}
use Rattle.dav_walks.specs.declared.copy_frame.CopyFrame.{CopyFrame}
use Rattle.dav_walks.specs.Deletion.{path_at}
use Rattle.dav_walks.specs.Frames.{path_of_entry}
use Rattle.dav_walks.specs.Copying.{snapshot, IsAsked, HasRoom}
use Rattle.dav_walks.specs.CopyFrames.{EntersCopy, IsCutCopy, IsNextOf, VisitsMember, unshown, skipped, entered, IsCutMember, BreaksOffCopy, CopiesWhole}
use Rattle.dav_walks.proofs.Keys.{IsIn-left}
use Rattle.dav_walks.proofs.Listings.{Shown}
use Rattle.dav_walks.proofs.Single.{Names}
use Rattle.dav_walks.proofs.Paths.{path_at-itself, path_of_member}
use Rattle.dav_walks.specs.Counting.{count_below}
use Rattle.dav_walks.proofs.Counting.{counts_itself, total-cons}
use Rattle.dav_walks.proofs.CopyGrow.{Steps}
use Rattle.dav_walks.proofs.CopyReach.{Reached}
use Rattle.dav_walks.proofs.CopyRoom.{snap_there}
use Rattle.dav_walks.proofs.CopyEnter.{path_at-key, kind_present, InHand, Opens, rest, Went}
use Rattle.dav_walks.proofs.CopyWent.{went, went_cut}
use Rattle.dav_walks.proofs.CopyState as state
use Rattle.dav_walks.proofs.CopyState.{Waits, IsOpen, open_key, with_opened, Underway}
use Rattle.dav_walks.proofs.CopySteps as steps_of
use Rattle.dav_walks.proofs.CopySteps.{own}
use Rattle.dav_walks.proofs.CopyTheorem.{whole, breaks_off}
use Rattle.dav_walks.proofs.CopyMeasure.{copy_left, copies_left, all_keys, one_less, none_left, waits_among, opened_less}

-- between two members of open directories, and the source was looked at
pub record Going (source dest : PathValue) (top : Key) (old mid : Store) (had has : Names) (frames : List CopyFrame) : Type 0 where
  pub steps : Steps
  pub underway : Underway source dest top old mid had has steps frames []
  pub begun : IsAsked Metadata [] steps

abbrev pub left : Key → Store → List CopyFrame → ℕ
left top old frames = copies_left (all_keys top old.contents.tree) frames

pub next_rest : (frame : CopyFrame) (shown : Shown) → IsNextOf frame shown → rest frame ≡ shown ∷ drop (frame.next + 1) frame.listing.items
next_rest frame shown next = drop_more frame.listing.items frame.next shown next.0 ∙ ap (λ (s : Shown). s ∷ drop (frame.next + 1) frame.listing.items) next.1

module _ (source dest : PathValue) {top : Key} {old mid : Store} {had has : Names} {frame : CopyFrame} {frames : List CopyFrame}
    (room : HasRoom source.key top dest.key old.contents) (formed : IsWellFormed old.contents) (sound : IsWellFormed mid.contents) (going : Going source dest top old mid had has (frame ∷ frames)) where
  open going use {underway}

  abbrev mine : IsOpen source dest top (snapshot old.contents.tree source.key top) going.steps frame
  mine = own source dest underway

  abbrev after : CopyFrame
  after = record frame { next = frame.next + 1 }

  -- a listing's names may stand in a path
  pub next_segment : (entry : DirEntry) → IsNextOf frame (Ok entry) → IsSegment entry.name
  next_segment entry next = (mine.waits entry (subst (IsIn {X = Shown} (Ok entry)) (sym (next_rest frame (Ok entry) next)) (inl refl))).segment

  member_key : (n : List ℕ) → member frame.source.key n ≡ source.key ++ member mine.at n
  member_key n = ap (λ k. member k n) (open_key mine) ∙ append_assoc source.key mine.at (n ∷ [])

  -- a member that is shown
  module _ (entry : DirEntry) (next : IsNextOf frame (Ok entry)) where
    there : rest frame ≡ Ok entry ∷ drop (frame.next + 1) frame.listing.items
    there = next_rest frame (Ok entry) next

    waits : Waits source top (snapshot old.contents.tree source.key top) going.steps mine.at entry
    waits = steps_of.first_waits source dest underway after refl refl entry there

    key_among : IsIn (member frame.source.key entry.name) (all_keys top old.contents.tree)
    key_among = subst (λ k. IsIn (member k entry.name) (all_keys top old.contents.tree)) (sym (open_key mine)) (waits_among source dest room going.steps mine.at entry waits)

    less_by : left top old (frame ∷ frames) ≡ 2 * count_below (member frame.source.key entry.name) (all_keys top old.contents.tree) + left top old (after ∷ frames)
    less_by = one_less (all_keys top old.contents.tree) frame after (Ok entry) frames refl there

    shorter : left top old (after ∷ frames) < left top old (frame ∷ frames)
    shorter =
        let count : 1 ≤ count_below (member frame.source.key entry.name) (all_keys top old.contents.tree) = counts_itself _ _ key_among in
        omega (arith, less_by)

    module _ (other : member frame.source.key entry.name ≢ top) where
      outside : member (source.key ++ mine.at) entry.name ≢ top
      outside e = other (ap (λ k. member k entry.name) (open_key mine) ∙ e)

      taken : Underway source dest top old mid had has going.steps (after ∷ frames) (member mine.at entry.name ∷ [])
      taken = steps_of.taken source dest underway after refl refl entry there

      abbrev hand : InHand (snapshot old.contents.tree source.key top) going.steps (member mine.at entry.name)
      hand = steps_of.taken_hand source dest underway after refl refl entry there outside

      -- the paths of the member and its place
      source_path : path_of_entry frame.source entry ≡ path_at source entry.meta.dir (source.key ++ member mine.at entry.name)
      source_path = (path_of_member source frame.source entry (record { below = mine.at; key = open_key mine; is = mine.source_at ∙ ap (path_at source true) (sym (open_key mine)) })).is ∙ ap (path_at source entry.meta.dir) (member_key entry.name)

      dest_key : frame.dest.key ≡ dest.key ++ mine.at
      dest_key = ap (λ (v : PathValue). v.key) mine.dest_at ∙ path_at-key dest true (dest.key ++ mine.at)

      dest_path : path_of_entry frame.dest entry ≡ path_at dest entry.meta.dir (dest.key ++ member mine.at entry.name)
      dest_path = (path_of_member dest frame.dest entry (record { below = mine.at; key = dest_key; is = mine.dest_at ∙ ap (path_at dest true) (sym dest_key) })).is
          ∙ ap (path_at dest entry.meta.dir) (ap (λ k. member k entry.name) dest_key ∙ append_assoc dest.key mine.at (entry.name ∷ []))

      member_cut : (new : Store) → new.facts ≡ old.facts → IsCutCopy (path_of_entry frame.source entry) (path_of_entry frame.dest entry) mid new → BreaksOffCopy Infinity source dest top old new had has
      member_cut new fixed cut =
          let c = went_cut source dest room formed underway.reached sound hand (path_of_entry frame.source entry) (path_of_entry frame.dest entry) source_path dest_path new cut in
          breaks_off underway new fixed c.0 c.1 c.2

      module _ (new : Store) (sound_new : IsWellFormed new.contents) (finally : Names) (opened : Option CopyFrame) (enters : EntersCopy (path_of_entry frame.source entry) (path_of_entry frame.dest entry) mid new has finally opened) where
        came : Went source dest top old new has finally going.steps (member mine.at entry.name) opened
        came = went source dest room formed underway.reached sound hand (path_of_entry frame.source entry) (path_of_entry frame.dest entry) source_path dest_path new has finally opened enters

        member_going : Going source dest top old new had finally (with_opened opened (after ∷ frames))
        member_going = record {
          steps = going.steps ++ came.more;
          underway = state.entered source dest room formed taken hand (steps_of.taken_beside source dest underway after refl refl entry there) came sound_new;
          begun = (going.begun.0, IsIn-left _ going.steps came.more going.begun.1);
        }

        member_less : (o : Option CopyFrame) → Opens source dest new.contents (member mine.at entry.name) came.more o → left top old (with_opened o (after ∷ frames)) < left top old (frame ∷ frames)
        member_less None opens = shorter
        member_less (Some inner) opens =
            let key : source.key ++ member mine.at entry.name ≡ member frame.source.key entry.name = sym (member_key entry.name) in
            let fewer : copy_left (all_keys top old.contents.tree) inner < 2 * count_below (source.key ++ member mine.at entry.name) (all_keys top old.contents.tree)
            = opened_less source dest room (going.steps ++ came.more) came.more new.contents (member mine.at entry.name) inner came.reached.sound (snap_there old.contents.tree source.key top _ (kind_present entry.meta.dir _ (waits.kind outside))).0
            (subst (λ k. IsIn k (all_keys top old.contents.tree)) (sym key) key_among) opens in
            let same : count_below (source.key ++ member mine.at entry.name) (all_keys top old.contents.tree) ≡ count_below (member frame.source.key entry.name) (all_keys top old.contents.tree) = ap (λ k. count_below k (all_keys top old.contents.tree)) key in
            omega (arith, less_by, total-cons (copy_left (all_keys top old.contents.tree)) inner (after ∷ frames))

  -- the walk goes on, and there is less to do
  abbrev pub GoesOn : Store → Names → Option CopyFrame → CopyFrame → Type 0
  GoesOn new finally opened then = Going source dest top old new had finally (with_opened opened (then ∷ frames)) × (left top old (with_opened opened (then ∷ frames)) < left top old (frame ∷ frames))

  pub visited : (new : Store) → IsWellFormed new.contents → (finally : Names) (then : CopyFrame) (opened : Option CopyFrame) → VisitsMember frame top then mid new has finally opened → GoesOn new finally opened then
  visited new sound_new finally then opened (unshown e next same appended is) =
      subst (GoesOn new finally None) (sym is) (subst (λ (s : Store). GoesOn s finally None (record frame { next = length frame.listing.items })) (sym same) (
        record { steps = going.steps; underway = steps_of.unshown source dest underway (record frame { next = length frame.listing.items }) refl refl e _ (next_rest frame (Err e) next) (drop-length frame.listing.items) finally appended; begun = going.begun },
        none_left (all_keys top old.contents.tree) frame (record frame { next = length frame.listing.items }) e _ frames (next_rest frame (Err e) next) (drop-length frame.listing.items),
      ))
  visited new sound_new finally then opened (skipped entry next at_top same appended is) =
      subst (GoesOn new finally None) (sym is) (subst (λ (s : Store). GoesOn s finally None after) (sym same) (subst (λ (ns : Names). GoesOn mid ns None after) (sym appended) (
        record { steps = going.steps; underway = steps_of.skipped source dest underway after refl refl entry (there entry next) at_top; begun = going.begun },
        shorter entry next,
      )))
  visited new sound_new finally then opened (entered entry o next other enters is) =
      subst (GoesOn new finally o) (sym is) (member_going entry next other new sound_new finally o enters, member_less entry next other new sound_new finally o enters o (came entry next other new sound_new finally o enters).opens)

  -- memory was lacking
  pub visit_cut : (new : Store) → new.facts ≡ old.facts → IsCutMember frame top mid new → BreaksOffCopy Infinity source dest top old new had has
  visit_cut new fixed (inl same) = breaks_off underway new fixed [] (subst (λ (t : Store). Reached source.key top dest.key old t (going.steps ++ [])) (sym same) (subst (Reached source.key top dest.key old mid) (sym (append-nil going.steps)) underway.reached)) (λ appended. refl)
  visit_cut new fixed (inr (entry, next, other, cut)) = member_cut entry next other new fixed cut

-- ---- the begin, and the end

pub going_off : {source dest : PathValue} {top : Key} {old mid : Store} {had has : Names} {frames : List CopyFrame} → Going source dest top old mid had has frames → mid.facts ≡ old.facts → BreaksOffCopy Infinity source dest top old mid had has
going_off {source} {dest} {top} {old} {mid} going fixed = breaks_off going.underway mid fixed [] (subst (Reached source.key top dest.key old mid) (sym (append-nil going.steps)) going.underway.reached) (λ appended. refl)

pub none_next : (frame : CopyFrame) → length frame.listing.items ≤ frame.next → rest frame ≡ []
none_next frame short = drop_of_length-le frame.listing.items short

module _ (source dest : PathValue) (top : Key) (old : Store) (had : Names) (room : HasRoom source.key top dest.key old.contents) (formed : IsWellFormed old.contents) (from to : PathValue) (is_source : from ≡ source) (is_dest : to ≡ dest) where
  hand_first : InHand (snapshot old.contents.tree source.key top) [] []
  hand_first = steps_of.begins_hand source dest top old had room

  first_source : from ≡ path_at source hand_first.slash (source.key ++ [])
  first_source = is_source ∙ sym (ap (path_at source hand_first.slash) (append-nil source.key) ∙ path_at-itself source hand_first.slash)

  first_dest : to ≡ path_at dest hand_first.slash (dest.key ++ [])
  first_dest = is_dest ∙ sym (ap (path_at dest hand_first.slash) (append-nil dest.key) ∙ path_at-itself dest hand_first.slash)

  begins : Underway source dest top old old had had [] [] ([] ∷ [])
  begins = steps_of.begins source dest top old had room

  pub begun : (new : Store) → IsWellFormed new.contents → (has : Names) (opened : Option CopyFrame) → EntersCopy from to old new had has opened → Going source dest top old new had has (with_opened opened [])
  begun new sound has opened enters =
      let came : Went source dest top old new had has [] [] opened = went source dest room formed begins.reached formed hand_first from to first_source first_dest new had has opened enters in
      record { steps = came.more; underway = state.entered source dest room formed begins hand_first (steps_of.begins_beside source dest top old had room) came sound; begun = came.asked }

  pub begun_cut : (new : Store) → new.facts ≡ old.facts → IsCutCopy from to old new → BreaksOffCopy Infinity source dest top old new had had
  begun_cut new fixed cut =
      let c = went_cut source dest room formed begins.reached formed hand_first from to first_source first_dest new cut in
      breaks_off begins new fixed c.0 c.1 c.2

pub going_over : (source dest : PathValue) (top : Key) (old mid : Store) (had has : Names) → IsWellFormed old.contents → Going source dest top old mid had has [] → mid.facts ≡ old.facts → CopiesWhole Infinity source dest top old mid had has
going_over source dest top old mid had has formed going fixed = whole source dest top old mid had has going.steps formed going.underway fixed going.begun

pub going_back : {source dest : PathValue} {top : Key} {old mid : Store} {had has : Names} {frame : CopyFrame} {frames : List CopyFrame} → Going source dest top old mid had has (frame ∷ frames) → length frame.listing.items ≤ frame.next
    → Going source dest top old mid had has frames
going_back {source} {dest} {frame = frame} going done = record { steps = going.steps; underway = steps_of.closed source dest going.underway (none_next frame done); begun = going.begun }

pub back_to : {source dest : PathValue} {top : Key} {old mid : Store} {had has : Names} {frames others : List CopyFrame} → frames ≡ others → Going source dest top old mid had has frames → Going source dest top old mid had has others
back_to {source} {dest} {top} {old} {mid} {had} {has} same going = subst (Going source dest top old mid had has) same going

pub unbegun : (source dest : PathValue) (top : Key) (old : Store) (had : Names) → HasRoom source.key top dest.key old.contents → BreaksOffCopy Infinity source dest top old old had had
unbegun source dest top old had room =
    let none = steps_of.begins source dest top old had room in
    breaks_off none old refl [] none.reached (λ appended. refl)
