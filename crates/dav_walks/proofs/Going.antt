-- How far a walk by a list of directories has come.
use Rattle.std.proofs.Common.{◌≡◌, ◌≢◌, ◌⊎◌, ◌≤◌, ◌<◌, ◌+◌, ◌*◌, ℕ, Bool, true, false, List, [], ◌∷◌, ◌++◌, length, get_or, map, drop, reverse, None, Some, Ok, Err, refl, sym, ap, ◌∙◌, subst, inl, inr, arith}
use Rattle.std.specs.Prelude.{◌&&◌}
use Rattle.std.specs.FinMap.{get, keys}
use Rattle.std.proofs.lemmas.List.{append-nil, reverse-append, drop_more}
use Rattle.dav_key.specs.Key.{Key}
use Rattle.dav_resource.specs.PathText.{PathValue, IsSegment}
use Rattle.dav_resource.specs.Errors.{fs_status}
use Rattle.dav_resource.specs.declared.meta.DirEntry.{DirEntry}
use Rattle.dav_resource.specs.declared.error.FsError.{FsError}
use Rattle.dav_store.specs.Store.{Store, Tree, Directory, IsWellFormed}
use Rattle.dav_store.specs.Members.{IsIn, member, Child, names_of}
use Rattle.dav_walks.specs.declared.frame.Frame.{Frame}
use Rattle.dav_walks.specs.declared.frame.Entered.TheVariants.{Over, Opened}
use Rattle.dav_walks.specs.Trace.{HasKind, Walks, Halts}
use Rattle.dav_walks.specs.Frames.{IsCut, OpensFrame, entering_call, Enters, path_of_entry}
use Rattle.dav_walks.proofs.Among.{stands_among}
use Rattle.dav_walks.specs.Counting.{total, count_below}
use Rattle.dav_walks.proofs.Counting.{total-cons, total-append, total-nil, children_count, counts_itself}
use Rattle.dav_walks.proofs.Halting.{walk_halts, nothing_halts}
use Rattle.dav_walks.proofs.Listings.{Shown, shrinks, children_once, children_there, IsIn-name}
use Rattle.dav_walks.proofs.Listed.{Listed, entry_is_there, entry_is_segment, listed_none, listed_child, listed_unseen}
use Rattle.dav_walks.proofs.Paths.{IsAt, path_itself, path_of_member}
use Rattle.dav_walks.proofs.Single.{Names, kind_there, file_removed, file_kept, listing_refused}

-- ---- the begin of a path's walk

module _ (path value : PathValue) (old new : Store) (had has : Names) (formed : IsWellFormed old.contents) (sound : IsWellFormed new.contents) where
  -- a walk that is over at once
  pub entered_over : (dir clean : Bool) → IsAt path dir value → HasKind dir (get old.contents.tree value.key) → Enters dir value old new had has (Over clean)
      → Walks path old.contents new.contents old.log new.log had has value.key clean
  entered_over false true at_path is (g, same) = subst (λ l. Walks path old.contents new.contents old.log new.log had l value.key true) (sym same) (file_removed path old new value.key formed had sound is g)
  entered_over false false at_path is r = file_kept path old new value.key formed had has r.error is r.declined (r.named ∙ ap (λ v. had ++ (v, fs_status r.error) ∷ []) at_path.is)
  entered_over true clean at_path is (unclean, r) = subst (λ b. Walks path old.contents new.contents old.log new.log had has value.key b) (sym unclean)
      (listing_refused path old new value.key formed had has r.error is r.declined (r.named ∙ ap (λ v. had ++ (v, fs_status r.error) ∷ []) at_path.is))

  -- and one that was cut at its first call
  pub entering_cut : (dir : Bool) → IsAt path dir value → HasKind dir (get old.contents.tree value.key) → IsCut (entering_call dir old.contents value.key) old new
      → Halts path old.contents new.contents old.log new.log had had value.key
  entering_cut dir at_path is (inl same) = subst (λ (s : Store). Halts path old.contents s.contents old.log s.log had had value.key) (sym same) (nothing_halts path old.contents old.log had value.key formed)
  entering_cut false at_path is (inr d) = walk_halts (file_kept path old new value.key formed had _ d.0 is d.1 refl) [] _ had (sym (append-nil had)) refl
  entering_cut true at_path is (inr d) = walk_halts (listing_refused path old new value.key formed had _ d.0 is d.1 refl) [] _ had (sym (append-nil had)) refl

-- ---- the state of the walk

-- the directory's walk after i entries, from its start
pub record Halfway (path : PathValue) (start : Store) (held : Names) (new : Store) (names : Names) (frame : Frame) (i : ℕ) : Type 0 where
  pub at_path : IsAt path true frame.path
  pub so_far : Listed path start new held names frame.path.key frame.listing.items i frame.clean

-- the frame waits for the walk of a member k, which begins with this store and these names
pub record Waits (path : PathValue) (old start : Store) (held : Names) (new : Store) (names : Names) (frame : Frame) (k : Key) : Type 0 where
  pub place : ℕ
  pub next : frame.next ≡ place + 1
  pub small : place < length frame.listing.items
  pub default : Shown
  pub entry : DirEntry
  pub shown : get_or frame.listing.items place default ≡ Ok entry
  pub key : k ≡ member frame.path.key entry.name
  pub half : Halfway path start held new names frame place
  pub began : (q : Key) → get start.contents.tree q ≢ None → get old.contents.tree q ≢ None

-- The frames wait for each other, the innermost first, and that one for k.
abbrev pub Suspended : List Frame → PathValue → Store → Names → Store → Names → Key → Type 0
Suspended [] path old had new names k = (k ≡ path.key) × (new ≡ old) × (names ≡ had)
Suspended (frame ∷ frames) path old had new names k =
    (start : Store) × (held : Names) × Waits path old start held new names frame k × Suspended frames path old had start held frame.path.key

pub record Going (path : PathValue) (old new : Store) (had names : Names) (frame : Frame) (parents : List Frame) : Type 0 where
  pub start : Store
  pub held : Names
  pub half : Halfway path start held new names frame frame.next
  pub suspended : Suspended (reverse parents) path old had start held frame.path.key
  pub began : (q : Key) → get start.contents.tree q ≢ None → get old.contents.tree q ≢ None

-- what is left to do, by the keys of the old tree
abbrev pub entry_left : List Key → Key → Shown → ℕ
entry_left ks k (Ok entry) = 2 * count_below (member k entry.name) ks
entry_left ks k (Err error) = 1

abbrev pub frame_left : List Key → Frame → ℕ
frame_left ks frame = total (entry_left ks frame.path.key) (drop frame.next frame.listing.items) + 1

abbrev pub work_left : Tree → Frame → List Frame → ℕ
work_left old frame parents = frame_left (keys old) frame + total (frame_left (keys old)) parents

pub total-one : {X : Type 0} (f : X → ℕ) (x : X) → total f (x ∷ []) ≡ f x
total-one f x = omega (arith, total-cons f x [], total-nil f)

pub both_clean : (a b : Bool) → (a && b) ≡ true → (a ≡ true) × (b ≡ true)
both_clean true b e = (refl, e)
both_clean false b e = let p : false ≡ true = e in absurd (cc)

pub one_unclean : (a b : Bool) → (a && b) ≡ false → (a ≡ false) ⊎ (b ≡ false)
one_unclean true b e = inr e
one_unclean false b e = inl refl

-- before the first entry of a directory that was opened
opened_half : (path value : PathValue) (mid new : Store) (names finally : Names) (frame : Frame) → IsWellFormed mid.contents → IsAt path true value → get mid.contents.tree value.key ≡ Some Directory
    → OpensFrame value mid new names finally frame → Halfway path mid names new finally frame frame.next
opened_half path value mid new names finally frame formed at_path directory opens = record {
  at_path = subst (IsAt path true) (sym opens.at_path) at_path;
  so_far = subst (λ n. Listed path mid new names finally frame.path.key frame.listing.items n frame.clean) (sym opens.first)
      (subst (λ b. Listed path mid new names finally frame.path.key frame.listing.items 0 b) (sym opens.untouched)
      (subst (λ l. Listed path mid new names l frame.path.key frame.listing.items 0 true) (sym opens.unnamed)
      (subst (λ (v : PathValue). Listed path mid new names names v.key frame.listing.items 0 true) (sym opens.at_path)
      (listed_none path mid new names value.key frame.listing.items formed directory opens.lists))));
}

entered_opened : (value : PathValue) (old new : Store) (had has : Names) (frame : Frame) (dir : Bool) → Enters dir value old new had has (Opened frame) → (dir ≡ true) × OpensFrame value old new had has frame
entered_opened value old new had has frame true opens = (refl, opens)
entered_opened value old new had has frame false none = absurd none

-- the deletion's own path is entered
module _ (path value : PathValue) (old new : Store) (had has : Names) (formed : IsWellFormed old.contents) (sound : IsWellFormed new.contents) (own : value ≡ path) (dir : Bool) (is : HasKind dir (get old.contents.tree path.key)) where
  at_itself : IsAt path dir value
  at_itself = subst (IsAt path dir) (sym own) (path_itself path dir)

  key_itself : value.key ≡ path.key
  key_itself = ap (λ (v : PathValue). v.key) own

  kind_itself : HasKind dir (get old.contents.tree value.key)
  kind_itself = subst (λ k. HasKind dir (get old.contents.tree k)) (sym key_itself) is

  pub begins_over : (clean : Bool) → Enters dir value old new had has (Over clean) → Walks path old.contents new.contents old.log new.log had has path.key clean
  begins_over clean enters = subst (λ k. Walks path old.contents new.contents old.log new.log had has k clean) key_itself (entered_over path value old new had has formed sound dir clean at_itself kind_itself enters)

  pub begins_cut : IsCut (entering_call dir old.contents value.key) old new → Halts path old.contents new.contents old.log new.log had had path.key
  begins_cut cut = subst (λ k. Halts path old.contents new.contents old.log new.log had had k) key_itself (entering_cut path value old new had has formed sound dir at_itself kind_itself cut)

  pub going_begins : (frame : Frame) → Enters dir value old new had has (Opened frame) → Going path old new had has frame []
  going_begins frame enters =
      let opened = entered_opened value old new had has frame dir enters in
      record {
        start = old;
        held = had;
        half = opened_half path value old new had has frame formed (subst (λ b. IsAt path b value) opened.0 at_itself) (subst (λ b. HasKind b (get old.contents.tree value.key)) opened.0 kind_itself) opened.1;
        suspended = (ap (λ (v : PathValue). v.key) (opened.1.at_path ∙ own), refl, refl);
        began = λ q there. there;
      }

-- a key of the present tree is one of the old
module _ {path : PathValue} {old mid : Store} {had names : Names} {frame : Frame} {parents : List Frame} (going : Going path old mid had names frame parents) where
  open going use {half}

  still_there : (q : Key) → get mid.contents.tree q ≢ None → get old.contents.tree q ≢ None
  still_there q there = going.began q (shrinks half.so_far.came.is_kept q there)

  counted : (k : Key) → get mid.contents.tree k ≢ None → 1 ≤ count_below k (keys old.contents.tree)
  counted k there = counts_itself k (keys old.contents.tree) (stands_among old.contents.tree k (still_there k there))

  module _ (small : frame.next < length frame.listing.items) (d : Shown) where
    step_left : (s : Shown) (clean : Bool) → get_or frame.listing.items frame.next d ≡ s
        → frame_left (keys old.contents.tree) frame ≡ entry_left (keys old.contents.tree) frame.path.key s + frame_left (keys old.contents.tree) (record frame { next = frame.next + 1; clean = clean })
    step_left s clean is =
        let cut : drop frame.next frame.listing.items ≡ s ∷ drop (frame.next + 1) frame.listing.items = drop_more frame.listing.items frame.next d small ∙ ap (λ (e : Shown). e ∷ drop (frame.next + 1) frame.listing.items) is in
        let sum : total (entry_left (keys old.contents.tree) frame.path.key) (drop frame.next frame.listing.items) ≡ entry_left (keys old.contents.tree) frame.path.key s + total (entry_left (keys old.contents.tree) frame.path.key) (drop (frame.next + 1) frame.listing.items)
        = ap (total (entry_left (keys old.contents.tree) frame.path.key)) cut ∙ total-cons _ s _ in
        omega arith

    -- an entry that wasn't shown
    pub going_unseen : (finally : Names) (error : FsError) → get_or frame.listing.items frame.next d ≡ Err error → finally ≡ names ++ (frame.path, fs_status error) ∷ []
        → Going path old mid had finally (record frame { next = frame.next + 1; clean = false }) parents
    going_unseen finally error is named = record {
      start = going.start;
      held = going.held;
      half = record { at_path = half.at_path; so_far = listed_unseen half.so_far small d error is (named ∙ ap (λ v. names ++ (v, fs_status error) ∷ []) half.at_path.is) };
      suspended = going.suspended;
      began = going.began;
    }

    pub unseen_smaller : (error : FsError) → get_or frame.listing.items frame.next d ≡ Err error → work_left old.contents.tree (record frame { next = frame.next + 1; clean = false }) parents < work_left old.contents.tree frame parents
    unseen_smaller error is = omega (arith, step_left (Err error) false is)

    module _ (entry : DirEntry) (is : get_or frame.listing.items frame.next d ≡ Ok entry) where
      pub going_segment : IsSegment entry.name
      going_segment = entry_is_segment half.so_far small d entry is

      going_is_there : HasKind entry.meta.dir (get mid.contents.tree (member frame.path.key entry.name))
      going_is_there = entry_is_there half.so_far small d entry is

      there : get mid.contents.tree (member frame.path.key entry.name) ≢ None
      there = kind_there entry.meta.dir _ going_is_there

      module _ (value : PathValue) (at_member : value ≡ path_of_entry frame.path entry) where
        pub at_value : IsAt path entry.meta.dir value
        at_value = subst (IsAt path entry.meta.dir) (sym at_member) (path_of_member path frame.path entry half.at_path)

        pub key_of : value.key ≡ member frame.path.key entry.name
        key_of = ap (λ (v : PathValue). v.key) at_member

        pub kind_of : HasKind entry.meta.dir (get mid.contents.tree value.key)
        kind_of = subst (λ (k : Key). HasKind entry.meta.dir (get mid.contents.tree k)) (sym key_of) going_is_there

        -- a member whose walk is over
        pub going_child : (new : Store) (finally : Names) (ok : Bool) → IsWellFormed new.contents → Enters entry.meta.dir value mid new names finally (Over ok)
            → Going path old new had finally (record frame { next = frame.next + 1; clean = frame.clean && ok }) parents
        going_child new finally ok sound enters = record {
          start = going.start;
          held = going.held;
          half = record { at_path = half.at_path; so_far = listed_child half.so_far small d entry is walks (both_clean frame.clean ok) (one_unclean frame.clean ok) };
          suspended = going.suspended;
          began = going.began;
        }
          where
            walks : Walks path mid.contents new.contents mid.log new.log names finally (member frame.path.key entry.name) ok
            walks = subst (λ k. Walks path mid.contents new.contents mid.log new.log names finally k ok) key_of
                (entered_over path value mid new names finally half.so_far.came.well_formed sound entry.meta.dir ok at_value kind_of enters)

        pub child_smaller : (clean : Bool) → work_left old.contents.tree (record frame { next = frame.next + 1; clean = clean }) parents < work_left old.contents.tree frame parents
        child_smaller clean =
            let count : 1 ≤ count_below (member frame.path.key entry.name) (keys old.contents.tree) = counted (member frame.path.key entry.name) there in
            omega (arith, step_left (Ok entry) clean is)

        module _ (new : Store) (finally : Names) (inner : Frame) (enters : Enters entry.meta.dir value mid new names finally (Opened inner)) where
          is_directory : entry.meta.dir ≡ true
          is_directory = (entered_opened value mid new names finally inner entry.meta.dir enters).0

          opens : OpensFrame value mid new names finally inner
          opens = (entered_opened value mid new names finally inner entry.meta.dir enters).1

          pub inside : Halfway path mid names new finally inner inner.next
          inside = opened_half path value mid new names finally inner half.so_far.came.well_formed (subst (λ b. IsAt path b value) is_directory at_value) (subst (λ b. HasKind b (get mid.contents.tree value.key)) is_directory kind_of) opens

          pub inner_key : inner.path.key ≡ member frame.path.key entry.name
          inner_key = ap (λ (v : PathValue). v.key) opens.at_path ∙ key_of

          -- a member that is walked from here on
          pub going_opened : Going path old new had finally inner (parents ++ record frame { next = frame.next + 1 } ∷ [])
          going_opened = record {
            start = mid;
            held = names;
            half = inside;
            suspended = subst (λ (fs : List Frame). Suspended fs path old had mid names inner.path.key) (sym (reverse-append parents (record frame { next = frame.next + 1 } ∷ []))) (
              going.start,
              going.held,
              record {
                place = frame.next;
                next = refl;
                small = small;
                default = d;
                entry = entry;
                shown = is;
                key = inner_key;
                half = record { at_path = half.at_path; so_far = half.so_far };
                began = going.began;
              },
              going.suspended,
            );
            began = still_there;
          }

          -- the members of a directory have less to do than it
          inner_left : (k : Key) (cs : List Child) → ((c : Child) → IsIn c cs → (get mid.contents.tree (member k c.0) ≢ None) × ((e : DirEntry) → c.1 ≡ Ok e → e.name ≡ c.0))
              → total (entry_left (keys old.contents.tree) k) (map (λ c. c.1) cs) ≤ 2 * total (λ n. count_below (member k n) (keys old.contents.tree)) (names_of cs)
          inner_left k [] so = omega (arith, total-nil (entry_left (keys old.contents.tree) k))
          inner_left k ((n, Ok e) ∷ cs) so =
              let same : count_below (member k e.name) (keys old.contents.tree) ≡ count_below (member k n) (keys old.contents.tree) = ap (λ m. count_below (member k m) (keys old.contents.tree)) ((so (n, Ok e) (inl refl)).1 e refl) in
              omega (arith, inner_left k cs (λ c i. so c (inr i)), total-cons (entry_left (keys old.contents.tree) k) (Ok e) (map (λ c. c.1) cs), total-cons (λ m. count_below (member k m) (keys old.contents.tree)) n (names_of cs))
          inner_left k ((n, Err error) ∷ cs) so =
              let count : 1 ≤ count_below (member k n) (keys old.contents.tree) = counted (member k n) ((so (n, Err error) (inl refl)).0) in
              omega (arith, inner_left k cs (λ c i. so c (inr i)), total-cons (entry_left (keys old.contents.tree) k) (Err error) (map (λ c. c.1) cs), total-cons (λ m. count_below (member k m) (keys old.contents.tree)) n (names_of cs))

          pub opened_smaller : work_left old.contents.tree inner (parents ++ record frame { next = frame.next + 1 } ∷ []) < work_left old.contents.tree frame parents
          opened_smaller =
              let ks = keys old.contents.tree in
              let k = value.key in
              let all : total (entry_left ks inner.path.key) (drop inner.next inner.listing.items) ≡ total (entry_left ks k) (map (λ c. c.1) opens.lists.children)
              = (λ i. total (entry_left ks ((opens.at_path i).key)) (drop (opens.first i) (opens.lists.listed i))) in
              let within : total (entry_left ks k) (map (λ c. c.1) opens.lists.children) ≤ 2 * total (λ n. count_below (member k n) ks) (names_of opens.lists.children)
              = inner_left k opens.lists.children (λ c i. (children_there mid.contents k opens.lists.children opens.lists.are c.0 (IsIn-name c opens.lists.children i), named_as c i)) in
              let most : total (λ n. count_below (member k n) ks) (names_of opens.lists.children) + 1 ≤ count_below k ks
              = children_count k (names_of opens.lists.children) ks (children_once mid.contents k opens.lists.children opens.lists.are) (stands_among old.contents.tree k (still_there k (kind_there entry.meta.dir _ kind_of))) in
              let same : count_below k ks ≡ count_below (member frame.path.key entry.name) ks = ap (λ j. count_below j ks) key_of in
              let more : total (frame_left ks) (parents ++ record frame { next = frame.next + 1 } ∷ []) ≡ total (frame_left ks) parents + total (frame_left ks) (record frame { next = frame.next + 1 } ∷ []) = total-append (frame_left ks) parents _ in
              let last : total (frame_left ks) (record frame { next = frame.next + 1 } ∷ []) ≡ frame_left ks (record frame { next = frame.next + 1 }) = total-one _ _ in
              omega (arith, step_left (Ok entry) frame.clean is)
            where
              named_as : (c : Child) → IsIn c opens.lists.children → (e : DirEntry) → c.1 ≡ Ok e → e.name ≡ c.0
              named_as c i e p = (opens.lists.are.shown (c.0, Ok e) (subst (λ (s : Shown). IsIn {X = Child} (c.0, s) opens.lists.children) p i)).0
