-- How far a copy has come between two members: what is still to be done of the directories that are open.
use Rattle.std.proofs.Common.{◌≡◌, ◌≢◌, ◌⊎◌, ℕ, Bool, true, false, List, [], ◌∷◌, ◌++◌, Option, None, Some, Ok, Err, map, drop, refl, sym, ap, ◌∙◌, subst, inl, inr, append_assoc}
use Rattle.std.specs.Prelude.{IsPermutation, filter_map}
use Rattle.std.specs.FinMap.{get}
use mathlib.Core.Path.{subst₂}
use Rattle.dav_key.specs.Key.{Key, parent}
use Rattle.dav_resource.specs.PathText.{PathValue, IsSegment}
use Rattle.dav_resource.specs.declared.meta.DirEntry.{DirEntry}
use Rattle.dav_resource.specs.declared.record.Op.{Op}
use Rattle.dav_resource.specs.declared.record.Op.TheVariants.{Metadata, ReadDir, CreateDir, Copy, Entry}
use Rattle.dav_resource.specs.declared.error.FsError.{FsError}
use Rattle.dav_key.specs.Below.{is_at_or_below}
use Rattle.dav_store.specs.BelowLaws.{at_or_below-append, at_or_below-tail}
use Rattle.dav_store.specs.MemberLaws.{parent-member}
use Rattle.dav_store.specs.Store.{Store, IsWellFormed}
use Rattle.dav_store.specs.Members.{IsIn, AreDistinct, member, Child, names_of}
use Rattle.dav_walks.specs.declared.copy_frame.CopyFrame.{CopyFrame}
use Rattle.dav_walks.specs.Deletion.{path_at, Subtree}
use Rattle.dav_walks.specs.Trace.{HasKind}
use Rattle.dav_walks.specs.Copying.{snapshot, IsAsked, IsGranted, HasUnseen, HasRoom, names_of_copy}
use Rattle.dav_walks.proofs.Keys.{append-nothing, below_cancel, child_below, parent-append, IsIn-left, IsIn-right, IsIn-append}
use Rattle.dav_walks.proofs.Listings.{Shown, find_child, one_child, children_once, children_all, child_kind, child_segment, different}
use Rattle.dav_walks.proofs.Single.{Names, beside, node_of}
use Rattle.dav_walks.proofs.CopyGrow.{Steps, only_one, IsIn-map, map-IsIn}
use Rattle.dav_walks.proofs.CopyReach.{Reached}
use Rattle.dav_walks.proofs.CopyRoom.{snap_there, snap_is, snap_still, apart_from_place}
use Rattle.dav_walks.proofs.CopyNames.{names_append, bag_further}
use Rattle.dav_walks.proofs.CopyEnter.{path_at-key, member_above, IsNamedIn, kind_present, IsClear, clear_at, InHand, OpensAt, Opens, rest, owed, owed_by, Went}

-- ---- keys

-- what a member's key lies under, its directory's does too
pub under_member : (x : Key) (n : List ℕ) (y z : Key) → member x n ≡ y ++ z → (member x n ≡ y) ⊎ ((w : Key) × (x ≡ y ++ w))
under_member x n y [] e = inl (e ∙ append-nothing y)
under_member x n y (a ∷ z) e = inr (parent (a ∷ z), sym (parent-member x n) ∙ ap parent e ∙ parent-append y a z)

-- a member isn't at or below a key that its directory isn't at or below, unless it is that key
pub member_apart : (k top : Key) (n : List ℕ) → is_at_or_below k top ≡ false → member k n ≢ top → is_at_or_below (member k n) top ≡ false
member_apart k top n apart other = go (is_at_or_below (member k n) top) refl
  where
    inside : (w : Key) → k ≡ top ++ w → ⊥
    inside w e = let p : true ≡ false = sym (at_or_below-append top w) ∙ ap (λ j. is_at_or_below j top) (sym e) ∙ apart in cc

    go : (b : Bool) → is_at_or_below (member k n) top ≡ b → b ≡ false
    go false e = refl
    go true e = let tail = at_or_below-tail top (member k n) e in elim (under_member k n top tail.0 tail.1) [ inl p ↦ absurd (other p) | inr p ↦ absurd (inside p.0 p.1) ]

-- ---- listings

abbrev pub shown_name : Shown → Option (List ℕ)
shown_name (Ok entry) = Some entry.name
shown_name (Err error) = None

abbrev pub shown_names : List Shown → List (List ℕ)
shown_names listing = filter_map shown_name listing

shown_among : (cs : List Child) → ((c : Child) (entry : DirEntry) → IsIn c cs → c.1 ≡ Ok entry → entry.name ≡ c.0) → (n : List ℕ) → IsIn n (shown_names (map (λ c. c.1) cs)) → IsIn n (names_of cs)
shown_among [] so n i = i
shown_among ((m, Ok entry) ∷ cs) so n (inl e) = inl (sym (so (m, Ok entry) entry (inl refl) refl) ∙ e)
shown_among ((m, Ok entry) ∷ cs) so n (inr i) = inr (shown_among cs (λ c f j. so c f (inr j)) n i)
shown_among ((m, Err error) ∷ cs) so n i = inr (shown_among cs (λ c f j. so c f (inr j)) n i)

shown_once : (cs : List Child) → ((c : Child) (entry : DirEntry) → IsIn c cs → c.1 ≡ Ok entry → entry.name ≡ c.0) → AreDistinct (names_of cs) → AreDistinct (shown_names (map (λ c. c.1) cs))
shown_once [] so once = tt
shown_once ((m, Ok entry) ∷ cs) so once =
    ((λ i. once.0 (subst (λ n. IsIn n (names_of cs)) (so (m, Ok entry) entry (inl refl) refl) (shown_among cs (λ c f j. so c f (inr j)) entry.name i))), shown_once cs (λ c f j. so c f (inr j)) once.1)
shown_once ((m, Err error) ∷ cs) so once = shown_once cs (λ c f j. so c f (inr j)) once.1

-- ---- open directories

-- a member that waits in the listing of a directory
pub record Waits (source : PathValue) (top : Key) (snap : Subtree) (steps : Steps) (x : Key) (entry : DirEntry) : Type 0 where
  pub segment : IsSegment entry.name
  pub kind : member (source.key ++ x) entry.name ≢ top → HasKind entry.meta.dir (snap (member x entry.name))
  pub clear : IsClear (member x entry.name) steps

pub record IsOpen (source dest : PathValue) (top : Key) (snap : Subtree) (steps : Steps) (frame : CopyFrame) : Type 0 where
  pub at : Key
  pub source_at : frame.source ≡ path_at source true (source.key ++ at)
  pub dest_at : frame.dest ≡ path_at dest true (dest.key ++ at)
  pub listed : IsGranted ReadDir at steps
  pub waits : (entry : DirEntry) → IsIn {X = Shown} (Ok entry) (rest frame) → Waits source top snap steps at entry
  pub unseen : (error : FsError) → IsIn {X = Shown} (Err error) (rest frame) → HasUnseen at steps
  pub once : AreDistinct (shown_names (rest frame))

pub open_key : {source dest : PathValue} {top : Key} {snap : Subtree} {steps : Steps} {frame : CopyFrame} → (is : IsOpen source dest top snap steps frame) → frame.source.key ≡ source.key ++ is.at
open_key {source} is = ap (λ (v : PathValue). v.key) is.source_at ∙ path_at-key source true (source.key ++ is.at)

abbrev pub key_of : CopyFrame → Key
key_of frame = frame.source.key

pub owed_all : List CopyFrame → Names
owed_all [] = []
owed_all (frame ∷ frames) = owed frame ++ owed_all frames

pub owed_all-cons : (frame : CopyFrame) (frames : List CopyFrame) → owed_all (frame ∷ frames) ≡ owed frame ++ owed_all frames
unfolding owed_all
owed_all-cons frame frames = refl

pub owed_all-none : owed_all [] ≡ []
unfolding owed_all
owed_all-none = refl

-- the key waits in one of them
abbrev pub IsWaiting : PathValue → List CopyFrame → Key → Type 0
IsWaiting source frames y = (frame : CopyFrame) × IsIn frame frames × (entry : DirEntry) × IsIn {X = Shown} (Ok entry) (rest frame) × (member frame.source.key entry.name ≡ source.key ++ y)

-- the key lies under none that waits
abbrev pub IsBeside : PathValue → List CopyFrame → Key → Type 0
IsBeside source frames p = (frame : CopyFrame) → IsIn frame frames → (entry : DirEntry) → IsIn {X = Shown} (Ok entry) (rest frame) → (z : Key) → source.key ++ p ≢ member frame.source.key entry.name ++ z

-- the calls so far with what they made and named, the directories that are open, and the key that is in hand
pub record Underway (source dest : PathValue) (top : Key) (old mid : Store) (had has : Names) (steps : Steps) (frames : List CopyFrame) (hand : List Key) : Type 0 where
  pub reached : Reached source.key top dest.key old mid steps
  pub files : (x : Key) → HasKind false (snapshot old.contents.tree source.key top x) → IsGranted Metadata x steps → IsAsked Copy x steps
  pub directories : (x : Key) → HasKind true (snapshot old.contents.tree source.key top x) → IsGranted Metadata x steps → IsAsked CreateDir x steps
  pub listings : (x : Key) → IsGranted CreateDir x steps → IsAsked ReadDir x steps
  pub members : (x : Key) (n : List ℕ) → snapshot old.contents.tree source.key top (member x n) ≢ None → IsGranted ReadDir x steps
      → IsAsked Metadata (member x n) steps ⊎ HasUnseen x steps ⊎ IsWaiting source frames (member x n) ⊎ IsIn (member x n) hand
  pub names : Names
  pub named : has ≡ had ++ names
  pub bag : IsPermutation (names_of_copy source dest (snapshot old.contents.tree source.key top) steps) (names ++ owed_all frames)
  pub are_open : (frame : CopyFrame) → IsIn frame frames → IsOpen source dest top (snapshot old.contents.tree source.key top) steps frame
  pub apart : AreDistinct (map key_of frames)
  pub unseen_named : (x : Key) → HasUnseen x steps → IsNamedIn source x (names_of_copy source dest (snapshot old.contents.tree source.key top) steps)

abbrev pub with_opened : Option CopyFrame → List CopyFrame → List CopyFrame
with_opened None frames = frames
with_opened (Some frame) frames = frame ∷ frames

with_in : (o : Option CopyFrame) (frames : List CopyFrame) (frame : CopyFrame) → IsIn frame frames → IsIn frame (with_opened o frames)
with_in None frames frame i = i
with_in (Some opened) frames frame i = inr i

owed_with : (o : Option CopyFrame) (frames : List CopyFrame) → owed_all (with_opened o frames) ≡ owed_by o ++ owed_all frames
unfolding owed_all
owed_with None frames = refl
owed_with (Some opened) frames = refl

-- ---- the copy of the key in hand was begun

later : (steps more : Steps) (op : Op) (x : Key) → IsAsked op x steps → IsAsked op x (steps ++ more)
later steps more op x asked = (asked.0, IsIn-left _ steps more asked.1)

further : (steps more : Steps) (op : Op) (x : Key) → IsAsked op x more → IsAsked op x (steps ++ more)
further steps more op x asked = (asked.0, IsIn-right _ steps more asked.1)

module _ (source dest : PathValue) {top : Key} {old mid new : Store} {had has finally : Names} {steps : Steps} {frames : List CopyFrame} {p : Key} {opened : Option CopyFrame}
    (room : HasRoom source.key top dest.key old.contents) (formed : IsWellFormed old.contents) (underway : Underway source dest top old mid had has steps frames (p ∷ []))
    (hand : InHand (snapshot old.contents.tree source.key top) steps p) (beside_all : IsBeside source frames p) (went : Went source dest top old new has finally steps p opened) (sound : IsWellFormed new.contents) where
  abbrev snap : Subtree
  snap = snapshot old.contents.tree source.key top

  abbrev after : Steps
  after = steps ++ went.more

  -- a call that leads on to another
  leads : (op next : Op) → (op ≡ Entry → ⊥) → (Q : Key → Type 0) → ((x : Key) → Q x → IsGranted op x steps → IsAsked next x steps) → (Q p → IsGranted op p went.more → IsAsked next p went.more)
      → (x : Key) → Q x → IsGranted op x after → IsAsked next x after
  leads op next call Q before here x q i = elim (IsIn-append _ steps went.more i) [
    | inl j ↦ later steps went.more next x (before x q j)
    | inr j ↦ elim (went.near _ j) [
      | inl e ↦ subst (λ (y : Key). IsAsked next y after) (sym e) (further steps went.more next p (here (subst Q e q) (subst (λ (y : Key). IsGranted op y went.more) e j)))
      | inr entry ↦ absurd (call entry.2)
    ]
  ]

  -- the directory that was opened
  module _ {frame : CopyFrame} (opens : OpensAt source dest new.contents p went.more frame) where
    all_there : rest frame ≡ map (λ (c : Child). c.1) opens.children
    all_there = λ i. drop (opens.first i) (opens.shown i)

    frame_key : frame.source.key ≡ source.key ++ p
    frame_key = ap (λ (v : PathValue). v.key) opens.source_at ∙ path_at-key source true (source.key ++ p)

    named_so : (c : Child) (entry : DirEntry) → IsIn c opens.children → c.1 ≡ Ok entry → entry.name ≡ c.0
    named_so c entry i e = (opens.are.shown (c.0, Ok entry) (subst (λ (t : Shown). IsIn {X = Child} (c.0, t) opens.children) e i)).0

    member_key : (n : List ℕ) → member (source.key ++ p) n ≡ source.key ++ member p n
    member_key n = append_assoc source.key p (n ∷ [])

    -- each member of the snapshot waits there, unless it wasn't shown
    opened_member : (n : List ℕ) → snap (member p n) ≢ None → HasUnseen p after ⊎ IsWaiting source (frame ∷ frames) (member p n)
    opened_member n there = go (find_child opens.children n)
      where
        standing_there : get new.contents.tree (member (source.key ++ p) n) ≢ None
        standing_there none = there (sym (snap_still room formed went.reached.sound (member p n) there) ∙ ap (get new.contents.tree) (sym (member_key n)) ∙ none)

        go : ((t : Shown) × IsIn {X = Child} (n, t) opens.children) ⊎ (IsIn n (names_of opens.children) → ⊥) → HasUnseen p after ⊎ IsWaiting source (frame ∷ frames) (member p n)
        go (inl (Ok entry, i)) = inr (
          frame,
          inl refl,
          entry,
          subst (IsIn {X = Shown} (Ok entry)) (sym all_there) (IsIn-map (λ (c : Child). c.1) (n, Ok entry) opens.children i),
          ((λ j. member (frame_key j) (named_so (n, Ok entry) entry i refl j)) ∙ member_key n),
        )
        go (inl (Err error, i)) = let unseen = opens.unseen n error i in inl (n, (unseen.0, unseen.1, IsIn-right _ steps went.more unseen.2))
        go (inr absent) = absurd (absent (children_all new.contents (source.key ++ p) opens.children opens.are n standing_there))

    waits : (entry : DirEntry) → IsIn {X = Shown} (Ok entry) (rest frame) → Waits source top snap after p entry
    waits entry i =
        let found = map-IsIn (λ (c : Child). c.1) (Ok entry) opens.children (subst (IsIn {X = Shown} (Ok entry)) all_there i) in
        of_child found.0.0 (named_so found.0 entry found.1 found.2) (subst (λ (t : Shown). IsIn {X = Child} (found.0.0, t) opens.children) found.2 found.1)
      where
        of_child : (n : List ℕ) → entry.name ≡ n → IsIn {X = Child} (n, Ok entry) opens.children → Waits source top snap after p entry
        of_child n is among = record {
          segment = subst IsSegment (sym is) (child_segment new.contents (source.key ++ p) opens.children opens.are sound n (Ok entry) among);
          kind = λ other. subst (λ m. HasKind entry.meta.dir (snap (member p m))) (sym is) (kind (λ e. other (ap (member (source.key ++ p)) is ∙ e)));
          clear = subst (λ m. IsClear (member p m) after) (sym is) clear;
        }
          where
            kind : member (source.key ++ p) n ≢ top → HasKind entry.meta.dir (snap (member p n))
            kind other =
                let outside : is_at_or_below (source.key ++ member p n) top ≡ false
                = ap (λ k. is_at_or_below k top) (sym (member_key n)) ∙ member_apart (source.key ++ p) top n (snap_there old.contents.tree source.key top p (kind_present hand.slash _ hand.kind)).0 other in
                let same : get new.contents.tree (source.key ++ member p n) ≡ snap (member p n)
                = node_of (went.reached.sound.others _ (λ y m q. apart_from_place room (member p n) y outside q)) ∙ sym (snap_is old.contents.tree source.key top (member p n) outside) in
                subst (HasKind entry.meta.dir) (ap (get new.contents.tree) (member_key n) ∙ same) (child_kind new.contents (source.key ++ p) opens.children opens.are sound n entry among)

            clear : IsClear (member p n) after
            clear step j z e = elim (IsIn-append step steps went.more j) [
              | inl k ↦ hand.clear step k (n ∷ z) (e ∙ child_below p n z)
              | inr k ↦ elim (went.near step k) [
                | inl at ↦ beside p n z (sym at ∙ e ∙ child_below p n z)
                | inr (m, at, entry_op) ↦ elim (under_member p m (member p n) z (sym at ∙ e)) [
                  | inl q ↦ let unseen = opens.only step k n (at ∙ q) in different (one_child opens.children (children_once new.contents (source.key ++ p) opens.children opens.are) n _ _ among unseen.1)
                  | inr (w, q) ↦ beside p n w (q ∙ child_below p n w)
                ]
              ]
            ]

    opened_open : IsOpen source dest top snap after frame
    opened_open = record {
      at = p;
      source_at = opens.source_at;
      dest_at = opens.dest_at;
      listed = IsIn-right _ steps went.more opens.listed;
      waits = waits;
      unseen = λ error i.
          let found = map-IsIn (λ (c : Child). c.1) (Err error) opens.children (subst (IsIn {X = Shown} (Err error)) all_there i) in
          let denied = opens.unseen found.0.0 error (subst (λ (t : Shown). IsIn {X = Child} (found.0.0, t) opens.children) found.2 found.1) in
          (found.0.0, (denied.0, denied.1, IsIn-right _ steps went.more denied.2));
      once = subst (λ (l : List Shown). AreDistinct (shown_names l)) (sym all_there) (shown_once opens.children named_so (children_once new.contents (source.key ++ p) opens.children opens.are));
    }

  -- a directory that was open before
  still_open : (frame : CopyFrame) → IsIn frame frames → IsOpen source dest top snap after frame
  still_open frame i = record {
    at = was.at;
    source_at = was.source_at;
    dest_at = was.dest_at;
    listed = IsIn-left _ steps went.more was.listed;
    waits = λ entry j. let waits = was.waits entry j in record { segment = waits.segment; kind = waits.kind; clear = clear entry j waits.clear };
    unseen = λ error j. let denied = was.unseen error j in (denied.0, (denied.1.0, denied.1.1, IsIn-left _ steps went.more denied.1.2));
    once = was.once;
  }
    where
      was : IsOpen source dest top snap steps frame
      was = underway.are_open frame i

      not_here : was.at ≢ p
      not_here e = clear_at p steps hand.clear _ was.listed e

      under : (entry : DirEntry) → IsIn {X = Shown} (Ok entry) (rest frame) → (z : Key) → p ≢ member was.at entry.name ++ z
      under entry j z e = beside_all frame i entry j z (ap (λ x. source.key ++ x) e ∙ sym (append_assoc source.key (member was.at entry.name) z) ∙ ap (λ k. k ++ z) (sym (append_assoc source.key was.at (entry.name ∷ [])) ∙ ap (λ k. member k entry.name) (sym (open_key was))))

      clear : (entry : DirEntry) → IsIn {X = Shown} (Ok entry) (rest frame) → IsClear (member was.at entry.name) steps → IsClear (member was.at entry.name) after
      clear entry j before step k z e = elim (IsIn-append step steps went.more k) [
        | inl h ↦ before step h z e
        | inr h ↦ elim (went.near step h) [
          | inl at ↦ under entry j z (sym at ∙ e)
          | inr (m, at, entry_op) ↦ elim (under_member p m (member was.at entry.name) z (sym at ∙ e)) [
            | inl q ↦ not_here (sym (member_above p was.at m entry.name q))
            | inr (w, q) ↦ under entry j w q
          ]
        ]
      ]

  still_waiting : (more : List CopyFrame) (y : Key) → IsWaiting source frames y → ((frame : CopyFrame) → IsIn frame frames → IsIn frame more) → IsWaiting source more y
  still_waiting more y (frame, i, entry, j, e) within = (frame, within frame i, entry, j, e)

  unseen_later : (x : Key) → HasUnseen x steps → HasUnseen x after
  unseen_later x (n, denied) = (n, (denied.0, denied.1, IsIn-left _ steps went.more denied.2))

  -- what waits in the directory that was opened, if one was
  members_of : (o : Option CopyFrame) → Opens source dest new.contents p went.more o → (n : List ℕ) → snap (member p n) ≢ None → IsGranted ReadDir p went.more → HasUnseen p after ⊎ IsWaiting source (with_opened o frames) (member p n)
  members_of None opens n there i = absurd (opens i)
  members_of (Some frame) opens n there i = opened_member opens n there

  members_after : (x : Key) (n : List ℕ) → snap (member x n) ≢ None → IsGranted ReadDir x after → IsAsked Metadata (member x n) after ⊎ HasUnseen x after ⊎ IsWaiting source (with_opened opened frames) (member x n) ⊎ IsIn (member x n) []
  members_after x n there i = elim (IsIn-append _ steps went.more i) [
    | inl j ↦ before (underway.members x n there j)
    | inr j ↦ elim (went.near _ j) [
      | inl e ↦ here (members_of opened went.opens n (subst (λ y. snap (member y n) ≢ None) e there) (subst (λ (y : Key). IsGranted ReadDir y went.more) e j)) e
      | inr entry ↦ absurd (no_entry entry.2)
    ]
  ]
    where
      no_entry : ReadDir ≡ Entry → ⊥
      no_entry e = cc

      here : HasUnseen p after ⊎ IsWaiting source (with_opened opened frames) (member p n) → x ≡ p → IsAsked Metadata (member x n) after ⊎ HasUnseen x after ⊎ IsWaiting source (with_opened opened frames) (member x n) ⊎ IsIn (member x n) []
      here (inl unseen) e = inr (inl (subst (λ y. HasUnseen y after) (sym e) unseen))
      here (inr waiting) e = inr (inr (inl (subst (λ y. IsWaiting source (with_opened opened frames) (member y n)) (sym e) waiting)))

      before : IsAsked Metadata (member x n) steps ⊎ HasUnseen x steps ⊎ IsWaiting source frames (member x n) ⊎ IsIn (member x n) (p ∷ [])
          → IsAsked Metadata (member x n) after ⊎ HasUnseen x after ⊎ IsWaiting source (with_opened opened frames) (member x n) ⊎ IsIn (member x n) []
      before (inl asked) = inl (later steps went.more Metadata (member x n) asked)
      before (inr (inl unseen)) = inr (inl (unseen_later x unseen))
      before (inr (inr (inl waiting))) = inr (inr (inl (still_waiting _ _ waiting (with_in opened frames))))
      before (inr (inr (inr in_hand))) = inl (subst (λ (y : Key). IsAsked Metadata y after) (only_one p _ in_hand) (further steps went.more Metadata p went.asked))

  open_after : (o : Option CopyFrame) → Opens source dest new.contents p went.more o → (frame : CopyFrame) → IsIn frame (with_opened o frames) → IsOpen source dest top snap after frame
  open_after None opens frame i = still_open frame i
  open_after (Some inner) opens frame (inl e) = subst (IsOpen source dest top snap after) e (opened_open opens)
  open_after (Some inner) opens frame (inr i) = still_open frame i

  apart_after : (o : Option CopyFrame) → Opens source dest new.contents p went.more o → AreDistinct (map key_of (with_opened o frames))
  apart_after None opens = underway.apart
  apart_after (Some inner) opens = (other, underway.apart)
    where
      other : IsIn (key_of inner) (map key_of frames) → ⊥
      other i =
          let found = map-IsIn key_of (key_of inner) frames i in
          let was = underway.are_open found.0 found.1 in
          clear_at p steps hand.clear _ was.listed (below_cancel source.key was.at p (sym (open_key was) ∙ found.2 ∙ frame_key opens))

  pub entered : Underway source dest top old new had finally after (with_opened opened frames) []
  entered = record {
    reached = went.reached;
    files = leads Metadata Copy (λ e. cc) (λ x. HasKind false (snap x)) underway.files went.file;
    directories = leads Metadata CreateDir (λ e. cc) (λ x. HasKind true (snap x)) underway.directories went.directory;
    listings = λ x i. leads CreateDir ReadDir (λ e. cc) (λ x. Unit {0}) (λ y u j. underway.listings y j) (λ u j. went.listing j) x tt i;
    members = members_after;
    names = underway.names ++ went.given;
    named = went.appended ∙ ap (λ l. l ++ went.given) underway.named ∙ append_assoc had underway.names went.given;
    bag = subst₂ IsPermutation (sym (names_append source dest snap steps went.more went.anew)) (ap (λ l. (underway.names ++ went.given) ++ l) (sym (owed_with opened frames)))
        (bag_further _ _ underway.names (owed_all frames) went.given (owed_by opened) underway.bag went.names);
    are_open = open_after opened went.opens;
    apart = apart_after opened went.opens;
    unseen_named = λ x u. subst (IsNamedIn source x) (sym (names_append source dest snap steps went.more went.anew)) (elim (IsIn-append _ steps went.more u.1.2) [
      | inl i ↦ let named = underway.unseen_named x (u.0, (u.1.0, u.1.1, i)) in (named.0, IsIn-left _ (names_of_copy source dest snap steps) _ named.1, named.2)
      | inr i ↦ let named = went.unseen_named x (u.0, (u.1.0, u.1.1, i)) in (named.0, IsIn-right _ (names_of_copy source dest snap steps) _ named.1, named.2)
    ]);
  }
