-- The steps of a copy between two calls: a directory goes on to its next member, or is done with.
use Rattle.std.proofs.Common.{◌≡◌, ◌≢◌, ◌⊎◌, ℕ, List, [], ◌∷◌, ◌++◌, Option, None, Some, Ok, Err, map, refl, sym, ap, ◌∙◌, subst, inl, inr, append_assoc}
use Rattle.std.specs.Prelude.{if◌then◌else◌, IsPermutation}
use Rattle.std.specs.FinMap.{get}
use Rattle.std.proofs.lemmas.List.{append-nil}
use Rattle.std.proofs.lemmas.List.Sorted.{IsPermutation-refl}
use Rattle.dav_key.specs.Key.{Key}
use Rattle.dav_resource.specs.PathText.{PathValue}
use Rattle.dav_resource.specs.Errors.{fs_status}
use Rattle.dav_resource.specs.declared.meta.DirEntry.{DirEntry}
use Rattle.dav_resource.specs.declared.record.Op.TheVariants.{Metadata}
use Rattle.dav_resource.specs.declared.error.FsError.{FsError}
use Rattle.dav_key.specs.Below.{is_at_or_below}
use Rattle.dav_store.specs.BelowLaws.{at_or_below-append}
use Rattle.dav_store.specs.MemberLaws.{kept_in}
use Rattle.dav_store.specs.Store.{Store, Node, File, Directory}
use Rattle.dav_store.specs.Members.{IsIn, AreDistinct, member}
use Rattle.dav_walks.specs.declared.copy_frame.CopyFrame.{CopyFrame}
use Rattle.dav_walks.specs.Deletion.{Subtree}
use Rattle.dav_walks.specs.Copying.{snapshot, IsAsked, HasUnseen, HasRoom, names_of_copy, is_directory_node}
use Rattle.dav_walks.specs.Trace.{HasKind}
use Rattle.dav_walks.proofs.Keys.{append-nothing, below_cancel}
use Rattle.dav_walks.proofs.Listings.{Shown}
use Rattle.dav_walks.proofs.Single.{Names}
use Rattle.dav_walks.proofs.CopyGrow.{Steps, only_one, member_name, IsIn-map}
use Rattle.dav_walks.proofs.CopyReach.{none_reached}
use Rattle.dav_walks.proofs.CopyRoom.{snap_is}
use Rattle.dav_walks.proofs.CopyNames.{owed_in, owed_none, owed_shown, owed_unshown, bag_paid}
use Rattle.dav_walks.proofs.CopyEnter.{member_above, InHand, rest, owed}
use Rattle.dav_walks.proofs.CopyState.{under_member, shown_name, shown_names, Waits, IsOpen, open_key, key_of, owed_all, owed_all-cons, owed_all-none, IsWaiting, IsBeside, Underway}

-- ---- the begin

pub kind_of_node : (it : Option Node) → it ≢ None → HasKind (is_directory_node it) it
kind_of_node None there = absurd (there refl)
kind_of_node (Some Directory) there = refl
kind_of_node (Some (File bytes)) there = (bytes, refl)

module _ (source dest : PathValue) (top : Key) (old : Store) (had : Names) (room : HasRoom source.key top dest.key old.contents) where
  pub begins : Underway source dest top old old had had [] [] ([] ∷ [])
  begins = record {
    reached = none_reached source.key top dest.key old;
    files = λ x kind i. absurd i;
    directories = λ x kind i. absurd i;
    listings = λ x i. absurd i;
    members = λ x n there i. absurd i;
    names = [];
    named = sym (append-nil had);
    bag = subst (λ l. IsPermutation [] l) (sym owed_all-none) (IsPermutation-refl []);
    are_open = λ frame i. absurd i;
    apart = tt;
    unseen_named = λ x u. absurd u.1.2;
  }

  source_there : snapshot old.contents.tree source.key top [] ≢ None
  source_there none =
      let same : source.key ++ [] ≡ source.key = append-nothing source.key in
      room.source (sym (ap (get old.contents.tree) same) ∙ sym (snap_is old.contents.tree source.key top [] (ap (λ k. is_at_or_below k top) same ∙ room.apart)) ∙ none)

  pub begins_hand : InHand (snapshot old.contents.tree source.key top) [] []
  begins_hand = record { slash = is_directory_node (snapshot old.contents.tree source.key top []); kind = kind_of_node _ source_there; come = inl refl; clear = λ step i. absurd i }

  pub begins_beside : IsBeside source [] []
  begins_beside frame i = absurd i

-- a key that isn't in the snapshot needn't be in hand
dropped : {source dest : PathValue} {top : Key} {old mid : Store} {had has : Names} {steps : Steps} {frames : List CopyFrame} (y : Key) → snapshot old.contents.tree source.key top y ≡ None
    → Underway source dest top old mid had has steps frames (y ∷ []) → Underway source dest top old mid had has steps frames []
dropped {source} {dest} {top} {old} y none underway = record {
  reached = underway.reached;
  files = underway.files;
  directories = underway.directories;
  listings = underway.listings;
  members = λ x n there i. elim (underway.members x n there i) [
    | inl asked ↦ inl asked
    | inr more ↦ elim more [
      | inl unseen ↦ inr (inl unseen)
      | inr others ↦ elim others [ inl waiting ↦ inr (inr (inl waiting)) | inr in_hand ↦ absurd (there (ap (snapshot old.contents.tree source.key top) (sym (only_one y _ in_hand)) ∙ none)) ]
    ]
  ];
  names = underway.names;
  named = underway.named;
  bag = underway.bag;
  are_open = underway.are_open;
  apart = underway.apart;
  unseen_named = underway.unseen_named;
}

-- ---- a directory goes on

module _ (source dest : PathValue) {top : Key} {old mid : Store} {had has : Names} {steps : Steps} {frame : CopyFrame} {frames : List CopyFrame} (underway : Underway source dest top old mid had has steps (frame ∷ frames) []) where
  abbrev snap : Subtree
  snap = snapshot old.contents.tree source.key top

  abbrev pub own : IsOpen source dest top snap steps frame
  own = underway.are_open frame (inl refl)

  member_key : (n : List ℕ) → member frame.source.key n ≡ source.key ++ member own.at n
  member_key n = ap (λ k. member k n) (open_key own) ∙ append_assoc source.key own.at (n ∷ [])

  -- what waits in it waits on in the same directory, or is in hand, unless some member of it wasn't shown
  module _ (after : CopyFrame) (same_source : after.source ≡ frame.source) (same_dest : after.dest ≡ frame.dest) (narrower : (shown : Shown) → IsIn shown (rest after) → IsIn shown (rest frame)) (once : AreDistinct (shown_names (rest after))) where
    own_after : IsOpen source dest top snap steps after
    own_after = record {
      at = own.at;
      source_at = same_source ∙ own.source_at;
      dest_at = same_dest ∙ own.dest_at;
      listed = own.listed;
      waits = λ entry i. own.waits entry (narrower (Ok entry) i);
      unseen = λ error i. own.unseen error (narrower (Err error) i);
      once = once;
    }

    same_key_of : key_of after ≡ key_of frame
    same_key_of = ap (λ (v : PathValue). v.key) same_source

    open_still : (other : CopyFrame) → IsIn other (after ∷ frames) → IsOpen source dest top snap steps other
    open_still other (inl e) = subst (IsOpen source dest top snap steps) e own_after
    open_still other (inr i) = underway.are_open other (inr i)

    pub replaced : (finally given : Names) (hand : List Key) → ((entry : DirEntry) → IsIn {X = Shown} (Ok entry) (rest frame) → IsIn {X = Shown} (Ok entry) (rest after) ⊎ IsIn (member own.at entry.name) hand ⊎ HasUnseen own.at steps)
        → finally ≡ has ++ given → owed frame ≡ given ++ owed after → Underway source dest top old mid had finally steps (after ∷ frames) hand
    replaced finally given hand left appended owes = record {
      reached = underway.reached;
      files = underway.files;
      directories = underway.directories;
      listings = underway.listings;
      members = λ x n there i. elim (underway.members x n there i) [
        | inl asked ↦ inl asked
        | inr more ↦ elim more [
          | inl unseen ↦ inr (inl unseen)
          | inr others ↦ elim others [ inl waiting ↦ still x n waiting | inr none ↦ absurd none ]
        ]
      ];
      names = underway.names ++ given;
      named = appended ∙ ap (λ l. l ++ given) underway.named ∙ append_assoc had underway.names given;
      bag = subst (λ l. IsPermutation (names_of_copy source dest snap steps) ((underway.names ++ given) ++ l)) (sym (owed_all-cons after frames))
          (bag_paid _ underway.names given (owed after ++ owed_all frames) (subst (λ l. IsPermutation (names_of_copy source dest snap steps) (underway.names ++ l))
          (owed_all-cons frame frames ∙ ap (λ l. l ++ owed_all frames) owes ∙ append_assoc given (owed after) (owed_all frames)) underway.bag));
      are_open = open_still;
      apart = subst (λ k. AreDistinct (k ∷ map key_of frames)) (sym same_key_of) underway.apart;
      unseen_named = underway.unseen_named;
    }
      where
        still : (x : Key) (n : List ℕ) → IsWaiting source (frame ∷ frames) (member x n) → IsAsked Metadata (member x n) steps ⊎ HasUnseen x steps ⊎ IsWaiting source (after ∷ frames) (member x n) ⊎ IsIn (member x n) hand
        still x n (other, inr j, entry, i, key) = inr (inr (inl (other, inr j, entry, i, key)))
        still x n (other, inl e, entry, i, key) =
            let is : member own.at entry.name ≡ member x n = below_cancel source.key _ _ (sym (member_key entry.name) ∙ ap (λ (f : CopyFrame). member f.source.key entry.name) e ∙ key) in
            elim (left entry (subst (λ (f : CopyFrame). IsIn {X = Shown} (Ok entry) (rest f)) (sym e) i)) [
              | inl on ↦ inr (inr (inl (after, inl refl, entry, on, ap (λ k. member k entry.name) same_key_of ∙ member_key entry.name ∙ ap (λ k. source.key ++ k) is)))
              | inr more ↦ elim more [
                | inl in_hand ↦ inr (inr (inr (subst (λ k. IsIn k hand) is in_hand)))
                | inr unseen ↦ inr (inl (subst (λ k. HasUnseen k steps) (member_above own.at x entry.name n is) unseen))
              ]
            ]

  -- ---- the next member is shown

  module _ (after : CopyFrame) (same_source : after.source ≡ frame.source) (same_dest : after.dest ≡ frame.dest) (entry : DirEntry) (next : rest frame ≡ Ok entry ∷ rest after) where
    pub first_in : IsIn {X = Shown} (Ok entry) (rest frame)
    first_in = subst (IsIn {X = Shown} (Ok entry)) (sym next) (inl refl)

    abbrev pub first_waits : Waits source top snap steps own.at entry
    first_waits = own.waits entry first_in

    narrower : (shown : Shown) → IsIn shown (rest after) → IsIn shown (rest frame)
    narrower shown i = subst (IsIn shown) (sym next) (inr i)

    names_once : AreDistinct (entry.name ∷ shown_names (rest after))
    names_once = subst (λ (l : List Shown). AreDistinct (shown_names l)) next own.once

    -- it is taken in hand
    pub taken : Underway source dest top old mid had has steps (after ∷ frames) (member own.at entry.name ∷ [])
    taken = replaced after same_source same_dest narrower names_once.1 has [] (member own.at entry.name ∷ []) left (sym (append-nil has)) ((λ i. owed_in (sym same_source i) (next i)) ∙ owed_shown after.source entry (rest after))
      where
        left : (other : DirEntry) → IsIn {X = Shown} (Ok other) (rest frame) → IsIn {X = Shown} (Ok other) (rest after) ⊎ IsIn (member own.at other.name) (member own.at entry.name ∷ []) ⊎ HasUnseen own.at steps
        left other i = elim (subst (IsIn {X = Shown} (Ok other)) next i) [
          | inl e ↦ let same : entry ≡ other = cc in inr (inl (inl (ap (λ (t : DirEntry). member own.at t.name) same)))
          | inr j ↦ inl j
        ]

    abbrev pub taken_hand : member (source.key ++ own.at) entry.name ≢ top → InHand snap steps (member own.at entry.name)
    taken_hand other = record { slash = entry.meta.dir; kind = first_waits.kind other; come = inr (own.at, entry.name, refl, own.listed); clear = first_waits.clear }

    -- it isn't below one that waits
    pub taken_beside : IsBeside source (after ∷ frames) (member own.at entry.name)
    taken_beside other (inl e) waiting j z is = elim (under_member own.at entry.name (member own.at waiting.name) z same) [
      | inl q ↦ names_once.0 (subst (λ n. IsIn n (shown_names (rest after))) (sym (member_name own.at entry.name waiting.name q)) named)
      | inr below ↦ (own.waits waiting (narrower (Ok waiting) j_after)).clear _ own.listed below.0 below.1
    ]
      where
        j_after : IsIn {X = Shown} (Ok waiting) (rest after)
        j_after = subst (λ (f : CopyFrame). IsIn {X = Shown} (Ok waiting) (rest f)) (sym e) j

        named : IsIn waiting.name (shown_names (rest after))
        named = kept_in shown_name (rest after) (Ok waiting) waiting.name refl j_after

        key : other.source.key ≡ source.key ++ own.at
        key = ap (λ (f : CopyFrame). f.source.key) (sym e) ∙ ap (λ (v : PathValue). v.key) same_source ∙ open_key own

        same : member own.at entry.name ≡ member own.at waiting.name ++ z
        same = below_cancel source.key _ _ (is ∙ ap (λ k. member k waiting.name ++ z) key ∙ ap (λ k. k ++ z) (append_assoc source.key own.at (waiting.name ∷ [])) ∙ append_assoc source.key (member own.at waiting.name) z)
    taken_beside other (inr i) waiting j z is = elim (under_member own.at entry.name (member there.at waiting.name) z same) [
      | inl q ↦ underway.apart.0 (subst (λ k. IsIn k (map key_of frames)) (open_key there ∙ ap (λ x. source.key ++ x) (sym (member_above own.at there.at entry.name waiting.name q)) ∙ sym (open_key own)) (IsIn-map key_of other frames i))
      | inr below ↦ (there.waits waiting j).clear _ own.listed below.0 below.1
    ]
      where
        there : IsOpen source dest top snap steps other
        there = underway.are_open other (inr i)

        same : member own.at entry.name ≡ member there.at waiting.name ++ z
        same = below_cancel source.key _ _ (is ∙ ap (λ k. member k waiting.name ++ z) (open_key there) ∙ ap (λ k. k ++ z) (append_assoc source.key there.at (waiting.name ∷ [])) ∙ append_assoc source.key (member there.at waiting.name) z)

    -- the top destination isn't in the snapshot
    pub skipped : member frame.source.key entry.name ≡ top → Underway source dest top old mid had has steps (after ∷ frames) []
    skipped at_top = dropped (member own.at entry.name) outside taken
      where
        outside : snap (member own.at entry.name) ≡ None
        outside = ap (λ b. if b then None else get old.contents.tree (source.key ++ member own.at entry.name))
            (ap (λ k. is_at_or_below k top) (sym (member_key entry.name) ∙ at_top ∙ sym (append-nothing top)) ∙ at_or_below-append top [])

  -- ---- the next member isn't shown

  module _ (after : CopyFrame) (same_source : after.source ≡ frame.source) (same_dest : after.dest ≡ frame.dest) (error : FsError) (more : List Shown) (next : rest frame ≡ Err error ∷ more) (ends : rest after ≡ []) where
    pub unshown : (finally : Names) → finally ≡ has ++ (frame.source, fs_status error) ∷ [] → Underway source dest top old mid had finally steps (after ∷ frames) []
    unshown finally appended = replaced after same_source same_dest (λ shown i. absurd (subst (IsIn shown) ends i)) (subst (λ (l : List Shown). AreDistinct (shown_names l)) (sym ends) tt) finally ((frame.source, fs_status error) ∷ []) []
        (λ entry i. inr (inr (own.unseen error (subst (IsIn {X = Shown} (Err error)) (sym next) (inl refl))))) appended owes
      where
        owes : owed frame ≡ (frame.source, fs_status error) ∷ owed after
        owes = (λ i. owed_in frame.source (next i)) ∙ owed_unshown frame.source error more ∙ ap (λ l. (frame.source, fs_status error) ∷ l) (sym ((λ i. owed_in after.source (ends i)) ∙ owed_none after.source))

  -- ---- no member is left

  pub closed : rest frame ≡ [] → Underway source dest top old mid had has steps frames []
  closed none = record {
    reached = underway.reached;
    files = underway.files;
    directories = underway.directories;
    listings = underway.listings;
    members = λ x n there i. elim (underway.members x n there i) [
      | inl asked ↦ inl asked
      | inr more ↦ elim more [
        | inl unseen ↦ inr (inl unseen)
        | inr others ↦ elim others [ inl waiting ↦ inr (inr (inl (elsewhere (member x n) waiting))) | inr nothing ↦ absurd nothing ]
      ]
    ];
    names = underway.names;
    named = underway.named;
    bag = subst (λ l. IsPermutation (names_of_copy source dest snap steps) (underway.names ++ l)) (owed_all-cons frame frames ∙ ap (λ l. l ++ owed_all frames) ((λ i. owed_in frame.source (none i)) ∙ owed_none frame.source)) underway.bag;
    are_open = λ other i. underway.are_open other (inr i);
    apart = underway.apart.1;
    unseen_named = underway.unseen_named;
  }
    where
      elsewhere : (y : Key) → IsWaiting source (frame ∷ frames) y → IsWaiting source frames y
      elsewhere y (other, inl e, entry, i, key) = absurd (subst (IsIn {X = Shown} (Ok entry)) (ap rest (sym e) ∙ none) i)
      elsewhere y (other, inr j, entry, i, key) = (other, j, entry, i, key)
