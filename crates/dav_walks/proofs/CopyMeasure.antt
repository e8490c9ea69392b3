-- What is left to do of a copy: with each member there is less.
use Rattle.std.proofs.Common.{◌≡◌, ◌<◌, ◌≤◌, ◌+◌, ◌*◌, ℕ, true, false, List, [], ◌∷◌, ◌++◌, Ok, Err, map, drop, refl, sym, ap, ◌∙◌, subst, inl, inr, arith, append_assoc}
use Rattle.std.specs.FinMap.{get, keys}
use Rattle.dav_key.specs.Key.{Key}
use Rattle.dav_resource.specs.PathText.{PathValue}
use Rattle.dav_resource.specs.declared.meta.DirEntry.{DirEntry}
use Rattle.dav_resource.specs.declared.error.FsError.{FsError}
use Rattle.dav_key.specs.Below.{is_at_or_below}
use Rattle.dav_store.specs.Store.{Contents, Tree}
use Rattle.dav_store.specs.Members.{IsIn, member, Child, names_of}
use Rattle.dav_walks.specs.declared.copy_frame.CopyFrame.{CopyFrame}
use Rattle.dav_walks.specs.Copying.{snapshot, HasRoom}
use Rattle.dav_walks.proofs.Keys.{same_or}
use Rattle.dav_walks.proofs.Listings.{Shown, children_once, children_there}
use Rattle.dav_walks.proofs.Single.{node_of}
use Rattle.dav_walks.specs.Counting.{total, count_below}
use Rattle.dav_walks.proofs.Counting.{total-cons, total-nil, children_count, counts_itself}
use Rattle.dav_walks.proofs.Among.{stands_among}
use Rattle.dav_walks.proofs.Going.{entry_left}
use Rattle.dav_walks.proofs.CopyGrow.{Steps, Sound}
use Rattle.dav_walks.proofs.CopyRoom.{snap_there, apart_from_place}
use Rattle.dav_walks.proofs.CopyEnter.{path_at-key, kind_present, OpensAt, rest}
use Rattle.dav_walks.proofs.CopyState.{member_apart, Waits, key_of}

abbrev pub copy_left : List Key → CopyFrame → ℕ
copy_left ks frame = total (entry_left ks frame.source.key) (rest frame) + 1

abbrev pub copies_left : List Key → List CopyFrame → ℕ
copies_left ks frames = total (copy_left ks) frames

-- the keys that a listing may show: those that stood there, and the top destination
abbrev pub all_keys : Key → Tree → List Key
all_keys top tree = top ∷ keys tree

-- one entry less in the same directory
pub one_less : (ks : List Key) (frame after : CopyFrame) (shown : Shown) (frames : List CopyFrame) → key_of after ≡ key_of frame → rest frame ≡ shown ∷ rest after
    → copies_left ks (frame ∷ frames) ≡ entry_left ks frame.source.key shown + copies_left ks (after ∷ frames)
one_less ks frame after shown frames same next =
    let here : total (entry_left ks frame.source.key) (rest frame) ≡ entry_left ks frame.source.key shown + total (entry_left ks frame.source.key) (rest after) = ap (total (entry_left ks frame.source.key)) next ∙ total-cons _ shown _ in
    let there : total (entry_left ks after.source.key) (rest after) ≡ total (entry_left ks frame.source.key) (rest after) = ap (λ k. total (entry_left ks k) (rest after)) same in
    omega (arith, total-cons (copy_left ks) frame frames, total-cons (copy_left ks) after frames)

pub none_left : (ks : List Key) (frame after : CopyFrame) (error : FsError) (more : List Shown) (frames : List CopyFrame) → rest frame ≡ Err error ∷ more → rest after ≡ [] → copies_left ks (after ∷ frames) < copies_left ks (frame ∷ frames)
none_left ks frame after error more frames next ends =
    let here : total (entry_left ks frame.source.key) (rest frame) ≡ 1 + total (entry_left ks frame.source.key) more = ap (total (entry_left ks frame.source.key)) next ∙ total-cons _ (Err error) _ in
    let there : total (entry_left ks after.source.key) (rest after) ≡ 0 = ap (total (entry_left ks after.source.key)) ends ∙ total-nil _ in
    omega (arith, total-cons (copy_left ks) frame frames, total-cons (copy_left ks) after frames)

pub one_done : (ks : List Key) (frame : CopyFrame) (frames : List CopyFrame) → copies_left ks frames < copies_left ks (frame ∷ frames)
one_done ks frame frames = omega (arith, total-cons (copy_left ks) frame frames)

-- the members of a directory have less to do than it
module _ (ks : List Key) (k : Key) where
  members_left : (cs : List Child) → ((c : Child) (entry : DirEntry) → IsIn c cs → c.1 ≡ Ok entry → entry.name ≡ c.0) → ((n : List ℕ) → IsIn n (names_of cs) → IsIn (member k n) ks)
      → total (entry_left ks k) (map (λ c. c.1) cs) ≤ 2 * total (λ n. count_below (member k n) ks) (names_of cs)
  members_left [] so there = omega (arith, total-nil (entry_left ks k))
  members_left ((n, Ok entry) ∷ cs) so there =
      let same : count_below (member k entry.name) ks ≡ count_below (member k n) ks = ap (λ m. count_below (member k m) ks) (so (n, Ok entry) entry (inl refl) refl) in
      omega (arith, members_left cs (λ c e i. so c e (inr i)) (λ m i. there m (inr i)), total-cons (entry_left ks k) (Ok entry) (map (λ (c : Child). c.1) cs), total-cons (λ m. count_below (member k m) ks) n (names_of cs))
  members_left ((n, Err error) ∷ cs) so there =
      let count : 1 ≤ count_below (member k n) ks = counts_itself (member k n) ks (there n (inl refl)) in
      omega (arith, members_left cs (λ c e i. so c e (inr i)) (λ m i. there m (inr i)), total-cons (entry_left ks k) (Err error) (map (λ (c : Child). c.1) cs), total-cons (λ m. count_below (member k m) ks) n (names_of cs))

module _ (source dest : PathValue) {top : Key} {old : Contents} (room : HasRoom source.key top dest.key old) where
  -- a member that waits is one of these keys
  pub waits_among : (steps : Steps) (x : Key) (entry : DirEntry) → Waits source top (snapshot old.tree source.key top) steps x entry → IsIn (member (source.key ++ x) entry.name) (all_keys top old.tree)
  waits_among steps x entry waits = elim (same_or (member (source.key ++ x) entry.name) top) [
    | inl e ↦ inl (sym e)
    | inr other ↦
        let there = snap_there old.tree source.key top (member x entry.name) (kind_present entry.meta.dir _ (waits.kind other)) in
        inr (stands_among old.tree _ (λ none. kind_present entry.meta.dir _ (waits.kind other) (there.1 ∙ ap (get old.tree) (sym (append_assoc source.key x (entry.name ∷ []))) ∙ none)))
  ]

  pub opened_less : (steps more : Steps) (new : Contents) (p : Key) (inner : CopyFrame) → Sound source.key top dest.key old new steps → is_at_or_below (source.key ++ p) top ≡ false → IsIn (source.key ++ p) (all_keys top old.tree)
      → OpensAt source dest new p more inner → copy_left (all_keys top old.tree) inner < 2 * count_below (source.key ++ p) (all_keys top old.tree)
  opened_less steps more new p inner sound outside here opens =
      let ks : List Key = all_keys top old.tree in
      let k : Key = source.key ++ p in
      let all : total (entry_left ks inner.source.key) (rest inner) ≡ total (entry_left ks k) (map (λ (c : Child). c.1) opens.children)
      = (λ i. total (entry_left ks ((ap (λ (v : PathValue). v.key) opens.source_at ∙ path_at-key source true k) i)) (drop (opens.first i) (opens.shown i))) in
      let within : total (entry_left ks k) (map (λ (c : Child). c.1) opens.children) ≤ 2 * total (λ n. count_below (member k n) ks) (names_of opens.children) = members_left ks k opens.children named_so among in
      let most : total (λ n. count_below (member k n) ks) (names_of opens.children) + 1 ≤ count_below k ks = children_count k (names_of opens.children) ks (children_once new k opens.children opens.are) here in
      omega arith
    where
      named_so : (c : Child) (entry : DirEntry) → IsIn c opens.children → c.1 ≡ Ok entry → entry.name ≡ c.0
      named_so c entry i e = (opens.are.shown (c.0, Ok entry) (subst (λ (t : Shown). IsIn {X = Child} (c.0, t) opens.children) e i)).0

      among : (n : List ℕ) → IsIn n (names_of opens.children) → IsIn (member (source.key ++ p) n) (all_keys top old.tree)
      among n i = elim (same_or (member (source.key ++ p) n) top) [
        | inl e ↦ inl (sym e)
        | inr other ↦
            let apart : is_at_or_below (source.key ++ member p n) top ≡ false = ap (λ j. is_at_or_below j top) (sym (append_assoc source.key p (n ∷ []))) ∙ member_apart (source.key ++ p) top n outside other in
            let same : get new.tree (source.key ++ member p n) ≡ get old.tree (source.key ++ member p n) = node_of (sound.others _ (λ y m q. apart_from_place room (member p n) y apart q)) in
            inr (stands_among old.tree _ (λ none. children_there new (source.key ++ p) opens.children opens.are n i
            (ap (get new.tree) (append_assoc source.key p (n ∷ [])) ∙ same ∙ ap (get old.tree) (sym (append_assoc source.key p (n ∷ []))) ∙ none)))
      ]
