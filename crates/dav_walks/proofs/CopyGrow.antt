-- A copy's calls, one by one: what is lawful stays so with each.
use Rattle.std.proofs.Common.{◌≡◌, ◌≢◌, ◌⊎◌, ℕ, List, [], ◌∷◌, ◌++◌, Option, None, Some, Ok, Err, map, refl, sym, ap, ◌∙◌, subst, inl, inr, append_assoc}
use Rattle.std.specs.Prelude.{filter_map}
use Rattle.std.proofs.lemmas.List.{append-nil, map-append}
use Rattle.dav_key.specs.Key.{Key}
use Rattle.dav_resource.specs.declared.record.Op.{Op}
use Rattle.dav_resource.specs.declared.record.Op.TheVariants.{Metadata, ReadDir, ReadBytes, CreateDir, RemoveFile, RemoveDir, Copy, Rename, OpenFile, Seek, WriteBytes, Flush, FileMetadata, GetProp, GetProps, PatchProps, GetQuota, Entry}
use Rattle.dav_resource.specs.declared.record.Outcome.{Outcome}
use Rattle.dav_resource.specs.declared.record.Outcome.TheVariants.{Granted, Refused}
use Rattle.dav_resource.specs.declared.error.FsError.{FsError}
use Rattle.dav_store.specs.Store.{Contents}
use Rattle.dav_store.specs.Calls.{IsLawful, IsOwn, limit_of}
use Rattle.dav_store.specs.Members.{IsIn, AreDistinct, member, Child, names_of}
use Rattle.dav_walks.specs.KeyCall.{standing}
use Rattle.dav_walks.specs.Deletion.{Subtree}
use Rattle.dav_walks.specs.Copying.{CopyStep, IsGranted, IsMade, NothingMade, IsListed, IsCalledFor, copied, snapshot}
use Rattle.dav_walks.proofs.Keys.{below_cancel, IsIn-left, IsIn-right, IsIn-append}

abbrev pub Steps : Type 0
Steps = List CopyStep

abbrev pub step_on : Key → Op → Outcome → CopyStep
step_on x op outcome = record { at = x; op = op; outcome = outcome }

abbrev pub call_of : CopyStep → Key × Op
call_of step = (step.at, step.op)

-- ---- lists

pub IsIn-map : {X Y : Type 0} (f : X → Y) (x : X) (xs : List X) → IsIn x xs → IsIn (f x) (map f xs)
IsIn-map f x [] i = absurd i
IsIn-map f x (y ∷ xs) (inl e) = inl (ap f e)
IsIn-map f x (y ∷ xs) (inr i) = inr (IsIn-map f x xs i)

pub map-IsIn : {X Y : Type 0} (f : X → Y) (y : Y) (xs : List X) → IsIn y (map f xs) → (x : X) × IsIn x xs × (f x ≡ y)
map-IsIn f y [] i = absurd i
map-IsIn f y (x ∷ xs) (inl e) = (x, inl refl, e)
map-IsIn f y (x ∷ xs) (inr i) = let found = map-IsIn f y xs i in (found.0, inr found.1, found.2)

pub AreDistinct-push : {X : Type 0} (xs : List X) (x : X) → AreDistinct xs → (IsIn x xs → ⊥) → AreDistinct (xs ++ x ∷ [])
AreDistinct-push [] x once fresh = ((λ i. i), tt)
AreDistinct-push {X} (y ∷ xs) x once fresh = (
  (λ i. elim (IsIn-append y xs (x ∷ []) i) [
    | inl j ↦ once.0 j
    | inr j ↦ elim j [ inl e ↦ fresh (inl (sym e)) | inr k ↦ absurd k ]
  ]),
  AreDistinct-push xs x once.1 (λ i. fresh (inr i)),
)

pub only_one : {X : Type 0} (x y : X) → IsIn y (x ∷ []) → x ≡ y
only_one x y (inl e) = e
only_one x y (inr i) = absurd i

-- ---- what further calls leave as it is

module _ (steps more : Steps) where
  pub listed_later : (x : Key) → IsListed x steps → IsListed x (steps ++ more)
  listed_later x is = (is.0, is.1, is.2, IsIn-left _ steps more is.3)

  pub come_later : (x : Key) → (x ≡ []) ⊎ IsListed x steps → (x ≡ []) ⊎ IsListed x (steps ++ more)
  come_later x (inl e) = inl e
  come_later x (inr is) = inr (listed_later x is)

  pub called_later : (snap : Subtree) (op : Op) (x : Key) → IsCalledFor snap op x steps → IsCalledFor snap op x (steps ++ more)
  called_later snap Metadata x is = (is.0, come_later x is.1)
  called_later snap Copy x is = (is.0, IsIn-left _ steps more is.1)
  called_later snap CreateDir x is = (is.0, IsIn-left _ steps more is.1)
  called_later snap ReadDir x is = (is.0, IsIn-left _ steps more is.1)
  called_later snap Entry x is = listed_later x is
  called_later snap ReadBytes x is = is
  called_later snap RemoveFile x is = is
  called_later snap RemoveDir x is = is
  called_later snap Rename x is = is
  called_later snap OpenFile x is = is
  called_later snap Seek x is = is
  called_later snap WriteBytes x is = is
  called_later snap Flush x is = is
  called_later snap FileMetadata x is = is
  called_later snap GetProp x is = is
  called_later snap GetProps x is = is
  called_later snap PatchProps x is = is
  called_later snap GetQuota x is = is

  pub made_later : (x : Key) → IsMade x steps → IsMade x (steps ++ more)
  made_later x (inl i) = inl (IsIn-left _ steps more i)
  made_later x (inr i) = inr (IsIn-left _ steps more i)

  pub made_further : (x : Key) → IsMade x more → IsMade x (steps ++ more)
  made_further x (inl i) = inl (IsIn-right _ steps more i)
  made_further x (inr i) = inr (IsIn-right _ steps more i)

  pub made_apart : (x : Key) → IsMade x (steps ++ more) → IsMade x steps ⊎ IsMade x more
  made_apart x (inl i) = elim (IsIn-append _ steps more i) [ inl j ↦ inl (inl j) | inr j ↦ inr (inl j) ]
  made_apart x (inr i) = elim (IsIn-append _ steps more i) [ inl j ↦ inl (inr j) | inr j ↦ inr (inr j) ]

-- ---- what is lawful at any moment, but for the number of calls

pub record Sound (s top d : Key) (old new : Contents) (steps : Steps) : Type 0 where
  pub called_for : (step : CopyStep) → IsIn step steps → IsCalledFor (snapshot old.tree s top) step.op step.at steps
  pub once : AreDistinct (map call_of steps)
  pub free : (step : CopyStep) → IsIn step steps → IsLawful None step.outcome
  pub unseen : (x : Key) → IsGranted Entry x steps → ⊥
  pub made : (x : Key) → IsMade x steps → standing new (d ++ x) ≡ copied (standing old (s ++ x))
  pub others : (key : Key) → ((x : Key) → IsMade x steps → key ≢ d ++ x) → standing new key ≡ standing old key
  pub limit : limit_of new ≡ limit_of old
  pub untouched : NothingMade steps → new ≡ old

pub none_sound : (s top d : Key) (old : Contents) → Sound s top d old old []
none_sound s top d old = record {
  called_for = λ step i. absurd i;
  once = tt;
  free = λ step i. absurd i;
  unseen = λ x i. i;
  made = λ x m. elim m [ inl i ↦ absurd i | inr i ↦ absurd i ];
  others = λ key apart. refl;
  limit = refl;
  untouched = λ none. refl;
}

made_at : (step : CopyStep) (x : Key) → IsMade x (step ∷ []) → step.at ≡ x
made_at step x (inl i) = ap (λ (t : CopyStep). t.at) (only_one step _ i)
made_at step x (inr i) = ap (λ (t : CopyStep). t.at) (only_one step _ i)

-- one call more
module _ {s top d : Key} {old mid : Contents} {steps : Steps} (sound : Sound s top d old mid steps) where
  pub grow : (new : Contents) (step : CopyStep) → IsCalledFor (snapshot old.tree s top) step.op step.at steps → IsLawful None step.outcome → (IsGranted Entry step.at (step ∷ []) → ⊥)
      → (IsIn (call_of step) (map call_of steps) → ⊥) → (IsMade step.at (step ∷ []) → (IsMade step.at steps → ⊥) × (standing new (d ++ step.at) ≡ copied (standing old (s ++ step.at))))
      → ((key : Key) → (IsMade step.at (step ∷ []) → key ≢ d ++ step.at) → standing new key ≡ standing mid key) → limit_of new ≡ limit_of mid → ((IsMade step.at (step ∷ []) → ⊥) → new ≡ mid)
      → Sound s top d old new (steps ++ step ∷ [])
  grow new step called lawful seen fresh makes keeps limit quiet = record {
    called_for = λ t i. elim (IsIn-append t steps (step ∷ []) i) [
      | inl j ↦ called_later steps (step ∷ []) (snapshot old.tree s top) t.op t.at (sound.called_for t j)
      | inr j ↦ subst (λ (u : CopyStep). IsCalledFor (snapshot old.tree s top) u.op u.at (steps ++ step ∷ [])) (only_one step t j) (called_later steps (step ∷ []) (snapshot old.tree s top) step.op step.at called)
    ];
    once = subst AreDistinct (sym (map-append call_of steps (step ∷ []))) (AreDistinct-push (map call_of steps) (call_of step) sound.once fresh);
    free = λ t i. elim (IsIn-append t steps (step ∷ []) i) [
      | inl j ↦ sound.free t j
      | inr j ↦ subst (λ (u : CopyStep). IsLawful None u.outcome) (only_one step t j) lawful
    ];
    unseen = λ x i. elim (IsIn-append _ steps (step ∷ []) i) [
      | inl j ↦ sound.unseen x j
      | inr j ↦ seen (subst (λ (y : Key). IsGranted Entry y (step ∷ [])) (sym (ap (λ (t : CopyStep). t.at) (only_one step _ j))) j)
    ];
    made = λ x m. elim (made_apart steps (step ∷ []) x m) [ inl n ↦ earlier x n | inr n ↦ here x n ];
    others = λ key apart. keeps key (λ m. apart step.at (made_further steps (step ∷ []) step.at m)) ∙ sound.others key (λ x m. apart x (made_later steps (step ∷ []) x m));
    limit = limit ∙ sound.limit;
    untouched = λ none. quiet (λ m. none step.at (made_further steps (step ∷ []) step.at m)) ∙ sound.untouched (λ x m. none x (made_later steps (step ∷ []) x m));
  }
    where
      earlier : (x : Key) → IsMade x steps → standing new (d ++ x) ≡ copied (standing old (s ++ x))
      earlier x n = keeps (d ++ x) (λ m p. (makes m).0 (subst (λ (y : Key). IsMade y steps) (below_cancel d x step.at p) n)) ∙ sound.made x n

      here : (x : Key) → IsMade x (step ∷ []) → standing new (d ++ x) ≡ copied (standing old (s ++ x))
      here x n =
          let same : step.at ≡ x = made_at step x n in
          subst (λ (y : Key). standing new (d ++ y) ≡ copied (standing old (s ++ y))) same (makes (subst (λ (y : Key). IsMade y (step ∷ [])) (sym same) n)).1

  -- one that changes nothing
  pub grow_quiet : (new : Contents) (step : CopyStep) → new ≡ mid → IsCalledFor (snapshot old.tree s top) step.op step.at steps → IsLawful None step.outcome → (IsGranted Entry step.at (step ∷ []) → ⊥)
      → (IsIn (call_of step) (map call_of steps) → ⊥) → (IsMade step.at (step ∷ []) → ⊥) → Sound s top d old new (steps ++ step ∷ [])
  grow_quiet new step same called lawful seen fresh quiet =
      grow new step called lawful seen fresh (λ m. absurd (quiet m)) (λ key apart. ap (λ (c : Contents). standing c key) same) (ap (λ (c : Contents). limit_of c) same) (λ none. same)

-- ---- the members that a listing doesn't show

abbrev pub unseen_step : Key → Child → Option CopyStep
unseen_step p (n, Ok entry) = None
unseen_step p (n, Err error) = Some (step_on (member p n) Entry (Refused error))

abbrev pub unseen_steps : Key → List Child → Steps
unseen_steps p cs = filter_map (unseen_step p) cs

refused_entry : (y x : Key) (error : FsError) → IsGranted Entry y (step_on x Entry (Refused error) ∷ []) → ⊥
refused_entry y x error (inl e) = let o : Refused error ≡ Granted = ap (λ (t : CopyStep). t.outcome) e in cc
refused_entry y x error (inr i) = i

makes_nothing : (y x : Key) (error : FsError) → IsMade y (step_on x Entry (Refused error) ∷ []) → ⊥
makes_nothing y x error (inl i) = let o : Refused error ≡ Granted = ap (λ (t : CopyStep). t.outcome) (only_one _ _ i) in cc
makes_nothing y x error (inr i) = let o : Refused error ≡ Granted = ap (λ (t : CopyStep). t.outcome) (only_one _ _ i) in cc

pub member_name : (p : Key) (n m : List ℕ) → member p n ≡ member p m → n ≡ m
member_name p n m e = let q : n ∷ [] ≡ m ∷ [] = below_cancel p (n ∷ []) (m ∷ []) e in cc

pub grow_unseen : {s top d : Key} {old new : Contents} (steps : Steps) → Sound s top d old new steps → (p : Key) → IsGranted ReadDir p steps → (cs : List Child) → AreDistinct (names_of cs)
    → ((n : List ℕ) → IsIn n (names_of cs) → IsIn (member p n, Entry) (map call_of steps) → ⊥) → ((n : List ℕ) (error : FsError) → IsIn {X = Child} (n, Err error) cs → IsOwn error)
    → Sound s top d old new (steps ++ unseen_steps p cs)
grow_unseen {s} {top} {d} {old} {new} steps sound p listed [] once fresh own = subst (Sound s top d old new) (sym (append-nil steps)) sound
grow_unseen steps sound p listed ((n, Ok entry) ∷ cs) once fresh own = grow_unseen steps sound p listed cs once.1 (λ m i. fresh m (inr i)) (λ m error i. own m error (inr i))
grow_unseen {s} {top} {d} {old} {new} steps sound p listed ((n, Err error) ∷ cs) once fresh own =
    let step : CopyStep = step_on (member p n) Entry (Refused error) in
    let more : Sound s top d old new (steps ++ step ∷ []) = grow_quiet sound new step refl (p, n, refl, listed) (own n error (inl refl)) (refused_entry _ _ error) (fresh n (inl refl)) (makes_nothing _ _ error) in
    subst (Sound s top d old new) (append_assoc steps (step ∷ []) (unseen_steps p cs)) (grow_unseen (steps ++ step ∷ []) more p (IsIn-left _ steps (step ∷ []) listed) cs once.1 next (λ m e i. own m e (inr i)))
  where
    next : (m : List ℕ) → IsIn m (names_of cs) → IsIn (member p m, Entry) (map call_of (steps ++ step_on (member p n) Entry (Refused error) ∷ [])) → ⊥
    next m i j = elim (IsIn-append _ (map call_of steps) (call_of (step_on (member p n) Entry (Refused error)) ∷ []) (subst (IsIn (member p m, Entry)) (map-append call_of steps (step_on (member p n) Entry (Refused error) ∷ [])) j)) [
      | inl k ↦ fresh m (inr i) k
      | inr k ↦ once.0 (subst (λ (a : List ℕ). IsIn a (names_of cs)) (sym (member_name p n m (ap (λ (c : Key × Op). c.0) (only_one _ _ k)))) i)
    ]
