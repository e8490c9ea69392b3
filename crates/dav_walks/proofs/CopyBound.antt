-- How many calls a copy makes: three at most for each key of the snapshot.
use Rattle.std.proofs.Common.{◌≡◌, ◌≢◌, ◌≤◌, ◌+◌, ◌*◌, Bool, true, false, cond, List, [], ◌∷◌, ◌++◌, None, map, length, refl, sym, ap, ◌∙◌, subst, inl, inr, arith, length-append}
use Rattle.std.specs.Prelude.{not, filter, is_some}
use Rattle.std.specs.FinMap.{get, keys}
use Rattle.std.proofs.lemmas.List.{length-map}
use Rattle.dav_key.specs.Key.{Key}
use Rattle.dav_resource.specs.declared.record.Op.{Op}
use Rattle.dav_resource.specs.declared.record.Op.TheVariants.{Metadata, ReadDir, ReadBytes, CreateDir, RemoveFile, RemoveDir, Copy, Rename, OpenFile, Seek, WriteBytes, Flush, FileMetadata, GetProp, GetProps, PatchProps, GetQuota, Entry}
use Rattle.dav_key.specs.Below.{is_at_or_below}
use Rattle.dav_store.specs.Store.{Contents, Tree}
use Rattle.dav_store.specs.Members.{IsIn, AreDistinct}
use Rattle.dav_walks.specs.KeyCall.{path_to, keys_below}
use Rattle.dav_walks.specs.Deletion.{is_call}
use Rattle.dav_walks.specs.Trace.{HasKind}
use Rattle.dav_walks.specs.Copying.{CopyStep, snapshot, keys_of_snapshot, is_directory_node, IsCalledFor, IsLawfulCopy}
use Rattle.dav_walks.proofs.Keys.{below_cancel, IsIn-left, IsIn-right, IsIn-append}
use Rattle.dav_walks.proofs.Counting.{path_below}
use Rattle.dav_walks.proofs.Among.{stands_among}
use Rattle.dav_walks.proofs.Bound.{IsIn-filter, filter-IsIn}
use Rattle.dav_walks.proofs.CopyGrow.{Steps, call_of, IsIn-map, map-IsIn, Sound}
use Rattle.dav_walks.proofs.CopyRoom.{snap_there}
use Rattle.dav_walks.proofs.CopyEnter.{kind_said, kind_present}

-- a list without repetition is at most as long as one that has all of it

around : {X : Type 0} (x : X) (ys : List X) → IsIn x ys → (before : List X) × (behind : List X) × (ys ≡ before ++ x ∷ behind)
around x [] i = absurd i
around x (y ∷ ys) (inl e) = ([], ys, ap (λ z. z ∷ ys) e)
around x (y ∷ ys) (inr i) = let a = around x ys i in (y ∷ a.0, a.1, ap (λ l. y ∷ l) a.2)

pub at_most : {X : Type 0} (xs ys : List X) → AreDistinct xs → ((x : X) → IsIn x xs → IsIn x ys) → length xs ≤ length ys
at_most [] ys once within = omega arith
at_most {X} (x ∷ xs) ys once within =
    let a = around x ys (within x (inl refl)) in
    let fewer : length xs ≤ length (a.0 ++ a.1) = at_most xs (a.0 ++ a.1) once.1 (without a.0 a.1 a.2) in
    let parts : length (a.0 ++ a.1) ≡ length a.0 + length a.1 = length-append a.0 a.1 in
    let all : length ys ≡ length a.0 + (length a.1 + 1) = ap length a.2 ∙ length-append a.0 (x ∷ a.1) ∙ omega arith in
    omega arith
  where
    without : (before behind : List X) → ys ≡ before ++ x ∷ behind → (z : X) → IsIn z xs → IsIn z (before ++ behind)
    without before behind is z i = elim (IsIn-append z before (x ∷ behind) (subst (IsIn z) is (within z (inr i)))) [
      | inl j ↦ IsIn-left z before behind j
      | inr j ↦ elim j [ inl e ↦ absurd (once.0 (subst (λ w. IsIn w xs) (sym e) i)) | inr k ↦ IsIn-right z before behind k ]
    ]

-- of a list without repetition under one word, a part has none under a finer one
pub still_once : {X Y Z : Type 0} (f : X → Y) (g : X → Z) (p : X → Bool) → ((x y : X) → g x ≡ g y → f x ≡ f y) → (xs : List X) → AreDistinct (map f xs) → AreDistinct (map g (filter p xs))
still_once f g p finer [] once = tt
still_once {X} {Y} {Z} f g p finer (x ∷ xs) once = go (p x) (still_once f g p finer xs once.1)
  where
    other : IsIn (g x) (map g (filter p xs)) → ⊥
    other i =
        let found = map-IsIn g (g x) (filter p xs) i in
        once.0 (subst (λ y. IsIn y (map f xs)) (finer found.0 x found.2) (IsIn-map f found.0 xs (filter-IsIn p found.0 xs found.1).0))

    go : (b : Bool) → AreDistinct (map g (filter p xs)) → AreDistinct (map g (cond b (x ∷ filter p xs) (filter p xs)))
    go true rest = (other, rest)
    go false rest = rest

-- ---- the calls that there may be

second_call : Bool → Op
second_call true = CreateDir
second_call false = Copy

calls_on : Tree → Key → List (Key × Op)
calls_on tree key = (key, Metadata) ∷ (key, second_call (is_directory_node (get tree key))) ∷ (key, ReadDir) ∷ []

calls_on_all : Tree → List Key → List (Key × Op)
calls_on_all tree [] = []
calls_on_all tree (key ∷ keys) = calls_on tree key ++ calls_on_all tree keys

three_each : (tree : Tree) (keys : List Key) → length (calls_on_all tree keys) ≡ 3 * length keys
unfolding calls_on_all calls_on
three_each tree [] = omega arith
three_each tree (key ∷ keys) =
    let rest : length (calls_on_all tree keys) ≡ 3 * length keys = three_each tree keys in
    omega arith

among_all : (tree : Tree) (keys : List Key) (key : Key) (call : Key × Op) → IsIn key keys → IsIn call (calls_on tree key) → IsIn call (calls_on_all tree keys)
unfolding calls_on_all
among_all tree [] key call i j = absurd i
among_all tree (k ∷ keys) key call (inl e) j = IsIn-left call (calls_on tree k) (calls_on_all tree keys) (subst (λ q. IsIn call (calls_on tree q)) (sym e) j)
among_all tree (k ∷ keys) key call (inr i) j = IsIn-right call (calls_on tree k) (calls_on_all tree keys) (among_all tree keys key call i j)

module _ (tree : Tree) (s top : Key) where
  placed_call : CopyStep → Key × Op
  placed_call step = (s ++ step.at, step.op)

  in_snapshot : (x : Key) → snapshot tree s top x ≢ None → IsIn (s ++ x) (keys_of_snapshot tree s top)
  in_snapshot x there =
      let is = snap_there tree s top x there in
      IsIn-filter (λ key. not (is_at_or_below key top)) (s ++ x) (keys_below tree s)
      (IsIn-filter (λ key. is_some (path_to s key)) (s ++ x) (keys tree) (stands_among tree (s ++ x) (λ none. there (is.1 ∙ none))) (ap is_some (path_below s x)))
      (ap not is.0)

  second_is : (slash : Bool) (x : Key) → HasKind slash (snapshot tree s top x) → second_call slash ≡ second_call (is_directory_node (get tree (s ++ x)))
  second_is slash x kind =
      let is = snap_there tree s top x (kind_present slash _ kind) in
      ap second_call (sym (kind_said slash _ kind) ∙ ap is_directory_node is.1)

  module _ (steps : Steps) where
    -- each call that is made is one of them
    one_of : (op : Op) (x : Key) → is_call op ≡ true → IsCalledFor (snapshot tree s top) op x steps → IsIn (s ++ x, op) (calls_on_all tree (keys_of_snapshot tree s top))
    unfolding calls_on second_call
    one_of Metadata x call is = among_all tree _ (s ++ x) _ (in_snapshot x is.0) (inl refl)
    one_of Copy x call is = among_all tree _ (s ++ x) _ (in_snapshot x (kind_present false _ is.0)) (inr (inl (ap (λ (op : Op). (s ++ x, op)) (sym (second_is false x is.0)))))
    one_of CreateDir x call is = among_all tree _ (s ++ x) _ (in_snapshot x (kind_present true _ is.0)) (inr (inl (ap (λ (op : Op). (s ++ x, op)) (sym (second_is true x is.0)))))
    one_of ReadDir x call is = among_all tree _ (s ++ x) _ (in_snapshot x (kind_present true _ is.0)) (inr (inr (inl refl)))
    one_of Entry x call is = let p : false ≡ true = call in absurd (cc)
    one_of ReadBytes x call is = absurd is
    one_of RemoveFile x call is = absurd is
    one_of RemoveDir x call is = absurd is
    one_of Rename x call is = absurd is
    one_of OpenFile x call is = absurd is
    one_of Seek x call is = absurd is
    one_of WriteBytes x call is = absurd is
    one_of Flush x call is = absurd is
    one_of FileMetadata x call is = absurd is
    one_of GetProp x call is = absurd is
    one_of GetProps x call is = absurd is
    one_of PatchProps x call is = absurd is
    one_of GetQuota x call is = absurd is

    calls_bound : ((step : CopyStep) → IsIn step steps → IsCalledFor (snapshot tree s top) step.op step.at steps) → AreDistinct (map call_of steps)
        → length (filter (λ (step : CopyStep). is_call step.op) steps) ≤ 3 * length (keys_of_snapshot tree s top)
    unfolding placed_call
    calls_bound called once =
        let works = filter (λ (step : CopyStep). is_call step.op) steps in
        let fewer : length (map placed_call works) ≤ length (calls_on_all tree (keys_of_snapshot tree s top))
        = at_most (map placed_call works) (calls_on_all tree (keys_of_snapshot tree s top)) (still_once call_of placed_call (λ (step : CopyStep). is_call step.op) (λ a b e i. (below_cancel s a.at b.at (ap (λ (c : Key × Op). c.0) e) i, (e i).1)) steps once) within in
        let same : length (map placed_call works) ≡ length works = length-map works placed_call in
        let three : length (calls_on_all tree (keys_of_snapshot tree s top)) ≡ 3 * length (keys_of_snapshot tree s top) = three_each tree (keys_of_snapshot tree s top) in
        omega arith
      where
        within : (c : Key × Op) → IsIn c (map placed_call (filter (λ (step : CopyStep). is_call step.op) steps)) → IsIn c (calls_on_all tree (keys_of_snapshot tree s top))
        within c i =
            let found = map-IsIn placed_call c (filter (λ (step : CopyStep). is_call step.op) steps) i in
            let work = filter-IsIn (λ (step : CopyStep). is_call step.op) found.0 steps found.1 in
            subst (λ d. IsIn d (calls_on_all tree (keys_of_snapshot tree s top))) found.2 (one_of found.0.op found.0.at work.1 (called found.0 work.0))

-- what is lawful but for the number of calls is so with it
pub lawful_all : {s top d : Key} {old new : Contents} {steps : Steps} → Sound s top d old new steps → IsLawfulCopy s top d old new steps
lawful_all {s} {top} {d} {old} {new} {steps} sound = record {
  called_for = sound.called_for;
  once = sound.once;
  bound = calls_bound old.tree s top steps sound.called_for sound.once;
  free = sound.free;
  unseen = sound.unseen;
  made = sound.made;
  others = sound.others;
  limit = sound.limit;
  untouched = sound.untouched;
}
