-- The names of a copy's calls, where further calls follow.
use Rattle.std.proofs.Common.{◌≡◌, Bool, true, false, List, [], ◌∷◌, ◌++◌, Option, None, Some, Ok, Err, map, refl, sym, ap, ◌∙◌, subst, inl, inr, append_assoc}
use Rattle.std.specs.Prelude.{not, IsPermutation}
use Rattle.std.specs.List.{cons_option}
use Rattle.std.proofs.lemmas.List.Sorted.{IsPermutation-refl, IsPermutation-append, IsPermutation-append_right, IsPermutation-append_comm, IsPermutation-trans}
use mathlib.Core.Path.{subst₂}
use Rattle.dav_key.specs.Key.{Key}
use Rattle.dav_resource.specs.PathText.{PathValue}
use Rattle.dav_resource.specs.Errors.{fs_status}
use Rattle.dav_resource.specs.declared.meta.DirEntry.{DirEntry}
use Rattle.dav_resource.specs.declared.record.Op.{Op}
use Rattle.dav_resource.specs.declared.record.Outcome.{Outcome}
use Rattle.dav_resource.specs.declared.record.Outcome.TheVariants.{Granted}
use Rattle.dav_resource.specs.declared.error.FsError.{FsError}
use Rattle.dav_store.specs.Calls.{error_of}
use Rattle.dav_store.specs.Members.{IsIn, Child}
use Rattle.dav_messages.specs.Multistatus.{Item}
use Rattle.dav_walks.specs.Deletion.{Subtree, path_at, is_call}
use Rattle.dav_walks.specs.Copying.{path_of_step, named_once, names_behind, names_of_copy}
use Rattle.dav_walks.proofs.Keys.{parent-child}
use Rattle.dav_walks.proofs.Listings.{Shown}
use Rattle.dav_walks.proofs.Single.{Names}
use Rattle.dav_walks.proofs.CopyGrow.{Steps, step_on, unseen_steps}

-- what will be named of a listing: the first member that isn't shown
pub owed_in : PathValue → List Shown → Names
owed_in path [] = []
owed_in path (Ok entry ∷ listing) = owed_in path listing
owed_in path (Err error ∷ listing) = (path, fs_status error) ∷ []

pub owed_none : (path : PathValue) → owed_in path [] ≡ []
unfolding owed_in
owed_none path = refl

pub owed_shown : (path : PathValue) (entry : DirEntry) (listing : List Shown) → owed_in path (Ok entry ∷ listing) ≡ owed_in path listing
unfolding owed_in
owed_shown path entry listing = refl

pub owed_unshown : (path : PathValue) (error : FsError) (listing : List Shown) → owed_in path (Err error ∷ listing) ≡ (path, fs_status error) ∷ []
unfolding owed_in
owed_unshown path error listing = refl

-- a member that isn't shown makes the directory's name be due
pub owed_some : (path : PathValue) (listing : List Shown) (error : FsError) → IsIn {X = Shown} (Err error) listing → (item : Item) × IsIn item (owed_in path listing) × (item.0 ≡ path)
unfolding owed_in
owed_some path [] error i = absurd i
owed_some path (Ok entry ∷ listing) error (inl e) = let p : Ok entry ≡ Err error = e in absurd (cc)
owed_some path (Ok entry ∷ listing) error (inr i) = owed_some path listing error i
owed_some path (Err first ∷ listing) error i = ((path, fs_status first), inl refl, refl)

cons_append : {X : Type 0} (o : Option X) (xs ys : List X) → cons_option o (xs ++ ys) ≡ cons_option o xs ++ ys
cons_append None xs ys = refl
cons_append (Some x) xs ys = refl

module _ (source dest : PathValue) (snap : Subtree) where
  abbrev pub StartsAnew : Steps → Type 0
  StartsAnew more = (after_unseen : Bool) → names_behind source dest snap after_unseen more ≡ names_of_copy source dest snap more

  append_behind : (after_unseen : Bool) (steps more : Steps) → StartsAnew more → names_behind source dest snap after_unseen (steps ++ more) ≡ names_behind source dest snap after_unseen steps ++ names_of_copy source dest snap more
  append_behind after_unseen [] more anew = anew after_unseen
  append_behind after_unseen (step ∷ steps) more anew =
      let behind : Bool = not (is_call step.op) in
      ap (λ ns. cons_option (named_once source dest snap after_unseen step) ns) (append_behind behind steps more anew)
      ∙ cons_append (named_once source dest snap after_unseen step) (names_behind source dest snap behind steps) (names_of_copy source dest snap more)

  pub names_append : (steps more : Steps) → StartsAnew more → names_of_copy source dest snap (steps ++ more) ≡ names_of_copy source dest snap steps ++ names_of_copy source dest snap more
  names_append steps more anew = append_behind false steps more anew

  -- a granted call names nothing
  pub granted_anew : (p : Key) (op : Op) (more : Steps) → is_call op ≡ true → (after_unseen : Bool) → names_behind source dest snap after_unseen (step_on p op Granted ∷ more) ≡ names_behind source dest snap false more
  granted_anew p op more call true = rw call refl
  granted_anew p op more call false = rw call refl

  -- one that wasn't granted names its path
  pub refused_anew : (p : Key) (op : Op) (outcome : Outcome) (error : FsError) → is_call op ≡ true → error_of outcome ≡ Some error → (after_unseen : Bool)
      → names_behind source dest snap after_unseen (step_on p op outcome ∷ []) ≡ (path_of_step source dest snap op p, fs_status error) ∷ []
  refused_anew p op outcome error call is true = rw (call, is) refl
  refused_anew p op outcome error call is false = rw is refl

  -- of the members that aren't shown the first is named
  reported_already : (p : Key) (cs : List Child) → names_behind source dest snap true (unseen_steps p cs) ≡ []
  reported_already p [] = refl
  reported_already p ((n, Ok entry) ∷ cs) = reported_already p cs
  reported_already p ((n, Err error) ∷ cs) = reported_already p cs

  pub first_unseen : (p : Key) (cs : List Child) → names_behind source dest snap false (unseen_steps p cs) ≡ owed_in (path_at source true (source.key ++ p)) (map (λ (c : Child). c.1) cs)
  unfolding owed_in
  first_unseen p [] = refl
  first_unseen p ((n, Ok entry) ∷ cs) = first_unseen p cs
  first_unseen p ((n, Err error) ∷ cs) = (λ i. (path_at source true (source.key ++ parent-child p n i), fs_status error) ∷ reported_already p cs i)

-- what is named, and what is owed, when more of both come
pub bag_further : (all more names owed given due : Names) → IsPermutation all (names ++ owed) → more ≡ given ++ due → IsPermutation (all ++ more) ((names ++ given) ++ (due ++ owed))
bag_further all more names owed given due bag is =
    IsPermutation-trans _ _ _ (IsPermutation-append _ _ _ _ bag (subst (λ l. IsPermutation more l) is (IsPermutation-refl more)))
    (subst₂ IsPermutation (sym (append_assoc names owed (given ++ due))) (sym (append_assoc names given (due ++ owed)))
    (IsPermutation-append_right names _ _ (subst₂ IsPermutation refl (append_assoc given due owed) (IsPermutation-append_comm owed (given ++ due)))))

-- what was owed is named
pub bag_paid : (all names first owed : Names) → IsPermutation all (names ++ (first ++ owed)) → IsPermutation all ((names ++ first) ++ owed)
bag_paid all names first owed bag = subst (IsPermutation all) (sym (append_assoc names first owed)) bag
