-- Plans of refusals.
use Rattle.std.proofs.Common.{◌≡◌, ◌∙◌, true, false, cond, List, [], ◌∷◌, Some, None, refl, sym, drop, slice_get, rules}
use Rattle.std.specs.Prelude.{nat_eq}
use Rattle.std.specs.Cmp.{first_so, second_so}
use Rattle.std.specs.Ordering.{eq_by_cmp}
use denote.Enum.Bare.{sameb, same_true}
use denote.Enum.Declared.{tag_of}
use Rattle.dav_key.specs.Key.{Key, key_cmp, tied_decides}
use Rattle.dav_resource.specs.PathText.{PathValue}
use Rattle.dav_resource.specs.declared.record.Op.{Op}
use Rattle.dav_resource.specs.declared.record.Op.TheVariants.{Metadata}
use Rattle.dav_resource.specs.declared.error.FsError.{FsError}
use Rattle.dav_resource.specs.contracts.record.Op.{the_type}
use Rattle.dav_refusing.specs.Plans.{Plan, first_key, is_for, place_of_op, same_op, refusal_for, with_errors, without_first}

pub place-tag : (op : Op) → place_of_op op ≡ tag_of the_type op
place-tag Metadata = refl
place-tag _ = refl

-- `==` of two kinds of calls
same_op-tag : (a b : Op) → sameb the_type a b ≡ same_op a b
same_op-tag a b = λ i. nat_eq (sym (place-tag a) i) (sym (place-tag b) i)

-- ---- the first path

pub first_key-some : (paths : List PathValue) (path : PathValue) → Some path ≡ slice_get paths 0 → first_key paths ≡ path.key
first_key-some [] path e = absurd cc
first_key-some (p ∷ paths) path e = let same : path ≡ p = cc in λ i. (sym same i).key

pub first_key-none : (paths : List PathValue) → None ≡ slice_get paths 0 → first_key paths ≡ []
first_key-none [] e = refl
first_key-none (p ∷ paths) e = absurd cc

-- ---- calls that go by the same errors

-- they are of one kind on one key
pub is_for-same : (op : Op) (key : Key) (other : Op) (other_key : Key) → is_for op key other other_key ≡ true → (op ≡ other) × (key ≡ other_key)
is_for-same op key other other_key e = (
  same_true the_type (search rules) op other (same_op-tag op other ∙ first_so (same_op op other) (eq_by_cmp key_cmp key other_key) e),
  (tied_decides key other_key).0 (second_so (same_op op other) (eq_by_cmp key_cmp key other_key) e),
)

-- the errors that it has change nothing
pub with_errors-same : (op : Op) (key : Key) (errors : List FsError) (plan : Plan) → plan op key ≡ errors → with_errors op key errors plan ≡ plan
with_errors-same op key errors plan e = λ i other other_key. here other other_key i
  where
    here : (other : Op) (other_key : Key) → cond (is_for op key other other_key) errors (plan other other_key) ≡ plan other other_key
    here other other_key =
        elim (is_for op key other other_key) as (λ b. is_for op key other other_key ≡ b → cond b errors (plan other other_key) ≡ plan other other_key) [
          | true ↦ λ t. (let same = is_for-same op key other other_key t in sym e ∙ (λ i. plan (same.0 i) (same.1 i)))
          | false ↦ λ t. refl
        ] refl

no_more : (errors : List FsError) → slice_get errors 0 ≡ None → errors ≡ drop 1 errors
no_more [] e = refl
no_more (e ∷ errors) none = absurd cc

pub without-none : (op : Op) (key : Key) (plan : Plan) → refusal_for op key plan ≡ None → without_first op key plan ≡ plan
without-none op key plan none = with_errors-same op key (drop 1 (plan op key)) plan (no_more (plan op key) none)
