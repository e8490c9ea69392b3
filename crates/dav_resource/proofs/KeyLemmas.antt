-- What is read is a key, and a key has a flat text.
use Rattle.std.proofs.Common.{◌≡◌, ℕ, zero, suc, Bool, true, false, not, List, [], ◌∷◌, ◌++◌, take, drop, length, refl, subst, Ok, Err, if◌then◌else◌, ◌==◌, ◌-◌, arith, Option, Some}
use Rattle.std.specs.Prelude.{All, ◌≢◌, ◌||◌, bytes_eq, MatchOption}
use Rattle.std.specs.List.{list_all, starts_with}
use Rattle.std.specs.Str.{is_utf8}
use Rattle.std.proofs.lemmas.Str.{IsUtf8-from_is_utf8}
use Rattle.std.proofs.lemmas.Bool.{and_parts}
use Rattle.std.proofs.lemmas.Bool.Decides.{nat_tests}
use Rattle.std.proofs.lemmas.List.Sums.{AllPass-from_list_all}
use Rattle.dav_key.specs.Key.{Key, stripped}
use Rattle.dav_key.specs.Flat.{IsFlatSegment, IsFlatKey}
use Rattle.dav_resource.specs.declared.error.DavError.TheVariants.{ForbiddenPath, IllegalPath}
use Rattle.dav_resource.specs.PathText.{IsKey, IsSegment, IsSegmentText, is_plain_byte, is_dropped, is_parent, enter, below_prefix}

pub IsKey-push : (key : Key) (s : List ℕ) → IsKey key → IsSegment s → IsKey (key ++ s ∷ [])
IsKey-push [] s is here = (here, tt)
IsKey-push (k ∷ key) s is here = (is.0, IsKey-push key s is.1 here)

pub IsKey-append : (a b : Key) → IsKey a → IsKey b → IsKey (a ++ b)
IsKey-append [] b first last = last
IsKey-append (k ∷ a) b first last = (first.0, IsKey-append a b first.1 last)

pub IsKey-take : (n : ℕ) (key : Key) → IsKey key → IsKey (take n key)
IsKey-take zero key is = tt
IsKey-take (suc n) [] is = tt
IsKey-take (suc n) (k ∷ key) is = (is.0, IsKey-take n key is.1)

pub IsKey-drop : (n : ℕ) (key : Key) → IsKey key → IsKey (drop n key)
IsKey-drop zero key is = is
IsKey-drop (suc n) [] is = tt
IsKey-drop (suc n) (k ∷ key) is = IsKey-drop n key is.1

step : (key : Key) (s : List ℕ) (new : Key) (dropped parent root : Bool) → is_dropped s ≡ dropped → is_parent s ≡ parent → IsKey key → IsSegmentText s → (if dropped then Ok key else (if not parent then Ok (key ++ s ∷ []) else (if root then Err ForbiddenPath else Ok (take (length key - 1) key)))) ≡ Ok new → IsKey new
step key s new true parent root d p is text e = let same : key ≡ new = cc in subst IsKey same is
step key s new false false root d p is text e =
    let same : key ++ s ∷ [] ≡ new = cc in
    subst IsKey same (IsKey-push key s is (record { written = text; kept = d; child = p }))
step key s new false true true d p is text e = absurd (cc)
step key s new false true false d p is text e =
    let same : take (length key - 1) key ≡ new = cc in
    subst IsKey same (IsKey-take (length key - 1) key is)

pub IsKey-enter : (key : Key) (s : List ℕ) (new : Key) → IsKey key → IsSegmentText s → enter key s ≡ Ok new → IsKey new
IsKey-enter key s new is text e = step key s new (is_dropped s) (is_parent s) (length key == 0) refl refl is text e

-- ---- below a prefix

-- what is left of a key without a prefix is a key
pub IsKey-stripped : (key prefix rest : Key) → Some rest ≡ stripped key prefix → IsKey key → IsKey rest
IsKey-stripped key prefix rest e is = by_start (starts_with bytes_eq key prefix) refl
  where
    by_start : (starts : Bool) → starts_with bytes_eq key prefix ≡ starts → IsKey rest
    by_start true here =
        let same : drop (length prefix) key ≡ rest = let at = rw here at e in cc in
        subst IsKey same (IsKey-drop (length prefix) key is)
    by_start false here = let none = rw here at e in absurd (cc)

-- what a path below the prefix is
abbrev pub BelowPrefix : Bool → Key → Key → Option Key → Type 0
BelowPrefix slash key prefix rest =
    MatchOption rest
    (below_prefix slash key prefix ≡ Err IllegalPath)
    (λ rest. below_prefix slash key prefix ≡ Ok (record { star = false; slash = slash || length rest == 0; prefix = prefix; key = rest }))

pub BelowPrefix-stripped : (slash : Bool) (key prefix : Key) → BelowPrefix slash key prefix (stripped key prefix)
BelowPrefix-stripped slash key prefix = by_start (starts_with bytes_eq key prefix) refl
  where
    by_start : (starts : Bool) → starts_with bytes_eq key prefix ≡ starts → BelowPrefix slash key prefix (stripped key prefix)
    by_start true here = rw here refl
    by_start false here = rw here refl

-- ---- segments have flat texts

not_nul : (b : ℕ) → is_plain_byte b ≡ true → b ≢ 0
not_nul b plain = grind (arith, nat_tests)

no_nul : (s : List ℕ) → list_all is_plain_byte s ≡ true → All (λ b. b ≢ 0) s
no_nul s plain = λ k d within. not_nul _ (AllPass-from_list_all is_plain_byte s plain k d within)

-- the decoded bytes of a part may be a segment of a flat key
pub IsFlatSegment-text : (s : List ℕ) → IsSegmentText s → IsFlatSegment s
IsFlatSegment-text s is =
    let parts = and_parts (is_utf8 s) (list_all is_plain_byte s) is.text in
    record { no_nul = no_nul s parts.1; utf8 = IsUtf8-from_is_utf8 s parts.0 }

-- a key has a flat text
pub IsFlatKey-key : (key : Key) → IsKey key → IsFlatKey key
IsFlatKey-key [] is = tt
IsFlatKey-key (s ∷ key) is = (IsFlatSegment-text s is.0.written, IsFlatKey-key key is.1)
