-- Where the root is read below a prefix, the prefix's own faults are told from the root's.
use Rattle.std.proofs.Common.{◌≡◌, ◌≢◌, Bool, true, false, List, [], ◌∷◌, ℕ, Result, Ok, Err, refl, sym, ap, ◌∙◌, inl, inr, if◌then◌else◌, IsOk, IsErr, MatchResult}
use Rattle.std.specs.List.{slice_split}
use Rattle.dav_key.specs.Key.{Key}
use Rattle.dav_resource.specs.PathText.{PathValue, read_path, read_prefix, read_part, enter, enter_part, enter_parts, on_ok, below_prefix, is_slash}
use Rattle.dav_resource.specs.PathLaws.{read_key_root}
use Rattle.dav_resource.specs.Gives.{GivesBy}
use Rattle.dav_resource.specs.declared.error.DavError.{DavError}
use Rattle.dav_resource.specs.declared.error.DavError.TheVariants.{InvalidPath, ForbiddenPath, IllegalPath, Memory}

-- not the error that a path isn't below a prefix
abbrev IsApart : {A : Type 0} → Result A DavError → Type 0
IsApart r = r ≢ Err IllegalPath

apart-on_ok : {A B : Type 0} (r : Result A DavError) (f : A → Result B DavError) → IsApart r → ((a : A) → IsApart (f a)) → IsApart (on_ok r f)
apart-on_ok (Ok a) f p q = q a
apart-on_ok (Err e) f p q = λ h. p cc

apart-if : {A : Type 0} (b : Bool) {r s : Result A DavError} → IsApart r → IsApart s → IsApart (if b then r else s)
apart-if true p q = p
apart-if false p q = q

apart-ok : {A : Type 0} (a : A) → IsApart (Ok a)
apart-ok a h = absurd cc

forbidden : {A : Type 0} → IsApart {A = A} (Err ForbiddenPath)
forbidden h = absurd cc

invalid : {A : Type 0} → IsApart {A = A} (Err InvalidPath)
invalid h = absurd cc

apart-enter : (key : Key) (segment : List ℕ) → IsApart (enter key segment)
apart-enter key segment = search (apart-if, apart-ok, forbidden)

apart-part : (key : Key) (part : List ℕ) → IsApart (enter_part key part)
apart-part key part = apart-on_ok (read_part part) (enter key) (search (apart-if, apart-ok, invalid)) (apart-enter key)

apart-parts : (key parts : Key) → IsApart (enter_parts key parts)
apart-parts key [] = apart-ok key
apart-parts key (part ∷ parts) = apart-on_ok (enter_part key part) (λ next. enter_parts next parts) (apart-part key part) (λ next. apart-parts next parts)

-- no fault of a prefix is that a path isn't below it
pub apart-prefix : (prefix : List ℕ) → read_prefix prefix ≢ Err IllegalPath
apart-prefix [] = apart-ok []
apart-prefix (b ∷ bs) = apart-if _ (apart-parts [] (slice_split is_slash (b ∷ bs))) invalid

-- the root below what was read of a prefix
abbrev pub root_below : Result Key DavError → Result PathValue DavError
root_below prefix = on_ok prefix (below_prefix true [])

pub root-is : (prefix : List ℕ) → read_path (47 ∷ []) prefix ≡ root_below (read_prefix prefix)
root-is prefix = ap (λ key. on_ok key (λ key. on_ok (read_prefix prefix) (below_prefix true key))) read_key_root

pub root-apart : (key : Key) (e : DavError) → below_prefix true [] key ≡ Err e → e ≡ IllegalPath
root-apart [] e h = absurd cc
root-apart (segment ∷ key) e h = cc

-- what the root below a prefix tells of the prefix
abbrev pub TellsOf : List ℕ → Result PathValue DavError → Type 0
TellsOf prefix r =
    MatchResult r
    (λ path. IsOk (read_prefix prefix))
    (λ e. (e ≡ IllegalPath → IsOk (read_prefix prefix)) × (e ≢ IllegalPath → e ≢ Memory → IsErr (read_prefix prefix)))

found : (read : Result Key DavError) (path : PathValue) → root_below read ≡ Ok path → IsOk read
found (Ok key) path h = refl
found (Err e) path h = absurd cc

below : (read : Result Key DavError) (e : DavError) → read ≢ Err IllegalPath → root_below read ≡ Err e → e ≡ IllegalPath → IsOk read
below (Ok key) e apart h is = refl
below (Err d) e apart h is = absurd (apart cc)

faulty : (read : Result Key DavError) (e : DavError) → root_below read ≡ Err e → e ≢ IllegalPath → IsErr read
faulty (Ok key) e h other = absurd (other (root-apart key e h))
faulty (Err d) e h other = refl

pub tells : (prefix : List ℕ) (r : Result PathValue DavError) → GivesBy (λ path. path) r (read_path (47 ∷ []) prefix) → TellsOf prefix r
tells prefix (Ok path) h = found (read_prefix prefix) path (sym (root-is prefix) ∙ h)
tells prefix (Err e) (inl h) =
    (below (read_prefix prefix) e (apart-prefix prefix) (sym (root-is prefix) ∙ h), λ other some. faulty (read_prefix prefix) e (sym (root-is prefix) ∙ h) other)
tells prefix (Err e) (inr h) = (λ is. absurd cc, λ other some. absurd (some h))
