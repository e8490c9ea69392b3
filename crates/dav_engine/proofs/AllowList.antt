-- Which methods an OPTIONS tells, and their names as a header field shows them.
use Rattle.std.proofs.Common.{◌≡◌, ℕ, Bool, true, false, ◌&&◌, ◌||◌, not, if◌then◌else◌, List, [], ◌∷◌, ◌++◌, map, filter, codes, Option, Some, None, unwrap_or, refl, sym, ◌∙◌, ap}
use Rattle.std.specs.List.{list_all, join_by, flat_map}
use Rattle.std.specs.Prelude.{is_some, option_map}
use Rattle.std.proofs.lemmas.List.Folds.{list_all-append, flat_map-map}
use Rattle.std.proofs.lemmas.List.{map-append}
use Rattle.std.proofs.lemmas.List.Elements.{filter-append}
use Rattle.std.proofs.lemmas.List.Sums.{AllPass-from_list_all}
use mathlib.Core.Path.{fun_ext}
use Rattle.http_header.specs.FieldValue.{IsFieldValue}
use Rattle.http_header.specs.Token.{is_value_byte}
use Rattle.dav_resource.specs.Methods.{contains_method}
use Rattle.dav_resource.specs.declared.method.DavMethod.{DavMethod}
use Rattle.dav_resource.specs.declared.method.DavMethod.TheVariants.{Head, Get, Put, Patch, Options, PropFind, PropPatch, MkCol, Copy, Move, Delete, Lock, Unlock}
use Rattle.dav_resource.specs.declared.method.DavMethodSet.{DavMethodSet}
use Rattle.dav_engine.specs.Options.{name_of, names_of, is_let, is_offered}

-- ---- the names

name-shown : (method : DavMethod) → list_all is_value_byte (name_of method) ≡ true
name-shown Head = refl
name-shown Get = refl
name-shown Put = refl
name-shown Patch = refl
name-shown Options = refl
name-shown PropFind = refl
name-shown PropPatch = refl
name-shown MkCol = refl
name-shown Copy = refl
name-shown Move = refl
name-shown Delete = refl
name-shown Lock = refl
name-shown Unlock = refl

further-shown : (methods : List DavMethod) → list_all is_value_byte (flat_map (λ method. codes "," ++ name_of method) methods) ≡ true
further-shown [] = refl
further-shown (method ∷ methods) = rw (list_all-append is_value_byte (name_of method) (flat_map (λ m. codes "," ++ name_of m) methods), name-shown method, further-shown methods) refl

names-shown : (methods : List DavMethod) → list_all is_value_byte (names_of methods) ≡ true
names-shown [] = refl
names-shown (method ∷ methods) = rw (list_all-append is_value_byte (name_of method) (flat_map (λ m. codes "," ++ name_of m) methods), name-shown method, further-shown methods) refl

-- a header field may show them
pub IsFieldValue-names_of : (methods : List DavMethod) → IsFieldValue (names_of methods)
IsFieldValue-names_of methods = AllPass-from_list_all is_value_byte (names_of methods) (names-shown methods)

-- pieces that are joined, of what they are made of
pub join_by-map : {X Y : Type 0} (f : Y → List ℕ) (g : X → Y) (separator : List ℕ) (xs : List X) → join_by f separator (map g xs) ≡ join_by (λ x. f (g x)) separator xs
join_by-map f g separator [] = refl
join_by-map f g separator (x ∷ xs) = ap (λ rest. f (g x) ++ rest) (flat_map-map (λ y. separator ++ f y) g xs)

-- ---- the methods

-- with a lock system no method is left out for want of one
pub let_with_locks : (known other : Bool) → known ≡ (known && (true || other))
let_with_locks true other = refl
let_with_locks false other = refl

-- without one two are
pub let_without_locks : (known lock unlock : Bool) → (if unlock then false else (if lock then false else known)) ≡ (known && (false || not (lock || unlock)))
let_without_locks true true true = refl
let_without_locks true true false = refl
let_without_locks true false true = refl
let_without_locks true false false = refl
let_without_locks false true true = refl
let_without_locks false true false = refl
let_without_locks false false true = refl
let_without_locks false false false = refl

pub left_out : (own known : Bool) → (if own then false else known) ≡ (not own && known)
left_out true known = refl
left_out false known = refl

pub and_first : (a b c : Bool) → (a && (b && c)) ≡ (b && (a && c))
and_first true true c = refl
and_first true false c = refl
and_first false true c = refl
and_first false false c = refl

-- what is let, where all are that aren't said not to be
pub let_of : (allow : Option DavMethodSet) (all : DavMethodSet) → ((method : DavMethod) → contains_method all method ≡ true) → (method : DavMethod) → contains_method (unwrap_or allow all) method ≡ is_let allow method
let_of None all each method = each method
let_of (Some set) all each method = refl

-- ---- one more name

pub names-more : (test : DavMethod → Bool) (methods : List DavMethod) (method : DavMethod) → map name_of (filter test (methods ++ method ∷ [])) ≡ map name_of (filter test methods) ++ (if test method then name_of method ∷ [] else [])
names-more test methods method = rw (filter-append test methods (method ∷ []), map-append name_of (filter test methods) (filter test (method ∷ []))) (ap (λ ms. map name_of (filter test methods) ++ ms) (one (test method)))
  where
    one : (b : Bool) → map name_of (if b then method ∷ [] else []) ≡ (if b then name_of method ∷ [] else [])
    one true = refl
    one false = refl

-- ---- what is reported

pub is_some-option_map : {X Y : Type 0} (f : X → Y) (o : Option X) → is_some (option_map f o) ≡ is_some o
is_some-option_map f None = refl
is_some-option_map f (Some x) = refl

-- those of the set, where the set has those that may be reported
pub told_is : (set : DavMethodSet) (allow : Option DavMethodSet) (locks same_locks : Bool) (own : Option DavMethod) (methods found : List DavMethod)
    → ((method : DavMethod) → contains_method set method ≡ is_offered allow locks own method) → same_locks ≡ locks → methods ≡ found → filter (contains_method set) methods ≡ filter (is_offered allow same_locks own) found
told_is set allow locks same_locks own methods found each same are =
    let tests : contains_method set ≡ is_offered allow locks own = fun_ext each in
    ap (λ ms. filter (contains_method set) ms) are ∙ ap (λ test. filter test found) tests ∙ ap (λ l. filter (is_offered allow l own) found) (sym same)
