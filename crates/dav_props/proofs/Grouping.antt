-- Properties by their statuses: what a map holds of them is what is to be reported.
use Rattle.std.proofs.Common.{◌≡◌, ◌≢◌, ◌∙◌, ◌⊎◌, ◌<◌, ℕ, Bool, true, false, cond, T, List, [], ◌∷◌, ◌++◌, Option, Some, None, Result, Ok, Err, Vec, map, length, get_or, refl, sym, ap, subst, is_some, inl, inr, append-nil, arith}
use Rattle.std.specs.Prelude.{filter, nat_eq, option_map, ◌&&◌, codes, All, IsOk}
use Rattle.std.specs.declared.alloc.Global.{Global}
use Rattle.std.specs.declared.cmp.Ordering.{Ordering}
use Rattle.std.specs.declared.cmp.Ordering.TheVariants.{Less, Equal, Greater}
use Rattle.std.specs.Ordering.{nat_cmp, is_eq, is_lt, eq_by_cmp}
use Rattle.std.specs.List.{AllByRecursion, list_any}
use Rattle.std.specs.List.Sorted.{IsStrictlySortedBy}
use Rattle.std.specs.Map.{lookup, keys_of}
use Rattle.std.specs.Option.{option_map_or}
use Rattle.std.specs.Cmp.{nat_cmp_total, tied_itself}
use Rattle.std.specs.Result.{OkIff}
use Rattle.std.proofs.lemmas.Bool.Decides.{eqb_tells}
use Rattle.std.proofs.lemmas.List.{get_or-map, length-map}
use Rattle.std.proofs.lemmas.List.Elements.{All-get_or}
use Rattle.http.specs.StatusCode.{IsStatusCode}
use Rattle.dav_resource.specs.declared.profile.Profile.{Profile}
use Rattle.dav_resource.specs.PathText.{PathValue}
use Rattle.dav_resource.specs.TreeLaws.{elements_snoc}
use Rattle.dav_messages.specs.DavElement.{href_element}
use Rattle.std.specs.BTreeMap.{get, is_at, IsOrdered}
use Rattle.std.specs.FinMap as fin
use Rattle.std.specs.FinMap.Entries.{find, is_sorted, below_all, same_entries}
use Rattle.dav_resource.specs.Tree.{Tree, prefixed_element, with_children, one_element, elements}
use Rattle.dav_props.specs.Propstat.{PropertyStatus, Group, of_status, statuses, grouped, propstat, property_response}
use Rattle.dav_props.specs.Groups.{StatusMap, groups_of, properties_at, AddsProperty}

-- the list, where there is something in it
abbrev pub some_of : List Tree → Option (List Tree)
some_of [] = None
some_of (x ∷ xs) = Some (x ∷ xs)

-- what the map has at a status
abbrev pub at_status : StatusMap → ℕ → Option (List Tree)
at_status groups status = option_map (λ (elements : Vec Tree Global). elements.items) (get nat_cmp groups status)

-- the map holds these properties
pub record IsGrouping (reported : List PropertyStatus) (groups : StatusMap) : Type 0 where
  pub holds : (status : ℕ) → at_status groups status ≡ some_of (of_status status reported)
  pub ordered : IsOrdered nat_cmp groups

-- ---- one more

-- those of a status, with one more property behind them
of_status-more : (status : ℕ) (reported : List PropertyStatus) (t : PropertyStatus) → of_status status (reported ++ t ∷ []) ≡ of_status status reported ++ cond (nat_eq t.0 status) (t.1 ∷ []) []
of_status-more status [] t = by_test (nat_eq t.0 status)
  where
    by_test : (b : Bool) → map (λ (x : PropertyStatus). x.1) (cond b (t ∷ []) []) ≡ cond b (t.1 ∷ []) []
    by_test true = refl
    by_test false = refl
of_status-more status (x ∷ reported) t = by_test (nat_eq x.0 status) (of_status-more status reported t)
  where
    by_test : (b : Bool) → of_status status (reported ++ t ∷ []) ≡ of_status status reported ++ cond (nat_eq t.0 status) (t.1 ∷ []) [] → map (λ (y : PropertyStatus). y.1) (cond b (x ∷ filter (λ (y : PropertyStatus). nat_eq y.0 status) (reported ++ t ∷ [])) (filter (λ (y : PropertyStatus). nat_eq y.0 status) (reported ++ t ∷ [])))
        ≡ map (λ (y : PropertyStatus). y.1) (cond b (x ∷ filter (λ (y : PropertyStatus). nat_eq y.0 status) reported) (filter (λ (y : PropertyStatus). nat_eq y.0 status) reported)) ++ cond (nat_eq t.0 status) (t.1 ∷ []) []
    by_test true rest = ap (λ l. x.1 ∷ l) rest
    by_test false rest = rest

-- the status that a property joins has it as its last one
joined : (xs : List Tree) (x : Tree) → Some (option_map_or (λ ys. ys) (some_of xs) [] ++ x ∷ []) ≡ some_of (xs ++ x ∷ [])
joined [] x = refl
joined (y ∷ xs) x = refl

properties_of-status : (groups : StatusMap) (status : ℕ) → properties_at groups status ≡ option_map_or (λ ys. ys) (at_status groups status) []
properties_of-status groups status = by_entry (get nat_cmp groups status)
  where
    by_entry : (o : Option (Vec Tree Global)) → option_map_or (λ (elements : Vec Tree Global). elements.items) o [] ≡ option_map_or (λ ys. ys) (option_map (λ (elements : Vec Tree Global). elements.items) o) []
    by_entry None = refl
    by_entry (Some elements) = refl

-- no property yet
pub grouping-none : (groups : StatusMap) → groups.entries ≡ [] → IsGrouping [] groups
unfolding IsStrictlySortedBy
grouping-none groups none = record {
  holds = λ status. ap (λ es. option_map (λ (elements : Vec Tree Global). elements.items) (lookup (is_at (nat_cmp status)) es)) none;
  ordered = subst (λ es. IsStrictlySortedBy nat_cmp (keys_of es)) (sym none) tt;
}

pub grouping-more : (reported : List PropertyStatus) (old new : StatusMap) (t : PropertyStatus) → IsGrouping reported old → AddsProperty old t.0 t.1 new → IsGrouping (reported ++ t ∷ []) new
grouping-more reported old new t was adds = record { holds = holds; ordered = adds.ordered }
  where
    holds : (status : ℕ) → at_status new status ≡ some_of (of_status status (reported ++ t ∷ []))
    holds status = by_test (eqb_tells t.0 status)
      where
        by_test : ((nat_eq t.0 status ≡ true) × (t.0 ≡ status)) ⊎ ((nat_eq t.0 status ≡ false) × (t.0 ≢ status)) → at_status new status ≡ some_of (of_status status (reported ++ t ∷ []))
        by_test (inl same) =
            ap (at_status new) (sym same.1)
            ∙ adds.here
            ∙ ap (λ xs. Some (xs ++ t.1 ∷ [])) (properties_of-status old t.0 ∙ ap (λ o. option_map_or (λ ys. ys) o []) (was.holds t.0))
            ∙ joined (of_status t.0 reported) t.1
            ∙ ap (λ s. some_of (of_status s reported ++ t.1 ∷ [])) same.1
            ∙ ap some_of (sym (of_status-more status reported t ∙ ap (λ b. of_status status reported ++ cond b (t.1 ∷ []) []) same.0))
        by_test (inr other) =
            ap (option_map (λ (elements : Vec Tree Global). elements.items)) (adds.others status (λ e. other.1 (sym e)))
            ∙ was.holds status
            ∙ ap some_of (sym (of_status-more status reported t ∙ ap (λ b. of_status status reported ++ cond b (t.1 ∷ []) []) other.0 ∙ append-nil (of_status status reported)))

-- ---- all of them

-- the test of the map's order and that of numbers agree
by_order : (q k : ℕ) → ((eq_by_cmp nat_cmp q k ≡ true) × (q ≡ k)) ⊎ ((eq_by_cmp nat_cmp q k ≡ false) × (q ≢ k))
by_order q k = by_answer (nat_cmp q k) refl
  where
    by_answer : (r : Ordering) → nat_cmp q k ≡ r → ((eq_by_cmp nat_cmp q k ≡ true) × (q ≡ k)) ⊎ ((eq_by_cmp nat_cmp q k ≡ false) × (q ≢ k))
    by_answer Equal e = inl (ap is_eq e, fin.nat_cmp-IsAntisymmetric q k e)
    by_answer Less e = inr (ap is_eq e, λ same. absurd (let no : Equal ≡ Less = sym (tied_itself nat_cmp_total k) ∙ ap (λ n. nat_cmp n k) (sym same) ∙ e in cc))
    by_answer Greater e = inr (ap is_eq e, λ same. absurd (let no : Equal ≡ Greater = sym (tied_itself nat_cmp_total k) ∙ ap (λ n. nat_cmp n k) (sym same) ∙ e in cc))

find-groups : (q : ℕ) (es : List (ℕ × Vec Tree Global)) → find nat_cmp q (map (λ (e : ℕ × Vec Tree Global). (e.0, e.1.items)) es) ≡ option_map (λ (v : Vec Tree Global). v.items) (lookup (is_at (nat_cmp q)) es)
find-groups q [] = refl
find-groups q (e ∷ es) = by_test (eq_by_cmp nat_cmp q e.0) (find-groups q es)
  where
    Same : Type 0
    Same = find nat_cmp q (map (λ (d : ℕ × Vec Tree Global). (d.0, d.1.items)) es) ≡ option_map (λ (v : Vec Tree Global). v.items) (lookup (is_at (nat_cmp q)) es)

    by_test : (b : Bool) → Same → cond b (Some e.1.items) (find nat_cmp q (map (λ (d : ℕ × Vec Tree Global). (d.0, d.1.items)) es)) ≡ option_map (λ (v : Vec Tree Global). v.items) (cond b (Some e.1) (lookup (is_at (nat_cmp q)) es))
    by_test true rest = refl
    by_test false rest = rest

find-listed : (q : ℕ) (reported : List PropertyStatus) (ks : List ℕ) → find nat_cmp q (map (λ s. (s, of_status s reported)) ks) ≡ cond (list_any (eq_by_cmp nat_cmp q) ks) (Some (of_status q reported)) None
find-listed q reported [] = refl
find-listed q reported (k ∷ ks) = by_test (by_order q k) (find-listed q reported ks)
  where
    Same : Type 0
    Same = find nat_cmp q (map (λ s. (s, of_status s reported)) ks) ≡ cond (list_any (eq_by_cmp nat_cmp q) ks) (Some (of_status q reported)) None

    by_test : ((eq_by_cmp nat_cmp q k ≡ true) × (q ≡ k)) ⊎ ((eq_by_cmp nat_cmp q k ≡ false) × (q ≢ k)) → Same
        → cond (eq_by_cmp nat_cmp q k) (Some (of_status k reported)) (find nat_cmp q (map (λ s. (s, of_status s reported)) ks)) ≡ cond (list_any (eq_by_cmp nat_cmp q) (k ∷ ks)) (Some (of_status q reported)) None
    by_test (inl same) rest = rw same.0 (ap (λ s. Some (of_status s reported)) (sym same.1))
    by_test (inr other) rest = rw other.0 rest

some-reported : (q : ℕ) (reported : List PropertyStatus) → some_of (of_status q reported) ≡ cond (is_some (find nat_cmp q reported)) (Some (of_status q reported)) None
some-reported q [] = refl
some-reported q (t ∷ reported) = by_test (by_order q t.0) (eqb_tells t.0 q) (some-reported q reported)
  where
    Same : Type 0
    Same = some_of (of_status q reported) ≡ cond (is_some (find nat_cmp q reported)) (Some (of_status q reported)) None

    Wanted : Type 0
    Wanted = some_of (of_status q (t ∷ reported)) ≡ cond (is_some (find nat_cmp q (t ∷ reported))) (Some (of_status q (t ∷ reported))) None

    by_test : ((eq_by_cmp nat_cmp q t.0 ≡ true) × (q ≡ t.0)) ⊎ ((eq_by_cmp nat_cmp q t.0 ≡ false) × (q ≢ t.0)) → ((nat_eq t.0 q ≡ true) × (t.0 ≡ q)) ⊎ ((nat_eq t.0 q ≡ false) × (t.0 ≢ q)) → Same → Wanted
    by_test (inl same) (inl also) rest = rw (same.0, also.0) refl
    by_test (inl same) (inr other) rest = absurd (other.1 (sym same.1))
    by_test (inr other) (inl same) rest = absurd (other.1 (sym same.1))
    by_test (inr other) (inr also) rest = rw (other.0, also.0) rest

both : (a b : Bool) → T a → T b → T (a && b)
both true b p q = q
both false b p q = p

below-sorted : (x : ℕ) (es : List (ℕ × Vec Tree Global)) → AllByRecursion (λ y. nat_cmp x y ≡ Less) (keys_of es) → T (below_all nat_cmp x (map (λ (e : ℕ × Vec Tree Global). (e.0, e.1.items)) es))
below-sorted x [] h = tt
below-sorted x (e ∷ es) h = both _ _ (subst T (sym (ap is_lt h.0)) tt) (below-sorted x es h.1)

groups-sorted : (es : List (ℕ × Vec Tree Global)) → IsStrictlySortedBy nat_cmp (keys_of es) → T (is_sorted nat_cmp (map (λ (e : ℕ × Vec Tree Global). (e.0, e.1.items)) es))
unfolding IsStrictlySortedBy
groups-sorted [] h = tt
groups-sorted (e ∷ es) h = both _ _ (below-sorted e.0 es h.0) (groups-sorted es h.1)

below-listed : (x : ℕ) (reported es : List PropertyStatus) → below_all nat_cmp x (map (λ s. (s, of_status s reported)) (map (λ (e : PropertyStatus). e.0) es)) ≡ below_all nat_cmp x es
below-listed x reported [] = refl
below-listed x reported (e ∷ es) = ap (λ b. is_lt (nat_cmp x e.0) && b) (below-listed x reported es)

listed-sorted : (reported es : List PropertyStatus) → is_sorted nat_cmp (map (λ s. (s, of_status s reported)) (map (λ (e : PropertyStatus). e.0) es)) ≡ is_sorted nat_cmp es
listed-sorted reported [] = refl
listed-sorted reported (e ∷ es) = λ i. below-listed e.0 reported es i && listed-sorted reported es i

-- the map's entries are the properties that are to be reported
pub grouping-is : (reported : List PropertyStatus) (groups : StatusMap) → IsGrouping reported groups → groups_of groups ≡ grouped reported
grouping-is reported groups h =
    same_entries nat_cmp nat_cmp_total fin.nat_cmp-IsAntisymmetric (groups_of groups) (grouped reported) (groups-sorted groups.entries h.ordered)
    (subst T (sym (listed-sorted reported (fin.entries (fin.from_entries {R = nat_cmp} reported)))) (fin.entries_sorted (fin.from_entries {R = nat_cmp} reported))) finds
  where
    among : (q : ℕ) → list_any (eq_by_cmp nat_cmp q) (statuses reported) ≡ is_some (find nat_cmp q reported)
    among q = sym (fin.contains_key-keys (fin.from_entries {R = nat_cmp} reported) q) ∙ ap is_some (fin.get-from_entries nat_cmp_total reported q)

    finds : (q : ℕ) → find nat_cmp q (groups_of groups) ≡ find nat_cmp q (grouped reported)
    finds q =
        find-groups q groups.entries
        ∙ h.holds q
        ∙ some-reported q reported
        ∙ ap (λ b. cond b (Some (of_status q reported)) None) (sym (among q))
        ∙ sym (find-listed q reported (statuses reported))

-- the groups that these entries are
abbrev pub seen_groups : List (ℕ × Vec Tree Global) → List Group
seen_groups es = map (λ (e : ℕ × Vec Tree Global). (e.0, e.1.items)) es

-- one more group
told_more : (es : List (ℕ × Vec Tree Global)) (e : ℕ × Vec Tree Global) → map propstat (seen_groups es) ++ propstat (e.0, e.1.items) ∷ [] ≡ map propstat (seen_groups (es ++ e ∷ []))
told_more [] e = refl
told_more (d ∷ es) e = ap (λ ts. propstat (d.0, d.1.items) ∷ ts) (told_more es e)

pub responded : (profile : Profile) (path : PathValue) (es : List (ℕ × Vec Tree Global)) (e : ℕ × Vec Tree Global)
    → with_children (property_response profile path (seen_groups es)) (one_element (propstat (e.0, e.1.items))) ≡ property_response profile path (seen_groups (es ++ e ∷ []))
responded profile path es e =
    ap (with_children (prefixed_element (codes "D:response")))
    (elements_snoc (href_element profile path ∷ map propstat (seen_groups es)) (propstat (e.0, e.1.items)) ∙ ap (λ ts. elements (href_element profile path ∷ ts)) (told_more es e))

-- an entry's key is a status
pub status_among : (es : List (ℕ × Vec Tree Global)) (i : ℕ) (e : ℕ × Vec Tree Global) → All IsStatusCode (keys_of es) → i < length es → e ≡ get_or es i e → IsStatusCode e.0
status_among es i e all inside is =
    let among : i < length (keys_of es) = omega (arith, length-map es (λ (d : ℕ × Vec Tree Global). d.0), inside) in
    subst IsStatusCode (get_or-map (λ (d : ℕ × Vec Tree Global). d.0) es i e e.0 inside ∙ ap (λ (d : ℕ × Vec Tree Global). d.0) (sym is)) (All-get_or IsStatusCode (keys_of es) i e.0 among all)

-- a number that may be a status is one
pub ok_so : {T E : Type 0} (r : Result T E) (P : Type 0) (v : T) → OkIff r P v → P → IsOk r
ok_so (Ok x) P v h p = refl
ok_so (Err e) P v h p = absurd (h p)

-- and it is the same number
pub value_so : {T E : Type 0} (r : Result T E) (P : Type 0) (v x : T) → OkIff r P v → r ≡ Ok x → x ≡ v
value_so (Ok y) P v x h is = let same : y ≡ x = cc in sym same ∙ h.1
value_so (Err e) P v x h is = absurd cc

-- a list read as it is
pub map-same : {A : Type 0} (xs : List A) → map (λ x. x) xs ≡ xs
map-same [] = refl
map-same (x ∷ xs) = ap (λ ys. x ∷ ys) (map-same xs)
