-- How a plan comes to the changes of properties in their order, and what is done of it to the plan.
use Rattle.std.proofs.Common.{◌≡◌, ◌∙◌, ℕ, ◌+◌, ◌<◌, length, take, get_or, Bool, true, false, cond, List, [], ◌∷◌, Option, Some, None, is_some, refl, sym, ap, subst}
use Rattle.std.proofs.lemmas.List.Sums.{fold_more}
use Rattle.std.specs.Ordering.{eq_by_cmp}
use Rattle.std.specs.Option.{option_or}
use Rattle.std.specs.List.{fold}
use Rattle.std.specs.BTreeMap.{BTreeMap, IsOrdered}
use Rattle.std.specs.FinMap as fin
use Rattle.std.specs.FinMap.Entries.{find, is_sorted, below_all}
use Rattle.dav_key.specs.Key.{Key, key_cmp, key_cmp_total, key_cmp_exact, tied_decides}
use Rattle.dav_resource.specs.Tree.{Tree}
use Rattle.dav_key.specs.Below.{put_at}
use Rattle.dav_store.specs.Store.{PropertyMap}
use Rattle.dav_store.specs.PropertyCalls.{Patch, patch, patched}
use Rattle.dav_key.specs.EachLaws.{get-put_at, find_below, both_parts, or_none}
use Rattle.dav_tree.specs.OrderedMaps.{seen_entries}
use Rattle.dav_tree.specs.PropertyNames.{key_of, name_cmp}
use Rattle.dav_tree.specs.Patching.{Changes, changes_of, replaced_by, ArePut, AreKept, AreTaken, AreOthers, AreChanged, Planned, IsPlan}
use Rattle.dav_tree.specs.declared.properties.PropertyName.{PropertyName}
use Rattle.dav_tree.proofs.OrderedKeys.{entries-map}
use Rattle.dav_tree.proofs.PropertyMaps.{names_agree}
use lib.Dec.{T}

abbrev same : Key → Key → Bool
same a b = eq_by_cmp key_cmp a b

-- one change more
pub planned-more : (old added : PropertyMap) (changes : Changes) (patches : List Patch) (i : ℕ) (change : Patch) → i < length patches → change ≡ get_or patches i change
    → IsPlan old added changes (patch (patched (take i patches) old) change) → IsPlan old added changes (patched (take (i + 1) patches) old)
planned-more old added changes patches i change within is gives =
    subst (IsPlan old added changes) (ap (patch (patched (take i patches) old)) is ∙ sym (fold_more patch old patches i change within)) gives

-- ---- the plan

-- without changes nothing is planned
pub plan-none : (old : PropertyMap) (changes : Changes) → ((q : Key) → fin.get changes q ≡ None) → IsPlan old fin.empty changes old
plan-none old changes none q = by (fin.get old q)
  where
    by : (o : Option Tree) → Planned o (fin.get (fin.empty {X = Tree} {R = key_cmp}) q) (fin.get changes q) o
    by None = (none q, fin.get-empty key_cmp q)
    by (Some v) = (fin.get-empty key_cmp q, ap (λ c. replaced_by c (Some v)) (none q))

module _ (old added : PropertyMap) (changes : Changes) (want : PropertyMap) (plan : IsPlan old added changes want) where
  -- a change at a name that is there
  pub plan-change : (k : Key) (e : Option Tree) (other : PropertyMap) (more : Changes) → is_some (fin.get old k) ≡ true → other ≡ added → more ≡ fin.insert changes k e → IsPlan old other more (put_at want k e)
  plan-change k e other more there kept noted q =
      subst (λ a. Planned (fin.get old q) a (fin.get more q) (fin.get (put_at want k e) q)) (sym (ap (λ m. fin.get m q) kept))
      (subst (λ c. Planned (fin.get old q) (fin.get added q) c (fin.get (put_at want k e) q)) (sym (ap (λ m. fin.get m q) noted ∙ fin.get-insert key_cmp_total changes k e q))
      (subst (Planned (fin.get old q) (fin.get added q) (cond (same q k) (Some e) (fin.get changes q))) (sym (get-put_at want k e q)) (by (same q k) refl (fin.get old q) refl (plan q))))
    where
      by : (b : Bool) → same q k ≡ b → (o : Option Tree) → fin.get old q ≡ o → Planned o (fin.get added q) (fin.get changes q) (fin.get want q)
          → Planned o (fin.get added q) (cond b (Some e) (fin.get changes q)) (cond b e (fin.get want q))
      by false tied o is p = p
      by true tied None is p = absurd (let some : is_some {T = Tree} None ≡ true = ap is_some (sym is ∙ ap (fin.get old) ((tied_decides q k).0 tied)) ∙ there in cc)
      by true tied (Some v) is p = (p.0, refl)

  -- a change at a name that isn't there
  pub plan-add : (k : Key) (e : Option Tree) (more : PropertyMap) (other : Changes) → is_some (fin.get old k) ≡ false → more ≡ put_at added k e → other ≡ changes → IsPlan old more other (put_at want k e)
  plan-add k e more other none noted kept q =
      subst (λ c. Planned (fin.get old q) (fin.get more q) c (fin.get (put_at want k e) q)) (sym (ap (λ m. fin.get m q) kept))
      (subst (λ a. Planned (fin.get old q) a (fin.get changes q) (fin.get (put_at want k e) q)) (sym (ap (λ m. fin.get m q) noted ∙ get-put_at added k e q))
      (subst (Planned (fin.get old q) (cond (same q k) e (fin.get added q)) (fin.get changes q)) (sym (get-put_at want k e q)) (by (same q k) refl (fin.get old q) refl (plan q))))
    where
      by : (b : Bool) → same q k ≡ b → (o : Option Tree) → fin.get old q ≡ o → Planned o (fin.get added q) (fin.get changes q) (fin.get want q)
          → Planned o (cond b e (fin.get added q)) (fin.get changes q) (cond b e (fin.get want q))
      by false tied o is p = p
      by true tied None is p = (p.0, refl)
      by true tied (Some v) is p = absurd (let some : is_some (Some v) ≡ false = ap is_some (sym is ∙ ap (fin.get old) ((tied_decides q k).0 tied)) ∙ none in cc)

  -- what is added has new names
  pub plan-others : AreOthers added old
  plan-others q new = by (fin.get old q) (plan q)
    where
      by : (o : Option Tree) → Planned o (fin.get added q) (fin.get changes q) (fin.get want q) → o ≡ None
      by None p = refl
      by (Some v) p = absurd (let some : is_some {T = Tree} None ≡ true = ap is_some (sym p.0) ∙ new in cc)

  -- what is done of it
  pub plan-done : (mid new : PropertyMap) → ArePut added old mid → AreChanged changes mid new → new ≡ want
  plan-done mid new put changed = fin.same_map key_cmp_total key_cmp_exact _ _ (λ q. changed q ∙ ap (replaced_by (fin.get changes q)) (put q) ∙ by q (fin.get old q) (plan q))
    where
      by : (q : Key) (o : Option Tree) → Planned o (fin.get added q) (fin.get changes q) (fin.get want q) → replaced_by (fin.get changes q) (option_or (fin.get added q) o) ≡ fin.get want q
      by q None p = ap (λ c. replaced_by c (option_or (fin.get added q) None)) p.0 ∙ or_none (fin.get added q) ∙ p.1
      by q (Some v) p = ap (λ a. replaced_by (fin.get changes q) (option_or a (Some v))) p.0 ∙ p.1

-- ---- changes one after another

abbrev pub change_one : PropertyMap → Key × Option Tree → PropertyMap
change_one m e = put_at m e.0 (replaced_by (Some e.1) (fin.get m e.0))

abbrev pub change_each : PropertyMap → List (Key × Option Tree) → PropertyMap
change_each m es = fold change_one m es

-- a removal leaves nothing, whatever was there
pub removed-is : (m : PropertyMap) (k : Key) → fin.remove m k ≡ change_one m (k, None)
removed-is m k = ap (put_at m k) (by (fin.get m k))
  where
    by : (o : Option Tree) → None ≡ replaced_by (Some None) o
    by None = refl
    by (Some v) = refl

changed_step : (m : PropertyMap) (q : Key) (e : Key × Option Tree) (es : List (Key × Option Tree)) (b : Bool) → same q e.0 ≡ b → T (below_all key_cmp e.0 es)
    → replaced_by (find key_cmp q es) (cond b (replaced_by (Some e.1) (fin.get m e.0)) (fin.get m q)) ≡ replaced_by (cond b (Some e.1) (find key_cmp q es)) (fin.get m q)
changed_step m q e es true tied below =
    let is : q ≡ e.0 = (tied_decides q e.0).0 tied in
    ap (λ c. replaced_by c (replaced_by (Some e.1) (fin.get m e.0))) (ap (λ k. find key_cmp k es) is ∙ find_below e.0 es below) ∙ ap (λ k. replaced_by (Some e.1) (fin.get m k)) (sym is)
changed_step m q e es false tied below = refl

get-change_each : (m : PropertyMap) (es : List (Key × Option Tree)) (q : Key) → T (is_sorted key_cmp es) → fin.get (change_each m es) q ≡ replaced_by (find key_cmp q es) (fin.get m q)
get-change_each m [] q sorted = refl
get-change_each m (e ∷ es) q sorted =
    let p = both_parts (below_all key_cmp e.0 es) (is_sorted key_cmp es) sorted in
    get-change_each (change_one m e) es q p.1
    ∙ ap (replaced_by (find key_cmp q es)) (get-put_at m e.0 (replaced_by (Some e.1) (fin.get m e.0)) q)
    ∙ changed_step m q e es (same q e.0) refl p.0

pub are-changed : (m : BTreeMap PropertyName (Option Tree)) (old new : PropertyMap) → IsOrdered name_cmp m → new ≡ change_each old (seen_entries key_of m.entries) → AreChanged (changes_of m) old new
are-changed m old new ordered is q =
    let es = seen_entries key_of m.entries in
    let sorted : T (is_sorted key_cmp es) = subst (λ fs. T (is_sorted key_cmp fs)) (entries-map key_of name_cmp names_agree m ordered) (fin.entries_sorted (changes_of m)) in
    ap (λ n. fin.get n q) is ∙ get-change_each old es q sorted ∙ ap (λ c. replaced_by c (fin.get old q)) (sym (fin.get-from_entries key_cmp_total es q))

-- some were put and are taken out again
pub taken-back : (these old mid new : PropertyMap) → AreOthers these old → AreKept these old mid → AreTaken these mid new → new ≡ old
taken-back these old mid new others kept taken = fin.same_map key_cmp_total key_cmp_exact _ _ (λ q. taken q ∙ by q (fin.get these q) refl)
  where
    by : (q : Key) (o : Option Tree) → fin.get these q ≡ o → cond (is_some o) None (fin.get mid q) ≡ fin.get old q
    by q None is = kept q is
    by q (Some v) is = sym (others q (ap is_some is))
