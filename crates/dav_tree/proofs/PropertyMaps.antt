-- How what contracts see of dead properties follows the ordered map that a store in memory keeps them in.
use Rattle.std.specs.Prelude.{◌≡◌, Bool, true, false, cond, if◌then◌else◌, List, [], ◌∷◌, Option, Some, None, is_some, String, string_bytes, string_cmp}
use Rattle.std.proofs.Common.{ap, sym, refl, ◌∙◌, ℕ, ◌==◌, ◌↔◌, IsTrue, length, arith, eq-eqb}
use Rattle.std.proofs.lemmas.Bool.Decides.{nat_tests}
use Rattle.std.proofs.lemmas.List.{length-map}
use Rattle.std.specs.declared.alloc.Global.{Global}
use Rattle.std.specs.declared.cmp.Ordering.{Ordering}
use Rattle.std.specs.declared.cmp.Ordering.TheVariants.{Less, Equal, Greater}
use Rattle.std.specs.Ordering.{ordering_then, eq_by_cmp}
use Rattle.std.specs.Option.{option_cmp, option_map, option_or}
use Rattle.std.specs.List.{fold}
use Rattle.std.specs.Map.{lookup, remove_entry}
use Rattle.std.specs.BTreeMap.{BTreeMap, insert_entry, is_at, IsOrdered, btree_map_len}
use Rattle.std.specs.FinMap as fin
use Rattle.std.specs.FinMap.Entries.{find, is_sorted, below_all}
use Rattle.dav_key.specs.Key.{Key, key_cmp, key_cmp_total, key_cmp_exact, tied_decides}
use Rattle.dav_resource.specs.Tree.{Tree}
use Rattle.dav_key.specs.EachLaws.{find_below, both_parts, or_none}
use Rattle.dav_tree.specs.OrderedMaps.{seen_entries, OrdersAs}
use Rattle.dav_store.specs.Store.{PropertyMap, property_key}
use Rattle.dav_tree.specs.PropertyNames.{key_of, name_cmp, properties_of}
use Rattle.dav_tree.specs.Patching.{ArePut}
use Rattle.dav_tree.specs.declared.properties.PropertyName.{PropertyName}
use Rattle.dav_tree.proofs.OrderedKeys.{get-seen, insert-map, remove-map, entries-map}
use lib.Dec.{T}

-- ---- names

then_equal : (order : Ordering) → ordering_then order Equal ≡ order
then_equal Less = refl
then_equal Equal = refl
then_equal Greater = refl

-- two names in parts
parts_agree : (n m : Option (String Global)) (a b : String Global) → ordering_then (option_cmp string_cmp n m) (string_cmp a b) ≡ key_cmp (property_key (option_map string_bytes n) (string_bytes a)) (property_key (option_map string_bytes m) (string_bytes b))
parts_agree None None a b = sym (then_equal (string_cmp a b))
parts_agree None (Some m) a b = refl
parts_agree (Some n) None a b = refl
parts_agree (Some n) (Some m) a b = ap (ordering_then (string_cmp n m)) (sym (then_equal (string_cmp a b)))

-- names compare as the keys that they are seen as
pub names_agree : OrdersAs key_of name_cmp
names_agree a b = parts_agree a.namespace b.namespace a.name b.name

-- ---- the map of them

-- the element at a name
pub get-properties_of : (name : PropertyName) (m : BTreeMap PropertyName Tree) → lookup (is_at (name_cmp name)) m.entries ≡ fin.get (properties_of m) (key_of name)
get-properties_of name m = get-seen key_of (name_cmp name) (key_of name) (names_agree name) m

-- the properties after an element is put at a name
pub insert-properties_of : (m n : BTreeMap PropertyName Tree) (name : PropertyName) (element : Tree) → n.entries ≡ insert_entry name_cmp m.entries name element → properties_of n ≡ fin.insert (properties_of m) (key_of name) element
insert-properties_of m n name element is = insert-map key_of name_cmp name element (names_agree name) m n is

-- the properties after a name is taken out
pub remove-properties_of : (m n : BTreeMap PropertyName Tree) (name : PropertyName) → IsOrdered name_cmp m → n.entries ≡ remove_entry (is_at (name_cmp name)) m.entries → properties_of n ≡ fin.remove (properties_of m) (key_of name)
remove-properties_of m n name ordered is = remove-map key_of name_cmp names_agree (name_cmp name) (key_of name) (names_agree name) m n ordered is

-- the properties in order
pub entries-properties_of : (m : BTreeMap PropertyName Tree) → IsOrdered name_cmp m → fin.entries (properties_of m) ≡ seen_entries key_of m.entries
entries-properties_of m ordered = entries-map key_of name_cmp names_agree m ordered

no_entries : (b : Bool) (n : ℕ) → IsTrue b ↔ (n ≡ 0) → b ≡ (n == 0)
no_entries true n is = sym (eq-eqb n 0 (is.0 refl))
no_entries false n is = grind (arith, nat_tests, is.1)

-- whether there are none
pub is_empty-properties_of : (m : BTreeMap PropertyName Tree) (b : Bool) → IsOrdered name_cmp m → IsTrue b ↔ (btree_map_len m ≡ 0) → b ≡ (fin.len (properties_of m) == 0)
is_empty-properties_of m b ordered is =
    no_entries b (btree_map_len m) is
    ∙ ap (λ n. n == 0) (sym (fin.len-entries (properties_of m) ∙ ap length (entries-properties_of m ordered) ∙ length-map m.entries (λ e. (key_of e.0, e.1))))

-- a name with its element, as a listing tells it
abbrev pub listed : Key × Tree → Key × Option Tree
listed e = (e.0, Some e.1)

-- ---- properties that are put into a map one after another

-- the map with these entries put in
abbrev pub put_all : PropertyMap → List (Key × Tree) → PropertyMap
put_all m es = fold (λ n e. fin.insert n e.0 e.1) m es

put_step : (m : PropertyMap) (q : Key) (e : Key × Tree) (es : List (Key × Tree)) (b : Bool) → eq_by_cmp key_cmp q e.0 ≡ b → T (below_all key_cmp e.0 es)
    → option_or (find key_cmp q es) (cond b (Some e.1) (fin.get m q)) ≡ option_or (cond b (Some e.1) (find key_cmp q es)) (fin.get m q)
put_step m q e es true is below =
    ap (λ found. option_or found (Some e.1)) (ap (λ k. find key_cmp k es) ((tied_decides q e.0).0 is) ∙ find_below e.0 es below)
put_step m q e es false is below = refl

get-put_all : (m : PropertyMap) (es : List (Key × Tree)) (q : Key) → T (is_sorted key_cmp es) → fin.get (put_all m es) q ≡ option_or (find key_cmp q es) (fin.get m q)
get-put_all m [] q sorted = refl
get-put_all m (e ∷ es) q sorted =
    let p = both_parts (below_all key_cmp e.0 es) (is_sorted key_cmp es) sorted in
    get-put_all (fin.insert m e.0 e.1) es q p.1
    ∙ ap (option_or (find key_cmp q es)) (fin.get-insert key_cmp_total m e.0 e.1 q)
    ∙ put_step m q e es (eq_by_cmp key_cmp q e.0) refl p.0

-- all entries of one map are put into another
pub are-put : (these old new : PropertyMap) → new ≡ put_all old (fin.entries these) → ArePut these old new
are-put these old new is q =
    ap (λ m. fin.get m q) is
    ∙ get-put_all old (fin.entries these) q (fin.entries_sorted these)
    ∙ ap (λ o. option_or o (fin.get old q)) (sym (fin.get-entries these q))

-- properties put into an empty map give the properties again
pub put-into-none : (these new : PropertyMap) → ArePut these fin.empty new → new ≡ these
put-into-none these new put = fin.same_map key_cmp_total key_cmp_exact _ _ (λ q. put q ∙ ap (option_or (fin.get these q)) (fin.get-empty key_cmp q) ∙ or_none (fin.get these q))

-- the entry that is put isn't at a name that none of the entries has
pub kept-step : (m : PropertyMap) (q : Key) (e : Key × Tree) (es : List (Key × Tree)) (was : Option Tree) → (find key_cmp q (e ∷ es) ≡ None) × (fin.get m q ≡ was)
    → (find key_cmp q es ≡ None) × (fin.get (fin.insert m e.0 e.1) q ≡ was)
kept-step m q e es was (none, same) = by (eq_by_cmp key_cmp q e.0) none (fin.get-insert key_cmp_total m e.0 e.1 q)
  where
    by : (b : Bool) → cond b (Some e.1) (find key_cmp q es) ≡ None → fin.get (fin.insert m e.0 e.1) q ≡ cond b (Some e.1) (fin.get m q) → (find key_cmp q es ≡ None) × (fin.get (fin.insert m e.0 e.1) q ≡ was)
    by true n is = absurd cc
    by false n is = (n, is ∙ same)

-- ---- properties that are taken out of a map one after another

-- what a name has once the names of these entries are taken out
abbrev pub but : {X : Type 0} → List (Key × X) → Key → Option Tree → Option Tree
but es q there = if is_some (find key_cmp q es) then None else there

pub taken-step : {X : Type 0} (m : PropertyMap) (q : Key) (e : Key × X) (es : List (Key × X)) → but es q (fin.get (fin.remove m e.0) q) ≡ but (e ∷ es) q (fin.get m q)
taken-step {X} m q e es = ap (but es q) (fin.get-remove key_cmp_total m e.0 q) ∙ by (eq_by_cmp key_cmp q e.0) (find key_cmp q es)
  where
    by : (b : Bool) (found : Option X) → cond (is_some found) None (cond b None (fin.get m q)) ≡ cond (is_some (cond b (Some e.1) found)) None (fin.get m q)
    by true None = refl
    by true (Some x) = refl
    by false found = refl
