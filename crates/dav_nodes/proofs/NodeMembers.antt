-- The members of a node are the members of its key.
use Rattle.std.proofs.Common.{◌≡◌, ◌∙◌, ℕ, zero, suc, ◌==◌, nat_lt, arith, Bool, true, false, cond, not, T, List, [], ◌∷◌, ◌++◌, length, map, Option, Some, None, is_some, String, string_bytes, refl, sym, ap, subst}
use Rattle.std.specs.declared.alloc.Global.{Global}
use Rattle.std.specs.declared.cmp.Ordering.TheVariants.{Less}
use Rattle.std.specs.Ordering.{nat_cmp, eq_by_cmp, is_lt}
use Rattle.std.specs.Cmp.{tied_itself}
use Rattle.std.specs.Cmp.Lexicographic.{slice_cmp, nat_list_cmp_total}
use Rattle.std.specs.List.{All, AllByRecursion, cons_option}
use Rattle.std.specs.List.Sorted.{IsStrictlySortedBy}
use Rattle.std.specs.Option.{option_map, option_and_then}
use Rattle.std.specs.Map.{lookup, keys_of}
use Rattle.std.specs.String.{string_cmp}
use Rattle.std.specs.BTreeMap.{BTreeMap, IsOrdered, get_by_text, is_at}
use Rattle.std.specs.FinMap.{FinMap, get, keys}
use Rattle.std.specs.FinMap.Entries.{find, is_sorted, below_all}
use Rattle.std.proofs.lemmas.Bool.Decides.{nat_tests}
use Rattle.std.proofs.lemmas.List.{length-map}
use Rattle.std.proofs.lemmas.List.Elements.{All-cons}
use Rattle.std.proofs.lemmas.Map.Keys.{sorted_head, sorted_tail}
use Rattle.dav_key.specs.Key.{Key, key_cmp}
use Rattle.dav_key.specs.Members.{names_among}
use Rattle.dav_nodes.specs.Tree.{Tree}
use Rattle.dav_nodes.specs.Links.{AreLinked, place, value_at, member_at}
use Rattle.dav_nodes.specs.Listing.{members_of, seen, with_values, node_members, AllLive}
use Rattle.dav_nodes.specs.declared.node.Node.{Node}
use Rattle.dav_nodes.proofs.Walks.{are_numbered}
use Rattle.dav_nodes.proofs.MemberEntries.{name_cmp, both, parts, find-members_of, sorted-members_of, names-members_of, members_by_find}
use Rattle.dav_nodes.proofs.Subtrees.{found_all, names_apart}

-- ---- the names of a node's members

-- the number of a name is that of the key with these bytes
find-seen : (s : List ℕ) (es : List (String Global × ℕ)) → find name_cmp s (seen es) ≡ lookup (is_at (λ k. slice_cmp nat_cmp s (string_bytes k))) es
find-seen s [] = refl
find-seen s (e ∷ es) = ap (cond (eq_by_cmp name_cmp s (string_bytes e.0)) (Some e.1)) (find-seen s es)

-- keys above another have greater names
above-seen : (k : String Global) (es : List (String Global × ℕ)) → AllByRecursion (λ y. string_cmp k y ≡ Less) (keys_of es) → T (below_all name_cmp (string_bytes k) (seen es))
above-seen k [] h = tt
above-seen k (e ∷ es) h = both (is_lt (name_cmp (string_bytes k) (string_bytes e.0))) (below_all name_cmp (string_bytes k) (seen es)) (subst (λ r. T (is_lt r)) (sym h.0) tt) (above-seen k es h.1)

-- the names rise as the keys do
sorted-seen : (es : List (String Global × ℕ)) → IsStrictlySortedBy string_cmp (keys_of es) → T (is_sorted name_cmp (seen es))
sorted-seen [] h = tt
sorted-seen (e ∷ es) h =
    both (below_all name_cmp (string_bytes e.0) (seen es)) (is_sorted name_cmp (seen es))
    (above-seen e.0 es (sorted_head string_cmp e.0 (keys_of es) h)) (sorted-seen es (sorted_tail string_cmp e.0 (keys_of es) h))

-- there are as many names as keys
pub length-seen : (es : List (String Global × ℕ)) → length (seen es) ≡ length es
length-seen es = length-map es (λ e. (string_bytes e.0, e.1))

-- ---- members with their values

module _ {X : Type 0} (value : ℕ → Option X) where
  -- the value of a name is that of its number
  find-with_values : (s : List ℕ) (ms : List (List ℕ × ℕ)) → AllLive value ms → find name_cmp s (with_values value ms) ≡ option_and_then value (find name_cmp s ms)
  find-with_values s [] live = refl
  find-with_values s (p ∷ ms) live = by (value p.1) refl live.0 (find-with_values s ms live.1)
    where
      found : (b : Bool) (x : X) → value p.1 ≡ Some x → find name_cmp s (with_values value ms) ≡ option_and_then value (find name_cmp s ms) → cond b (Some x) (find name_cmp s (with_values value ms)) ≡ option_and_then value (cond b (Some p.1) (find name_cmp s ms))
      found true x at rest = sym at
      found false x at rest = rest

      by : (o : Option X) → value p.1 ≡ o → is_some (value p.1) ≡ true → find name_cmp s (with_values value ms) ≡ option_and_then value (find name_cmp s ms)
          → find name_cmp s (cons_option (option_map (λ x. (p.0, x)) o) (with_values value ms)) ≡ option_and_then value (cond (eq_by_cmp name_cmp s p.0) (Some p.1) (find name_cmp s ms))
      by None none is rest = absurd (let no : true ≡ false = sym is ∙ ap is_some none in cc)
      by (Some x) at is rest = found (eq_by_cmp name_cmp s p.0) x at rest

  -- the names stay greater
  above-with_values : (s : List ℕ) (ms : List (List ℕ × ℕ)) → T (below_all name_cmp s ms) → T (below_all name_cmp s (with_values value ms))
  above-with_values s [] h = tt
  above-with_values s (p ∷ ms) h =
      let q = parts (is_lt (name_cmp s p.0)) (below_all name_cmp s ms) h in
      by (value p.1) q.0 (above-with_values s ms q.1)
    where
      by : (o : Option X) → T (is_lt (name_cmp s p.0)) → T (below_all name_cmp s (with_values value ms)) → T (below_all name_cmp s (cons_option (option_map (λ x. (p.0, x)) o) (with_values value ms)))
      by None h rest = rest
      by (Some x) h rest = both (is_lt (name_cmp s p.0)) (below_all name_cmp s (with_values value ms)) h rest

  -- and they still rise
  sorted-with_values : (ms : List (List ℕ × ℕ)) → T (is_sorted name_cmp ms) → T (is_sorted name_cmp (with_values value ms))
  sorted-with_values [] h = tt
  sorted-with_values (p ∷ ms) h =
      let q = parts (below_all name_cmp p.0 ms) (is_sorted name_cmp ms) h in
      by (value p.1) (above-with_values p.0 ms q.0) (sorted-with_values ms q.1)
    where
      by : (o : Option X) → T (below_all name_cmp p.0 (with_values value ms)) → T (is_sorted name_cmp (with_values value ms)) → T (is_sorted name_cmp (cons_option (option_map (λ x. (p.0, x)) o) (with_values value ms)))
      by None above rest = rest
      by (Some x) above rest = both (below_all name_cmp p.0 (with_values value ms)) (is_sorted name_cmp (with_values value ms)) above rest

  -- the names stay the same
  names-with_values : (ms : List (List ℕ × ℕ)) → AllLive value ms → map (λ p. p.0) (with_values value ms) ≡ map (λ p. p.0) ms
  names-with_values [] live = refl
  names-with_values (p ∷ ms) live = by (value p.1) refl live.0 (names-with_values ms live.1)
    where
      by : (o : Option X) → value p.1 ≡ o → is_some (value p.1) ≡ true → map (λ (m : List ℕ × X). m.0) (with_values value ms) ≡ map (λ (m : List ℕ × ℕ). m.0) ms
          → map (λ (m : List ℕ × X). m.0) (cons_option (option_map (λ x. (p.0, x)) o) (with_values value ms)) ≡ p.0 ∷ map (λ (m : List ℕ × ℕ). m.0) ms
      by None none is rest = absurd (let no : true ≡ false = sym is ∙ ap is_some none in cc)
      by (Some x) at is rest = ap (λ ns. p.0 ∷ ns) rest

-- there are as many members with their values
pub length-with_values : {X : Type 0} (value : ℕ → Option X) (ms : List (List ℕ × ℕ)) → AllLive value ms → length (with_values value ms) ≡ length ms
length-with_values value ms live = sym (length-map (with_values value ms) (λ p. p.0)) ∙ ap length (names-with_values value ms live) ∙ length-map ms (λ p. p.0)

-- ---- the members of a key

module _ {X : Type 0} (key : Key) (values : FinMap key_cmp X) where
  -- a value found at a name is that of the key
  at_keys : (ms : List (List ℕ × X)) → AllByRecursion (λ p. find name_cmp p.0 (members_of key values) ≡ Some p.1) ms → AllByRecursion (λ p. get values (key ++ p.0 ∷ []) ≡ Some p.1) ms
  at_keys [] a = tt
  at_keys (p ∷ ms) a = (sym (find-members_of key values p.0) ∙ a.0, at_keys ms a.1)

  -- each member has the value of its key
  pub members_at_keys : AllByRecursion (λ p. get values (key ++ p.0 ∷ []) ≡ Some p.1) (members_of key values)
  members_at_keys = at_keys (members_of key values) (found_all name_cmp (tied_itself nat_list_cmp_total) names_apart (members_of key values) (sorted-members_of key values))

-- what holds of each by recursion holds at each place
pub all_places : {A : Type 0} (P : A → Type 0) (xs : List A) → AllByRecursion P xs → All P xs
all_places P [] a = λ k d l. absurd (omega arith)
all_places P (x ∷ xs) a = All-cons P x xs a.0 (all_places P xs a.1)

module _ {R : Type 0} (value : ℕ → Option R) (member : List ℕ → ℕ → Option ℕ) (tree : Tree R) (linked : AreLinked value member tree) (key : Key) where
  -- numbers of keys have values
  live_from : (ms : List (List ℕ × ℕ)) → AllByRecursion (λ p. get tree.numbers (key ++ p.0 ∷ []) ≡ Some p.1) ms → AllLive value ms
  live_from [] a = tt
  live_from (p ∷ ms) a = (linked.live (key ++ p.0 ∷ []) p.1 a.0, live_from ms a.1)

  -- each member has a value
  pub members_live : AllLive value (members_of key tree.numbers)
  members_live = live_from (members_of key tree.numbers) (members_at_keys key tree.numbers)

  -- the members with the values of their numbers are those with the values of their keys
  pub members_valued : with_values value (members_of key tree.numbers) ≡ members_of key tree.values
  members_valued =
      members_by_find key tree.values (with_values value (members_of key tree.numbers)) (sorted-with_values value (members_of key tree.numbers) (sorted-members_of key tree.numbers))
      (λ s.
      find-with_values value s (members_of key tree.numbers) members_live
      ∙ ap (option_and_then value) (find-members_of key tree.numbers s)
      ∙ sym (linked.valued (key ++ s ∷ [])))

  -- a key without a number has no members
  pub no_members : get tree.numbers key ≡ None → [] ≡ members_of key tree.numbers
  no_members none =
      members_by_find key tree.numbers [] tt
      (λ s. sym ((are_numbered value member tree linked).step key s ∙ ap (option_and_then (member s)) none))

  -- there are as many names as members with a value
  pub names_counted : (ms : List (List ℕ × ℕ)) → ms ≡ members_of key tree.numbers → length (names_among (keys tree.values) key) ≡ length ms
  names_counted ms is =
      ap length (sym (names-members_of key tree.values) ∙ ap (map (λ p. p.0)) (sym members_valued) ∙ names-with_values value (members_of key tree.numbers) members_live)
      ∙ length-map (members_of key tree.numbers) (λ p. p.0)
      ∙ ap length (sym is)

module _ {R : Type 0} (nodes : ℕ → Option (Node R)) (tree : Tree R) (linked : AreLinked (value_at nodes) (member_at nodes) tree) (key : Key) where
  -- the members of a key's node are those of the key
  pub members_by_number : (number : ℕ) (node : Node R) → get tree.numbers key ≡ Some number → nodes number ≡ Some node → IsOrdered string_cmp node.members → seen node.members.entries ≡ members_of key tree.numbers
  members_by_number number node at there ordered =
      members_by_find key tree.numbers (seen node.members.entries) (sorted-seen node.members.entries ordered)
      (λ s.
      find-seen s node.members.entries
      ∙ sym ((are_numbered (value_at nodes) (member_at nodes) tree linked).step key s
      ∙ ap (option_and_then (member_at nodes s)) at
      ∙ ap (option_and_then (λ (n : Node R). get_by_text n.members s)) there))

  -- the members of the node at a key are those of the key
  pub members_found : (members : BTreeMap (String Global) ℕ) → Some members ≡ node_members nodes key → IsOrdered string_cmp members → seen members.entries ≡ members_of key tree.numbers
  members_found members is ordered = by (place (member_at nodes) key) (linked.numbered key) is
    where
      with_node : (number : ℕ) → get tree.numbers key ≡ Some number → (o : Option (Node R)) → nodes number ≡ o → Some members ≡ option_map (λ node. node.members) o → seen members.entries ≡ members_of key tree.numbers
      with_node number at None there e = absurd cc
      with_node number at (Some node) there e =
          let same : node.members ≡ members = cc in
          ap (λ (m : BTreeMap (String Global) ℕ). seen m.entries) (sym same) ∙ members_by_number number node at there (subst (IsOrdered string_cmp) (sym same) ordered)

      by : (o : Option ℕ) → get tree.numbers key ≡ o → Some members ≡ option_map (λ node. node.members) (option_and_then nodes o) → seen members.entries ≡ members_of key tree.numbers
      by None at e = absurd cc
      by (Some number) at e = with_node number at (nodes number) refl e

  -- where there is no node, the key has no number
  pub none_found : None ≡ node_members nodes key → get tree.numbers key ≡ None
  none_found is = by (place (member_at nodes) key) (linked.numbered key) is
    where
      with_node : (number : ℕ) → (o : Option (Node R)) → is_some (option_map (λ (node : Node R). node.value) o) ≡ true → None ≡ option_map (λ (node : Node R). node.members) o → ⊥
      with_node number None live e = absurd cc
      with_node number (Some node) live e = absurd cc

      by : (o : Option ℕ) → get tree.numbers key ≡ o → None ≡ option_map (λ node. node.members) (option_and_then nodes o) → get tree.numbers key ≡ None
      by None at e = at
      by (Some number) at e = absurd (with_node number (nodes number) (linked.live key number at) e)

-- more than none
pub more_than_none : (n : ℕ) → nat_lt 0 n ≡ not (n == 0)
more_than_none zero = refl
more_than_none (suc n) = grind (arith, nat_tests)

-- how many members there are tells whether there are names
pub any_names : {R : Type 0} (value : ℕ → Option R) (member : List ℕ → ℕ → Option ℕ) (tree : Tree R) → AreLinked value member tree → (key : Key) (ms : List (List ℕ × ℕ)) (n : ℕ) → n ≡ length ms → ms ≡ members_of key tree.numbers
    → nat_lt 0 n ≡ not (length (names_among (keys tree.values) key) == 0)
any_names value member tree linked key ms n counted is = more_than_none n ∙ ap (λ m. not (m == 0)) (counted ∙ sym (names_counted value member tree linked key ms is))

-- without names no member has a value
pub no_names : {X : Type 0} (key : Key) (values : FinMap key_cmp X) → not (length (names_among (keys values) key) == 0) ≡ false → (s : List ℕ) → get values (key ++ s ∷ []) ≡ None
no_names {X} key values none s =
    sym (find-members_of key values s) ∙ by (members_of key values) (ap length (names-members_of key values))
  where
    by : (ms : List (List ℕ × X)) → length (map (λ (p : List ℕ × X). p.0) ms) ≡ length (names_among (keys values) key) → find name_cmp s ms ≡ None
    by [] counted = refl
    by (m ∷ ms) counted =
        absurd (let some : not (suc (length (map (λ (p : List ℕ × X). p.0) ms)) == 0) ≡ true = grind (arith, nat_tests) in
        let no : true ≡ false = sym some ∙ ap (λ n. not (n == 0)) counted ∙ none in cc)
