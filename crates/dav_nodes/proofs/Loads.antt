-- A tree that is made row by row.
use Rattle.std.proofs.Common.{◌≡◌, ◌≢◌, ◌⊎◌, inl, inr, ℕ, ◌<◌, ◌==◌, cond, Bool, true, false, List, [], ◌∷◌, ◌++◌, Option, Some, None, is_some, IsSome, string_bytes, refl, sym, ap, subst, ◌∙◌, append_assoc}
use Rattle.std.specs.List.{AllByRecursion}
use Rattle.std.specs.Option.{option_and_then}
use Rattle.std.specs.BTreeMap.{IsEmpty}
use Rattle.std.specs.FinMap.{FinMap, empty as empty_map, get, insert, same_map, get-empty}
use Rattle.std.proofs.lemmas.Bool.{cases_eq}
use Rattle.std.proofs.lemmas.List.{append-nil}
use Rattle.slab.specs.Slab as slab
use Rattle.slab.specs.Slab.{Slab, Updates}
use Rattle.dav_key.specs.Key.{Key, key_cmp, key_cmp_total, key_cmp_exact, parent}
use Rattle.dav_key.proofs.FlatLemmas.{parent-push}
use Rattle.dav_nodes.specs.Tree.{Tree, root_tree}
use Rattle.dav_nodes.specs.Rows.{HasRow}
use Rattle.dav_nodes.specs.Links.{AreLinked, AreSpots, value_at, member_at, spot_at}
use Rattle.dav_nodes.specs.TreeRows.{row_with, AreRowsOf}
use Rattle.dav_nodes.specs.Loading.{HasNumber, if_linked, linked_part, IsLoading, IsLoaded, IsRefused, Attaches, NoneAttachable}
use Rattle.dav_nodes.specs.declared.node.Node.{Node}
use Rattle.dav_nodes.specs.declared.nodes.loading.NumberedValue.{NumberedValue}
use Rattle.dav_nodes.specs.declared.nodes.loading.TheConstants.{UNLINKED}
use Rattle.dav_nodes.proofs.Walks.{are_numbered}
use Rattle.dav_nodes.proofs.KeyMaps.{key_same_or_not, insert-here, insert-elsewhere}
use Rattle.dav_nodes.proofs.Linking.{linked_added, some_apart, not_none, root_numbers, at_root, only_root}
use Rattle.dav_nodes.proofs.NodeSteps.{linked_alone, spots_alone}
use Rattle.dav_nodes.proofs.Spots.{spots_added}
use Rattle.dav_nodes.proofs.LinkedParts.{linked_same}
use Rattle.dav_nodes.proofs.Pending.{has_left, has_right, has_cases, all_left, all_right, all_both, both_at, all_rows, has_row, row_parts, named_key, named}

-- a node with a value
valued : {R : Type 0} (slot : Option (Node R)) → is_some slot ≡ true → is_some (value_at (λ _. slot) 0) ≡ true
valued None is = absurd cc
valued (Some m) is = refl

of_value : {R : Type 0} (nodes : ℕ → Option (Node R)) (n : ℕ) → is_some (value_at nodes n) ≡ true → is_some (nodes n) ≡ true
of_value {R} nodes n is = by (nodes n) is
  where
    by : (o : Option (Node R)) → is_some (value_at (λ _. o) 0) ≡ true → is_some o ≡ true
    by None is = absurd cc
    by (Some m) is = refl

not_some : {X : Type 0} (o : Option X) → is_some o ≡ true → o ≡ None → ⊥
not_some o is none = absurd (let both : true ≡ false = sym is ∙ ap is_some none in cc)

some_value : {X : Type 0} (x y : X) → Some x ≡ Some y → x ≡ y
some_value x y e = cc

-- one value more that passes the test
only_more : {R : Type 0} (test : R → Bool) (m : FinMap key_cmp R) (key : Key) (x : R) → ((q : Key) (y : R) → get m q ≡ Some y → test y ≡ true) → test x ≡ true
    → (q : Key) (y : R) → get (insert m key x) q ≡ Some y → test y ≡ true
only_more test m key x only passes q y at = elim (key_same_or_not q key) [
  | inl same ↦ ap test (sym (some_value x y (sym (insert-here m key x) ∙ ap (get (insert m key x)) (sym same) ∙ at))) ∙ passes
  | inr apart ↦ only q y (sym (insert-elsewhere m key x q apart) ∙ at)
]

-- one row more whose parent is not in the tree
pub none_more : {R : Type 0} (nodes : ℕ → Option (Node R)) (left more : List (NumberedValue R)) (entry : NumberedValue R) → more ≡ left ++ entry ∷ [] → linked_part nodes entry.above ≡ None
    → NoneAttachable nodes left → NoneAttachable nodes more
none_more nodes left more entry is none left_none =
    subst (NoneAttachable nodes) (sym is) (all_both (λ e. linked_part nodes e.above ≡ None) left (entry ∷ []) left_none (none, tt))

pub same_option : {X : Type 0} (o p : Option X) → ((x : X) → p ≡ Some x → o ≡ Some x) → ((x : X) → o ≡ Some x → p ≡ Some x) → o ≡ p
same_option None None f g = refl
same_option None (Some y) f g = f y refl
same_option (Some x) p f g = sym (g x refl)

module _ {R : Type 0} (all : List (NumberedValue R)) where
  -- the same nodes, with the same rows pending
  repend : (nodes : ℕ → Option (Node R)) (p q : List (NumberedValue R)) → IsLoaded all nodes p
      → ((P : NumberedValue R → Type 0) → AllByRecursion P p → AllByRecursion P q)
      → ((whole : Tree R) (tree : Tree R) → AreLinked (value_at (linked_part nodes)) (member_at (linked_part nodes)) tree → IsLoading whole nodes tree p → AreRowsOf all whole
      → (key : Key) (n : ℕ) → get whole.numbers key ≡ Some n → HasNumber n p → (get tree.numbers key ≡ Some n) ⊎ HasNumber n q)
      → IsLoaded all nodes q
  repend nodes p q loaded rows has = record {
    tree = loaded.tree;
    linked = loaded.linked;
    spots = loaded.spots;
    only = λ test each. let before = loaded.only test each in (before.0, rows (λ entry. test entry.value ≡ true) before.1);
    part = λ whole are. let loading = loaded.part whole are in record {
      numbers = loading.numbers;
      values = loading.values;
      slots = loading.slots;
      rows = rows (λ entry. HasRow whole entry.number (row_with entry)) loading.rows;
      rest = λ key n at. elim (loading.rest key n at) [
        | inl there ↦ inl there
        | inr pending ↦ has whole loaded.tree loaded.linked loading are key n at pending
      ];
    };
  }

  module _ (rest : List (NumberedValue R)) (entry : NumberedValue R) (left : List (NumberedValue R)) where
    abbrev before : List (NumberedValue R)
    before = (rest ++ entry ∷ []) ++ left

    -- the row is that of the number, or the number is that of another row
    its_or_other : (n : ℕ) → HasNumber n before → (entry.number ≡ n) ⊎ HasNumber n (rest ++ left)
    its_or_other n has = elim (has_cases n (rest ++ entry ∷ []) left has) [
      | inl first ↦ elim (has_cases n rest (entry ∷ []) first) [
        | inl in_rest ↦ inr (has_left n rest left in_rest)
        | inr own ↦ elim own [ inl is ↦ inl is | inr none ↦ absurd none ]
      ]
      | inr in_left ↦ inr (has_right n rest left in_left)
    ]

    others : (P : NumberedValue R → Type 0) → AllByRecursion P before → AllByRecursion P (rest ++ left)
    others P each = all_both P rest left (all_left P rest (entry ∷ []) (all_left P (rest ++ entry ∷ []) left each)) (all_right P (rest ++ entry ∷ []) left each)

    own : (P : NumberedValue R → Type 0) → AllByRecursion P before → P entry
    own P each = (all_right P rest (entry ∷ []) (all_left P (rest ++ entry ∷ []) left each)).0

    -- the row was the last of those to be looked at
    pub loaded_popped : (nodes : ℕ → Option (Node R)) (rows : List (NumberedValue R)) → rows ≡ rest ++ entry ∷ [] → IsLoaded all nodes (rows ++ left) → IsLoaded all nodes before
    loaded_popped nodes rows popped loaded = subst (λ xs. IsLoaded all nodes (xs ++ left)) popped loaded

    abbrev later : List (NumberedValue R)
    later = left ++ entry ∷ []

    still_pending : (n : ℕ) → HasNumber n before → HasNumber n (rest ++ later)
    still_pending n has = elim (its_or_other n has) [
      | inl is ↦ has_right n rest later (has_right n left (entry ∷ []) (inl is))
      | inr other ↦ elim (has_cases n rest left other) [
        | inl in_rest ↦ has_left n rest later in_rest
        | inr in_left ↦ has_right n rest later (has_left n left (entry ∷ []) in_left)
      ]
    ]

    all_pending : (P : NumberedValue R → Type 0) → AllByRecursion P before → AllByRecursion P (rest ++ later)
    all_pending P each =
        all_both P rest later (all_left P rest (entry ∷ []) (all_left P (rest ++ entry ∷ []) left each))
        (all_both P left (entry ∷ []) (all_right P (rest ++ entry ∷ []) left each) (own P each, tt))

    -- the row stays for later
    pub loaded_later : (nodes : ℕ → Option (Node R)) (more : List (NumberedValue R)) → more ≡ later → IsLoaded all nodes before → IsLoaded all nodes (rest ++ more)
    loaded_later nodes more pushed loaded =
        subst (λ xs. IsLoaded all nodes (rest ++ xs)) (sym pushed)
        (repend nodes before (rest ++ later) loaded all_pending (λ whole tree linked loading are key n at has. inr (still_pending n has)))

    -- a key whose number is in the tree is in the tree
    in_tree : (nodes : ℕ → Option (Node R)) (whole tree : Tree R) → AreLinked (value_at (linked_part nodes)) (member_at (linked_part nodes)) tree → IsLoading whole nodes tree before → AreRowsOf all whole
        → (key : Key) (n : ℕ) → get whole.numbers key ≡ Some n → is_some (linked_part nodes n) ≡ true → get tree.numbers key ≡ Some n
    in_tree nodes whole tree linked loading are key n at is =
        let found = linked.reached n (valued (linked_part nodes n) is) in
        ap (get tree.numbers) (are.distinct key found.0 n at (loading.numbers found.0 n found.1)) ∙ found.1

    -- the row's node is in the tree already
    pub loaded_already : (nodes : ℕ → Option (Node R)) → is_some (linked_part nodes entry.number) ≡ true → IsLoaded all nodes before → IsLoaded all nodes (rest ++ left)
    loaded_already nodes is loaded = repend nodes before (rest ++ left) loaded others
        (λ whole tree linked loading are key n at has. elim (its_or_other n has) [
          | inl same ↦ inl (in_tree nodes whole tree linked loading are key n at (subst (λ m. is_some (linked_part nodes m) ≡ true) same is))
          | inr other ↦ inr other
        ])

    -- ---- the row's key

    module _ (nodes : ℕ → Option (Node R)) (above_in : is_some (linked_part nodes entry.above) ≡ true) (free : linked_part nodes entry.number ≡ None) (loaded : IsLoaded all nodes before) where
      abbrev tree : Tree R
      tree = loaded.tree

      -- the parent's key
      above_key : (key : Key) × (get tree.numbers key ≡ Some entry.above)
      above_key = loaded.linked.reached entry.above (valued (linked_part nodes entry.above) above_in)

      abbrev own_key : Key
      own_key = above_key.0 ++ string_bytes entry.name ∷ []

      not_free : (key : Key) (n : ℕ) → get tree.numbers key ≡ Some n → n ≢ entry.number
      not_free key n at e = not_some (linked_part nodes n) (of_value (linked_part nodes) n (loaded.linked.live key n at)) (ap (linked_part nodes) e ∙ free)

      not_root : entry.number ≢ 0
      not_root e = not_free [] 0 (loaded.linked.numbered []) (sym e)

      -- in the whole tree the row is that of this key
      its_key : (whole : Tree R) → AreRowsOf all whole → IsLoading whole nodes tree before → (get whole.numbers own_key ≡ Some entry.number) × (get whole.values own_key ≡ Some entry.value)
      its_key whole are loading =
          let has = own (λ e. HasRow whole e.number (row_with e)) loading.rows in
          let parts = row_parts whole has.0 (row_with entry) has.2 in
          let above : parent has.0 ≡ above_key.0 = are.distinct (parent has.0) above_key.0 entry.above parts.1 (loading.numbers above_key.0 entry.above above_key.1) in
          let key : has.0 ≡ own_key =
          named_key has.0 (string_bytes entry.name) (parts.2 ∙ named entry.number (string_bytes entry.name) not_root) ∙ ap (λ k. k ++ string_bytes entry.name ∷ []) above in
          (ap (get whole.numbers) (sym key) ∙ has.1, ap (get whole.values) (sym key) ∙ parts.0)

      -- a member with its name is at its key
      member_key : get tree.numbers own_key ≡ member_at (linked_part nodes) (string_bytes entry.name) entry.above
      member_key =
          (are_numbered (value_at (linked_part nodes)) (member_at (linked_part nodes)) tree loaded.linked).step above_key.0 (string_bytes entry.name)
          ∙ ap (option_and_then (member_at (linked_part nodes) (string_bytes entry.name))) above_key.1

      -- a row of a tree is not refused
      pub not_refused : (whole : Tree R) → AreRowsOf all whole → IsRefused nodes entry → ⊥
      not_refused whole are refused = by refused
        where
          loading : IsLoading whole nodes tree before
          loading = loaded.part whole are

          taken : (o : Option ℕ) → get tree.numbers own_key ≡ o → o ≡ None
          taken None is = refl
          taken (Some n) is =
              absurd (not_free own_key n is (some_apart n entry.number (sym (loading.numbers own_key n is) ∙ (its_key whole are loading).0)))

          by : IsRefused nodes entry → ⊥
          by (inl none) = not_some (nodes entry.number) (loading.slots own_key entry.number (its_key whole are loading).0) none
          by (inr member) =
              member (ap (λ slot. member_at (λ _. slot) (string_bytes entry.name) 0) (sym (linked_same (nodes entry.above) above_in)) ∙ sym member_key ∙ taken (get tree.numbers own_key) refl)

    -- ---- the row's node is added

    module _ (old new : Slab (Node R)) (above_in : is_some (linked_part (slab.get old) entry.above) ≡ true) (free : linked_part (slab.get old) entry.number ≡ None)
        (loaded : IsLoaded all (slab.get old) before) (attaches : Attaches old new entry) (slots : (n : ℕ) → IsSome (slab.get old n) → IsSome (slab.get new n)) where
      abbrev nodes : ℕ → Option (Node R)
      nodes = slab.get old

      abbrev key : Key
      key = own_key nodes above_in free loaded

      above_at : get loaded.tree.numbers (above_key nodes above_in free loaded).0 ≡ Some entry.above
      above_at = (above_key nodes above_in free loaded).1

      absent : get loaded.tree.numbers key ≡ None
      absent = member_key nodes above_in free loaded ∙ attaches.absent

      abbrev more : Tree R
      more = record { values = insert loaded.tree.values key entry.value; numbers = insert loaded.tree.numbers key entry.number }

      module _ (whole : Tree R) (are : AreRowsOf all whole) where
        loading : IsLoading whole nodes loaded.tree before
        loading = loaded.part whole are

        its : (get whole.numbers key ≡ Some entry.number) × (get whole.values key ≡ Some entry.value)
        its = its_key nodes above_in free loaded whole are loading

        more_numbers : (q : Key) (n : ℕ) → get more.numbers q ≡ Some n → get whole.numbers q ≡ Some n
        more_numbers q n at = elim (key_same_or_not q key) [
          | inl same ↦ ap (get whole.numbers) same ∙ its.0 ∙ sym (insert-here loaded.tree.numbers key entry.number) ∙ ap (get more.numbers) (sym same) ∙ at
          | inr apart ↦ loading.numbers q n (sym (insert-elsewhere loaded.tree.numbers key entry.number q apart) ∙ at)
        ]

        more_values : (q : Key) (x : R) → get more.values q ≡ Some x → get whole.values q ≡ Some x
        more_values q x at = elim (key_same_or_not q key) [
          | inl same ↦ ap (get whole.values) same ∙ its.1 ∙ sym (insert-here loaded.tree.values key entry.value) ∙ ap (get more.values) (sym same) ∙ at
          | inr apart ↦ loading.values q x (sym (insert-elsewhere loaded.tree.values key entry.value q apart) ∙ at)
        ]

        more_rest : (q : Key) (n : ℕ) → get whole.numbers q ≡ Some n → (get more.numbers q ≡ Some n) ⊎ HasNumber n (rest ++ left)
        more_rest q n at = elim (loading.rest q n at) [
          | inl there ↦
              let apart : q ≢ key = λ e. not_none (get loaded.tree.numbers q) n there (ap (get loaded.tree.numbers) e ∙ absent) in
              inl (insert-elsewhere loaded.tree.numbers key entry.number q apart ∙ there)
          | inr has ↦ elim (its_or_other n has) [
            | inl is ↦
                let same : q ≡ key = are.distinct q key n at (its.0 ∙ ap Some is) in
                inl (ap (get more.numbers) same ∙ insert-here loaded.tree.numbers key entry.number ∙ ap Some is)
            | inr other ↦ inr other
          ]
        ]

        more_loading : IsLoading whole (slab.get new) more (rest ++ left)
        more_loading = record {
          numbers = more_numbers;
          values = more_values;
          slots = λ q n at. slots n (loading.slots q n at);
          rows = others (λ e. HasRow whole e.number (row_with e)) loading.rows;
          rest = more_rest;
        }

      pub loaded_more : IsLoaded all (slab.get new) (rest ++ left)
      loaded_more = record {
        tree = more;
        linked =
            linked_added (linked_part nodes) (linked_part (slab.get new)) loaded.tree loaded.linked (above_key nodes above_in free loaded).0 (string_bytes entry.name) entry.above entry.number entry.value
            above_at absent attaches.adds;
        spots = spots_added (linked_part nodes) (linked_part (slab.get new)) loaded.spots entry.above (string_bytes entry.name) entry.number entry.value attaches.adds;
        only = λ test each.
            let passing = loaded.only test each in
            (only_more test loaded.tree.values key entry.value passing.0 (own (λ e. test e.value ≡ true) passing.1), others (λ e. test e.value ≡ true) passing.1);
        part = more_loading;
      }

  -- ---- no row can be added any more

  module _ (nodes : ℕ → Option (Node R)) (pending : List (NumberedValue R)) (loaded : IsLoaded all nodes pending) (outside : NoneAttachable nodes pending) (whole : Tree R) (are : AreRowsOf all whole) where
    stuck_loading : IsLoading whole nodes loaded.tree pending
    stuck_loading = loaded.part whole are

    -- a key of the whole tree is in the tree
    abbrev IsIn : Key → Type 0
    IsIn key = (n : ℕ) → get whole.numbers key ≡ Some n → get loaded.tree.numbers key ≡ Some n

    not_outside : (entry : NumberedValue R) → linked_part nodes entry.above ≡ None → (key : Key) → IsIn key → get whole.numbers key ≡ Some entry.above → ⊥
    not_outside entry none key there at =
        not_some (linked_part nodes entry.above) (of_value (linked_part nodes) entry.above (loaded.linked.live key entry.above (there entry.above at))) none

    next_in : (above : Key) (s : List ℕ) → IsIn above → IsIn (above ++ s ∷ [])
    next_in above s there n at = elim (stuck_loading.rest (above ++ s ∷ []) n at) [
      | inl is ↦ is
      | inr has ↦
          let found = both_at (λ e. HasRow whole e.number (row_with e)) (λ e. linked_part nodes e.above ≡ None) n pending stuck_loading.rows outside has in
          let row = found.2 in
          let same : row.0 ≡ above ++ s ∷ [] = are.distinct row.0 (above ++ s ∷ []) n (row.1 ∙ ap Some found.1) at in
          let parts = row_parts whole row.0 (row_with found.0) row.2 in
          absurd (not_outside found.0 found.3 above there (ap (get whole.numbers) (sym (ap parent same ∙ parent-push above s)) ∙ parts.1))
    ]

    all_in : (above key : Key) → IsIn above → IsIn (above ++ key)
    all_in above [] there = subst IsIn (sym (append-nil above)) there
    all_in above (s ∷ key) there = subst IsIn (append_assoc above (s ∷ []) key) (all_in (above ++ s ∷ []) key (next_in above s there))

    root_in : IsIn []
    root_in n at = loaded.linked.numbered [] ∙ sym are.root ∙ at

    -- no row of a tree is left
    pub none_left : pending ≡ []
    none_left = by pending stuck_loading.rows outside
      where
        by : (rows : List (NumberedValue R)) → AllByRecursion (λ e. HasRow whole e.number (row_with e)) rows → NoneAttachable nodes rows → rows ≡ []
        by [] each none = refl
        by (entry ∷ rows) each none =
            let row = each.0 in
            absurd (not_outside entry none.0 (parent row.0) (all_in [] (parent row.0) root_in) (row_parts whole row.0 (row_with entry) row.2).1)

  -- ---- all rows were added

  module _ (nodes : ℕ → Option (Node R)) (loaded : IsLoaded all nodes []) (whole : Tree R) (are : AreRowsOf all whole) where
    done_loading : IsLoading whole nodes loaded.tree []
    done_loading = loaded.part whole are

    number_in : (key : Key) (n : ℕ) → get whole.numbers key ≡ Some n → get loaded.tree.numbers key ≡ Some n
    number_in key n at = elim (done_loading.rest key n at) [ inl is ↦ is | inr none ↦ absurd none ]

    value_in : (key : Key) (x : R) → get whole.values key ≡ Some x → get loaded.tree.values key ≡ Some x
    value_in key x at = by (get whole.numbers key) refl (are.numbered key ∙ ap is_some at)
      where
        found : (n : ℕ) (o : Option R) → get loaded.tree.numbers key ≡ Some n → get loaded.tree.values key ≡ o → o ≡ Some x
        found n None there none =
            absurd (not_some (value_at (linked_part nodes) n) (loaded.linked.live key n there)
            (sym (loaded.linked.valued key ∙ ap (option_and_then (value_at (linked_part nodes))) there) ∙ none))
        found n (Some y) there is = sym (done_loading.values key y is) ∙ at

        by : (o : Option ℕ) → get whole.numbers key ≡ o → is_some (get whole.numbers key) ≡ true → get loaded.tree.values key ≡ Some x
        by None none some = absurd (not_some (get whole.numbers key) some none)
        by (Some n) is some = found n (get loaded.tree.values key) (number_in key n is) refl

    -- the tree is the whole one
    pub tree_done : loaded.tree ≡ whole
    tree_done = λ i. record {
      values = same_map key_cmp_total key_cmp_exact loaded.tree.values whole.values (λ key. same_option (get loaded.tree.values key) (get whole.values key) (value_in key) (done_loading.values key)) i;
      numbers = same_map key_cmp_total key_cmp_exact loaded.tree.numbers whole.numbers (λ key. same_option (get loaded.tree.numbers key) (get whole.numbers key) (number_in key) (done_loading.numbers key)) i;
    }

-- ---- the root

module _ {R : Type 0} (start new : Slab (Node R)) (first : NumberedValue R) (rows : List (NumberedValue R)) (bound : ℕ) (node : Node R) (zero : first.number ≡ 0)
    (none : (n : ℕ) → linked_part (slab.get start) n ≡ None) (slots : (n : ℕ) → n < bound → IsSome (slab.get start n)) (within : (n : ℕ) → HasNumber n rows → n < bound) (puts : Updates start new 0 (Some node))
    (node_value : node.value ≡ first.value) (node_above : node.above ≡ 0) (node_name : string_bytes node.name ≡ []) (empty : IsEmpty node.members) where
  at_zero : linked_part (slab.get new) 0 ≡ Some node
  at_zero = ap if_linked puts.changed ∙ ap (λ n. cond (n == UNLINKED) None (Some node)) node_above

  alone : (n : ℕ) → n ≢ 0 → linked_part (slab.get new) n ≡ None
  alone n apart = ap if_linked (puts.others n apart) ∙ none n

  slot_new : (n : ℕ) → HasNumber n (first ∷ rows) → IsSome (slab.get new n)
  slot_new n has = elim (cases_eq n 0) [
    | inl same ↦ ap (λ m. is_some (slab.get new m)) same ∙ ap is_some puts.changed
    | inr apart ↦ ap is_some (puts.others n apart) ∙ slots n (elim has [ inl is ↦ absurd (apart (sym is ∙ zero)) | inr later ↦ within n later ])
  ]

  module _ (whole : Tree R) (are : AreRowsOf (first ∷ rows) whole) where
    each : AllByRecursion (λ e. HasRow whole e.number (row_with e)) (first ∷ rows)
    each = all_rows (HasRow whole) (first ∷ rows) (λ n row has. (are.listed n row).0 has)

    root_value : get whole.values [] ≡ Some first.value
    root_value =
        let row = each.0 in
        ap (get whole.values) (sym (are.distinct row.0 [] 0 (row.1 ∙ ap Some zero) are.root)) ∙ (row_parts whole row.0 (row_with first) row.2).0

    first_loading : IsLoading whole (slab.get new) (root_tree first.value) rows
    first_loading = record {
      numbers = λ key n at. let root = only_root key n at in ap (get whole.numbers) root ∙ are.root ∙ sym at_root ∙ ap (get root_numbers) (sym root) ∙ at;
      values = λ key x at. elim (key_same_or_not key []) [
        | inl same ↦ ap (get whole.values) same ∙ root_value ∙ sym (insert-here empty_map [] first.value) ∙ ap (get (root_tree first.value).values) (sym same) ∙ at
        | inr apart ↦ absurd (let no : None ≡ Some x = sym (insert-elsewhere empty_map [] first.value key apart ∙ get-empty key_cmp key) ∙ at in cc)
      ];
      slots = λ key n at. slot_new n (has_row (first ∷ rows) whole are key n at);
      rows = each.1;
      rest = λ key n at. elim (has_row (first ∷ rows) whole are key n at) [
        | inl is ↦
            let number : n ≡ 0 = sym is ∙ zero in
            inl (ap (get root_numbers) (are.distinct key [] n at (are.root ∙ ap Some (sym number))) ∙ at_root ∙ ap Some (sym number))
        | inr has ↦ inr has
      ];
    }

  -- the root alone is a part of the tree
  pub loaded_first : IsLoaded (first ∷ rows) (slab.get new) rows
  loaded_first = record {
    tree = root_tree first.value;
    linked = linked_alone (linked_part (slab.get new)) node at_zero alone empty first.value node_value;
    spots = spots_alone (linked_part (slab.get new)) node at_zero alone empty node_above node_name;
    only = λ test each.
        (only_more test empty_map [] first.value (λ q y at. absurd (let no : None ≡ Some y = sym (get-empty key_cmp q) ∙ at in cc)) each.0, each.1);
    part = first_loading;
  }

-- ---- the nodes of the tree alone

module _ {R : Type 0} (all : List (NumberedValue R)) (nodes left : ℕ → Option (Node R)) (loaded : IsLoaded all nodes []) (same : (n : ℕ) → left n ≡ linked_part nodes n) where
  left_is : linked_part nodes ≡ left
  left_is = λ i n. sym (same n) i

  pub linked_left : AreLinked (value_at left) (member_at left) loaded.tree
  linked_left = subst (λ f. AreLinked (value_at f) (member_at f) loaded.tree) left_is loaded.linked

  pub spots_left : AreSpots (member_at left) (spot_at left)
  spots_left = subst (λ f. AreSpots (member_at f) (spot_at f)) left_is loaded.spots
