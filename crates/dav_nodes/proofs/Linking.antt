-- The tree that nodes hold, after a change of one node.
use Rattle.std.proofs.Common.{◌≡◌, ◌≢◌, ℕ, true, List, [], ◌∷◌, ◌++◌, Option, Some, None, is_some, refl, sym, ap, ◌∙◌, ◌⊎◌, inl, inr}
use Rattle.std.specs.Option.{option_and_then}
use Rattle.std.specs.Coded.{Coded}
use Rattle.std.specs.FinMap.{FinMap, empty, get, insert, remove, get-empty}
use Rattle.std.proofs.lemmas.Bool.{cases_eq}
use Rattle.dav_key.specs.Key.{Key, key_cmp}
use Rattle.dav_nodes.specs.Tree.{Tree, root_tree}
use Rattle.dav_nodes.specs.Links.{AreLinked, linked-prop, value_at, member_at}
use Rattle.dav_nodes.specs.NodeChanges.{AddsNode, SetsValue, RemovesNode, SameNodes}
use Rattle.dav_nodes.specs.declared.node.Node.{Node}
use Rattle.dav_nodes.proofs.Walks.{AreNumbered, numbered_by, are_numbered}
use Rattle.dav_nodes.proofs.KeyMaps.{key_same_or_not, same_above, same_last, not_own_member, insert-here, insert-elsewhere, remove-here, remove-elsewhere}

-- the nodes hold just one tree
pub tree_is : {R : Type 0} (code : Coded R) (value : ℕ → Option R) (member : List ℕ → ℕ → Option ℕ) (tree : Tree R) → AreLinked value member tree → (held : (t : Tree R) × AreLinked value member t) → held.0 ≡ tree
tree_is {R} code value member tree linked held = ap (λ (h : (t : Tree R) × AreLinked value member t). h.0) (linked-prop value member code held (tree, linked))

-- the number of a node with a value, and one without
pub apart_numbers : {R : Type 0} (value : ℕ → Option R) (n number : ℕ) → is_some (value n) ≡ true → value number ≡ None → n ≢ number
apart_numbers value n number live none e = absurd (let is = sym live ∙ ap (λ x. is_some (value x)) e ∙ ap is_some none in cc)

pub some_apart : (a b : ℕ) → Some a ≡ Some b → a ≡ b
some_apart a b e = cc

pub not_none : (o : Option ℕ) (n : ℕ) → o ≡ Some n → o ≡ None → ⊥
not_none o n e f = absurd (cc)

-- nothing follows a number without that member
pub and_then_same : (f g : ℕ → Option ℕ) (o : Option ℕ) → ((n : ℕ) → o ≡ Some n → f n ≡ g n) → option_and_then f o ≡ option_and_then g o
and_then_same f g None same = refl
and_then_same f g (Some n) same = same n refl

pub and_then_value : {R : Type 0} (f g : ℕ → Option R) (o : Option ℕ) → ((n : ℕ) → o ≡ Some n → f n ≡ g n) → option_and_then f o ≡ option_and_then g o
and_then_value f g None same = refl
and_then_value f g (Some n) same = same n refl

pub not_root : (key : Key) (s : List ℕ) → key ++ s ∷ [] ≢ []
not_root [] s e = absurd cc
not_root (t ∷ key) s e = absurd cc

-- ---- the root alone

abbrev pub root_numbers : FinMap key_cmp ℕ
root_numbers = insert empty [] 0

pub at_root : get root_numbers [] ≡ Some 0
at_root = insert-here empty [] 0

nowhere_else : (key : Key) → key ≢ [] → get root_numbers key ≡ None
nowhere_else key apart = insert-elsewhere empty [] 0 key apart ∙ get-empty key_cmp key

pub only_root : (key : Key) (number : ℕ) → get root_numbers key ≡ Some number → key ≡ []
only_root key number is = elim (key_same_or_not key []) [
  | inl same ↦ same
  | inr apart ↦ absurd (not_none (get root_numbers key) number is (nowhere_else key apart))
]

module _ {R : Type 0} (value : ℕ → Option R) (member : List ℕ → ℕ → Option ℕ) (x : R) (there : value 0 ≡ Some x) (childless : (s : List ℕ) → member s 0 ≡ None) (only : (n : ℕ) → is_some (value n) ≡ true → n ≡ 0) where
  none_below : (key : Key) (s : List ℕ) → option_and_then (member s) (get root_numbers key) ≡ None
  none_below key s = elim (key_same_or_not key []) [
    | inl same ↦ ap (λ k. option_and_then (member s) (get root_numbers k)) same ∙ ap (option_and_then (member s)) at_root ∙ childless s
    | inr apart ↦ ap (option_and_then (member s)) (nowhere_else key apart)
  ]

  root_numbered : AreNumbered member root_numbers
  root_numbered = record { root = at_root; step = λ key s. nowhere_else (key ++ s ∷ []) (not_root key s) ∙ sym (none_below key s) }

  abbrev root_values : FinMap key_cmp R
  root_values = insert empty [] x

  root_valued : (key : Key) → get root_values key ≡ option_and_then value (get root_numbers key)
  root_valued key = elim (key_same_or_not key []) [
    | inl same ↦
        ap (get root_values) same ∙ insert-here empty [] x ∙ sym there
        ∙ sym (ap (λ k. option_and_then value (get root_numbers k)) same ∙ ap (option_and_then value) at_root)
    | inr apart ↦
        insert-elsewhere empty [] x key apart ∙ get-empty key_cmp key ∙ sym (ap (option_and_then value) (nowhere_else key apart))
  ]

  pub linked_root : AreLinked value member (root_tree x)
  linked_root = record {
    numbered = numbered_by member root_numbers root_numbered;
    valued = root_valued;
    one = λ a b number is_a is_b. only_root a number is_a ∙ sym (only_root b number is_b);
    live = λ key number is.
        ap (λ n. is_some (value n)) (some_apart number 0 (sym is ∙ ap (get root_numbers) (only_root key number is) ∙ at_root)) ∙ ap is_some there;
    reached = λ number is. ([], at_root ∙ ap Some (sym (only number is)));
  }

-- ---- a node is added

module _ {R : Type 0} (old new : ℕ → Option (Node R)) (tree : Tree R) (linked : AreLinked (value_at old) (member_at old) tree) (k0 : Key) (name : List ℕ) (above number : ℕ) (x : R)
    (at : get tree.numbers k0 ≡ Some above) (absent : get tree.numbers (k0 ++ name ∷ []) ≡ None) (adds : AddsNode old new above name number x) where
  abbrev more_numbers : FinMap key_cmp ℕ
  more_numbers = insert tree.numbers (k0 ++ name ∷ []) number

  -- a number in use is not the new one
  in_use : (key : Key) (n : ℕ) → get tree.numbers key ≡ Some n → n ≢ number
  in_use key n is = apart_numbers (value_at old) n number (linked.live key n is) adds.unused

  -- at a key other than the new one, a member is found as before
  same_members : (key : Key) (s : List ℕ) → key ++ s ∷ [] ≢ k0 ++ name ∷ [] → (n : ℕ) → get tree.numbers key ≡ Some n → member_at old s n ≡ member_at new s n
  same_members key s apart n is = elim (cases_eq n above) [
    | inl same ↦
        let here : key ≡ k0 = linked.one key k0 n is (at ∙ ap Some (sym same)) in
        ap (member_at old s) same ∙ sym (adds.names s (λ e. apart (λ i. here i ++ e i ∷ []))) ∙ ap (member_at new s) (sym same)
    | inr other ↦ sym (adds.others s n other (in_use key n is))
  ]

  more_step : (key : Key) (s : List ℕ) → get more_numbers (key ++ s ∷ []) ≡ option_and_then (member_at new s) (get more_numbers key)
  more_step key s = elim (key_same_or_not (key ++ s ∷ []) (k0 ++ name ∷ [])) [
    | inl same ↦
        ap (get more_numbers) same ∙ insert-here tree.numbers (k0 ++ name ∷ []) number ∙ sym adds.entered ∙ ap (λ t. member_at new t above) (sym (same_last key k0 s name same))
        ∙ sym (ap (λ k. option_and_then (member_at new s) (get more_numbers k)) (same_above key k0 s name same)
        ∙ ap (option_and_then (member_at new s)) (insert-elsewhere tree.numbers (k0 ++ name ∷ []) number k0 (not_own_member k0 name) ∙ at))
    | inr apart ↦
        insert-elsewhere tree.numbers (k0 ++ name ∷ []) number (key ++ s ∷ []) apart
        ∙ (are_numbered (value_at old) (member_at old) tree linked).step key s
        ∙ elim (key_same_or_not key (k0 ++ name ∷ [])) [
          | inl same ↦
              ap (λ k. option_and_then (member_at old s) (get tree.numbers k)) same ∙ ap (option_and_then (member_at old s)) absent ∙ sym (adds.childless s)
              ∙ sym (ap (λ k. option_and_then (member_at new s) (get more_numbers k)) same ∙ ap (option_and_then (member_at new s)) (insert-here tree.numbers (k0 ++ name ∷ []) number))
          | inr other ↦
              and_then_same (member_at old s) (member_at new s) (get tree.numbers key) (same_members key s apart)
              ∙ ap (option_and_then (member_at new s)) (sym (insert-elsewhere tree.numbers (k0 ++ name ∷ []) number key other))
        ]
  ]

  more_root : get more_numbers [] ≡ Some 0
  more_root =
      insert-elsewhere tree.numbers (k0 ++ name ∷ []) number [] (λ e. not_root k0 name (sym e)) ∙ (are_numbered (value_at old) (member_at old) tree linked).root

  more_valued : (key : Key) → get (insert tree.values (k0 ++ name ∷ []) x) key ≡ option_and_then (value_at new) (get more_numbers key)
  more_valued key = elim (key_same_or_not key (k0 ++ name ∷ [])) [
    | inl same ↦
        ap (get (insert tree.values (k0 ++ name ∷ []) x)) same ∙ insert-here tree.values (k0 ++ name ∷ []) x ∙ sym adds.added
        ∙ sym (ap (λ k. option_and_then (value_at new) (get more_numbers k)) same ∙ ap (option_and_then (value_at new)) (insert-here tree.numbers (k0 ++ name ∷ []) number))
    | inr apart ↦
        insert-elsewhere tree.values (k0 ++ name ∷ []) x key apart ∙ linked.valued key
        ∙ and_then_value (value_at old) (value_at new) (get tree.numbers key) (λ n is. sym (adds.values n (in_use key n is)))
        ∙ ap (option_and_then (value_at new)) (sym (insert-elsewhere tree.numbers (k0 ++ name ∷ []) number key apart))
  ]

  -- a key with a number is the new one, with the new number, or had it
  had : (key : Key) (n : ℕ) → get more_numbers key ≡ Some n → ((key ≡ k0 ++ name ∷ []) × (n ≡ number)) ⊎ (get tree.numbers key ≡ Some n)
  had key n is = elim (key_same_or_not key (k0 ++ name ∷ [])) [
    | inl same ↦ inl (same, some_apart n number (sym is ∙ ap (get more_numbers) same ∙ insert-here tree.numbers (k0 ++ name ∷ []) number))
    | inr apart ↦ inr (sym (insert-elsewhere tree.numbers (k0 ++ name ∷ []) number key apart) ∙ is)
  ]

  more_one : (a b : Key) (n : ℕ) → get more_numbers a ≡ Some n → get more_numbers b ≡ Some n → a ≡ b
  more_one a b n is_a is_b = elim (had a n is_a) [
    | inl at_a ↦ elim (had b n is_b) [
      | inl at_b ↦ at_a.0 ∙ sym at_b.0
      | inr was_b ↦ absurd (in_use b n was_b at_a.1)
    ]
    | inr was_a ↦ elim (had b n is_b) [
      | inl at_b ↦ absurd (in_use a n was_a at_b.1)
      | inr was_b ↦ linked.one a b n was_a was_b
    ]
  ]

  more_live : (key : Key) (n : ℕ) → get more_numbers key ≡ Some n → is_some (value_at new n) ≡ true
  more_live key n is = elim (had key n is) [
    | inl here ↦ ap (λ m. is_some (value_at new m)) here.1 ∙ ap is_some adds.added
    | inr was ↦ ap is_some (adds.values n (in_use key n was)) ∙ linked.live key n was
  ]

  more_reached : (n : ℕ) → is_some (value_at new n) ≡ true → (key : Key) × (get more_numbers key ≡ Some n)
  more_reached n is = elim (cases_eq n number) [
    | inl same ↦ (k0 ++ name ∷ [], insert-here tree.numbers (k0 ++ name ∷ []) number ∙ ap Some (sym same))
    | inr apart ↦
        let was = linked.reached n (ap is_some (sym (adds.values n apart)) ∙ is) in
        let other : was.0 ≢ k0 ++ name ∷ [] = λ e. not_none (get tree.numbers was.0) n was.1 (ap (get tree.numbers) e ∙ absent) in
        (was.0, insert-elsewhere tree.numbers (k0 ++ name ∷ []) number was.0 other ∙ was.1)
  ]

  pub linked_added : AreLinked (value_at new) (member_at new) (record { values = insert tree.values (k0 ++ name ∷ []) x; numbers = insert tree.numbers (k0 ++ name ∷ []) number })
  linked_added = record {
    numbered = numbered_by (member_at new) more_numbers (record { root = more_root; step = more_step });
    valued = more_valued;
    one = more_one;
    live = more_live;
    reached = more_reached;
  }

-- ---- no value and no member changes

module _ {R : Type 0} (old new : ℕ → Option (Node R)) (tree : Tree R) (linked : AreLinked (value_at old) (member_at old) tree) where
  pub linked_same : SameNodes old new → AreLinked (value_at new) (member_at new) tree
  linked_same same = record {
    numbered = numbered_by (member_at new) tree.numbers (record {
      root = (are_numbered (value_at old) (member_at old) tree linked).root;
      step = λ key s.
          (are_numbered (value_at old) (member_at old) tree linked).step key s
          ∙ and_then_same (member_at old s) (member_at new s) (get tree.numbers key) (λ n is. sym (same.members s n));
    });
    valued = λ key. linked.valued key ∙ and_then_value (value_at old) (value_at new) (get tree.numbers key) (λ n is. sym (same.values n));
    one = linked.one;
    live = λ key n is. ap is_some (same.values n) ∙ linked.live key n is;
    reached = λ n is. linked.reached n (ap is_some (sym (same.values n)) ∙ is);
  }

-- ---- one value changes

module _ {R : Type 0} (old new : ℕ → Option (Node R)) (tree : Tree R) (linked : AreLinked (value_at old) (member_at old) tree) (key : Key) (number : ℕ) (x : R)
    (at : get tree.numbers key ≡ Some number) (sets : SetsValue old new number x) where
  other_number : (q : Key) → q ≢ key → (n : ℕ) → get tree.numbers q ≡ Some n → n ≢ number
  other_number q apart n is e = apart (linked.one q key n is (at ∙ ap Some (sym e)))

  abbrev set_values : FinMap key_cmp R
  set_values = insert tree.values key x

  set_valued : (q : Key) → get set_values q ≡ option_and_then (value_at new) (get tree.numbers q)
  set_valued q = elim (key_same_or_not q key) [
    | inl same ↦
        ap (get set_values) same ∙ insert-here tree.values key x ∙ sym sets.set
        ∙ sym (ap (λ k. option_and_then (value_at new) (get tree.numbers k)) same ∙ ap (option_and_then (value_at new)) at)
    | inr apart ↦
        insert-elsewhere tree.values key x q apart ∙ linked.valued q
        ∙ and_then_value (value_at old) (value_at new) (get tree.numbers q) (λ n is. sym (sets.values n (other_number q apart n is)))
  ]

  set_live : (q : Key) (n : ℕ) → get tree.numbers q ≡ Some n → is_some (value_at new n) ≡ true
  set_live q n is = elim (cases_eq n number) [
    | inl same ↦ ap (λ m. is_some (value_at new m)) same ∙ ap is_some sets.set
    | inr apart ↦ ap is_some (sets.values n apart) ∙ linked.live q n is
  ]

  set_reached : (n : ℕ) → is_some (value_at new n) ≡ true → (q : Key) × (get tree.numbers q ≡ Some n)
  set_reached n is = elim (cases_eq n number) [
    | inl same ↦ (key, at ∙ ap Some (sym same))
    | inr apart ↦ linked.reached n (ap is_some (sym (sets.values n apart)) ∙ is)
  ]

  pub linked_set : AreLinked (value_at new) (member_at new) (record { values = insert tree.values key x; numbers = tree.numbers })
  linked_set = record {
    numbered = numbered_by (member_at new) tree.numbers (record {
      root = (are_numbered (value_at old) (member_at old) tree linked).root;
      step = λ q s.
          (are_numbered (value_at old) (member_at old) tree linked).step q s
          ∙ and_then_same (member_at old s) (member_at new s) (get tree.numbers q) (λ n is. sym (sets.members s n));
    });
    valued = set_valued;
    one = linked.one;
    live = set_live;
    reached = set_reached;
  }

-- ---- a node without members is removed

module _ {R : Type 0} (old new : ℕ → Option (Node R)) (tree : Tree R) (linked : AreLinked (value_at old) (member_at old) tree) (k0 : Key) (name : List ℕ) (above number : ℕ)
    (at : get tree.numbers k0 ≡ Some above) (there : get tree.numbers (k0 ++ name ∷ []) ≡ Some number) (childless : (s : List ℕ) → get tree.numbers ((k0 ++ name ∷ []) ++ s ∷ []) ≡ None)
    (removes : RemovesNode old new above name number) where
  abbrev fewer_numbers : FinMap key_cmp ℕ
  fewer_numbers = remove tree.numbers (k0 ++ name ∷ [])

  other_place : (q : Key) → q ≢ k0 ++ name ∷ [] → (n : ℕ) → get tree.numbers q ≡ Some n → n ≢ number
  other_place q apart n is e = apart (linked.one q (k0 ++ name ∷ []) n is (there ∙ ap Some (sym e)))

  members_left : (key : Key) (s : List ℕ) → key ++ s ∷ [] ≢ k0 ++ name ∷ [] → key ≢ k0 ++ name ∷ [] → (n : ℕ) → get tree.numbers key ≡ Some n → member_at old s n ≡ member_at new s n
  members_left key s apart other n is = elim (cases_eq n above) [
    | inl same ↦
        let here : key ≡ k0 = linked.one key k0 n is (at ∙ ap Some (sym same)) in
        ap (member_at old s) same ∙ sym (removes.names s (λ e. apart (λ i. here i ++ e i ∷ []))) ∙ ap (member_at new s) (sym same)
    | inr elsewhere ↦ sym (removes.others s n elsewhere (other_place key other n is))
  ]

  fewer_step : (key : Key) (s : List ℕ) → get fewer_numbers (key ++ s ∷ []) ≡ option_and_then (member_at new s) (get fewer_numbers key)
  fewer_step key s = elim (key_same_or_not (key ++ s ∷ []) (k0 ++ name ∷ [])) [
    | inl same ↦
        ap (get fewer_numbers) same ∙ remove-here tree.numbers (k0 ++ name ∷ []) ∙ sym removes.left ∙ ap (λ t. member_at new t above) (sym (same_last key k0 s name same))
        ∙ sym (ap (λ k. option_and_then (member_at new s) (get fewer_numbers k)) (same_above key k0 s name same)
        ∙ ap (option_and_then (member_at new s)) (remove-elsewhere tree.numbers (k0 ++ name ∷ []) k0 (not_own_member k0 name) ∙ at))
    | inr apart ↦
        remove-elsewhere tree.numbers (k0 ++ name ∷ []) (key ++ s ∷ []) apart
        ∙ elim (key_same_or_not key (k0 ++ name ∷ [])) [
          | inl same ↦
              ap (λ k. get tree.numbers (k ++ s ∷ [])) same ∙ childless s
              ∙ sym (ap (λ k. option_and_then (member_at new s) (get fewer_numbers k)) same ∙ ap (option_and_then (member_at new s)) (remove-here tree.numbers (k0 ++ name ∷ [])))
          | inr other ↦
              (are_numbered (value_at old) (member_at old) tree linked).step key s
              ∙ and_then_same (member_at old s) (member_at new s) (get tree.numbers key) (members_left key s apart other)
              ∙ ap (option_and_then (member_at new s)) (sym (remove-elsewhere tree.numbers (k0 ++ name ∷ []) key other))
        ]
  ]

  abbrev fewer_values : FinMap key_cmp R
  fewer_values = remove tree.values (k0 ++ name ∷ [])

  fewer_valued : (key : Key) → get fewer_values key ≡ option_and_then (value_at new) (get fewer_numbers key)
  fewer_valued key = elim (key_same_or_not key (k0 ++ name ∷ [])) [
    | inl same ↦
        ap (get fewer_values) same ∙ remove-here tree.values (k0 ++ name ∷ [])
        ∙ sym (ap (λ k. option_and_then (value_at new) (get fewer_numbers k)) same ∙ ap (option_and_then (value_at new)) (remove-here tree.numbers (k0 ++ name ∷ [])))
    | inr apart ↦
        remove-elsewhere tree.values (k0 ++ name ∷ []) key apart ∙ linked.valued key
        ∙ and_then_value (value_at old) (value_at new) (get tree.numbers key) (λ n is. sym (removes.values n (other_place key apart n is)))
        ∙ ap (option_and_then (value_at new)) (sym (remove-elsewhere tree.numbers (k0 ++ name ∷ []) key apart))
  ]

  -- a key that has a number had it, and is not the removed one
  still : (key : Key) (n : ℕ) → get fewer_numbers key ≡ Some n → (key ≢ k0 ++ name ∷ []) × (get tree.numbers key ≡ Some n)
  still key n is = elim (key_same_or_not key (k0 ++ name ∷ [])) [
    | inl same ↦ absurd (not_none (get fewer_numbers key) n is (ap (get fewer_numbers) same ∙ remove-here tree.numbers (k0 ++ name ∷ [])))
    | inr apart ↦ (apart, sym (remove-elsewhere tree.numbers (k0 ++ name ∷ []) key apart) ∙ is)
  ]

  fewer_reached : (n : ℕ) → is_some (value_at new n) ≡ true → (key : Key) × (get fewer_numbers key ≡ Some n)
  fewer_reached n is =
      let apart = apart_numbers (value_at new) n number is removes.gone in
      let was = linked.reached n (ap is_some (sym (removes.values n apart)) ∙ is) in
      let other : was.0 ≢ k0 ++ name ∷ [] = λ e. apart (some_apart n number (sym was.1 ∙ ap (get tree.numbers) e ∙ there)) in
      (was.0, remove-elsewhere tree.numbers (k0 ++ name ∷ []) was.0 other ∙ was.1)

  pub linked_removed : AreLinked (value_at new) (member_at new) (record { values = remove tree.values (k0 ++ name ∷ []); numbers = remove tree.numbers (k0 ++ name ∷ []) })
  linked_removed = record {
    numbered = numbered_by (member_at new) fewer_numbers (record {
      root = remove-elsewhere tree.numbers (k0 ++ name ∷ []) [] (λ e. not_root k0 name (sym e)) ∙ (are_numbered (value_at old) (member_at old) tree linked).root;
      step = fewer_step;
    });
    valued = fewer_valued;
    one = λ a b n is_a is_b. linked.one a b n (still a n is_a).1 (still b n is_b).1;
    live = λ key n is.
        ap is_some (removes.values n (other_place key (still key n is).0 n (still key n is).1)) ∙ linked.live key n (still key n is).1;
    reached = fewer_reached;
  }
