-- The walk over all keys: the entries that are left, from the keys that are pending.
use Rattle.std.proofs.Common.{◌≡◌, ◌≢◌, ◌∙◌, ℕ, true, false, if◌then◌else◌, T, List, [], ◌∷◌, ◌++◌, map, reverse, Option, Some, None, is_some, String, string_bytes, refl, sym, ap, subst, append_assoc}
use Rattle.std.specs.declared.alloc.Global.{Global}
use Rattle.std.specs.List.{AllByRecursion}
use Rattle.std.specs.Option.{option_map, option_and_then}
use Rattle.std.specs.FinMap.{FinMap, get, entries}
use Rattle.std.specs.FinMap.Entries.{find, is_sorted, where_key}
use Rattle.std.proofs.lemmas.List.{append-nil, map-append, reverse-append}
use Rattle.dav_key.specs.Key.{Key, key_cmp}
use Rattle.dav_key.specs.Below.{is_at_or_below}
use Rattle.dav_key.specs.Flat.{IsFlatSegment}
use Rattle.dav_key.proofs.FlatLemmas.{IsFlatKey-last}
use Rattle.dav_nodes.specs.Tree.{Tree}
use Rattle.std.specs.String.{string_cmp}
use Rattle.std.specs.BTreeMap.{IsOrdered}
use Rattle.dav_nodes.specs.declared.node.Node.{Node}
use Rattle.dav_nodes.specs.Links.{walk, AreLinked, value_at, member_at}
use Rattle.dav_nodes.specs.Listing.{members_of, seen, children, HasFlatKeys, HasFlatNames}
use Rattle.dav_nodes.proofs.Walks.{walk-none}
use Rattle.dav_nodes.proofs.NodeMembers.{members_by_number, members_at_keys}
use Rattle.dav_nodes.proofs.MemberEntries.{name_cmp, find-members_of, sorted-members_of}
use Rattle.dav_nodes.proofs.Subtrees.{at_or_below_root, subtree, sections, subtree_is, HasParents}

-- ---- pushing members

-- what holds of each of a list, and of the list without its last
pub all_init : {A : Type 0} (P : A → Type 0) (xs : List A) (x : A) → AllByRecursion P (xs ++ x ∷ []) → AllByRecursion P xs × P x
all_init P [] x a = (tt, a.0)
all_init P (y ∷ xs) x a = let rest = all_init P xs x a.1 in ((a.0, rest.0), rest.1)

-- one more member is seen
pub seen-push : (es : List (String Global × ℕ)) (name : String Global) (n : ℕ) → seen (es ++ (name, n) ∷ []) ≡ seen es ++ (string_bytes name, n) ∷ []
seen-push es name n = map-append (λ e. (string_bytes e.0, e.1)) es ((name, n) ∷ [])

-- the last member's key is pushed
pub push_last : (key : Key) (es left : List (String Global × ℕ)) (name : String Global) (n : ℕ) (ps new : List (Key × ℕ)) → es ≡ left ++ (name, n) ∷ [] → new ≡ ps ++ (key ++ string_bytes name ∷ [], n) ∷ []
    → children key (seen left) ++ reverse new ≡ children key (seen es) ++ reverse ps
push_last key es left name n ps new is pushed =
    ap (λ qs. children key (seen left) ++ reverse qs) pushed
    ∙ ap (λ qs. children key (seen left) ++ qs) (reverse-append ps ((key ++ string_bytes name ∷ [], n) ∷ []))
    ∙ sym (append_assoc (children key (seen left)) ((key ++ string_bytes name ∷ [], n) ∷ []) (reverse ps))
    ∙ ap (λ qs. qs ++ reverse ps) (sym (
    ap (λ fs. children key (seen fs)) is ∙ ap (children key) (seen-push left name n)
    ∙ map-append (λ m. (key ++ m.0 ∷ [], m.1)) (seen left) ((string_bytes name, n) ∷ [])))

-- the last name may be a segment, and so may the others
pub flat_init : (es left : List (String Global × ℕ)) (name : String Global) (n : ℕ) → es ≡ left ++ (name, n) ∷ [] → HasFlatNames (seen es) → HasFlatNames (seen left) × IsFlatSegment (string_bytes name)
flat_init es left name n is flat =
    all_init (λ m. IsFlatSegment m.0) (seen left) (string_bytes name, n) (subst HasFlatNames (ap seen is ∙ seen-push left name n) flat)

-- the entries at and below each of these keys, one after another
abbrev pub upcoming : {X : Type 0} → FinMap key_cmp X → List (Key × ℕ) → List (Key × X)
upcoming values [] = []
upcoming values (p ∷ ps) = subtree values p.0 ++ upcoming values ps

-- each of these keys has this number
abbrev pub ArePlaced : FinMap key_cmp ℕ → List (Key × ℕ) → Type 0
ArePlaced numbers ps = AllByRecursion (λ p. get numbers p.0 ≡ Some p.1) ps

-- ---- keys with a value

-- a walk along one key and then another
walk-append : (member : List ℕ → ℕ → Option ℕ) (from : Option ℕ) (a b : Key) → walk member from (a ++ b) ≡ walk member (walk member from a) b
walk-append member from [] b = refl
walk-append member from (s ∷ a) b = walk-append member (option_and_then (member s) from) a b

module _ {R : Type 0} (value : ℕ → Option R) (member : List ℕ → ℕ → Option ℕ) (tree : Tree R) (linked : AreLinked value member tree) where
  -- just the keys with a number have a value
  pub number_from_value : (key : Key) → is_some (get tree.values key) ≡ true → is_some (get tree.numbers key) ≡ true
  number_from_value key is = by (get tree.numbers key) (ap is_some (sym (linked.valued key)) ∙ is)
    where
      by : (o : Option ℕ) → is_some (option_and_then value o) ≡ true → is_some o ≡ true
      by None e = absurd cc
      by (Some n) e = refl

  -- and the other way round
  pub value_from_number : (key : Key) (n : ℕ) → get tree.numbers key ≡ Some n → is_some (get tree.values key) ≡ true
  value_from_number key n is = ap is_some (linked.valued key ∙ ap (option_and_then value) is) ∙ linked.live key n is

  -- where a key has a number, so has each one above it
  above_number : (a b : Key) → is_some (get tree.numbers (a ++ b)) ≡ true → is_some (get tree.numbers a) ≡ true
  above_number a b is = by (walk member (Some 0) a) (linked.numbered a) (ap is_some (sym (linked.numbered (a ++ b) ∙ walk-append member (Some 0) a b)) ∙ is)
    where
      by : (o : Option ℕ) → get tree.numbers a ≡ o → is_some (walk member o b) ≡ true → is_some (get tree.numbers a) ≡ true
      by None at e = absurd (let no : true ≡ false = sym e ∙ ap is_some (walk-none member b) in cc)
      by (Some n) at e = ap is_some at

  -- the parent of each key with a value has one
  pub has_parents : HasParents tree.values
  has_parents key s w is =
      by (get tree.numbers (key ++ s ∷ [])) refl
      (above_number (key ++ s ∷ []) w (ap (λ k. is_some (get tree.numbers k)) (append_assoc key (s ∷ []) w) ∙ number_from_value (key ++ s ∷ w) is))
    where
      by : (o : Option ℕ) → get tree.numbers (key ++ s ∷ []) ≡ o → is_some o ≡ true → is_some (get tree.values (key ++ s ∷ [])) ≡ true
      by None at e = absurd cc
      by (Some n) at e = value_from_number (key ++ s ∷ []) n at

  -- ---- the members of a key

  -- names of keys that a `FlatKey` can have
  flat_names : HasFlatKeys tree.values → (key : Key) (ms : List (List ℕ × ℕ)) → AllByRecursion (λ p. get tree.numbers (key ++ p.0 ∷ []) ≡ Some p.1) ms → HasFlatNames ms
  flat_names flat key [] a = tt
  flat_names flat key (p ∷ ms) a =
      let there = value_from_number (key ++ p.0 ∷ []) p.1 a.0 in
      (IsFlatKey-last key p.0 (flat (key ++ p.0 ∷ []) (λ none. let no : true ≡ false = sym there ∙ ap is_some none in cc)), flat_names flat key ms a.1)

  -- the names of members may be segments, where the elements of each key with a value may be
  pub flat_members : HasFlatKeys tree.values → (key : Key) (ms : List (List ℕ × ℕ)) → ms ≡ members_of key tree.numbers → HasFlatNames ms
  flat_members flat key ms is = subst HasFlatNames (sym is) (flat_names flat key (members_of key tree.numbers) (members_at_keys key tree.numbers))

  -- ---- the keys that are pending

  -- the entries of members that are pending are the sections of the key
  upcoming-children : (key : Key) (ms : List (List ℕ × ℕ)) (ps : List (Key × ℕ)) → upcoming tree.values (children key ms ++ ps) ≡ sections key (entries tree.values) ms ++ upcoming tree.values ps
  upcoming-children key [] ps = refl
  upcoming-children key (m ∷ ms) ps =
      ap (λ es. subtree tree.values (key ++ m.0 ∷ []) ++ es) (upcoming-children key ms ps)
      ∙ sym (append_assoc (subtree tree.values (key ++ m.0 ∷ [])) (sections key (entries tree.values) ms) (upcoming tree.values ps))

  -- a key's own entry comes first, and then those at and below its members
  pub upcoming_next : (key : Key) (n : ℕ) (x : R) (ms : List (List ℕ × ℕ)) (ps qs : List (Key × ℕ)) → get tree.numbers key ≡ Some n → value n ≡ Some x → ms ≡ members_of key tree.numbers → qs ≡ children key ms ++ ps
      → upcoming tree.values ((key, n) ∷ ps) ≡ (key, x) ∷ upcoming tree.values qs
  upcoming_next key n x ms ps qs at there is pushed =
      ap (λ es. es ++ upcoming tree.values ps)
      (subtree_is tree.values key x (linked.valued key ∙ ap (option_and_then value) at ∙ there) ms
      (subst (λ (l : List (List ℕ × ℕ)). T (is_sorted name_cmp l)) (sym is) (sorted-members_of key tree.numbers))
      (λ s e. ap (λ (l : List (List ℕ × ℕ)). is_some (find name_cmp s l)) is ∙ ap is_some (find-members_of key tree.numbers s) ∙ number_from_value (key ++ s ∷ []) e) has_parents)
      ∙ ap (λ es. (key, x) ∷ es) (sym (ap (upcoming tree.values) pushed ∙ upcoming-children key ms ps))

  -- members that are pending have their numbers
  placed_children : (key : Key) (ms : List (List ℕ × ℕ)) (ps : List (Key × ℕ)) → AllByRecursion (λ p. get tree.numbers (key ++ p.0 ∷ []) ≡ Some p.1) ms → ArePlaced tree.numbers ps → ArePlaced tree.numbers (children key ms ++ ps)
  placed_children key [] ps a placed = placed
  placed_children key (m ∷ ms) ps a placed = (a.0, placed_children key ms ps a.1 placed)

  -- the keys of members have their numbers
  pub placed_next : (key : Key) (ms : List (List ℕ × ℕ)) (ps qs : List (Key × ℕ)) → ms ≡ members_of key tree.numbers → qs ≡ children key ms ++ ps → ArePlaced tree.numbers ps → ArePlaced tree.numbers qs
  placed_next key ms ps qs is pushed placed =
      subst (ArePlaced tree.numbers) (sym (pushed ∙ ap (λ l. children key l ++ ps) is)) (placed_children key (members_of key tree.numbers) ps (members_at_keys key tree.numbers) placed)

  -- all entries are at or below the root
  every : (es : List (Key × R)) → where_key key_cmp (λ k. is_at_or_below k []) es ≡ es
  every [] = refl
  every (e ∷ es) = ap (λ b. if b then e ∷ where_key key_cmp (λ k. is_at_or_below k []) es else where_key key_cmp (λ k. is_at_or_below k []) es) (at_or_below_root e.0) ∙ ap (λ l. e ∷ l) (every es)

  -- from the root all entries are upcoming
  pub upcoming_root : (n : ℕ) → upcoming tree.values (([], n) ∷ []) ≡ entries tree.values
  upcoming_root n = append-nil (subtree tree.values []) ∙ every (entries tree.values)

  -- the root has its number
  pub placed_root : ArePlaced tree.numbers (([], 0) ∷ [])
  placed_root = (linked.numbered [], tt)

-- the pending key that is taken comes first
pub taken_first : (ps rest : List (Key × ℕ)) (key : Key) (n : ℕ) → ps ≡ rest ++ (key, n) ∷ [] → reverse ps ≡ (key, n) ∷ reverse rest
taken_first ps rest key n is = ap reverse is ∙ reverse-append rest ((key, n) ∷ [])

module _ {R : Type 0} (nodes : ℕ → Option (Node R)) (tree : Tree R) (linked : AreLinked (value_at nodes) (member_at nodes) tree) where
  -- a pending key has a node
  pub pending_there : (ps rest : List (Key × ℕ)) (key : Key) (n : ℕ) → ps ≡ rest ++ (key, n) ∷ [] → ArePlaced tree.numbers (reverse ps) → nodes n ≢ None
  pending_there ps rest key n taken placed none =
      let all : ArePlaced tree.numbers ((key, n) ∷ reverse rest) = subst (ArePlaced tree.numbers) (taken_first ps rest key n taken) placed in
      let live : is_some (value_at nodes n) ≡ true = linked.live key n all.0 in
      let no : true ≡ false = sym live ∙ ap (λ o. is_some (option_map (λ (node : Node R). node.value) o)) none in
      absurd cc

  -- a pending key is taken: its node, with the members of the key, and the keys of those become pending
  module _ (ps rest qs : List (Key × ℕ)) (key : Key) (n : ℕ) (node : Node R) (taken : ps ≡ rest ++ (key, n) ∷ []) (placed : ArePlaced tree.numbers (reverse ps)) (there : Some node ≡ nodes n) (ordered : IsOrdered string_cmp node.members) where
    -- the key has that number
    at_first : get tree.numbers key ≡ Some n
    at_first = let all : ArePlaced tree.numbers ((key, n) ∷ reverse rest) = subst (ArePlaced tree.numbers) (taken_first ps rest key n taken) placed in all.0

    -- the other pending keys have their numbers
    placed_rest : ArePlaced tree.numbers (reverse rest)
    placed_rest = let all : ArePlaced tree.numbers ((key, n) ∷ reverse rest) = subst (ArePlaced tree.numbers) (taken_first ps rest key n taken) placed in all.1

    -- the node's members are those of the key
    pub seen_members : seen node.members.entries ≡ members_of key tree.numbers
    seen_members = members_by_number nodes tree linked key n node at_first (sym there) ordered

    -- then all pending keys have their numbers
    pub placed_after : reverse qs ≡ children key (seen node.members.entries) ++ reverse rest → ArePlaced tree.numbers (reverse qs)
    placed_after pushed = placed_next (value_at nodes) (member_at nodes) tree linked key (seen node.members.entries) (reverse rest) (reverse qs) seen_members pushed placed_rest

    -- and the key's own entry was the next one
    pub upcoming_after : reverse qs ≡ children key (seen node.members.entries) ++ reverse rest → upcoming tree.values (reverse ps) ≡ (key, node.value) ∷ upcoming tree.values (reverse qs)
    upcoming_after pushed =
        ap (upcoming tree.values) (taken_first ps rest key n taken)
        ∙ upcoming_next (value_at nodes) (member_at nodes) tree linked key n node.value (seen node.members.entries) (reverse rest) (reverse qs) at_first
        (ap (option_map (λ (m : Node R). m.value)) (sym there)) seen_members pushed

-- one more entry is listed
pub listed_more : {A X : Type 0} (f : A → Key × X) (list new : List A) (a : A) (e : Key × X) (before after all : List (Key × X)) → new ≡ list ++ a ∷ [] → f a ≡ e → before ≡ e ∷ after → map f list ++ before ≡ all
    → map f new ++ after ≡ all
listed_more f list new a e before after all pushed is first listed =
    ap (λ l. map f l ++ after) pushed ∙ ap (λ l. l ++ after) (map-append f list (a ∷ []))
    ∙ append_assoc (map f list) (f a ∷ []) after
    ∙ ap (λ x. map f list ++ x ∷ after) is
    ∙ ap (λ l. map f list ++ l) (sym first) ∙ listed

-- at first only the root is pending
pub root_first : (ps new : List (Key × ℕ)) (key : Key) → new ≡ ps ++ (key, 0) ∷ [] → ps ≡ [] → key ≡ [] → reverse new ≡ ([], 0) ∷ []
root_first ps new key pushed none is = ap reverse (pushed ∙ ap (λ l. l ++ (key, 0) ∷ []) none ∙ ap (λ (k : Key). (k, 0) ∷ []) is)

-- and nothing is listed
pub listed_none : {A X : Type 0} (f : A → Key × X) (list : List A) (rest all : List (Key × X)) → list ≡ [] → rest ≡ all → map f list ++ rest ≡ all
listed_none f list rest all none is = ap (λ l. map f l ++ rest) none ∙ is
