-- What each change leaves: the tree that the nodes hold afterwards, whether the change succeeded or not.
use Rattle.std.proofs.Common.{◌≡◌, ◌≢◌, inl, inr, ℕ, List, [], ◌∷◌, ◌++◌, Option, Some, None, Result, Ok, Err, IsSome, true, false, is_some, refl, sym, ap, subst, ◌∙◌}
use Rattle.std.specs.Prelude.{IfOk, OnOk, OnErr}
use Rattle.std.specs.Coded.{Coded}
use Rattle.std.specs.Option.{option_and_then, option_map}
use Rattle.std.specs.FinMap.{get, insert, remove}
use Rattle.dav_key.specs.Key.{Key, parent}
use Rattle.dav_key.specs.Below.{AreApart}
use Rattle.dav_key.proofs.FlatLemmas.{key_cases}
use Rattle.dav_nodes.specs.Tree.{Tree, IsAdded, IsReplaced, IsRemoved, IsTreeMoved, HasNoMember}
use Rattle.dav_nodes.specs.Links.{place, AreLinked, HoldsTree, value_at, member_at}
use Rattle.dav_nodes.specs.NodeChanges.{AddsNode, SetsValue, RemovesNode, MovesNode, SameNodes}
use Rattle.dav_nodes.specs.Memo.{IsKnownAt, AreKnown, KeepsOthers}
use Rattle.dav_nodes.specs.declared.node.Node.{Node}
use Rattle.dav_nodes.specs.declared.memo.Memo.{Memo}
use Rattle.dav_nodes.proofs.Walks.{are_numbered}
use Rattle.dav_nodes.proofs.KeyMaps.{not_own_member, insert-here, insert-elsewhere, remove-elsewhere}
use Rattle.dav_nodes.proofs.Linking.{tree_is, apart_numbers, linked_added, linked_same, linked_set, linked_removed, some_apart, not_none}
use Rattle.dav_nodes.proofs.Moving.{no_number_below, linked_moved, moved_tree, is_tree_moved}

-- ---- the tree of nodes

-- the nodes are linked as the tree that they hold
pub linked_now : {R : Type 0} (nodes : ℕ → Option (Node R)) (tree : Tree R) (held : HoldsTree nodes) → held.0 ≡ tree → AreLinked (value_at nodes) (member_at nodes) tree
linked_now nodes tree held is = subst (AreLinked (value_at nodes) (member_at nodes)) is held.1

-- what holds of the tree that the nodes are linked as holds of the one that they hold
pub of_held : {R : Type 0} (code : Coded R) (nodes : ℕ → Option (Node R)) (tree : Tree R) (P : Tree R → Type 0) → AreLinked (value_at nodes) (member_at nodes) tree → P tree → (held : HoldsTree nodes) → P held.0
of_held code nodes tree P linked holds held = subst P (sym (tree_is code (value_at nodes) (member_at nodes) tree linked held)) holds

-- a key has a number exactly if it has a value
pub numbered_there : {R : Type 0} (nodes : ℕ → Option (Node R)) (tree : Tree R) → AreLinked (value_at nodes) (member_at nodes) tree → (key : Key) → is_some (get tree.numbers key) ≡ is_some (get tree.values key)
numbered_there {R} nodes tree linked key = by (get tree.numbers key) refl ∙ ap is_some (sym (linked.valued key))
  where
    by : (o : Option ℕ) → get tree.numbers key ≡ o → is_some o ≡ is_some (option_and_then (value_at nodes) o)
    by None at = refl
    by (Some number) at = sym (linked.live key number at)

-- what has a number does not lack one
pub no_number : (o : Option ℕ) → IsSome o → o ≢ None
no_number o there none = absurd (let both : true ≡ false = sym there ∙ ap is_some none in cc)

some_node : {R : Type 0} (o : Option (Node R)) → is_some (option_map (λ (n : Node R). n.value) o) ≡ true → IsSome o
some_node None e = absurd cc
some_node (Some n) e = refl

module _ {R : Type 0} (nodes : ℕ → Option (Node R)) (tree : Tree R) (linked : AreLinked (value_at nodes) (member_at nodes) tree) where
  -- what was found is the number of the key
  pub found_number : (key segments : Key) (found : Option ℕ) → segments ≡ key → found ≡ place (member_at nodes) segments → found ≡ get tree.numbers key
  found_number key segments found same is = is ∙ ap (place (member_at nodes)) same ∙ sym (linked.numbered key)

  -- a number in use is that of a node
  pub node_there : (key : Key) (number : ℕ) → get tree.numbers key ≡ Some number → IsSome (nodes number)
  node_there key number at = some_node (nodes number) (linked.live key number at)

  -- a member's number is that of the key
  pub member_number : (key : Key) (name : List ℕ) (above : ℕ) → key ≡ parent key ++ name ∷ [] → get tree.numbers (parent key) ≡ Some above → get tree.numbers key ≡ member_at nodes name above
  member_number key name above is at =
      ap (get tree.numbers) is ∙ (are_numbered (value_at nodes) (member_at nodes) tree linked).step (parent key) name ∙ ap (option_and_then (member_at nodes name)) at

-- ---- the results

-- the nodes hold a tree that meets the one condition after `Ok`, and is the old one after `Err`
pub record Outcome {R T E : Type 0} (nodes : ℕ → Option (Node R)) (tree : Tree R) (Changed : Tree R → Type 0) (result : Result T E) : Type 0 where
  pub after : Tree R
  pub linked : AreLinked (value_at nodes) (member_at nodes) after
  pub ok : OnOk result (Changed after)
  pub err : OnErr result (after ≡ tree)

module _ {R : Type 0} (old new : ℕ → Option (Node R)) (tree : Tree R) (linked : AreLinked (value_at old) (member_at old) tree) where
  -- a value is added
  is_added : (key : Key) (name : List ℕ) (above number : ℕ) (x : R) → AddsNode old new above name number x → IsAdded key number x tree (record { values = insert tree.values key x; numbers = insert tree.numbers key number })
  is_added key name above number x adds = record {
    unused = λ other is. apart_numbers (value_at old) number number (linked.live other number is) adds.unused refl;
    values = refl;
    numbers = refl;
  }

  -- the nodes hold a tree with the value after `Ok`, and the old one after `Err`
  pub added : {E : Type 0} (key : Key) (name : List ℕ) (above : ℕ) (x : R) → key ≡ parent key ++ name ∷ [] → get tree.numbers (parent key) ≡ Some above → get tree.numbers key ≡ None
      → (result : Result ℕ E) → IfOk result (λ number. AddsNode old new above name number x) → OnErr result (SameNodes old new)
      → (after : Tree R) × AreLinked (value_at new) (member_at new) after × IfOk result (λ number. IsAdded key number x tree after) × OnErr result (after ≡ tree)
  added key name above x is at absent (Ok number) adds same = (
    record { values = insert tree.values key x; numbers = insert tree.numbers key number },
    subst (λ k. AreLinked (value_at new) (member_at new) (record { values = insert tree.values k x; numbers = insert tree.numbers k number })) (sym is)
        (linked_added old new tree linked (parent key) name above number x at (ap (get tree.numbers) (sym is) ∙ absent) adds),
    is_added key name above number x adds,
    tt,
  )
  added key name above x is at absent (Err e) adds same = (tree, linked_same old new tree linked same, tt, refl)

  -- a value is replaced
  pub replaced : (key : Key) (number : ℕ) (before x : R) → get tree.numbers key ≡ Some number → value_at old number ≡ Some before → SetsValue old new number x
      → (after : Tree R) × AreLinked (value_at new) (member_at new) after × IsReplaced key before x tree after
  replaced key number before x at there sets = (
    record { values = insert tree.values key x; numbers = tree.numbers },
    linked_set old new tree linked key number x at sets,
    record { there = linked.valued key ∙ ap (option_and_then (value_at old)) at ∙ there; values = refl; numbers = refl },
  )

  -- the subtree is moved
  pub renamed : {T E : Type 0} (from to : Key) (name new_name : List ℕ) (above new_above : ℕ) → from ≡ parent from ++ name ∷ [] → to ≡ parent to ++ new_name ∷ []
      → AreApart from to → get tree.numbers (parent from) ≡ Some above → get tree.numbers (parent to) ≡ Some new_above → get tree.numbers to ≡ None
      → (result : Result T E) → OnOk result (MovesNode old new above name new_above new_name) → OnErr result (SameNodes old new) → Outcome new tree (IsTreeMoved from to tree) result
  renamed from to name new_name above new_above from_is to_is apart at new_at free (Ok u) moves same =
      let moved = is_tree_moved old tree linked from to apart free in
      record {
        after = moved_tree old tree linked from to apart free;
        linked =
            linked_moved old new tree (moved_tree old tree linked from to apart free) linked (parent from) (parent to) name new_name above new_above
            (subst (λ k. AreApart k (parent to ++ new_name ∷ [])) from_is (subst (AreApart from) to_is apart)) at new_at (ap (get tree.numbers) (sym to_is) ∙ free) moves
            (subst (λ k. IsTreeMoved k (parent to ++ new_name ∷ []) tree (moved_tree old tree linked from to apart free)) from_is
            (subst (λ k. IsTreeMoved from k tree (moved_tree old tree linked from to apart free)) to_is moved));
        ok = moved;
        err = tt;
      }
  renamed from to name new_name above new_above from_is to_is apart at new_at free (Err e) moves same = record { after = tree; linked = linked_same old new tree linked same; ok = tt; err = refl }

-- ---- a removal

module _ {R : Type 0} (old new : ℕ → Option (Node R)) (tree : Tree R) (linked : AreLinked (value_at old) (member_at old) tree) where
  -- below a parent without a number
  pub orphan : (key : Key) → key ≢ [] → get tree.numbers (parent key) ≡ None → get tree.numbers key ≡ None
  orphan key not_root none = elim (key_cases key) [
    | inl root ↦ absurd (not_root root)
    | inr last ↦ ap (get tree.numbers) last.1 ∙ no_number_below old tree linked (parent key) none (last.0 ∷ [])
  ]

  no_member_number : (key : Key) → HasNoMember key tree → (s : List ℕ) → get tree.numbers (key ++ s ∷ []) ≡ None
  no_member_number key childless s = valueless (get tree.numbers (key ++ s ∷ [])) refl
    where
      valueless : (o : Option ℕ) → get tree.numbers (key ++ s ∷ []) ≡ o → o ≡ None
      valueless None is = refl
      valueless (Some n) is =
          absurd (let both = sym (linked.live (key ++ s ∷ []) n is) ∙ ap is_some (sym (linked.valued (key ++ s ∷ []) ∙ ap (option_and_then (value_at old)) is) ∙ childless s) in cc)

  pub removed : (key : Key) (name : List ℕ) (above number : ℕ) → key ≡ parent key ++ name ∷ [] → get tree.numbers (parent key) ≡ Some above → get tree.numbers key ≡ Some number → HasNoMember key tree
      → RemovesNode old new above name number → (after : Tree R) × AreLinked (value_at new) (member_at new) after × IsRemoved key tree after
  removed key name above number is at there childless removes = (
    record { values = remove tree.values key; numbers = remove tree.numbers key },
    subst (λ k. AreLinked (value_at new) (member_at new) (record { values = remove tree.values k; numbers = remove tree.numbers k })) (sym is)
        (linked_removed old new tree linked (parent key) name above number at (ap (get tree.numbers) (sym is) ∙ there) (λ s. ap (λ k. get tree.numbers (k ++ s ∷ [])) (sym is) ∙ no_member_number key childless s) removes),
    record { values = refl; numbers = refl },
  )

  -- a key with a number has a parent with one
  pub no_orphan : (key : Key) → key ≢ [] → IsSome (get tree.numbers key) → get tree.numbers (parent key) ≢ None
  no_orphan key not_root there none = absurd (let both : true ≡ false = sym there ∙ ap is_some (orphan key not_root none) in cc)

  -- the parent's number is another one
  pub parent_apart : (key : Key) (name : List ℕ) (above number : ℕ) → key ≡ parent key ++ name ∷ [] → get tree.numbers (parent key) ≡ Some above → get tree.numbers key ≡ Some number → above ≢ number
  parent_apart key name above number is at there e = not_own_member (parent key) name (linked.one (parent key) key above at (there ∙ ap Some (sym e)) ∙ is)

-- ---- the memo

-- what is known stays known while the numbers that it names stay
known_by : (old new : Key → Option ℕ) (memo : Memo) → ((key : Key) (n : ℕ) → old key ≡ Some n → new key ≡ Some n) → AreKnown old memo → AreKnown new memo
known_by old new memo keeps known = record {
  last = λ p is. record { parent_at = keeps (parent p.key) p.above (known.last p is).parent_at; own = λ n e. keeps p.key n ((known.last p is).own n e) };
  other = λ p is. record { parent_at = keeps (parent p.key) p.above (known.other p is).parent_at; own = λ n e. keeps p.key n ((known.other p is).own n e) };
}

module _ {R : Type 0} (old new : ℕ → Option (Node R)) (tree after : Tree R) (linked : AreLinked (value_at old) (member_at old) tree) (then : AreLinked (value_at new) (member_at new) after) where
  number_stays : (key : Key) (n : ℕ) → (get tree.numbers key ≡ Some n → get after.numbers key ≡ Some n) → place (member_at old) key ≡ Some n → place (member_at new) key ≡ Some n
  number_stays key n keeps is = sym (then.numbered key) ∙ keeps (linked.numbered key ∙ is)

  pub known_after : (memo : Memo) → ((key : Key) (n : ℕ) → get tree.numbers key ≡ Some n → get after.numbers key ≡ Some n) → AreKnown (place (member_at old)) memo → AreKnown (place (member_at new)) memo
  known_after memo keeps known = known_by (place (member_at old)) (place (member_at new)) memo (λ key n is. number_stays key n (keeps key n) is) known

  -- after a value was added
  pub added_keeps : (key : Key) (number : ℕ) (x : R) → get tree.numbers key ≡ None → IsAdded key number x tree after → (q : Key) (n : ℕ) → get tree.numbers q ≡ Some n → get after.numbers q ≡ Some n
  added_keeps key number x absent is q n there =
      ap (λ m. get m q) is.numbers ∙ insert-elsewhere tree.numbers key number q (λ e. not_none (get tree.numbers q) n there (ap (get tree.numbers) e ∙ absent)) ∙ there

  pub added_at : (key : Key) (number above : ℕ) (x : R) → get tree.numbers key ≡ None → get tree.numbers (parent key) ≡ Some above → IsAdded key number x tree after → IsKnownAt (place (member_at new)) key above (Some number)
  added_at key number above x absent at is = record {
    parent_at = sym (then.numbered (parent key)) ∙ added_keeps key number x absent is (parent key) above at;
    own = λ n e. sym (then.numbered key) ∙ ap (λ m. get m key) is.numbers ∙ insert-here tree.numbers key number ∙ e;
  }

  -- after a removal
  pub removed_keeps : (key : Key) (number : ℕ) → get tree.numbers key ≡ Some number → IsRemoved key tree after → KeepsOthers number (place (member_at old)) (place (member_at new))
  removed_keeps key number at is q n apart there =
      number_stays q n
      (λ was. ap (λ m. get m q) is.numbers ∙ remove-elsewhere tree.numbers key q (λ e. apart (some_apart n number (sym was ∙ ap (get tree.numbers) e ∙ at))) ∙ was)
      there

  pub removed_at : (key : Key) (name : List ℕ) (number above : ℕ) → key ≡ parent key ++ name ∷ [] → get tree.numbers (parent key) ≡ Some above → get tree.numbers key ≡ Some number
      → IsRemoved key tree after → IsKnownAt (place (member_at new)) key above None
  removed_at key name number above last at there is = record {
    parent_at =
        removed_keeps key number there is (parent key) above (parent_apart old old tree linked key name above number last at there)
        (sym (linked.numbered (parent key)) ∙ at);
    own = λ n e. absurd cc;
  }
