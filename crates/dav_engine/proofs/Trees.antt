-- Trees that gain or lose a node, and what stands below a key.
use Rattle.std.proofs.Common.{◌≡◌, ◌≢◌, Bool, true, false, ℕ, List, [], ◌∷◌, ◌++◌, append-nil, append_assoc, Option, Some, None, refl, sym, ◌∙◌, ap, cond}
use Rattle.std.specs.Ordering.{eq_by_cmp}
use Rattle.std.specs.FinMap.{get, insert, remove, get-insert, get-remove, same_map}
use Rattle.dav_key.specs.Key.{Key, key_cmp, key_cmp_total, key_cmp_exact, tied_decides}
use Rattle.dav_key.specs.Below.{is_at_or_below}
use Rattle.dav_store.specs.BelowLaws.{at_or_below-tail}
use Rattle.dav_store.specs.Members.{member}
use Rattle.dav_store.specs.MemberLaws.{parent-member}
use Rattle.dav_store.specs.Store.{Contents, Node, Directory, Tree, IsWellFormed}

-- the last of two at one key counts
pub insert-inserted : (tree : Tree) (key : Key) (n m : Node) → insert (insert tree key n) key m ≡ insert tree key m
insert-inserted tree key n m =
    same_map key_cmp_total key_cmp_exact _ _ (λ q.
    get-insert key_cmp_total (insert tree key n) key m q
    ∙ ap (λ o. cond (eq_by_cmp key_cmp q key) (Some m) o) (get-insert key_cmp_total tree key n q)
    ∙ covered (eq_by_cmp key_cmp q key) (get tree q)
    ∙ sym (get-insert key_cmp_total tree key m q))
  where
    covered : (b : Bool) (found : Option Node) → cond b (Some m) (cond b (Some n) found) ≡ cond b (Some m) found
    covered true found = refl
    covered false found = refl

-- a node that stands there is put there again
pub insert-there : (tree : Tree) (key : Key) (n : Node) → get tree key ≡ Some n → insert tree key n ≡ tree
insert-there tree key n there =
    same_map key_cmp_total key_cmp_exact _ _ (λ q. get-insert key_cmp_total tree key n q ∙ covered q (eq_by_cmp key_cmp q key) refl)
  where
    covered : (q : Key) (b : Bool) → eq_by_cmp key_cmp q key ≡ b → cond b (Some n) (get tree q) ≡ get tree q
    covered q true same = sym (ap (get tree) ((tied_decides q key).0 same) ∙ there)
    covered q false apart = refl

-- where nothing stands, nothing stands after a removal
pub none_removed : (tree : Tree) (key q : Key) → get tree q ≡ None → get (remove tree key) q ≡ None
none_removed tree key q none =
    get-remove key_cmp_total tree key q ∙ ap (λ o. cond (eq_by_cmp key_cmp q key) None o) none ∙ either (eq_by_cmp key_cmp q key)
  where
    either : (b : Bool) → ◌≡◌ {A = Option Node} (cond b None None) None
    either true = refl
    either false = refl

-- what is no directory has no members
pub no_member : (contents : Contents) → IsWellFormed contents → (key : Key) (n : List ℕ) → get contents.tree key ≢ Some Directory → get contents.tree (member key n) ≡ None
no_member contents formed key n other = by_node (get contents.tree (member key n)) refl
  where
    by_node : (it : Option Node) → get contents.tree (member key n) ≡ it → get contents.tree (member key n) ≡ None
    by_node None is = is
    by_node (Some it) is =
        let above : get contents.tree key ≡ Some Directory = ap (get contents.tree) (sym (parent-member key n)) ∙ formed.parents (member key n) (λ nothing. let no : Some it ≡ None = sym is ∙ nothing in cc) in
        absurd (other above)

-- nothing stands below where nothing stands
pub none_below : (contents : Contents) → IsWellFormed contents → (x key : Key) → get contents.tree key ≡ None → get contents.tree (key ++ x) ≡ None
none_below contents formed [] key none = ap (get contents.tree) (append-nil key) ∙ none
none_below contents formed (n ∷ x) key none =
    ap (get contents.tree) (sym (append_assoc key (n ∷ []) x))
    ∙ none_below contents formed x (member key n) (no_member contents formed key n (λ is. let no : None ≡ Some Directory = sym none ∙ is in cc))

-- nor below where no member stands
pub memberless_below : (contents : Contents) → IsWellFormed contents → (key : Key) → ((n : List ℕ) → get contents.tree (member key n) ≡ None) → (n : List ℕ) (x : Key) → get contents.tree (key ++ n ∷ x) ≡ None
memberless_below contents formed key none n x = ap (get contents.tree) (sym (append_assoc key (n ∷ []) x)) ∙ none_below contents formed x (member key n) (none n)

-- nothing stands at or below a key where nothing stands
pub none_at_or_below : (contents : Contents) → IsWellFormed contents → (key place : Key) → get contents.tree key ≡ None → is_at_or_below place key ≡ true → get contents.tree place ≡ None
none_at_or_below contents formed key place none below =
    let tail = at_or_below-tail key place below in
    ap (get contents.tree) tail.1 ∙ none_below contents formed tail.0 key none
