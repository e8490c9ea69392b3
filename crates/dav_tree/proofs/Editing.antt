-- One entry is changed, added or removed.
use Rattle.std.proofs.Common.{◌≡◌, ◌∙◌, ℕ, ◌+◌, ◌≤◌, Bool, true, false, cond, List, ◌++◌, Option, Some, None, refl, sym, ap, subst, arith}
use Rattle.std.specs.Option.{option_map}
use Rattle.std.specs.Ordering.{eq_by_cmp}
use Rattle.std.specs.FinMap.{FinMap, get, insert, remove, get-insert, get-remove, same_map}
use Rattle.std.specs.BTreeMap.{BTreeMap}
use Rattle.dav_key.specs.Key.{Key, key_cmp, key_cmp_total, key_cmp_exact}
use Rattle.dav_key.specs.Below as keys
use base.Stored.{Gv}
use Rattle.dav_nodes.specs.Tree.{Tree, IsReplaced}
use Rattle.dav_key.specs.Below.{put_at}
use Rattle.dav_store.specs.BelowLaws.{at_or_below-tail}
use Rattle.dav_tree.specs.Memory.{Stored, Resources, size_of, used_by, change_at}
use Rattle.dav_key.specs.EachLaws.{each-put_at, each-IsMoved, put_at-same}
use Rattle.dav_tree.specs.Entry.{node_by, stored_by, is_held}
use Rattle.dav_tree.specs.Kept.{Kept, Rest, kept_by, resources_by, AreHeld, AreKept, IsAt, IsTaken, Has, HasMoved, held_of}
use Rattle.dav_tree.specs.declared.entry.Entry.{Entry}
use Rattle.dav_tree.proofs.Keeping.{kept-resources, held-tree, resources-before, has-now, kept-now, counted-before}
use Rattle.dav_tree.proofs.Sums.{total, part, total-insert, total-remove, total-moved}

abbrev pub size : Stored → ℕ
size s = size_of s.node

-- one part is at most the sum
pub part-fits : (resources : Resources) (key : Key) → part size (get resources key) ≤ used_by resources
part-fits resources key = omega (arith, total-remove size resources key)

put_twice : {X : Type 0} (b : Bool) (x y z : Option X) → cond b x (cond b y z) ≡ cond b x z
put_twice true x y z = refl
put_twice false x y z = refl

insert-insert : {X : Type 0} (m : FinMap key_cmp X) (k : Key) (x y : X) → insert (insert m k y) k x ≡ insert m k x
insert-insert m k x y = same_map key_cmp_total key_cmp_exact _ _ (λ q.
    get-insert key_cmp_total (insert m k y) k x q ∙ ap (cond (eq_by_cmp key_cmp q k) (Some x)) (get-insert key_cmp_total m k y q)
    ∙ put_twice (eq_by_cmp key_cmp q k) (Some x) (Some y) (get m q) ∙ sym (get-insert key_cmp_total m k x q))

-- an entry that is taken out, and another that is put back in its place
pub put-back : {B : Type 0} (key : Key) (e0 e1 p : Entry B) (t0 t1 t2 : Tree (Entry B)) → IsTaken key e0 t0 t1 → IsReplaced key p e1 t1 t2 → IsReplaced key e0 e1 t0 t2
put-back key e0 e1 p t0 t1 t2 out back = record {
  there = out.taken.there;
  values = back.values ∙ ap (λ m. insert m key e1) out.taken.values ∙ insert-insert t0.values key e1 out.other;
  numbers = back.numbers ∙ out.taken.numbers;
}

-- a key keeps its number while its entry is out of the tree
pub still-numbered : {B : Type 0} (key : Key) (e : Entry B) (t0 t1 : Tree (Entry B)) (number : ℕ) → IsTaken key e t0 t1 → get t0.numbers key ≡ Some number → get t1.numbers key ≡ Some number
still-numbered key e t0 t1 number out numbered = ap (λ m. get m key) out.taken.numbers ∙ numbered

module _ {B : Type 0} (h : B → Bool) (key : Key) (t0 t1 : Tree (Entry B)) where
  held_at : (e : Entry B) → is_held h e.content ≡ true → (b : Bool) (o : Option (Entry B)) → ((x : Entry B) → o ≡ Some x → is_held h x.content ≡ true)
      → (x : Entry B) → cond b (Some e) o ≡ Some x → is_held h x.content ≡ true
  held_at e own true o others x here = let same : e ≡ x = cc in subst (λ (y : Entry B). is_held h y.content ≡ true) same own
  held_at e own false o others x here = others x here

  -- the new entry's body is held, and so are the others
  pub held-insert : (e : Entry B) → t1.values ≡ insert t0.values key e → AreHeld h t0 → is_held h e.content ≡ true → AreHeld h t1
  held-insert e is held own q x here =
      held_at e own (eq_by_cmp key_cmp q key) (get t0.values q) (held q) x (sym (ap (λ m. get m q) is ∙ get-insert key_cmp_total t0.values key e q) ∙ here)

  none_or : {P : Type 0} (b : Bool) (o : Option (Entry B)) (x : Entry B) → cond b None o ≡ Some x → (o ≡ Some x → P) → P
  none_or true o x e f = absurd cc
  none_or false o x e f = f e

  pub held-remove : t1.values ≡ remove t0.values key → AreHeld h t0 → AreHeld h t1
  held-remove is held q x here =
      none_or (eq_by_cmp key_cmp q key) (get t0.values q) x (sym (ap (λ m. get m q) is ∙ get-remove key_cmp_total t0.values key q) ∙ here) (held q x)

module _ {B : Type 0} (bytes : B → List ℕ) (key : Key) (t0 t1 : Tree (Entry B)) where
  pub resources-insert : (e : Entry B) → t1.values ≡ insert t0.values key e → resources_by bytes t1 ≡ insert (resources_by bytes t0) key (stored_by bytes e)
  resources-insert e is = ap (λ m. resources_by bytes (record { values = m; numbers = t1.numbers })) is ∙ each-put_at (λ x. Some (stored_by bytes x)) t0.values key (Some e)

  pub resources-remove : t1.values ≡ remove t0.values key → resources_by bytes t1 ≡ remove (resources_by bytes t0) key
  resources-remove is = ap (λ m. resources_by bytes (record { values = m; numbers = t1.numbers })) is ∙ each-put_at (λ x. Some (stored_by bytes x)) t0.values key None

change-there : (key : Key) (change : Stored → Stored) (resources : Resources) (s : Stored) → get resources key ≡ Some s → change_at key change resources ≡ insert resources key (change s)
change-there key change resources s here = ap (λ o. put_at resources key (option_map change o)) here

module _ {B : Type 0} (b0 b1 : B → List ℕ) (h0 h1 : B → Bool) (keeps : (body : B) → h0 body ≡ true → h1 body ≡ true) (same : (body : B) → h0 body ≡ true → b1 body ≡ b0 body)
    (rest : Rest) (t0 : Tree (Entry B)) (used : ℕ) (bodies : BTreeMap ℕ B) (next : ℕ) (past : Gv) (kept : Kept) (is : kept_by b0 rest t0 bodies next past ≡ kept) (inv : AreKept b0 h0 t0 used bodies next)
    (key : Key) (t1 : Tree (Entry B)) where
  before : resources_by b1 t0 ≡ kept.resources
  before = resources-before b0 b1 h0 h1 keeps same rest t0 used bodies next past kept is inv

  count_before : used ≡ used_by kept.resources
  count_before = counted-before b0 b1 h0 h1 keeps same rest t0 used bodies next past kept is inv

  -- ---- an entry is replaced

  module _ (e0 e1 : Entry B) (r : IsReplaced key e0 e1 t0 t1) where
    pub was-there : get kept.resources key ≡ Some (stored_by b0 e0)
    was-there = kept-resources b0 rest t0 bodies next past kept is key ∙ ap (option_map (stored_by b0)) r.there

    pub edited-fits : size_of (node_by b0 e0.content) ≤ used
    edited-fits = omega (arith, ap (part size) was-there, part-fits kept.resources key, count_before)

    -- the bytes of all others and of the entry are all bytes
    pub edited-others : (others number : ℕ) → get kept.numbers key ≡ Some number → ((k : Key) (s : Stored) → IsAt kept k number s → others + size_of s.node ≡ used_by kept.resources)
        → others + size_of (node_by b0 e0.content) ≡ used
    edited-others others number numbered each = each key (stored_by b0 e0) (record { there = was-there; numbered = numbered }) ∙ sym count_before

    edited : resources_by b1 t1 ≡ insert kept.resources key (stored_by b1 e1)
    edited = resources-insert b1 key t0 t1 e1 r.values ∙ ap (λ m. insert m key (stored_by b1 e1)) before

    pub edited-kept : (used1 : ℕ) → is_held h1 e1.content ≡ true → used1 + size_of (node_by b0 e0.content) ≡ used + size_of (node_by b1 e1.content) → AreKept b1 h1 t1 used1 bodies next
    edited-kept used1 own count =
        let sums : total size (insert kept.resources key (stored_by b1 e1)) + size (stored_by b0 e0) ≡ total size kept.resources + size (stored_by b1 e1) =
        ap (λ o. total size (insert kept.resources key (stored_by b1 e1)) + part size o) (sym was-there) ∙ total-insert size kept.resources key (stored_by b1 e1) in
        kept-now b0 b1 h0 h1 keeps same rest t0 used bodies next past kept is inv t1 (insert kept.resources key (stored_by b1 e1)) used1
        (held-insert h1 key t0 t1 e1 r.values (held-tree b0 b1 h0 h1 keeps same t0 inv.held) own) edited (omega (arith, count, sums, count_before))

    pub edited-change : (rest1 : Rest) (past1 : Gv) → past1 ≡ past → (change : Stored → Stored) → stored_by b1 e1 ≡ change (stored_by b0 e0) → Has (change_at key change kept.resources) (held_of kept) (kept_by b1 rest1 t1 bodies next past1)
    edited-change rest1 past1 same_past change changed =
        has-now b0 b1 h0 h1 keeps same rest t0 used bodies next past kept is inv rest1 t1 past1 same_past _
        (edited ∙ ap (insert kept.resources key) changed ∙ sym (change-there key change kept.resources (stored_by b0 e0) was-there))

    pub edited-has : (rest1 : Rest) (past1 : Gv) → past1 ≡ past → (s : Stored) → stored_by b1 e1 ≡ s → Has (insert kept.resources key s) (held_of kept) (kept_by b1 rest1 t1 bodies next past1)
    edited-has rest1 past1 same_past s new = has-now b0 b1 h0 h1 keeps same rest t0 used bodies next past kept is inv rest1 t1 past1 same_past _ (edited ∙ ap (insert kept.resources key) new)

    pub edited-same : (rest1 : Rest) (past1 : Gv) → past1 ≡ past → stored_by b1 e1 ≡ stored_by b0 e0 → Has kept.resources (held_of kept) (kept_by b1 rest1 t1 bodies next past1)
    edited-same rest1 past1 same_past unchanged =
        has-now b0 b1 h0 h1 keeps same rest t0 used bodies next past kept is inv rest1 t1 past1 same_past _
        (edited ∙ ap (insert kept.resources key) unchanged ∙ put_at-same kept.resources key (Some (stored_by b0 e0)) was-there)

  -- ---- an entry is added

  module _ (e : Entry B) (r : t1.values ≡ insert t0.values key e) (none : get kept.resources key ≡ None) where
    added : resources_by b1 t1 ≡ insert kept.resources key (stored_by b1 e)
    added = resources-insert b1 key t0 t1 e r ∙ ap (λ m. insert m key (stored_by b1 e)) before

    pub added-kept : (used1 : ℕ) → is_held h1 e.content ≡ true → used1 ≡ used + size_of (node_by b1 e.content) → AreKept b1 h1 t1 used1 bodies next
    added-kept used1 own count =
        let sums : total size (insert kept.resources key (stored_by b1 e)) + 0 ≡ total size kept.resources + size (stored_by b1 e) =
        ap (λ o. total size (insert kept.resources key (stored_by b1 e)) + part size o) (sym none) ∙ total-insert size kept.resources key (stored_by b1 e) in
        kept-now b0 b1 h0 h1 keeps same rest t0 used bodies next past kept is inv t1 (insert kept.resources key (stored_by b1 e)) used1
        (held-insert h1 key t0 t1 e r (held-tree b0 b1 h0 h1 keeps same t0 inv.held) own) added (omega (arith, count, sums, count_before))

    pub added-has : (rest1 : Rest) (past1 : Gv) → past1 ≡ past → (s : Stored) → stored_by b1 e ≡ s → Has (insert kept.resources key s) (held_of kept) (kept_by b1 rest1 t1 bodies next past1)
    added-has rest1 past1 same_past s new = has-now b0 b1 h0 h1 keeps same rest t0 used bodies next past kept is inv rest1 t1 past1 same_past _ (added ∙ ap (insert kept.resources key) new)

  -- ---- an entry is removed

  module _ (r : t1.values ≡ remove t0.values key) where
    removed : resources_by b1 t1 ≡ remove kept.resources key
    removed = resources-remove b1 key t0 t1 r ∙ ap (λ m. remove m key) before

    pub removed-kept : (used1 : ℕ) → used1 + part size (get kept.resources key) ≡ used → AreKept b1 h1 t1 used1 bodies next
    removed-kept used1 count =
        kept-now b0 b1 h0 h1 keeps same rest t0 used bodies next past kept is inv t1 (remove kept.resources key) used1
        (held-remove h1 key t0 t1 r (held-tree b0 b1 h0 h1 keeps same t0 inv.held)) removed (omega (arith, count, total-remove size kept.resources key, count_before))

    pub removed-has : (rest1 : Rest) (past1 : Gv) → past1 ≡ past → Has (remove kept.resources key) (held_of kept) (kept_by b1 rest1 t1 bodies next past1)
    removed-has rest1 past1 same_past = has-now b0 b1 h0 h1 keeps same rest t0 used bodies next past kept is inv rest1 t1 past1 same_past _ removed

  -- ---- an entry and all below it are moved; the key is the one they are moved from

  module _ (to : Key) (m : keys.IsMoved key to t0.values t1.values) where
    moved : keys.IsMoved key to kept.resources (resources_by b1 t1)
    moved = subst (λ r. keys.IsMoved key to r (resources_by b1 t1)) before (each-IsMoved (λ e. Some (stored_by b1 e)) key to t0.values t1.values m)

    moved_at : (x : Entry B) (q : Key) → get t1.values q ≡ Some x → is_held h1 x.content ≡ true
    moved_at x q here = by (keys.is_at_or_below q to) refl (keys.is_at_or_below q key) refl
      where
        held : AreHeld h1 t0
        held = held-tree b0 b1 h0 h1 keeps same t0 inv.held

        by : (t : Bool) → keys.is_at_or_below q to ≡ t → (s : Bool) → keys.is_at_or_below q key ≡ s → is_held h1 x.content ≡ true
        by true t s e = let (below, at) = at_or_below-tail to q t in held (key ++ below) x (sym (m.moved below) ∙ ap (get t1.values) (sym at) ∙ here)
        by false t true s = let (below, at) = at_or_below-tail key q s in absurd (let clash : None ≡ Some x = sym (m.gone below) ∙ ap (get t1.values) (sym at) ∙ here in cc)
        by false t false s = held q x (sym (m.rest q s t) ∙ here)

    pub moved-kept : ((below : Key) → get kept.resources (to ++ below) ≡ None) → AreKept b1 h1 t1 used bodies next
    moved-kept none =
        let sums : total size kept.resources ≡ total size (resources_by b1 t1) = total-moved size key to kept.resources (resources_by b1 t1) moved none in
        kept-now b0 b1 h0 h1 keeps same rest t0 used bodies next past kept is inv t1 (resources_by b1 t1) used (λ q x here. moved_at x q here) refl (count_before ∙ sums)

    pub moved-has : (rest1 : Rest) (past1 : Gv) → past1 ≡ past → HasMoved key to kept (kept_by b1 rest1 t1 bodies next past1)
    moved-has rest1 past1 same_past = record { resources_are = moved; held_are = (has-now b0 b1 h0 h1 keeps same rest t0 used bodies next past kept is inv rest1 t1 past1 same_past _ refl).held_are }
