-- The entries at and below a key: the key's own, and then those at and below each member, in the order of the names.
use Rattle.std.proofs.Common.{◌≡◌, ◌∙◌, ℕ, Bool, true, false, cond, not, T, List, [], ◌∷◌, ◌++◌, Option, Some, None, inl, inr, is_some, append-nil, append_assoc, refl, sym, ap}
use Rattle.std.specs.declared.cmp.Ordering.{Ordering}
use Rattle.std.specs.declared.cmp.Ordering.TheVariants.{Less, Equal, Greater}
use Rattle.std.specs.Ordering.{eq_by_cmp, is_eq, is_lt, ordering_then, ordering_reverse}
use Rattle.std.specs.Cmp.{tied_itself}
use Rattle.std.specs.Cmp.Lexicographic.{nat_list_cmp_total}
use Rattle.std.specs.List.{AllByRecursion}
use Rattle.std.specs.FinMap.{FinMap, get, entries, entries_sorted, get-entries}
use Rattle.std.specs.FinMap.Entries.{find, is_sorted, below_all, where_key, is_sorted-where_key, find-where_key, same_entries}
use Rattle.std.proofs.lemmas.Bool.{false_from_ne_true}
use Rattle.dav_key.specs.Key.{Key, key_cmp, key_cmp_total, key_cmp_exact, tied_decides}
use Rattle.dav_key.specs.Below.{is_at_or_below}
use Rattle.dav_nodes.proofs.BelowKeys.{below-append, below_or_not}
use Rattle.dav_nodes.proofs.MemberEntries.{name_cmp, name_cmp_exact, same_front, parts}

-- ---- at or below

-- a key is at or below itself
at_or_below-itself : (key : Key) → is_at_or_below key key ≡ true
at_or_below-itself key = ap (λ k. is_at_or_below k key) (sym (append-nil key)) ∙ below-append key []

-- a key at or below another begins with it
pub begins_with : (key k : Key) → is_at_or_below k key ≡ true → (w : Key) × (k ≡ key ++ w)
begins_with key k e = elim (below_or_not key k) [ inl found ↦ found | inr out ↦ absurd (let both : true ≡ false = sym e ∙ out in cc) ]

-- every key is at or below the root
pub at_or_below_root : (k : Key) → is_at_or_below k [] ≡ true
at_or_below_root k = below-append [] k

-- ---- lists of entries

-- the test of a lesser one
less : (o : Ordering) → T (is_lt o) → o ≡ Less
less Less p = refl
less Equal p = absurd p
less Greater p = absurd p

-- the test of a tie
equal : (o : Ordering) → is_eq o ≡ true → o ≡ Equal
equal Less e = absurd cc
equal Equal e = refl
equal Greater e = absurd cc

module _ {K X : Type 0} (R : K → K → Ordering) where
  -- what a test keeps, and what it keeps of what another test kept
  pub where_narrow : (p q : K → Bool) → ((k : K) → q k ≡ true → p k ≡ true) → (es : List (K × X)) → where_key R q (where_key R p es) ≡ where_key R q es
  where_narrow p q h [] = refl
  where_narrow p q h (e ∷ es) = keep (p e.0) refl (where_narrow p q h es)
    where
      dropped : (c : Bool) → q e.0 ≡ c → p e.0 ≡ false → where_key R q es ≡ cond c (e ∷ where_key R q es) (where_key R q es)
      dropped true t n = absurd (let no : true ≡ false = sym (h e.0 t) ∙ n in cc)
      dropped false t n = refl

      keep : (b : Bool) → p e.0 ≡ b → where_key R q (where_key R p es) ≡ where_key R q es → where_key R q (cond b (e ∷ where_key R p es) (where_key R p es)) ≡ cond (q e.0) (e ∷ where_key R q es) (where_key R q es)
      keep true t is = ap (λ xs. cond (q e.0) (e ∷ xs) xs) is
      keep false t is = is ∙ dropped (q e.0) refl t

  -- a test that no entry passes keeps none
  where_none : (p : K → Bool) (es : List (K × X)) → AllByRecursion (λ e. p e.0 ≡ false) es → where_key R p es ≡ []
  where_none p [] a = refl
  where_none p (e ∷ es) a = ap (λ b. cond b (e ∷ where_key R p es) (where_key R p es)) a.0 ∙ where_none p es a.1

  -- and its opposite keeps all
  where_all : (p : K → Bool) (es : List (K × X)) → AllByRecursion (λ e. p e.0 ≡ false) es → where_key R (λ k. not (p k)) es ≡ es
  where_all p [] a = refl
  where_all p (e ∷ es) a = ap (λ b. cond (not b) (e ∷ where_key R (λ k. not (p k)) es) (where_key R (λ k. not (p k)) es)) a.0 ∙ ap (λ xs. e ∷ xs) (where_all p es a.1)

  -- what holds of each entry, and of each that a test keeps
  pub all_where : (P Q : K × X → Type 0) (p : K → Bool) → ((e : K × X) → p e.0 ≡ true → P e → Q e) → (es : List (K × X)) → AllByRecursion P es → AllByRecursion Q (where_key R p es)
  all_where P Q p h [] a = tt
  all_where P Q p h (e ∷ es) a = keep (p e.0) refl (all_where P Q p h es a.1)
    where
      keep : (b : Bool) → p e.0 ≡ b → AllByRecursion Q (where_key R p es) → AllByRecursion Q (cond b (e ∷ where_key R p es) (where_key R p es))
      keep true t more = (h e t a.0, more)
      keep false t more = more

  -- where no entry that a test passes comes after one that it does not, the entries are those that it passes and then the others
  pub split_first : (p : K → Bool) (Q : K × X → Type 0) → ((e f : K × X) → Q e → p f.0 ≡ true → R e.0 f.0 ≡ Less → p e.0 ≡ true) → (es : List (K × X)) → T (is_sorted R es) → AllByRecursion Q es
      → es ≡ where_key R p es ++ where_key R (λ k. not (p k)) es
  split_first p Q h [] sorted all = refl
  split_first p Q h (e ∷ es) sorted all =
      let q = parts (below_all R e.0 es) (is_sorted R es) sorted in
      by (p e.0) refl q.0 (split_first p Q h es q.1 all.1)
    where
      refused : p e.0 ≡ false → (fs : List (K × X)) → T (below_all R e.0 fs) → AllByRecursion (λ f. p f.0 ≡ false) fs
      refused none [] above = tt
      refused none (f ∷ fs) above =
          let q = parts (is_lt (R e.0 f.0)) (below_all R e.0 fs) above in (
            false_from_ne_true (p f.0) (λ t. let no : true ≡ false = sym (h e f all.0 t (less (R e.0 f.0) q.0)) ∙ none in absurd cc),
            refused none fs q.1,
          )

      by : (b : Bool) → p e.0 ≡ b → T (below_all R e.0 es) → es ≡ where_key R p es ++ where_key R (λ k. not (p k)) es
          → e ∷ es ≡ cond b (e ∷ where_key R p es) (where_key R p es) ++ cond (not b) (e ∷ where_key R (λ k. not (p k)) es) (where_key R (λ k. not (p k)) es)
      by true t above rest = ap (λ xs. e ∷ xs) rest
      by false t above rest =
          let none = refused t es above in
          sym (ap (λ xs. xs ++ e ∷ where_key R (λ k. not (p k)) es) (where_none p es none) ∙ ap (λ xs. e ∷ xs) (where_all p es none))

-- ---- entries by their keys

module _ {K X : Type 0} (R : K → K → Ordering) where
  -- an entry is found behind a lesser one as well
  found_later : (e : K × X) (es fs : List (K × X)) → ((f : K × X) → R e.0 f.0 ≡ Less → eq_by_cmp R f.0 e.0 ≡ false) → T (below_all R e.0 fs) → AllByRecursion (λ f. find R f.0 es ≡ Some f.1) fs → AllByRecursion (λ f. find R f.0 (e ∷ es) ≡ Some f.1) fs
  found_later e es [] apart above all = tt
  found_later e es (f ∷ fs) apart above all =
      let q = parts (is_lt (R e.0 f.0)) (below_all R e.0 fs) above in (
        ap (λ b. cond b (Some e.1) (find R f.0 es)) (apart f (less (R e.0 f.0) q.0)) ∙ all.0,
        found_later e es fs apart q.1 all.1,
      )

  -- each entry's value is found at its key
  pub found_all : ((k : K) → R k k ≡ Equal) → ((k q : K) → R k q ≡ Less → eq_by_cmp R q k ≡ false) → (es : List (K × X)) → T (is_sorted R es) → AllByRecursion (λ e. find R e.0 es ≡ Some e.1) es
  found_all itself apart [] sorted = tt
  found_all itself apart (e ∷ es) sorted =
      let q = parts (below_all R e.0 es) (is_sorted R es) sorted in (
        ap (λ r. cond (is_eq r) (Some e.1) (find R e.0 es)) (itself e.0),
        found_later e es es (λ f l. apart e.0 f.0 l) q.0 (found_all itself apart es q.1),
      )

-- turned round, a lesser one does not tie
turned : (o : Ordering) → o ≡ Less → is_eq (ordering_reverse o) ≡ false
turned o e = ap (λ r. is_eq (ordering_reverse r)) e

-- a greater key does not tie
pub keys_apart : (k q : Key) → key_cmp k q ≡ Less → eq_by_cmp key_cmp q k ≡ false
keys_apart k q l = ap is_eq (key_cmp_total.antisymm q k) ∙ turned (key_cmp k q) l

-- nor does a greater name
pub names_apart : (s t : List ℕ) → name_cmp s t ≡ Less → eq_by_cmp name_cmp t s ≡ false
names_apart s t l = ap is_eq (nat_list_cmp_total.antisymm t s) ∙ turned (name_cmp s t) l

-- the value of each entry of a map is that at its key
pub entries_found : {X : Type 0} (m : FinMap key_cmp X) → AllByRecursion (λ e. get m e.0 ≡ Some e.1) (entries m)
entries_found {X} m = in_map (entries m) (found_all key_cmp (tied_itself key_cmp_total) keys_apart (entries m) (entries_sorted m))
  where
    in_map : (es : List (Key × X)) → AllByRecursion (λ e. find key_cmp e.0 (entries m) ≡ Some e.1) es → AllByRecursion (λ e. get m e.0 ≡ Some e.1) es
    in_map [] a = tt
    in_map (e ∷ es) a = (get-entries m e.0 ∙ a.0, in_map es a.1)

-- ---- sections

-- the entries of a list at or below a key
abbrev pub below_in : {X : Type 0} → List (Key × X) → Key → List (Key × X)
below_in es key = where_key key_cmp (λ k. is_at_or_below k key) es

-- the entries of a map at or below a key
abbrev pub subtree : {X : Type 0} → FinMap key_cmp X → Key → List (Key × X)
subtree m key = below_in (entries m) key

-- the entries of a list at or below each of these members of a key, one after another
abbrev pub sections : {X Y : Type 0} → Key → List (Key × X) → List (List ℕ × Y) → List (Key × X)
sections key es [] = []
sections key es (x ∷ ms) = below_in es (key ++ x.0 ∷ []) ++ sections key es ms

-- the key is at or below that of one of these members
pub record IsCovered {Y : Type 0} (key : Key) (ms : List (List ℕ × Y)) (k : Key) : Type 0 where
  pub name : List ℕ
  pub tail : Key
  pub is : k ≡ key ++ name ∷ tail
  pub listed : is_some (find name_cmp name ms) ≡ true

-- names that tie are the same
same_name : (s n : List ℕ) → eq_by_cmp name_cmp s n ≡ true → s ≡ n
same_name s n t = name_cmp_exact s n (equal (name_cmp s n) t)

-- a name among later ones is greater
found_above : {Y : Type 0} (n s : List ℕ) (ms : List (List ℕ × Y)) → T (below_all name_cmp n ms) → is_some (find name_cmp s ms) ≡ true → name_cmp n s ≡ Less
found_above n s [] above listed = absurd cc
found_above {Y} n s (x ∷ ms) above listed =
    let q = parts (is_lt (name_cmp n x.0)) (below_all name_cmp n ms) above in
    by (eq_by_cmp name_cmp s x.0) refl (less (name_cmp n x.0) q.0) (found_above n s ms q.1) listed
  where
    by : (b : Bool) → eq_by_cmp name_cmp s x.0 ≡ b → name_cmp n x.0 ≡ Less → (is_some (find name_cmp s ms) ≡ true → name_cmp n s ≡ Less)
        → is_some (cond b (Some x.1) (find name_cmp s ms)) ≡ true → name_cmp n s ≡ Less
    by true t l later is = ap (name_cmp n) (same_name s x.0 t) ∙ l
    by false t l later is = later is

-- what is at or below one member is before what is at or below a later one
in_order : (key : Key) (s t : List ℕ) (u w : Key) → name_cmp s t ≡ Less → key_cmp (key ++ s ∷ u) (key ++ t ∷ w) ≡ Less
in_order key s t u w l = same_front key (s ∷ u) (t ∷ w) ∙ ap (λ r. ordering_then r (key_cmp u w)) l

-- a key at or below a member, with what follows the name
member_tail : (key : Key) (s : List ℕ) (k : Key) → is_at_or_below k (key ++ s ∷ []) ≡ true → (w : Key) × (k ≡ key ++ s ∷ w)
member_tail key s k e = let b = begins_with (key ++ s ∷ []) k e in (b.0, b.1 ∙ append_assoc key (s ∷ []) b.0)

-- a key with a tail after the name is at or below the member
member_below : (key : Key) (s : List ℕ) (k w : Key) → k ≡ key ++ s ∷ w → is_at_or_below k (key ++ s ∷ []) ≡ true
member_below key s k w is = ap (λ q. is_at_or_below q (key ++ s ∷ [])) (is ∙ sym (append_assoc key (s ∷ []) w)) ∙ below-append (key ++ s ∷ []) w

-- no key is both before and after another
rising_not : (a b : Key) → key_cmp a b ≡ Less → key_cmp b a ≡ Less → ⊥
rising_not a b l r = let both : Less ≡ Greater = sym r ∙ key_cmp_total.antisymm b a ∙ ap ordering_reverse l in cc

module _ {Y : Type 0} (key : Key) where
  -- what is at or below a later member is not at or below the first
  not_first : (x : List ℕ × Y) (z : List ℕ) → name_cmp x.0 z ≡ Less → (k : Key) → is_at_or_below k (key ++ z ∷ []) ≡ true → not (is_at_or_below k (key ++ x.0 ∷ [])) ≡ true
  not_first x z l k e = ap not (false_from_ne_true (is_at_or_below k (key ++ x.0 ∷ [])) (λ t.
      let a = member_tail key z k e in
      let b = member_tail key x.0 k t in
      let before : key_cmp k k ≡ Less = ap (λ q. key_cmp q k) b.1 ∙ ap (key_cmp (key ++ x.0 ∷ b.0)) a.1 ∙ in_order key x.0 z b.0 a.0 l in
      let both : Less ≡ Equal = sym before ∙ tied_itself key_cmp_total k in
      absurd cc))

  -- the same for all later members
  later_apart : (x : List ℕ × Y) (ms : List (List ℕ × Y)) → T (below_all name_cmp x.0 ms) → AllByRecursion (λ z. (k : Key) → is_at_or_below k (key ++ z.0 ∷ []) ≡ true → not (is_at_or_below k (key ++ x.0 ∷ [])) ≡ true) ms
  later_apart x [] above = tt
  later_apart x (z ∷ ms) above =
      let q = parts (is_lt (name_cmp x.0 z.0)) (below_all name_cmp x.0 ms) above in
      (not_first x z.0 (less (name_cmp x.0 z.0) q.0), later_apart x ms q.1)

  -- before a key at or below the first member there is none that is covered and not at or below it
  first_before : (x : List ℕ × Y) (ms : List (List ℕ × Y)) → T (below_all name_cmp x.0 ms) → (e f : Key) → IsCovered key (x ∷ ms) e → is_at_or_below f (key ++ x.0 ∷ []) ≡ true → key_cmp e f ≡ Less
      → is_at_or_below e (key ++ x.0 ∷ []) ≡ true
  first_before x ms above e f covered below l = by (eq_by_cmp name_cmp covered.name x.0) refl covered.listed
    where
      by : (b : Bool) → eq_by_cmp name_cmp covered.name x.0 ≡ b → is_some (cond b (Some x.1) (find name_cmp covered.name ms)) ≡ true → is_at_or_below e (key ++ x.0 ∷ []) ≡ true
      by true t listed = member_below key x.0 e covered.tail (covered.is ∙ ap (λ s. key ++ s ∷ covered.tail) (same_name covered.name x.0 t))
      by false t listed =
          let b = member_tail key x.0 f below in
          let after : key_cmp f e ≡ Less =
          ap (λ q. key_cmp q e) b.1 ∙ ap (key_cmp (key ++ x.0 ∷ b.0)) covered.is
          ∙ in_order key x.0 covered.name b.0 covered.tail (found_above x.0 covered.name ms above listed) in
          absurd (rising_not e f l after)

  -- what is covered, and not by the first member, is covered by a later one
  covered_later : (x : List ℕ × Y) (ms : List (List ℕ × Y)) (e : Key) → not (is_at_or_below e (key ++ x.0 ∷ [])) ≡ true → IsCovered key (x ∷ ms) e → IsCovered key ms e
  covered_later x ms e out covered = by (eq_by_cmp name_cmp covered.name x.0) refl covered.listed
    where
      by : (b : Bool) → eq_by_cmp name_cmp covered.name x.0 ≡ b → is_some (cond b (Some x.1) (find name_cmp covered.name ms)) ≡ true → IsCovered key ms e
      by true t listed =
          let inside = member_below key x.0 e covered.tail (covered.is ∙ ap (λ s. key ++ s ∷ covered.tail) (same_name covered.name x.0 t)) in
          let both : true ≡ false = sym out ∙ ap not inside in
          absurd cc
      by false t listed = record { name = covered.name; tail = covered.tail; is = covered.is; listed = listed }

module _ {X Y : Type 0} (key : Key) where
  -- a test that holds at and below each of the members changes none of the sections
  pub sections_narrow : (p : Key → Bool) (es : List (Key × X)) (ms : List (List ℕ × Y)) → AllByRecursion (λ x. (k : Key) → is_at_or_below k (key ++ x.0 ∷ []) ≡ true → p k ≡ true) ms
      → sections key (where_key key_cmp p es) ms ≡ sections key es ms
  sections_narrow p es [] a = refl
  sections_narrow p es (x ∷ ms) a =
      ap (λ front. front ++ sections key (where_key key_cmp p es) ms) (where_narrow key_cmp p (λ k. is_at_or_below k (key ++ x.0 ∷ [])) a.0 es)
      ∙ ap (λ back. below_in es (key ++ x.0 ∷ []) ++ back) (sections_narrow p es ms a.1)

  -- entries that are all covered by members are the sections of those
  pub all_sections : (ms : List (List ℕ × Y)) (es : List (Key × X)) → T (is_sorted name_cmp ms) → T (is_sorted key_cmp es) → AllByRecursion (λ e. IsCovered key ms e.0) es → es ≡ sections key es ms
  all_sections [] [] rising sorted all = refl
  all_sections [] (e ∷ es) rising sorted all = let none : is_some (find {X = Y} name_cmp all.0.name []) ≡ true = all.0.listed in absurd cc
  all_sections (x ∷ ms) es rising sorted all =
      let q = parts (below_all name_cmp x.0 ms) (is_sorted name_cmp ms) rising in
      let p : Key → Bool = λ k. is_at_or_below k (key ++ x.0 ∷ []) in
      let rest : List (Key × X) = where_key key_cmp (λ k. not (p k)) es in
      split_first key_cmp p (λ e. IsCovered key (x ∷ ms) e.0) (λ e f covered below l. first_before key x ms q.0 e.0 f.0 covered below l) es sorted all
      ∙ ap (λ back. where_key key_cmp p es ++ back)
      (
      all_sections ms rest q.1 (is_sorted-where_key key_cmp (λ k. not (p k)) es sorted)
      (all_where key_cmp (λ e. IsCovered key (x ∷ ms) e.0) (λ e. IsCovered key ms e.0) (λ k. not (p k)) (λ e out covered. covered_later key x ms e.0 out covered) es all)
      ∙ sections_narrow (λ k. not (p k)) es ms (later_apart key x ms q.0)
      )

-- ---- the entries at and below a key

-- each key below one with a value is at or below a member that has a value
abbrev pub HasParents : {X : Type 0} → FinMap key_cmp X → Type 0
HasParents m = (key : Key) (s : List ℕ) (w : Key) → is_some (get m (key ++ s ∷ w)) ≡ true → is_some (get m (key ++ s ∷ [])) ≡ true

module _ {X : Type 0} (m : FinMap key_cmp X) (key : Key) (x : X) (there : get m key ≡ Some x) where
  -- the entries at or below a key are in order
  sorted_below : T (is_sorted key_cmp (subtree m key))
  sorted_below = is_sorted-where_key key_cmp (λ k. is_at_or_below k key) (entries m) (entries_sorted m)

  -- a test answers alike at keys that tie
  tied_alike : (p : Key → Bool) (q k : Key) → key_cmp q k ≡ Equal → p k ≡ p q
  tied_alike p q k e = ap p (sym (key_cmp_exact q k e))

  -- of two tests the first says all
  chosen : (a b : Bool) (o : Option X) → (a ≡ true → b ≡ true) → (a ≡ true → o ≡ Some x) → cond a (cond b o None) None ≡ cond a (Some x) None
  chosen true b o h is = ap (λ c. cond c o None) (h refl) ∙ is refl
  chosen false b o h is = refl

  -- the first is the key's own
  own_first : where_key key_cmp (λ k. eq_by_cmp key_cmp k key) (subtree m key) ≡ (key, x) ∷ []
  own_first =
      same_entries key_cmp key_cmp_total key_cmp_exact _ ((key, x) ∷ [])
      (is_sorted-where_key key_cmp (λ k. eq_by_cmp key_cmp k key) (subtree m key) sorted_below) tt
      (λ q.
      find-where_key key_cmp (λ k. eq_by_cmp key_cmp k key) q (tied_alike (λ k. eq_by_cmp key_cmp k key) q) (subtree m key)
      ∙ ap (λ o. cond (eq_by_cmp key_cmp q key) o None) (find-where_key key_cmp (λ k. is_at_or_below k key) q (tied_alike (λ k. is_at_or_below k key) q) (entries m))
      ∙ chosen (eq_by_cmp key_cmp q key) (is_at_or_below q key) (find key_cmp q (entries m))
      (λ t. ap (λ k. is_at_or_below k key) ((tied_decides q key).0 t) ∙ at_or_below-itself key)
      (λ t. ap (λ k. find key_cmp k (entries m)) ((tied_decides q key).0 t) ∙ sym (get-entries m key) ∙ there))

  -- no entry at or below the key is before its own
  own_least : (e f : Key × X) → is_at_or_below e.0 key ≡ true → eq_by_cmp key_cmp f.0 key ≡ true → key_cmp e.0 f.0 ≡ Less → eq_by_cmp key_cmp e.0 key ≡ true
  own_least e f below same l =
      let b = begins_with key e.0 below in
      by b.0 b.1
    where
      by : (w : Key) → e.0 ≡ key ++ w → eq_by_cmp key_cmp e.0 key ≡ true
      by [] is = (tied_decides e.0 key).1 (is ∙ append-nil key)
      by (s ∷ w) is =
          let before : Less ≡ Greater = sym l ∙ ap (key_cmp e.0) ((tied_decides f.0 key).0 same) ∙ ap (λ k. key_cmp k key) is
          ∙ ap (key_cmp (key ++ s ∷ w)) (sym (append-nil key)) ∙ same_front key (s ∷ w) [] in
          absurd cc

  -- the entries below the key
  strictly : List (Key × X)
  strictly = where_key key_cmp (λ k. not (eq_by_cmp key_cmp k key)) (subtree m key)

  -- each entry below the key is at or below a member
  covered : {Y : Type 0} (ms : List (List ℕ × Y)) → ((s : List ℕ) → is_some (get m (key ++ s ∷ [])) ≡ true → is_some (find name_cmp s ms) ≡ true) → HasParents m → (e : Key × X) → not (eq_by_cmp key_cmp e.0 key) ≡ true → (is_at_or_below e.0 key ≡ true) × (get m e.0 ≡ Some e.1) → IsCovered key ms e.0
  covered ms listed parents e out at = let b = begins_with key e.0 at.0 in by b.0 b.1
    where
      by : (w : Key) → e.0 ≡ key ++ w → IsCovered key ms e.0
      by [] is = let both : true ≡ false = sym out ∙ ap not ((tied_decides e.0 key).1 (is ∙ append-nil key)) in absurd cc
      by (s ∷ w) is = record {
        name = s;
        tail = w;
        is = is;
        listed = listed s (parents key s w (ap (λ k. is_some (get m k)) (sym is) ∙ ap is_some at.1));
      }

  -- what is at or below a member is at or below the key, and not the key
  below_own : (s : List ℕ) (k : Key) → is_at_or_below k (key ++ s ∷ []) ≡ true → (is_at_or_below k key ≡ true) × (not (eq_by_cmp key_cmp k key) ≡ true)
  below_own s k e =
      let b = member_tail key s k e in (
        ap (λ q. is_at_or_below q key) b.1 ∙ below-append key (s ∷ b.0),
        ap (λ q. not (eq_by_cmp key_cmp q key)) b.1
            ∙ ap (λ q. not (eq_by_cmp key_cmp (key ++ s ∷ b.0) q)) (sym (append-nil key))
            ∙ ap (λ r. not (is_eq r)) (same_front key (s ∷ b.0) []),
      )

  -- so at or below each of some members
  each_below : {Y : Type 0} (ms : List (List ℕ × Y)) → AllByRecursion (λ z. (k : Key) → is_at_or_below k (key ++ z.0 ∷ []) ≡ true → is_at_or_below k key ≡ true) ms
  each_below [] = tt
  each_below (z ∷ ms) = ((λ k e. (below_own z.0 k e).0), each_below ms)

  -- and no such key is the key itself
  each_other : {Y : Type 0} (ms : List (List ℕ × Y)) → AllByRecursion (λ z. (k : Key) → is_at_or_below k (key ++ z.0 ∷ []) ≡ true → not (eq_by_cmp key_cmp k key) ≡ true) ms
  each_other [] = tt
  each_other (z ∷ ms) = ((λ k e. (below_own z.0 k e).1), each_other ms)

  -- each entry at or below the key is that, and has its value in the map
  all_at : AllByRecursion (λ e. (is_at_or_below e.0 key ≡ true) × (get m e.0 ≡ Some e.1)) (subtree m key)
  all_at = all_where key_cmp (λ e. get m e.0 ≡ Some e.1) (λ e. (is_at_or_below e.0 key ≡ true) × (get m e.0 ≡ Some e.1)) (λ k. is_at_or_below k key) (λ e below at. (below, at)) (entries m) (entries_found m)

  -- the entries at and below a key are its own, and then those at and below each member; these names are at least those of the members with a value
  pub subtree_is : {Y : Type 0} (ms : List (List ℕ × Y)) → T (is_sorted name_cmp ms) → ((s : List ℕ) → is_some (get m (key ++ s ∷ [])) ≡ true → is_some (find name_cmp s ms) ≡ true) → HasParents m
      → subtree m key ≡ (key, x) ∷ sections key (entries m) ms
  unfolding strictly
  subtree_is ms rising listed parents =
      split_first key_cmp (λ k. eq_by_cmp key_cmp k key) (λ e. (is_at_or_below e.0 key ≡ true) × (get m e.0 ≡ Some e.1)) (λ e f at same l. own_least e f at.0 same l) (subtree m key) sorted_below all_at
      ∙ (λ i. own_first i ++ strictly)
      ∙ ap (λ es. (key, x) ∷ es)
      (
      all_sections key ms strictly rising
      (is_sorted-where_key key_cmp (λ k. not (eq_by_cmp key_cmp k key)) (subtree m key) sorted_below)
      (all_where key_cmp (λ e. (is_at_or_below e.0 key ≡ true) × (get m e.0 ≡ Some e.1)) (λ e. IsCovered key ms e.0) (λ k. not (eq_by_cmp key_cmp k key)) (covered ms listed parents) (subtree m key) all_at)
      ∙ sections_narrow key (λ k. not (eq_by_cmp key_cmp k key)) (subtree m key) ms (each_other ms)
      ∙ sections_narrow key (λ k. is_at_or_below k key) (entries m) ms (each_below ms)
      )
