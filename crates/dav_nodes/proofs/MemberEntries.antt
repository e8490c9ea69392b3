-- The members of a key: their names strictly rise, and each has the value of its key.
use Rattle.std.proofs.Common.{◌≡◌, ◌∙◌, ℕ, ◌&&◌, Bool, true, false, cond, if◌then◌else◌, T, List, [], ◌∷◌, ◌++◌, map, filter_map, Option, Some, None, refl, sym, ap, subst}
use Rattle.std.specs.declared.cmp.Ordering.{Ordering}
use Rattle.std.specs.declared.cmp.Ordering.TheVariants.{Less, Equal, Greater}
use Rattle.std.specs.Ordering.{nat_cmp, eq_by_cmp, is_eq, is_lt, ordering_then}
use Rattle.std.specs.Cmp.{tied_itself}
use Rattle.std.specs.Cmp.Lexicographic.{slice_cmp, nat_list_cmp_total}
use Rattle.std.specs.List.{cons_option}
use Rattle.std.specs.Option.{option_map}
use Rattle.std.specs.FinMap as fin
use Rattle.std.specs.FinMap.Entries.{find, is_sorted, below_all, same_entries}
use Rattle.std.proofs.lemmas.Bool.{false_from_ne_true}
use Rattle.std.proofs.lemmas.Slice.Eq.{bytes_eq-Decides}
use Rattle.std.specs.Str.{bytes_eq}
use Rattle.dav_key.specs.Key.{Key, key_cmp, tied_decides}
use Rattle.dav_key.specs.Members.{name_in, names_among}
use Rattle.dav_nodes.specs.Listing.{member_in, members_of}

-- the order of names: lexicographic by bytes
abbrev pub name_cmp : List ℕ → List ℕ → Ordering
name_cmp = slice_cmp nat_cmp

-- names that tie are the same
pub name_cmp_exact : fin.IsAntisymmetric name_cmp
name_cmp_exact = fin.slice_cmp-IsAntisymmetric fin.nat_cmp-IsAntisymmetric

-- ---- keys of members

-- the name of a member's key
pub name_in-member : (key : Key) (s : List ℕ) → name_in key (key ++ s ∷ []) ≡ Some s
name_in-member [] s = refl
name_in-member (t ∷ key) s = ap (λ b. if b then name_in key (key ++ s ∷ []) else None) ((bytes_eq-Decides t t).1 refl) ∙ name_in-member key s

-- only a member's key has that name
pub member-name_in : (key k : Key) (s : List ℕ) → name_in key k ≡ Some s → k ≡ key ++ s ∷ []
member-name_in [] [] s e = absurd cc
member-name_in [] (f ∷ []) s e = let same : f ≡ s = cc in ap (λ t. t ∷ []) same
member-name_in [] (f ∷ next ∷ k) s e = absurd cc
member-name_in (t ∷ key) [] s e = absurd cc
member-name_in (t ∷ key) (f ∷ k) s is =
    elim (bytes_eq t f) as (λ b. bytes_eq t f ≡ b → (if b then name_in key k else None) ≡ Some s → f ∷ k ≡ t ∷ key ++ s ∷ []) [
      | true ↦ λ q e i. sym ((bytes_eq-Decides t f).0 q) i ∷ member-name_in key k s e i
      | false ↦ λ q e. absurd cc
    ] refl is

-- what two keys begin with alike does not count in their order
pub same_front : (key x y : Key) → key_cmp (key ++ x) (key ++ y) ≡ key_cmp x y
same_front [] x y = refl
same_front (s ∷ key) x y = ap (λ r. ordering_then r (key_cmp (key ++ x) (key ++ y))) (tied_itself nat_list_cmp_total s) ∙ same_front key x y

-- a tie afterwards changes nothing
then_tied : (r : Ordering) → ordering_then r Equal ≡ r
then_tied Less = refl
then_tied Equal = refl
then_tied Greater = refl

-- members are in the order of their names
pub member_order : (key : Key) (s t : List ℕ) → key_cmp (key ++ s ∷ []) (key ++ t ∷ []) ≡ name_cmp s t
member_order key s t = same_front key (s ∷ []) (t ∷ []) ∙ then_tied (name_cmp s t)

-- ---- both parts of a test

-- two tests that hold, hold together
pub both : (a b : Bool) → T a → T b → T (a && b)
both true b p q = q
both false b p q = p

-- and the other way round
pub parts : (a b : Bool) → T (a && b) → T a × T b
parts true b p = (tt, p)
parts false b p = absurd p

-- ---- the entries of members

module _ {X : Type 0} (key : Key) where
  -- a member's value is that of its key
  pub find-members : (s : List ℕ) (es : List (Key × X)) → find name_cmp s (filter_map (member_in key) es) ≡ find key_cmp (key ++ s ∷ []) es
  find-members s [] = refl
  find-members s (e ∷ es) = by (name_in key e.0) refl (find-members s es)
    where
      apart : name_in key e.0 ≡ None → eq_by_cmp key_cmp (key ++ s ∷ []) e.0 ≡ false
      apart none = false_from_ne_true (eq_by_cmp key_cmp (key ++ s ∷ []) e.0) (λ t.
          let both : None ≡ Some s = sym none ∙ ap (name_in key) (sym ((tied_decides (key ++ s ∷ []) e.0).0 t)) ∙ name_in-member key s in
          absurd cc)

      by : (o : Option (List ℕ)) → name_in key e.0 ≡ o → find name_cmp s (filter_map (member_in key) es) ≡ find key_cmp (key ++ s ∷ []) es
          → find name_cmp s (cons_option (option_map (λ name. (name, e.1)) o) (filter_map (member_in key) es)) ≡ cond (eq_by_cmp key_cmp (key ++ s ∷ []) e.0) (Some e.1) (find key_cmp (key ++ s ∷ []) es)
      by None none rest = rest ∙ sym (ap (λ b. cond b (Some e.1) (find key_cmp (key ++ s ∷ []) es)) (apart none))
      by (Some n) at rest =
          ap (cond (eq_by_cmp name_cmp s n) (Some e.1)) rest
          ∙ ap (λ r. cond (is_eq r) (Some e.1) (find key_cmp (key ++ s ∷ []) es)) (sym (member_order key s n))
          ∙ ap (λ k. cond (eq_by_cmp key_cmp (key ++ s ∷ []) k) (Some e.1) (find key_cmp (key ++ s ∷ []) es)) (sym (member-name_in key e.0 n at))

  -- the names of later members are greater
  below-members : (s : List ℕ) (es : List (Key × X)) → T (below_all key_cmp (key ++ s ∷ []) es) → T (below_all name_cmp s (filter_map (member_in key) es))
  below-members s [] h = tt
  below-members s (e ∷ es) h =
      let q = parts (is_lt (key_cmp (key ++ s ∷ []) e.0)) (below_all key_cmp (key ++ s ∷ []) es) h in
      by (name_in key e.0) refl q.0 (below-members s es q.1)
    where
      by : (o : Option (List ℕ)) → name_in key e.0 ≡ o → T (is_lt (key_cmp (key ++ s ∷ []) e.0)) → T (below_all name_cmp s (filter_map (member_in key) es))
          → T (below_all name_cmp s (cons_option (option_map (λ name. (name, e.1)) o) (filter_map (member_in key) es)))
      by None none h rest = rest
      by (Some n) at h rest =
          both (is_lt (name_cmp s n)) (below_all name_cmp s (filter_map (member_in key) es))
          (subst (λ r. T (is_lt r)) (ap (key_cmp (key ++ s ∷ [])) (member-name_in key e.0 n at) ∙ member_order key s n) h) rest

  -- the names of members strictly rise
  pub sorted-members : (es : List (Key × X)) → T (is_sorted key_cmp es) → T (is_sorted name_cmp (filter_map (member_in key) es))
  sorted-members [] h = tt
  sorted-members (e ∷ es) h =
      let q = parts (below_all key_cmp e.0 es) (is_sorted key_cmp es) h in
      by (name_in key e.0) refl q.0 (sorted-members es q.1)
    where
      by : (o : Option (List ℕ)) → name_in key e.0 ≡ o → T (below_all key_cmp e.0 es) → T (is_sorted name_cmp (filter_map (member_in key) es))
          → T (is_sorted name_cmp (cons_option (option_map (λ name. (name, e.1)) o) (filter_map (member_in key) es)))
      by None none h rest = rest
      by (Some n) at h rest =
          both (below_all name_cmp n (filter_map (member_in key) es)) (is_sorted name_cmp (filter_map (member_in key) es))
          (below-members n es (subst (λ k. T (below_all key_cmp k es)) (member-name_in key e.0 n at) h)) rest

  -- the names are those among the keys
  pub names-members : (es : List (Key × X)) → map (λ p. p.0) (filter_map (member_in key) es) ≡ names_among (map (λ e. e.0) es) key
  names-members [] = refl
  names-members (e ∷ es) = by (name_in key e.0) (names-members es)
    where
      by : (o : Option (List ℕ)) → map (λ (p : List ℕ × X). p.0) (filter_map (member_in key) es) ≡ names_among (map (λ (x : Key × X). x.0) es) key
          → map (λ (p : List ℕ × X). p.0) (cons_option (option_map (λ name. (name, e.1)) o) (filter_map (member_in key) es)) ≡ cons_option o (names_among (map (λ (x : Key × X). x.0) es) key)
      by None rest = rest
      by (Some n) rest = ap (λ ns. n ∷ ns) rest

module _ {X : Type 0} (key : Key) (values : fin.FinMap key_cmp X) where
  -- the value of a member
  pub find-members_of : (s : List ℕ) → find name_cmp s (members_of key values) ≡ fin.get values (key ++ s ∷ [])
  find-members_of s = find-members key s (fin.entries values) ∙ sym (fin.get-entries values (key ++ s ∷ []))

  -- the names rise
  pub sorted-members_of : T (is_sorted name_cmp (members_of key values))
  sorted-members_of = sorted-members key (fin.entries values) (fin.entries_sorted values)

  -- the names are those among the keys of the map
  pub names-members_of : map (λ p. p.0) (members_of key values) ≡ names_among (fin.keys values) key
  names-members_of = names-members key (fin.entries values)

  -- names that strictly rise, with the values of the members, are the members
  pub members_by_find : (ms : List (List ℕ × X)) → T (is_sorted name_cmp ms) → ((s : List ℕ) → find name_cmp s ms ≡ fin.get values (key ++ s ∷ [])) → ms ≡ members_of key values
  members_by_find ms sorted found = same_entries name_cmp nat_list_cmp_total name_cmp_exact ms (members_of key values) sorted sorted-members_of (λ s. found s ∙ sym (find-members_of s))
