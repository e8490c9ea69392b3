-- Copies of all that is kept.
use Rattle.std.proofs.Common.{◌≡◌, ◌∙◌, ℕ, Bool, true, false, cond, List, [], ◌∷◌, ◌++◌, length, Option, Some, None, refl, sym, ap, subst, arith, map, Bor, append_assoc, append-nil}
use Rattle.std.proofs.lemmas.Slice.Zip.{all_zipped_more}
use Rattle.std.specs.List.{AllZip}
use Rattle.std.specs.Option.{option_map}
use Rattle.std.specs.Ordering.{eq_by_cmp}
use Rattle.std.specs.FinMap.{get, entries, get-entries}
use Rattle.std.specs.FinMap.Entries.{find}
use Rattle.dav_key.specs.Key.{Key, key_cmp, tied_decides}
use Rattle.dav_resource.specs.PathText.{IsKey}
use Rattle.dav_tree.specs.Memory.{Stored, Resources, IsSound}
use Rattle.dav_tree.specs.Dump.{Dumped, IsDump, IsDumpOf}
use Rattle.dav_key.specs.EachLaws.{get-each-some, with_values, entries-each-some}
use Rattle.dav_tree.specs.Lawful.{get-tree}
use Rattle.dav_tree.specs.Entry.{stored_by}
use Rattle.dav_tree.specs.Kept.{resources_by}
use Rattle.dav_tree.specs.declared.entry.Entry.{Entry}
use Rattle.dav_tree.proofs.Answering.{nothing_kept}
use Rattle.dav_tree.proofs.Keeping.{get-resources}
use Rattle.dav_nodes.specs.Tree.{Tree}
use Rattle.dav_nodes.specs.Listing.{HasFlatKeys}
use Rattle.dav_resource.proofs.KeyLemmas.{IsFlatKey-key}
use Rattle.std.proofs.lemmas.List.{map-append}

-- ---- entries

found_in : {X : Type 0} (done : List (Key × X)) (e : Key × X) (rest : List (Key × X)) → find key_cmp e.0 (done ++ e ∷ rest) ≡ None → ⊥
found_in [] e rest none =
    let there : Some e.1 ≡ None = subst (λ b. cond b (Some e.1) (find key_cmp e.0 rest) ≡ None) ((tied_decides e.0 e.0).1 refl) none in
    cc
found_in (x ∷ done) e rest none = past (found_in done e rest) (eq_by_cmp key_cmp e.0 x.0) none
  where
    past : (find key_cmp e.0 (done ++ e ∷ rest) ≡ None → ⊥) → (b : Bool) → cond b (Some x.1) (find key_cmp e.0 (done ++ e ∷ rest)) ≡ None → ⊥
    past later true n = cc
    past later false n = later n

no_node : (o : Option Stored) → option_map (λ s. s.node) o ≡ None → o ≡ None
no_node None e = refl
no_node (Some s) e = absurd cc

-- what is kept stands at a key
pub kept_key : (resources : Resources) (done rest : List (Key × Stored)) (e : Key × Stored) → IsSound resources → done ++ e ∷ rest ≡ entries resources → IsKey e.0
kept_key resources done rest e sound is = sound.keys e.0 (λ none. found_in done e rest (ap (find key_cmp e.0) is ∙ sym (get-entries resources e.0) ∙ no_node (get resources e.0) (sym (get-each-some (λ s. s.node) resources e.0) ∙ none)))

-- ---- copies

pub copied_next : (done rest all : List (Key × Stored)) (e : Key × Stored) → done ++ e ∷ rest ≡ all → (done ++ e ∷ []) ++ rest ≡ all
copied_next done rest all e is = append_assoc done (e ∷ []) rest ∙ is

pub copied_more : (done : List (Key × Stored)) (dumped new : List Dumped) (e : Key × Stored) (d : Dumped) → AllZip IsDumpOf done dumped → IsDumpOf e d → new ≡ dumped ++ d ∷ [] → AllZip IsDumpOf (done ++ e ∷ []) new
copied_more done dumped new e d h one is = subst (AllZip IsDumpOf (done ++ e ∷ [])) (sym is) (all_zipped_more IsDumpOf done dumped e d h one)

pub copied_all : (resources : Resources) (done : List (Key × Stored)) (dumped : List Dumped) → AllZip IsDumpOf done dumped → done ++ [] ≡ entries resources → IsDump resources dumped
copied_all resources done dumped h is = subst (λ es. AllZip IsDumpOf es dumped) (sym (append-nil done) ∙ is) h

-- ---- from a tree of entries

map_none : {X Y : Type 0} (f : X → Y) (o : Option X) → option_map f o ≡ None → o ≡ None
map_none f None e = refl
map_none f (Some x) e = absurd cc

module _ {B : Type 0} (bytes : B → List ℕ) (tree : Tree (Entry B)) where
  -- the keys are such that a `FlatKey` can have them
  pub flat-keys : IsSound (resources_by bytes tree) → HasFlatKeys tree.values
  flat-keys sound = λ key some. IsFlatKey-key key (sound.keys key (λ none.
      some (map_none (stored_by bytes) (get tree.values key) (sym (get-resources bytes tree key) ∙ nothing_kept (get (resources_by bytes tree) key) (sym (get-tree (resources_by bytes tree) key) ∙ none)))))

  pub entry-key : (done rest : List (Key × Entry B)) (e : Key × Entry B) → IsSound (resources_by bytes tree) → done ++ e ∷ rest ≡ entries tree.values → IsKey e.0
  entry-key done rest e sound is =
      kept_key (resources_by bytes tree) (with_values (stored_by bytes) done) (with_values (stored_by bytes) rest) (e.0, stored_by bytes e.1) sound
      (sym (map-append (λ x. (x.0, stored_by bytes x.1)) done (e ∷ rest)) ∙ ap (with_values (stored_by bytes)) is ∙ sym (entries-each-some (stored_by bytes) tree.values))

  pub dumped-all : (done : List (Key × Entry B)) (dumped : List Dumped) → AllZip IsDumpOf (with_values (stored_by bytes) done) dumped → done ++ [] ≡ entries tree.values → IsDump (resources_by bytes tree) dumped
  dumped-all done dumped h is = subst (λ es. AllZip IsDumpOf es dumped) (ap (with_values (stored_by bytes)) (sym (append-nil done) ∙ is) ∙ sym (entries-each-some (stored_by bytes) tree.values)) h

pub dumped-more : {B : Type 0} (bytes : B → List ℕ) (done : List (Key × Entry B)) (dumped new : List Dumped) (e : Key × Entry B) (d : Dumped) → AllZip IsDumpOf (with_values (stored_by bytes) done) dumped
    → IsDumpOf (e.0, stored_by bytes e.1) d → new ≡ dumped ++ d ∷ [] → AllZip IsDumpOf (with_values (stored_by bytes) (done ++ e ∷ [])) new
dumped-more bytes done dumped new e d h one is =
    subst (λ es. AllZip IsDumpOf es new) (sym (map-append (λ x. (x.0, stored_by bytes x.1)) done (e ∷ []))) (copied_more (with_values (stored_by bytes) done) dumped new (e.0, stored_by bytes e.1) d h one is)

-- what is seen of the entries through references
pub seen-entries : {B : Type 0} (f : Entry B → Stored) (xs : List (Key × Bor (Entry B))) → map (λ e. (e.0, f e.1.now)) xs ≡ with_values f (map (λ e. (e.0, e.1.now)) xs)
seen-entries f [] = refl
seen-entries f (x ∷ xs) = ap (λ es. (x.0, f x.1.now) ∷ es) (seen-entries f xs)

pub no_items : {A : Type 0} (xs : List A) → length xs ≡ 0 → xs ≡ []
no_items [] e = refl
no_items (x ∷ xs) e = absurd (omega arith)
