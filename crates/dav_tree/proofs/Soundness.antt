-- What is checked of each key of a loaded tree is what always holds of a store.
use Rattle.std.proofs.Common.{◌≡◌, ◌≢◌, ◌∙◌, inl, inr, ℕ, Bool, true, false, List, [], ◌∷◌, ◌++◌, Option, Some, None, is_some, refl, sym, ap, subst, append_assoc, append-nil}
use Rattle.std.specs.Option.{option_map, ForSome}
use Rattle.std.specs.FinMap.{get}
use Rattle.dav_key.specs.Key.{Key, parent}
use Rattle.dav_resource.specs.PathText.{IsKey, IsSegment}
use Rattle.dav_resource.proofs.KeyLemmas.{IsKey-push}
use Rattle.dav_store.specs.Store.{Directory, AreNamed}
use Rattle.dav_nodes.specs.Tree.{Tree}
use Rattle.dav_nodes.specs.Rows.{Row, own_name, HasRow, AreDistinct, AreJoined}
use Rattle.dav_nodes.proofs.BelowKeys.{split_or_none}
use Rattle.dav_nodes.proofs.RowSteps.{own_name-push}
use Rattle.dav_nodes.proofs.Pending.{named_key, key_row, row_parts}
use Rattle.dav_tree.specs.Memory.{Stored, tree_of, is_directory, IsSound}
use Rattle.dav_tree.specs.Lawful.{node_in, get-tree}
use Rattle.dav_tree.specs.Entry.{node_by, stored_by, is_file}
use Rattle.dav_tree.specs.Kept.{resources_by}
use Rattle.dav_tree.specs.Loading.{IsSoundAt, AreSoundKeys}
use Rattle.dav_tree.specs.declared.entry.Content.{Content}
use Rattle.dav_tree.specs.declared.entry.Content.TheVariants as contents
use Rattle.dav_tree.specs.declared.entry.Entry.{Entry}
use Rattle.dav_tree.proofs.Keeping.{get-resources, entry_behind}
use Rattle.dav_key.proofs.FlatLemmas.{parent-push}

-- ---- directories

directory_by : {B : Type 0} (bytes : B → List ℕ) (content : Content B) → is_file content ≡ false → node_by bytes content ≡ Directory
directory_by bytes (contents.File body) is = absurd cc
directory_by bytes contents.Directory is = refl

no_file : {B : Type 0} (bytes : B → List ℕ) (content : Content B) → Some (node_by bytes content) ≡ Some Directory → is_file content ≡ false
no_file bytes (contents.File body) is = absurd cc
no_file bytes contents.Directory is = refl

-- ---- segments

last_segment : (above : Key) (s : List ℕ) → IsKey (above ++ s ∷ []) → IsSegment s
last_segment [] s is = is.0
last_segment (t ∷ above) s is = last_segment above s is.1

key_name : (key : Key) → IsKey key → ForSome (own_name key) IsSegment
key_name key is s named = last_segment (parent key) s (subst IsKey (named_key key s named) is)

-- ---- values and numbers

value_by : {X : Type 0} (o : Option ℕ) (p : Option X) (n : ℕ) → is_some o ≡ is_some p → o ≡ Some n → (x : X) × (p ≡ Some x)
value_by o None n same at = absurd (let clash : true ≡ false = ap is_some (sym at) ∙ same in cc)
value_by o (Some x) n same at = (x, refl)

number_by : {X : Type 0} (o : Option ℕ) (p : Option X) (x : X) → is_some o ≡ is_some p → p ≡ Some x → (n : ℕ) × (o ≡ Some n)
number_by None p x same at = absurd (let clash : false ≡ true = same ∙ ap is_some at in cc)
number_by (Some n) p x same at = (n, refl)

-- ---- trees

module _ {B : Type 0} (bytes : B → List ℕ) (tree : Tree (Entry B)) (top : get tree.numbers [] ≡ Some 0) (joined : AreJoined tree)
    (numbered : (key : Key) → is_some (get tree.numbers key) ≡ is_some (get tree.values key)) where
  value_at : (key : Key) (n : ℕ) → get tree.numbers key ≡ Some n → (e : Entry B) × (get tree.values key ≡ Some e)
  value_at key n at = value_by (get tree.numbers key) (get tree.values key) n (numbered key) at

  number_at : (key : Key) (e : Entry B) → get tree.values key ≡ Some e → (n : ℕ) × (get tree.numbers key ≡ Some n)
  number_at key e at = number_by (get tree.numbers key) (get tree.values key) e (numbered key) at

  -- above a key with a number each key has one
  number_above : (above below : Key) (n : ℕ) → get tree.numbers (above ++ below) ≡ Some n → (m : ℕ) × (get tree.numbers above ≡ Some m)
  number_above above below n at = by (get tree.numbers above) refl
    where
      by : (o : Option ℕ) → get tree.numbers above ≡ o → (m : ℕ) × (get tree.numbers above ≡ Some m)
      by None is = absurd (let clash : None ≡ Some n = sym (joined above below is) ∙ at in cc)
      by (Some m) is = (m, is)

  number_of_parent : (key : Key) (n : ℕ) → get tree.numbers key ≡ Some n → (m : ℕ) × (get tree.numbers (parent key) ≡ Some m)
  number_of_parent key n at = elim (split_or_none key) [
    | inl none ↦ (n, ap (λ k. get tree.numbers (parent k)) none ∙ ap (get tree.numbers) (sym none) ∙ at)
    | inr last ↦
        let found = number_above last.0 (last.1 ∷ []) n (ap (get tree.numbers) (sym last.2) ∙ at) in
        (found.0, ap (get tree.numbers) (ap parent last.2 ∙ parent-push last.0 last.1) ∙ found.1)
  ]

  node_at : (key : Key) (e : Entry B) → get tree.values key ≡ Some e → get (tree_of (resources_by bytes tree)) key ≡ Some (node_by bytes e.content)
  node_at key e at = get-tree (resources_by bytes tree) key ∙ ap (option_map node_in) (get-resources bytes tree key ∙ ap (option_map (stored_by bytes)) at)

  value_of : (key : Key) → get (tree_of (resources_by bytes tree)) key ≢ None → (e : Entry B) × (get tree.values key ≡ Some e)
  value_of key some = by (get tree.values key) refl
    where
      by : (o : Option (Entry B)) → get tree.values key ≡ o → (e : Entry B) × (get tree.values key ≡ Some e)
      by None is = absurd (some (get-tree (resources_by bytes tree) key ∙ ap (option_map node_in) (get-resources bytes tree key ∙ ap (option_map (stored_by bytes)) is)))
      by (Some e) is = (e, is)

  -- ---- from each key to the store

  module _ (each : AreSoundKeys tree) where
    sound_parents : (key : Key) → get (tree_of (resources_by bytes tree)) key ≢ None → get (tree_of (resources_by bytes tree)) (parent key) ≡ Some Directory
    sound_parents key some =
        let here = value_of key some in
        let number = number_at key here.0 here.1 in
        let above = number_of_parent key number.0 number.1 in
        let there = value_at (parent key) above.0 above.1 in
        node_at (parent key) there.0 there.1 ∙ ap Some (directory_by bytes there.0.content ((each number.0 key number.1).above there.0 there.1))

    sound_below : (above key : Key) (n : ℕ) → IsKey above → get tree.numbers (above ++ key) ≡ Some n → IsKey (above ++ key)
    sound_below above [] n is at = subst IsKey (sym (append-nil above)) is
    sound_below above (s ∷ key) n is at =
        let split : get tree.numbers ((above ++ s ∷ []) ++ key) ≡ Some n = ap (get tree.numbers) (append_assoc above (s ∷ []) key) ∙ at in
        let next = number_above (above ++ s ∷ []) key n split in
        let segment = (each next.0 (above ++ s ∷ []) next.1).name s (own_name-push above s) in
        subst IsKey (append_assoc above (s ∷ []) key) (sound_below (above ++ s ∷ []) key n (IsKey-push above s is segment) split)

    pub sound-keys : IsSound (resources_by bytes tree)
    sound-keys = record {
      root = let first = value_at [] 0 top in sound_parents [] (λ none. let clash : Some (node_by bytes first.0.content) ≡ None = sym (node_at [] first.0 first.1) ∙ none in cc);
      parents = sound_parents;
      keys = λ key some.
          let here = value_of key some in
          let number = number_at key here.0 here.1 in
          sound_below [] key number.0 tt number.1;
      named = λ key s at.
          let (e, here, is) = entry_behind bytes (get tree.values key) s (sym (get-resources bytes tree key) ∙ at) in
          let number = number_at key e here in
          subst (λ (x : Stored). AreNamed x.properties) is ((each number.0 key number.1).named e here);
    }

  -- ---- from the store to each key

  pub keys-sound : IsSound (resources_by bytes tree) → AreSoundKeys tree
  keys-sound sound number key at =
      let here = value_at key number at in
      let some : get (tree_of (resources_by bytes tree)) key ≢ None = λ none. let clash : Some (node_by bytes here.0.content) ≡ None = sym (node_at key here.0 here.1) ∙ none in cc in
      record {
        name = key_name key (sound.keys key some);
        above = λ e there. no_file bytes e.content (sym (node_at (parent key) e there) ∙ sound.parents key some);
        named = λ e there. sound.named key (stored_by bytes e) (get-resources bytes tree key ∙ ap (option_map (stored_by bytes)) there);
      }

-- ---- the key with a number

some_same : {X : Type 0} (x y : X) → Some x ≡ Some y → x ≡ y
some_same x y e = cc

-- no key has a number without a row
pub sound-nowhere : {B : Type 0} (tree : Tree (Entry B)) (numbered : (key : Key) → is_some (get tree.numbers key) ≡ is_some (get tree.values key)) (number : ℕ)
    → ((row : Row (Entry B)) → HasRow tree number row → ⊥) → IsSoundAt tree number
sound-nowhere tree numbered number none key at = let found = key_row tree key number at (numbered key) in absurd (none found.0 found.1)

module _ {B : Type 0} (tree : Tree (Entry B)) (number above : ℕ) (row : Row (Entry B)) (at_above : row.above ≡ Some above) (has : HasRow tree number row) where
  abbrev IsDirectoryAt : Key → Type 0
  IsDirectoryAt key = ForSome (get tree.values key) (λ e. is_file e.content ≡ false)

  parts : (get tree.values has.0 ≡ Some row.value) × (get tree.numbers (parent has.0) ≡ row.above) × (own_name has.0 ≡ row.name)
  parts = row_parts tree has.0 row has.2

  pub sound-row : AreDistinct tree → ForSome row.name IsSegment → ((key : Key) → get tree.numbers key ≡ Some above → IsDirectoryAt key) → AreNamed row.value.properties → IsSoundAt tree number
  sound-row distinct name directory named key at =
      let same : key ≡ has.0 = distinct key has.0 number at has.1 in
      record {
        name = subst (λ o. ForSome o IsSegment) (sym (ap own_name same ∙ parts.2)) name;
        above = subst (λ k. IsDirectoryAt (parent k)) (sym same) (directory (parent has.0) (parts.1 ∙ at_above));
        named = λ e there. subst (λ (x : Entry B). AreNamed x.properties) (some_same row.value e (sym parts.0 ∙ ap (get tree.values) (sym same) ∙ there)) named;
      }

  pub row-name : IsSoundAt tree number → ForSome row.name IsSegment
  row-name sound = subst (λ o. ForSome o IsSegment) parts.2 (sound has.0 has.1).name

  pub row-above : IsSoundAt tree number → (key : Key) × (get tree.numbers key ≡ Some above) × IsDirectoryAt key
  row-above sound = (parent has.0, parts.1 ∙ at_above, (sound has.0 has.1).above)

  pub row-named : IsSoundAt tree number → AreNamed row.value.properties
  row-named sound = (sound has.0 has.1).named row.value parts.0

-- ---- a lookup of a parent

directory_no_file : {B : Type 0} (content : Content B) → is_directory (node_by (λ _. []) content) ≡ true → is_file content ≡ false
directory_no_file (contents.File body) is = absurd cc
directory_no_file contents.Directory is = refl

no_file_directory : {B : Type 0} (content : Content B) → is_file content ≡ false → is_directory (node_by (λ _. []) content) ≡ true
no_file_directory (contents.File body) is = absurd cc
no_file_directory contents.Directory is = refl

pub directory-is : {B : Type 0} (x e : Entry B) (found : Bool) → found ≡ is_directory (node_by (λ _. []) x.content) → found ≡ true → Some x ≡ Some e → is_file e.content ≡ false
directory-is x e found kind is same = subst (λ y. is_file y.content ≡ false) (some_same x e same) (directory_no_file x.content (sym kind ∙ is))

pub is-directory : {B : Type 0} (x : Entry B) (found : Bool) → found ≡ is_directory (node_by (λ _. []) x.content) → is_file x.content ≡ false → found ≡ true
is-directory x found kind none = kind ∙ no_file_directory x.content none
