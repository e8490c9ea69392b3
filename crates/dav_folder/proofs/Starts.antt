-- A start over rows of an image fails only if memory runs out, or if the disk fails.
use Rattle.std.proofs.Common.{◌≡◌, ◌≢◌, ◌∙◌, ◌≤◌, ◌<◌, ℕ, Bool, true, false, List, [], length, inl, inr, Option, None, Some, Result, Ok, Err, refl, sym, ap, subst, arith}
use Rattle.std.specs.FinMap.{get}
use Rattle.std.specs.Option.{option_map}
use Rattle.std.specs.Prelude.{IfErr, IsErrAnd}
use Rattle.std.specs.declared.io.Error.{Error}
use Rattle.sqlite_disk.specs.declared.Disk as disk
use Rattle.dav_blocks.specs.Settling.{HasNotSettled}
use Rattle.dav_nodes.specs.Tree.{Tree}
use Rattle.dav_key.specs.Key.{Key, parent}
use Rattle.dav_store.specs.Store.{Node, Directory, AreNamed}
use Rattle.dav_tree.proofs.Keeping.{get-resources, entry_behind}
use Rattle.dav_tree.specs.Entry.{node_by, stored_by}
use Rattle.dav_tree.specs.Kept.{resources_by}
use Rattle.dav_tree.specs.Lawful.{node_in, get-tree}
use Rattle.dav_tree.specs.Memory.{Stored, tree_of, IsSound}
use Rattle.dav_tree.specs.declared.entry.Content.{Content}
use Rattle.dav_tree.specs.declared.entry.Content.TheVariants as contents
use Rattle.dav_tree.specs.declared.entry.Entry.{Entry}
use Rattle.dav_folder.specs.Opening.{HasDiskFailed}

pub err_by : {T E : Type 0} (P Q : E → Type 0) (result : Result T E) → IsErrAnd result P → ((e : E) → P e → Q e) → IfErr result Q
err_by P Q (Ok x) given follows = tt
err_by P Q (Err e) given follows = follows e given

unclean : (clean : Bool) (has end : ℕ) → (clean ≡ true → has < end) → end ≤ has → clean ≡ false
unclean true has end short within = absurd (omega (arith, short refl, within))
unclean false has end short within = refl

-- a data file that is long enough is opened, unless the disk fails
pub disk_failed : {D : Type 0} (g : disk.Ghosts D) (old left : D) (end : ℕ) (cause : Error) → HasNotSettled g old end left cause → end ≤ length (g.seen old) → HasDiskFailed g old
disk_failed g old left end cause refused within = elim refused.cause [
  | inl short ↦ (left, inl (unclean (g.is_clean left) (length (g.seen old)) end short.short within))
  | inr more ↦ (left, inr more)
]

-- ---- whether resources are sound does not depend on what their files have

module _ {B : Type 0} (tree : Tree (Entry B)) where
  abbrev nodes_by : (B → List ℕ) → Option (Entry B) → Option Node
  nodes_by bytes entry = option_map (λ (e : Entry B). node_by bytes e.content) entry

  twice : (bytes : B → List ℕ) (entry : Option (Entry B)) → option_map node_in (option_map (stored_by bytes) entry) ≡ nodes_by bytes entry
  twice bytes None = refl
  twice bytes (Some e) = refl

  node_at : (bytes : B → List ℕ) (key : Key) → get (tree_of (resources_by bytes tree)) key ≡ nodes_by bytes (get tree.values key)
  node_at bytes key = get-tree (resources_by bytes tree) key ∙ ap (option_map node_in) (get-resources bytes tree key) ∙ twice bytes (get tree.values key)

  same_content : (one other : B → List ℕ) (content : Content B) → Some (node_by one content) ≡ Some Directory → Some (node_by other content) ≡ Some Directory
  same_content one other (contents.File body) is = absurd cc
  same_content one other contents.Directory is = refl

  same_directory : (one other : B → List ℕ) (entry : Option (Entry B)) → nodes_by one entry ≡ Some Directory → nodes_by other entry ≡ Some Directory
  same_directory one other None is = absurd cc
  same_directory one other (Some e) is = same_content one other e.content is

  same_there : (one other : B → List ℕ) (entry : Option (Entry B)) → nodes_by other entry ≢ None → nodes_by one entry ≢ None
  same_there one other None there = there
  same_there one other (Some e) there = λ none. let clash : Some (node_by one e.content) ≡ None = none in cc

  module _ (one other : B → List ℕ) (sound : IsSound (resources_by one tree)) where
    directory_at : (key : Key) → get (tree_of (resources_by one tree)) key ≡ Some Directory → get (tree_of (resources_by other tree)) key ≡ Some Directory
    directory_at key is = node_at other key ∙ same_directory one other (get tree.values key) (sym (node_at one key) ∙ is)

    there_at : (key : Key) → get (tree_of (resources_by other tree)) key ≢ None → get (tree_of (resources_by one tree)) key ≢ None
    there_at key there = λ none. same_there one other (get tree.values key) (λ no. there (node_at other key ∙ no)) (sym (node_at one key) ∙ none)

    pub other_bytes : IsSound (resources_by other tree)
    other_bytes = record {
      root = directory_at [] sound.root;
      parents = λ key there. directory_at (parent key) (sound.parents key (there_at key there));
      keys = λ key there. sound.keys key (there_at key there);
      named = λ key s at.
          let (e, here, is) = entry_behind other (get tree.values key) s (sym (get-resources other tree key) ∙ at) in
          subst (λ (x : Stored). AreNamed x.properties) is (sound.named key (stored_by one e) (get-resources one tree key ∙ ap (option_map (stored_by one)) here));
    }
