-- How many bytes all files have at most.
use Rattle.std.proofs.Common.{◌≡◌, ◌∙◌, ◌<◌, ◌≤◌, ◌^◌, ◌*◌, ℕ, arith, length, true, Bool, List, Some, ap, sym}
use Rattle.std.specs.FinMap.{get, len, len-entries}
use Rattle.std.specs.BTreeMap.{BTreeMap}
use Rattle.std.proofs.lemmas.List.{length-map}
use Rattle.dav_key.specs.Key.{Key}
use Rattle.dav_nodes.specs.Tree.{Tree}
use Rattle.dav_tree.specs.Memory.{Stored}
use Rattle.dav_key.specs.EachLaws.{entries-each-some}
use Rattle.dav_tree.specs.Entry.{stored_by}
use Rattle.dav_tree.specs.Kept.{resources_by, AreKept}
use Rattle.dav_tree.specs.declared.entry.Entry.{Entry}
use Rattle.dav_tree.proofs.Keeping.{get-resources, entry_behind, content-small}
use Rattle.dav_tree.proofs.Editing.{size}
use Rattle.dav_tree.proofs.Sums.{total-le}

module _ {B : Type 0} (bytes : B → List ℕ) (holds : B → Bool) (small : (body : B) → holds body ≡ true → length (bytes body) < 2 ^ 63) (tree : Tree (Entry B)) where
  -- there are as many resources as entries
  len-resources : len (resources_by bytes tree) ≡ len tree.values
  len-resources =
      len-entries (resources_by bytes tree) ∙ ap length (entries-each-some (stored_by bytes) tree.values) ∙ length-map _ _ ∙ sym (len-entries tree.values)

  -- fewer than 2^63 bytes for each entry
  pub used-fits : (used : ℕ) (bodies : BTreeMap ℕ B) (next : ℕ) → AreKept bytes holds tree used bodies next → used ≤ len tree.values * 2 ^ 63
  used-fits used bodies next inv = omega (arith, inv.counted, len-resources, total-le size (resources_by bytes tree) (2 ^ 63) each-fits)
    where
      each-fits : (key : Key) (s : Stored) → get (resources_by bytes tree) key ≡ Some s → size s ≤ 2 ^ 63
      each-fits key s here =
          let (e, there, is) = entry_behind bytes (get tree.values key) s (sym (get-resources bytes tree key) ∙ here) in
          omega (arith, ap size is, content-small bytes holds small e.content (inv.held key e there))
