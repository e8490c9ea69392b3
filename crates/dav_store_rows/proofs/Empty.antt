-- The first save: tables with no rows stand for a tree with no resources.
use Rattle.std.proofs.Common.{◌≡◌, ℕ, ℤ, pos, [], Some, None, is_some, sym, ap, ◌∙◌, arith}
use Rattle.std.specs.Ordering.{int_cmp}
use Rattle.std.specs.FinMap.{get, empty, get-empty}
use Rattle.dav_key.specs.Key.{Key, key_cmp}
use Rattle.dav_nodes.specs.Tree.{Tree}
use Rattle.dav_nodes.specs.Rows.{AreDistinct, HasNoted}
use Rattle.dav_nodes.specs.declared.changes.Changes.TheVariants.{All}
use Rattle.dav_rows.specs.Stored.{Numbered}
use Rattle.dav_rows.specs.Contents.{Contents}
use Rattle.dav_store_rows.specs.Parts.{part_key, HasParts, HasOnlyParts}
use Rattle.dav_store_rows.specs.Resources.{Kept}
use Rattle.dav_store_rows.specs.Updates.{IsSavedIn}
use Rattle.dav_store_rows.proofs.Saved.{fits_none}

abbrev pub no_tree : Tree Kept
no_tree = record { values = empty; numbers = empty }

no_number : (key : Key) (number : ℕ) → get (empty {X = ℕ} {R = key_cmp}) key ≡ Some number → ⊥
no_number key number is = let none = get-empty {X = ℕ} key_cmp key in cc

none_at : {V : Type 0} (m : Numbered V) (key : ℤ) → m ≡ empty → get m key ≡ None
none_at m key is = ap (λ t. get t key) is ∙ get-empty int_cmp key

no_parts : {V : Type 0} (m : Numbered V) (number : ℕ) → m ≡ empty → HasParts m number []
no_parts m number is = record { fits = omega arith; rows = λ index low. none_at m (part_key number index) is }

only_none : {V : Type 0} (m : Numbered V) → m ≡ empty → HasOnlyParts m
only_none m is key there = absurd (there (none_at m key is))

-- such tables stand for a tree with no resources
pub saved_none : (m : Contents) → m.resources ≡ empty → m.extents ≡ empty → m.properties ≡ empty → IsSavedIn m no_tree []
saved_none m no_resources no_extents no_properties = record {
  stands = record {
    kept = λ number row (key, at, is). absurd (no_number key number at);
    none = λ number _. record {
      resource = none_at m.resources (pos number) no_resources;
      extents = no_parts m.extents number no_extents;
      properties = no_parts m.properties number no_properties;
    };
    only_resources = λ key there. absurd (there (none_at m.resources key no_resources));
    only_extents = only_none m.extents no_extents;
    only_properties = only_none m.properties no_properties;
  };
  fits = fits_none m no_resources no_extents no_properties;
}

-- every number is noted since there was no resource
pub noted_all : (tree : Tree Kept) → AreDistinct tree → HasNoted All no_tree tree
noted_all tree distinct = record {
  numbered_old = λ key. ap is_some (get-empty {X = ℕ} key_cmp key) ∙ sym (ap is_some (get-empty {X = Kept} key_cmp key));
  distinct_old = λ a b number at also. absurd (no_number a number at);
  distinct_now = distinct;
  kept = λ number not_noted. cc;
}
