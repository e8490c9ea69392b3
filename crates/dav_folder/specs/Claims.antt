-- What is claimed of the files of a store: this project's own choice.
use Rattle.std.specs.Prelude.{◌≡◌, ◌≤◌, ℕ, true, All, List, length}
use Rattle.dav_data.specs.Digests.{are_right}
use Rattle.dav_data.specs.declared.claim.Claim as claim
use Rattle.dav_keep.specs.Images.{Image}
use Rattle.dav_nodes.specs.Tree.{Tree}
use Rattle.dav_nodes.specs.declared.nodes.loading.NumberedValue.{NumberedValue}
use Rattle.dav_store_rows.specs.Resources.{Kept}
use Rattle.dav_tree.specs.Entry.{is_held}
use Rattle.dav_tree.specs.Kept.{AreHeld}

-- in these contents of the data file, the blocks of each file of a tree have their digests under a key
abbrev pub AreFilesRight : ℕ → List ℕ → Tree Kept → Type 0
AreFilesRight key file tree = AreHeld (are_right key file) tree

-- A store with this key and these resources has the key that is claimed. The data file has the place where its last block ends, and its blocks have
-- their digests there.
pub record MeetsClaim (key : ℕ) (file : List ℕ) (digest_key end : ℕ) (rows : List (NumberedValue Kept)) : Type 0 where
  pub keyed : digest_key ≡ key
  pub within : end ≤ length file
  pub right : All (λ row. is_held (are_right key file) row.value.content ≡ true) rows

module _ {C : Type 0} (c : claim.Ghosts C) where
  -- if the claim holds, this is its key
  abbrev pub IsKeyed : ℕ → Type 0
  IsKeyed key = c.holds ≡ true → key ≡ c.key

  -- the image has the key of the claim, and under this key the blocks of each of its files have their digests
  pub record IsRight (file : List ℕ) (image : Image) : Type 0 where
    pub keyed : image.numbers.key ≡ c.key
    pub right : AreFilesRight c.key file image.tree

  -- the same, if the claim holds
  abbrev pub IsClaimed : List ℕ → Image → Type 0
  IsClaimed file image = c.holds ≡ true → IsRight file image
