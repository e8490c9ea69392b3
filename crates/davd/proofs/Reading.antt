-- What a check that ends without an error has read.
use Rattle.std.proofs.Common.{◌≡◌, ◌⊎◌, List, [], ℕ, inl, inr, subst}
use Rattle.dav_check.specs.Checking.{IsNamed}
use Rattle.dav_check.specs.declared.checking.Checked.{Checked}
use Rattle.dav_key.specs.Key.{Key}
use Rattle.dav_pieces.specs.declared.piece.Piece.{Piece}
use Rattle.dav_resource.specs.PathText.{PathValue}
use Rattle.dav_store.specs.Members.{IsIn}
use Rattle.dav_tree.specs.declared.medium.Medium.{Ghosts}
use Rattle.davd.specs.Checking.{IsVerified, ChecksFolder}
use Rattle.sqlite.specs.Recovery as files
use Rattle.sqlite_disk.specs.declared.Disk as disk
use Rattle.sqlite_disk.specs.declared.Files.{Files}

none_in : (path : PathValue) (paths : List PathValue) → paths ≡ [] → IsIn path paths → ⊥
none_in path paths none within = subst (IsIn path) none within

-- no file is named as damaged, so each was read
pub all_read : (checked : Checked) {key : Key} {Read : Type 0} → checked.damaged.items ≡ [] → IsNamed checked key ⊎ Read → Read
all_read checked none (inl (path, within, is)) = absurd (none_in path checked.damaged.items none within)
all_read checked none (inr read) = read

-- the same, by what the files held
module _ {D E L M : Type 0} (d : disk.Ghosts D) (e : disk.Ghosts E) (l : disk.Ghosts L) (g : Ghosts M (List Piece)) (left held said : files.Image) (file bytes : List ℕ)
    (same : left ≡ held) (same_bytes : file ≡ bytes) (of : Files D) (last : Files L) where
  pub checks : IsVerified d e l g left file said of last → ChecksFolder d e l g held bytes said
  checks verified = record {
    of = of;
    last = last;
    verified = subst (λ b. IsVerified d e l g held b said of last) same_bytes (subst (λ i. IsVerified d e l g i file said of last) same verified);
  }
