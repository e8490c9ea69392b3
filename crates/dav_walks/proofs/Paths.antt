-- The paths of the keys that a deletion comes to.
use Rattle.std.proofs.Common.{◌≡◌, ◌≢◌, Bool, true, false, List, [], ◌∷◌, ◌++◌, if◌then◌else◌, ℕ, refl, sym, ap, ◌∙◌, append_assoc}
use Rattle.dav_key.specs.Key.{Key}
use Rattle.dav_resource.specs.PathText.{PathValue}
use Rattle.dav_resource.specs.declared.meta.DirEntry.{DirEntry}
use Rattle.dav_store.specs.Members.{member}
use Rattle.dav_walks.specs.KeyCall.{same_key}
use Rattle.dav_walks.specs.Deletion.{path_at}
use Rattle.dav_walks.specs.Frames.{path_of_entry}
use Rattle.dav_walks.proofs.Keys.{same_key_itself, other_key, append-nothing, below_cancel}

-- a path is that of its key, which is the deleted one or below it
pub record IsAt (path : PathValue) (slash : Bool) (value : PathValue) : Type 0 where
  pub below : Key
  pub key : value.key ≡ path.key ++ below
  pub is : value ≡ path_at path slash value.key

pub path_at-itself : (path : PathValue) (slash : Bool) → path_at path slash path.key ≡ path
path_at-itself path slash = ap (λ b. if b then path else record path { star = false; slash = slash; key = path.key }) (same_key_itself path.key)

path_at-others : (path : PathValue) (slash : Bool) (key : Key) → key ≢ path.key → path_at path slash key ≡ record path { star = false; slash = slash; key = key }
path_at-others path slash key apart = ap (λ b. if b then path else record path { star = false; slash = slash; key = key }) (other_key key path.key apart)

path_at-prefix : (path : PathValue) (slash : Bool) (key : Key) → (path_at path slash key).prefix ≡ path.prefix
path_at-prefix path slash key = elim (same_key key path.key) as (λ b. (if b then path else record path { star = false; slash = slash; key = key }).prefix ≡ path.prefix) [ true ↦ refl | false ↦ refl ]

-- the deletion's own
pub path_itself : (path : PathValue) (slash : Bool) → IsAt path slash path
path_itself path slash = record { below = []; key = sym (append-nothing path.key); is = sym (path_at-itself path slash) }

nonempty : (key : Key) (name : List ℕ) → key ++ name ∷ [] ≡ [] → ⊥
nonempty [] name p = cc
nonempty (segment ∷ key) name p = cc

-- a member's
pub path_of_member : (path value : PathValue) (entry : DirEntry) → IsAt path true value → IsAt path entry.meta.dir (path_of_entry value entry)
path_of_member path value entry at_path = record { below = at_path.below ++ entry.name ∷ []; key = longer; is = same ∙ sym (path_at-others path entry.meta.dir (member value.key entry.name) apart) }
  where
    longer : member value.key entry.name ≡ path.key ++ (at_path.below ++ entry.name ∷ [])
    longer = ap (λ k. k ++ entry.name ∷ []) at_path.key ∙ append_assoc path.key at_path.below (entry.name ∷ [])

    apart : member value.key entry.name ≢ path.key
    apart p = nonempty at_path.below entry.name (below_cancel path.key _ [] (sym longer ∙ p ∙ sym (append-nothing path.key)))

    below_prefix : value.prefix ≡ path.prefix
    below_prefix = ap (λ (p : PathValue). p.prefix) at_path.is ∙ path_at-prefix path true value.key

    same : path_of_entry value entry ≡ record path { star = false; slash = entry.meta.dir; key = member value.key entry.name }
    same = ap (λ (prefix : Key). record path { star = false; slash = entry.meta.dir; prefix = prefix; key = member value.key entry.name }) below_prefix
