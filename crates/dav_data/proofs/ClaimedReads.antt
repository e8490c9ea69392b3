-- What a read of a `ClaimedFile` returns, and why it fails.
use Rattle.std.proofs.Common.{◌≡◌, ◌∙◌, ◌⊎◌, ℕ, Bool, true, false, List, refl, sym, subst, inl, inr, arith}
use Rattle.std.specs.Prelude.{◌&&◌, ◌==◌, Result, Ok, Err, IfOk, IfErr, Vec}
use Rattle.std.specs.declared.alloc.Global.{Global}
use Rattle.std.proofs.lemmas.Bool.{and_parts}
use Rattle.std.proofs.lemmas.Bool.Decides.{nat_tests}
use Rattle.sqlite_disk.specs.Disk.{MoreFaults}
use Rattle.sqlite_disk.specs.declared.Disk.{Ghosts}
use Rattle.dav_pieces.specs.declared.piece.Piece.{Piece}
use Rattle.dav_resource.specs.declared.error.FsError.{FsError}
use Rattle.dav_resource.specs.declared.error.FsError.TheVariants.{Memory}
use Rattle.dav_store.specs.Calls.{bytes_from}
use Rattle.dav_blocks.specs.Blocks as blocks
use Rattle.dav_data.specs.declared.claim.Claim as claim
use Rattle.dav_data.specs.declared.claimed_file.ClaimedFile.{ClaimedFile}
use Rattle.dav_data.specs.declared.data_file.DataFile.{DataFile}
use Rattle.dav_data.specs.Claimed.{bytes_in, meets_claim, is_kept}
use Rattle.dav_data.specs.Collisions.{HasCollision}
use Rattle.dav_data.specs.Data.{data_of, is_held, is_honest, is_usable, is_faultless, has_digests, Keeps, IsReadOrCollides, ReadFails, IsUnread}
use Rattle.dav_data.specs.Readings.{are_checked, AreRead, FailsWithFault}
use Rattle.dav_data.proofs.Claims.{claim-digests}

unusable : (usable honest calm : Bool) → usable ≡ false → (usable && (honest && calm)) ≡ false
unusable true honest calm is = absurd (let e = is in cc)
unusable false honest calm is = refl

dishonest : (usable honest calm : Bool) → (honest ≡ true → ⊥) → (usable && (honest && calm)) ≡ false
dishonest false honest calm is = refl
dishonest true false calm is = refl
dishonest true true calm is = absurd (is refl)

restless : (usable honest calm : Bool) → calm ≡ false → (usable && (honest && calm)) ≡ false
restless false honest calm is = refl
restless true false calm is = refl
restless true true calm is = is

some-faults : (before after : ℕ) → MoreFaults before after → (after == 0) ≡ false
some-faults before after more = grind (arith, nat_tests, more)

module _ {D C : Type 0} {g : Ghosts D} {c : claim.Ghosts C} (it : ClaimedFile D C g c) (body : List Piece) (kept : is_kept it body ≡ true) where
  digests-of : c.holds ≡ true → has_digests it.file body ≡ true
  digests-of up = claim-digests c.holds c.key it.file body it.keyed up (and_parts (is_held it.file body) (meets_claim it body) kept).1

  checked-of : (place count : ℕ) (found : List ℕ) → c.holds ≡ true → IsReadOrCollides it.file body place count found → are_checked c.key (bytes_in it body) place count found
  checked-of place count found up (inl exact) = inl exact
  checked-of place count found up (inr collision) = inr (record {
    contents = data_of it.file;
    body = body;
    made = refl;
    collision = subst (λ key. HasCollision key (data_of it.file) body (bytes_from place count (bytes_in it body)) found) (it.keyed up) collision;
  })

  pub are-read : {E : Type 0} (place count : ℕ) (honest : Bool) (result : Result (Vec ℕ Global) E)
      → IfOk result (λ found. honest ≡ true → found.items ≡ bytes_from place count (bytes_in it body))
      → IfOk result (λ found. has_digests it.file body ≡ true → IsReadOrCollides it.file body place count found.items)
      → IfOk result (λ found. AreRead c honest (bytes_in it body) place count found.items)
  are-read place count honest (Ok found) exact checked = record { exact = exact; checked = λ up. checked-of place count found.items up (checked (digests-of up)) }
  are-read place count honest (Err e) exact checked = tt

  module _ (new : DataFile D g) (keeps : Keeps it.file new) where
    by-fault : (e : FsError) → ReadFails it.file new e → is_faultless new ≡ false
    by-fault e fails = which fails.cause
      where
        which : (blocks.is_usable fails.before ≡ false) ⊎ MoreFaults (g.faults fails.before.disk) (g.faults new.file.disk) → is_faultless new ≡ false
        which (inl stopped) = unusable (is_usable new) (is_honest new) (g.faults new.file.disk == 0) (keeps.usable ∙ sym fails.usable ∙ stopped)
        which (inr more) = restless (is_usable new) (is_honest new) (g.faults new.file.disk == 0) (some-faults _ _ more)

    why : (e : FsError) → IsUnread (has_digests it.file body) it.file new e → (e ≡ Memory) ⊎ FailsWithFault c (is_faultless new) e
    why e (inl memory) = inl memory
    why e (inr (inl fails)) = inr (λ up. by-fault e fails)
    why e (inr (inr damage)) = inr (λ up. dishonest (is_usable new) (is_honest new) (g.faults new.file.disk == 0) (λ honest. damage.wrong honest (digests-of up)))

    pub fails-with : {T : Type 0} (result : Result T FsError) → IfErr result (IsUnread (has_digests it.file body) it.file new)
        → IfErr result (λ e. (e ≡ Memory) ⊎ FailsWithFault c (is_faultless new) e)
    fails-with (Ok found) unread = tt
    fails-with (Err e) unread = why e unread
