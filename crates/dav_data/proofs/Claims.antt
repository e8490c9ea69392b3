-- What calls keep of a claim.
use Rattle.std.proofs.Common.{◌≡◌, ◌∙◌, ℕ, Bool, true, false, List, refl, sym, subst, ap}
use Rattle.std.specs.Prelude.{not, ◌&&◌, ◌||◌, Result, Ok, Err, IfOk, OnOk, OnErr}
use Rattle.std.proofs.lemmas.Bool.{and_parts, and_from}
use Rattle.sqlite_disk.specs.declared.Disk.{Ghosts}
use Rattle.dav_pieces.specs.Changes.{KeepsSound}
use Rattle.dav_pieces.specs.declared.piece.Piece.{Piece}
use Rattle.dav_tree.specs.Bodies.{KeepsBodies, KeepsMarked, IsCopy}
use Rattle.dav_data.specs.declared.claim.Claim as claim
use Rattle.dav_data.specs.declared.claimed_file.ClaimedFile.{ClaimedFile}
use Rattle.dav_data.specs.declared.data_file.DataFile.{DataFile}
use Rattle.dav_data.specs.Digests.{is_right, are_right}
use Rattle.dav_data.specs.Owning.{synced_held}
use Rattle.dav_data.specs.Data.{data_of, body_bytes, in_use, is_held, is_synced, is_marked, has_digests, Keeps}
use Rattle.dav_data.specs.Claimed.{bytes_in, meets_claim, is_kept, is_safe, is_spared}
use Rattle.dav_data.proofs.Adding.{right-kept}
use Rattle.dav_data.proofs.Bodies.{sound-body, body-kept, body-bytes}

-- what holds if a flag is set
pub claim-to : (flag x : Bool) → flag ≡ true → (not flag || x) ≡ true → x ≡ true
claim-to true x up is = is
claim-to false x up is = absurd (let e = up in cc)

pub claim-from : (flag x : Bool) → (flag ≡ true → x ≡ true) → (not flag || x) ≡ true
claim-from true x is = is refl
claim-from false x is = refl

claim-map : (flag x y : Bool) → (flag ≡ true → x ≡ true → y ≡ true) → (not flag || x) ≡ true → (not flag || y) ≡ true
claim-map true x y then is = then refl is
claim-map false x y then is = refl

pub if-ok-then : {T E P : Type 0} (Q : T → Type 0) (result : Result T E) → P → IfOk result (λ x. P → Q x) → IfOk result Q
if-ok-then Q (Ok x) p then = then p
if-ok-then Q (Err e) p then = tt

module _ {D : Type 0} {g : Ghosts D} (holds : Bool) (key : ℕ) where
  abbrev meets : DataFile D g → List Piece → Bool
  meets file body = not holds || are_right key (data_of file) body

  -- the digests of a held body
  meets-still : (old new : DataFile D g) → Keeps old new → (body : List Piece) → is_held old body ≡ true → meets old body ≡ true → meets new body ≡ true
  meets-still old new keeps body held =
      claim-map holds (are_right key (data_of old) body) (are_right key (data_of new) body)
      (λ _ right. right-kept key (data_of old) (data_of new) (in_use old) keeps.blocks.same body (sound-body (in_use old) body held) right)

  pub kept-still : (old new : DataFile D g) → Keeps old new → (body : List Piece) → (is_held old body && meets old body) ≡ true → (is_held new body && meets new body) ≡ true
  kept-still old new keeps body kept =
      let both = and_parts (is_held old body) (meets old body) kept in
      and_from _ _ (body-kept _ _ keeps.blocks.used body both.0) (meets-still old new keeps body both.0 both.1)

  pub safe-still : (old new : DataFile D g) → Keeps old new → (body : List Piece) → (is_synced old body && meets old body) ≡ true → (is_synced new body && meets new body) ≡ true
  safe-still old new keeps body safe =
      let both = and_parts (is_synced old body) (meets old body) safe in
      and_from _ _ (body-kept _ _ keeps.blocks.safe body both.0) (meets-still old new keeps body (synced_held old body both.0) both.1)

  pub marked-still : (old new : DataFile D g) → Keeps old new → (body : List Piece) → (is_marked old body ≡ true → is_marked new body ≡ true)
      → (is_marked old body && meets old body) ≡ true → (is_marked new body && meets new body) ≡ true
  marked-still old new keeps body then marked =
      let both = and_parts (is_marked old body) (meets old body) marked in
      and_from _ _ (then both.0) (meets-still old new keeps body (and_parts (is_held old body) _ both.0).0 both.1)

  -- a body that has its digests under the key of the file
  pub claim-digests : (file : DataFile D g) (body : List Piece) → (holds ≡ true → file.key ≡ key) → holds ≡ true → meets file body ≡ true → has_digests file body ≡ true
  claim-digests file body keyed up is =
      subst (λ k. are_right k (data_of file) body ≡ true) (sym (keyed up)) (claim-to holds (are_right key (data_of file) body) up is)

  -- a body that was written, or is as it was
  pub written-kept : {T E : Type 0} (result : Result T E) (old new : DataFile D g) → (holds ≡ true → old.key ≡ key) → Keeps old new → (before after : List Piece) → (is_held old before && meets old before) ≡ true
      → is_held new after ≡ true → OnOk result (has_digests old before ≡ true → has_digests new after ≡ true) → OnErr result (after ≡ before) → (is_held new after && meets new after) ≡ true
  written-kept (Ok x) old new keyed keeps before after kept held digests same =
      let was = (and_parts (is_held old before) (meets old before) kept).1 in
      and_from _ _ held (claim-map holds (are_right key (data_of old) before) (are_right key (data_of new) after)
      (λ up right. subst (λ k. are_right k (data_of new) after ≡ true) (keeps.key ∙ keyed up) (digests (subst (λ k. are_right k (data_of old) before ≡ true) (sym (keyed up)) right))) was)
  written-kept (Err e) old new keyed keeps before after kept held digests same =
      subst (λ body. (is_held new body && meets new body) ≡ true) (sym same) (kept-still old new keeps before kept)

  -- a body to which another was written, or that is as it was
  pub joined-kept : {T E : Type 0} (result : Result T E) (old new : DataFile D g) → new ≡ old → (before from after : List Piece) → (is_held old before && meets old before) ≡ true
      → (is_held old from && meets old from) ≡ true → is_held new after ≡ true → OnOk result (KeepsSound before from after) → OnErr result (after ≡ before) → (is_held new after && meets new after) ≡ true
  joined-kept (Ok x) old new is before from after kept other held sound same =
      let first = and_parts (is_held old before) (meets old before) kept in
      let second = and_parts (is_held old from) (meets old from) other in
      let all : meets old after ≡ true =
      claim-map holds (are_right key (data_of old) before) (are_right key (data_of old) after)
      (λ up right. sound (is_right key (data_of old)) right (claim-to holds (are_right key (data_of old) from) up second.1)) first.1 in
      and_from _ _ held (ap (λ (file : DataFile D g). meets file after) is ∙ all)
  joined-kept (Err e) old new is before from after kept other held sound same =
      (λ i. is_held (is i) (same i) && meets (is i) (same i)) ∙ kept

  -- a body that a sync has made safe
  pub synced-safe : (old new : DataFile D g) → data_of new ≡ data_of old → (body : List Piece) → is_synced new body ≡ true → meets old body ≡ true → (is_synced new body && meets new body) ≡ true
  synced-safe old new same body synced met = and_from _ _ synced (ap (λ (file : List ℕ). not holds || are_right key file body) same ∙ met)

module _ {D C : Type 0} {g : Ghosts D} {c : claim.Ghosts C} where
  -- what a sync keeps
  pub keeps-synced : (old new : ClaimedFile D C g c) → KeepsBodies (body_bytes {D = D} {g = g}) (is_held {D = D} {g = g}) (is_synced {D = D} {g = g}) old.file new.file
      → data_of new.file ≡ data_of old.file
      → KeepsBodies (bytes_in {D = D} {C = C} {g = g} {c = c}) (is_kept {D = D} {C = C} {g = g} {c = c}) (is_safe {D = D} {C = C} {g = g} {c = c}) old new
  keeps-synced old new keeps contents = record {
    held = λ body kept. let both = and_parts (is_held old.file body) (meets_claim old body) kept in and_from _ _ (keeps.held body both.0) (met body both.1);
    same = λ body kept. keeps.same body (and_parts (is_held old.file body) (meets_claim old body) kept).0;
    still = λ body safe. let both = and_parts (is_synced old.file body) (meets_claim old body) safe in and_from _ _ (keeps.still body both.0) (met body both.1);
  }
    where
      met : (body : List Piece) → meets_claim old body ≡ true → meets_claim new body ≡ true
      met body is = ap (λ (file : List ℕ). not c.holds || are_right c.key file body) contents ∙ is

  pub keeps-claimed : (old new : ClaimedFile D C g c) → Keeps old.file new.file
      → KeepsBodies (bytes_in {D = D} {C = C} {g = g} {c = c}) (is_kept {D = D} {C = C} {g = g} {c = c}) (is_safe {D = D} {C = C} {g = g} {c = c}) old new
  keeps-claimed old new keeps = record {
    held = λ body kept. kept-still c.holds c.key old.file new.file keeps body kept;
    same = λ body kept. body-bytes _ _ _ keeps.blocks.same body (and_parts (is_held old.file body) (meets_claim old body) kept).0;
    still = λ body safe. safe-still c.holds c.key old.file new.file keeps body safe;
  }

  -- a copy has the same pieces
  pub copied : {E : Type 0} (it : ClaimedFile D C g c) (body : List Piece) (result : Result (List Piece) E) → is_kept it body ≡ true → IfOk result (λ copy. copy ≡ body)
      → IfOk result (IsCopy (bytes_in it) (is_kept it) body)
  copied it body (Ok copy) kept is = record { same = ap (bytes_in it) is; held = ap (is_kept it) is ∙ kept }
  copied it body (Err e) kept is = tt

  -- what the end of a sweep keeps
  pub keeps-marked : (old new : ClaimedFile D C g c)
      → ((body : List Piece) → is_marked old.file body ≡ true → is_held new.file body ≡ true)
      → ((body : List Piece) → is_marked old.file body ≡ true → body_bytes new.file body ≡ body_bytes old.file body)
      → ((body : List Piece) → is_marked old.file body ≡ true → is_synced old.file body ≡ true → is_synced new.file body ≡ true)
      → ((key : ℕ) (body : List Piece) → is_marked old.file body ≡ true → are_right key (data_of old.file) body ≡ true → are_right key (data_of new.file) body ≡ true)
      → KeepsMarked (bytes_in {D = D} {C = C} {g = g} {c = c}) (is_kept {D = D} {C = C} {g = g} {c = c}) (is_safe {D = D} {C = C} {g = g} {c = c}) (is_spared {D = D} {C = C} {g = g} {c = c}) old new
  keeps-marked old new held same synced digests = record {
    held = λ body marked. and_from _ _ (held body (left body marked)) (meet body marked);
    same = λ body marked. same body (left body marked);
    still = λ body marked safe. and_from _ _ (synced body (left body marked) (and_parts (is_synced old.file body) (meets_claim old body) safe).0) (meet body marked);
  }
    where
      left : (body : List Piece) → is_spared old body ≡ true → is_marked old.file body ≡ true
      left body marked = (and_parts (is_marked old.file body) (meets_claim old body) marked).0

      meet : (body : List Piece) → is_spared old body ≡ true → meets_claim new body ≡ true
      meet body marked =
          claim-map c.holds (are_right c.key (data_of old.file) body) (are_right c.key (data_of new.file) body) (λ _ right. digests c.key body (left body marked) right)
          (and_parts (is_marked old.file body) (meets_claim old body) marked).1
