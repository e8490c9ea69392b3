-- What a guard lets pass, and records: this project's own choice.
use Rattle.std.specs.Prelude.{◌≡◌, ◌⊎◌, Bool, true, List, [], ◌∷◌, ◌++◌, map}
use Rattle.dav_resource.specs.PathText.{PathValue}
use Rattle.dav_resource.specs.declared.record.Op.{Op}
use Rattle.dav_resource.specs.declared.record.Outcome.TheVariants.{Refused}
use Rattle.dav_resource.specs.declared.record.Record.{Record}
use Rattle.dav_resource.specs.declared.error.FsError.{FsError}
use Rattle.dav_resource.specs.declared.error.FsError.TheVariants.{Memory, Forbidden}
use Rattle.dav_store.specs.Logged.{record_on}
use Rattle.dav_guarding.specs.declared.policy.Policy.{Ghosts}
use Rattle.dav_guarding.specs.declared.guard.Guard.{Guard}

module _ {P : Type 0} {g : Ghosts P} where
  abbrev pub policy_in : Guard P g → P
  policy_in guard = guard.policy

  -- the oldest first
  abbrev pub records_in : Guard P g → List Record
  records_in guard = guard.records.items

  -- a call of this kind on these paths is refused
  abbrev pub is_refused : Guard P g → Op → List PathValue → Bool
  is_refused guard op paths = g.refusals guard.policy op (map (λ path. path.key) paths)

  pub record IsKept (old new : Guard P g) : Type 0 where
    pub policy : policy_in new ≡ policy_in old
    pub records : records_in new ≡ records_in old

  -- the call is refused
  pub record Refuses (op : Op) (paths : List PathValue) (old new : Guard P g) : Type 0 where
    pub refused : is_refused old op paths ≡ true
    pub policy : policy_in new ≡ policy_in old
    pub records : records_in new ≡ records_in old ++ record_on op paths (Refused Forbidden) ∷ []

  -- the call is not passed on: it is refused, or memory runs out and nothing changes
  abbrev pub TurnsAway : Op → List PathValue → FsError → Guard P g → Guard P g → Type 0
  TurnsAway op paths e old new = ((e ≡ Memory) × IsKept old new) ⊎ ((e ≡ Forbidden) × Refuses op paths old new)
