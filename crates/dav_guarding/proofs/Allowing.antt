-- Logs whose records of calls that reveal something are allowed.
use Rattle.std.proofs.Common.{◌≡◌, Bool, true, false, sym, ap, subst, ◌⊎◌, inl, inr, List, [], ◌∷◌, ◌++◌, map}
use Rattle.std.specs.Prelude.{not, if◌then◌else◌}
use Rattle.dav_resource.specs.declared.record.Record.{Record}
use Rattle.dav_store.specs.Logged.{Logged, logged_of}
use Rattle.dav_store.specs.Members.{IsIn}
use Rattle.dav_guarding.specs.Policy.{Refusals, Reveals, AreAllowed}

within : (call : Logged) (before after : List Record) → IsIn call (map logged_of (before ++ after)) → IsIn call (map logged_of before) ⊎ IsIn call (map logged_of after)
within call [] after is = inr is
within call (r ∷ before) after (inl is) = inl (inl is)
within call (r ∷ before) after (inr is) = by_rest (within call before after is)
  where
    by_rest : IsIn call (map logged_of before) ⊎ IsIn call (map logged_of after) → IsIn call (map logged_of (r ∷ before)) ⊎ IsIn call (map logged_of after)
    by_rest (inl is) = inl (inr is)
    by_rest (inr is) = inr is

pub allowed-append : (refuses : Refusals) (before after : List Record) → AreAllowed refuses before → AreAllowed refuses after → AreAllowed refuses (before ++ after)
allowed-append refuses before after old more call is granted = by_part (within call before after is)
  where
    by_part : IsIn call (map logged_of before) ⊎ IsIn call (map logged_of after) → not (refuses call.op call.keys) ≡ true
    by_part (inl is) = old call is granted
    by_part (inr is) = more call is granted

-- a record of a call that reveals nothing
pub allowed-other : (refuses : Refusals) (r : Record) → (¬ (Reveals r.outcome)) → AreAllowed refuses (r ∷ [])
allowed-other refuses r other call (inl is) reveals = absurd (other (subst (λ (l : Logged). Reveals l.outcome) (sym is) reveals))
allowed-other refuses r other call (inr is) reveals = absurd is

-- a record of a call that is not refused
pub allowed-free : (refuses : Refusals) (r : Record) → refuses r.op (map (λ path. path.key) r.paths) ≡ false → AreAllowed refuses (r ∷ [])
allowed-free refuses r free call (inl is) granted =
    subst (λ (l : Logged). not (refuses l.op l.keys) ≡ true) is (ap not free)
allowed-free refuses r free call (inr is) granted = absurd is

-- a log to which records may have been added
pub allowed-appended : (refuses : Refusals) (ok : Bool) (old new more : List Record) → new ≡ if ok then old ++ more else old → AreAllowed refuses old → AreAllowed refuses more → AreAllowed refuses new
allowed-appended refuses ok old new more added all others = subst (AreAllowed refuses) (sym added) (by_room ok)
  where
    by_room : (b : Bool) → AreAllowed refuses (if b then old ++ more else old)
    by_room true = allowed-append refuses old more all others
    by_room false = all

-- one that had room before
pub allowed-pushed : (refuses : Refusals) (ok : Bool) (old room new : List Record) (r : Record) → room ≡ old → new ≡ if ok then room ++ r ∷ [] else room → AreAllowed refuses old → AreAllowed refuses (r ∷ []) → AreAllowed refuses new
allowed-pushed refuses ok old room new r same pushed all one = allowed-appended refuses ok room new (r ∷ []) pushed (subst (AreAllowed refuses) (sym same) all) one
