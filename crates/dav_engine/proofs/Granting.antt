-- Which calls were granted.
use Rattle.std.proofs.Common.{◌≢◌, List, [], ◌∷◌, ◌++◌, ◌⊎◌, inl, inr, refl, ap}
use Rattle.dav_key.specs.Key.{Key}
use Rattle.dav_resource.specs.declared.record.Op.{Op}
use Rattle.dav_resource.specs.declared.record.Outcome.TheVariants as outcomes
use Rattle.dav_store.specs.Logged.{Logged, logged}
use Rattle.dav_messages.specs.Dialogue.{WasGranted}

-- a call that isn't granted is no granted one
pub not_granted : (op : Op) (key : Key) (r : Logged) → WasGranted op key (r ∷ []) → (r.outcome ≢ outcomes.Granted) → ⊥
not_granted op key r (inl e) other = other (ap (λ (l : Logged). l.outcome) e)
not_granted op key r (inr h) other = absurd h

-- nor is one of another op
pub not_this_op : (op : Op) (key : Key) (r : Logged) → WasGranted op key (r ∷ []) → (r.op ≢ op) → ⊥
not_this_op op key r (inl e) other = other (ap (λ (l : Logged). l.op) e)
not_this_op op key r (inr h) other = absurd h

module _ (op : Op) (key : Key) where
  -- among records before others, or among those
  pub WasGranted-first : (records more : List Logged) → WasGranted op key records → WasGranted op key (records ++ more)
  WasGranted-first [] more h = absurd h
  WasGranted-first (r ∷ records) more (inl e) = inl e
  WasGranted-first (r ∷ records) more (inr h) = inr (WasGranted-first records more h)

  -- the last of the records was granted
  pub WasGranted-last : (records : List Logged) → WasGranted op key (records ++ logged op (key ∷ []) outcomes.Granted ∷ [])
  WasGranted-last [] = inl refl
  WasGranted-last (r ∷ records) = inr (WasGranted-last records)

  pub WasGranted-either : (records more : List Logged) → WasGranted op key (records ++ more) → WasGranted op key records ⊎ WasGranted op key more
  WasGranted-either [] more h = inr h
  WasGranted-either (r ∷ records) more (inl e) = inl (inl e)
  WasGranted-either (r ∷ records) more (inr h) = further (WasGranted-either records more h)
    where
      further : WasGranted op key records ⊎ WasGranted op key more → WasGranted op key (r ∷ records) ⊎ WasGranted op key more
      further (inl g) = inl (inr g)
      further (inr g) = inr g
