-- A log is judged at the frames that recovery takes, which are one number.
use Rattle.std.proofs.Common.{◌≡◌, ◌≢◌, ℕ, Bool, true, List, IsTrue, sym, ◌∙◌, subst, subst₂, inl, inr}
use Rattle.sqlite_wal.specs.Recovery.{Replays}
use Rattle.sqlite_wal.proofs.RecoveryLemmas.{replays_once}
use Rattle.dav_log.specs.Damage.{HasWrongHeader, NamesSize, LosesFrames, LosesCommits, IsDamaged}

loses_at : (log : List ℕ) (size taken : ℕ) → NamesSize log size → Replays size log taken → LosesCommits log → LosesFrames size log taken
loses_at log size taken names replays lost =
    let same_size : lost.page_size ≡ size = sym lost.names.named ∙ names.named in
    let replays' : Replays size log lost.taken = subst (λ (n : ℕ). Replays n log lost.taken) same_size lost.replays in
    subst₂ (λ (n k : ℕ). LosesFrames n log k) same_size (replays_once size log _ _ replays' replays) lost.loses

pub judged : (log : List ℕ) (size taken : ℕ) (wrong lost : Bool) → NamesSize log size → Replays size log taken → (IsTrue wrong → HasWrongHeader log) × (HasWrongHeader log → IsTrue wrong) → wrong ≢ true
    → (IsTrue lost → LosesFrames size log taken) × (LosesFrames size log taken → IsTrue lost) → (IsTrue lost → IsDamaged log) × (IsDamaged log → IsTrue lost)
judged log size taken wrong lost names replays header right loses = (
  λ yes'. inr (record { page_size = size; names = names; taken = taken; replays = replays; loses = loses.0 yes' }),
  λ damaged. elim damaged [
    | inl bad ↦ absurd (right (header.1 bad))
    | inr l ↦ loses.1 (loses_at log size taken names replays l)
  ],
)
