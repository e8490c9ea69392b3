-- A file that has its length is shown as it is.
use Rattle.std.proofs.Common.{◌≡◌, ◌∙◌, ◌<◌, ◌-◌, ◌++◌, ℕ, List, length, take, sym, ap, ap₂, subst, arith, Result, Ok, Err, OnOk, IsTrue, append-nil}
use Rattle.std.proofs.Math.Seq.{take-length}
use Rattle.std.specs.Prelude.{Bool, replicate}
use Rattle.sqlite_disk.specs.Disk.{Holds}
use Rattle.disk_readonly.specs.Padded.{padded}

pub padded-whole : (len : ℕ) (bytes : List ℕ) → length bytes ≡ len → padded len bytes ≡ bytes
padded-whole len bytes same =
    let none : len - length bytes ≡ 0 = omega arith in
    ap₂ (λ xs n. xs ++ replicate n 0) (ap (λ n. take n bytes) (sym same) ∙ take-length bytes) none ∙ append-nil bytes

pub holds-whole : {T E : Type 0} (result : Result T E) (clean before : Bool) (len at n : ℕ) (file bytes : List ℕ) → (IsTrue clean → IsTrue before) → (IsTrue before → length file ≡ len)
    → OnOk result (IsTrue clean → 0 < n → Holds file at bytes) → OnOk result (IsTrue clean → 0 < n → Holds (padded len file) at bytes)
holds-whole (Ok x) clean before len at n file bytes falls long holds = λ is some. subst (λ f. Holds f at bytes) (sym (padded-whole len file (long (falls is)))) (holds is some)
holds-whole (Err e) clean before len at n file bytes falls long holds = tt
