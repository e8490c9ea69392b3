-- What the calls on numbered resources change: this project's own choice.
use Rattle.std.specs.Prelude.{◌≡◌, ℕ, Bool, Result, Some, None, Vec, IfOk, OnOk, length}
use Rattle.std.specs.declared.alloc.Global.{Global}
use Rattle.std.specs.FinMap.{get, insert}
use Rattle.dav_key.specs.Key.{Key}
use Rattle.dav_store.specs.Calls.{Reading, bytes_at, bytes_from}
use Rattle.dav_tree.specs.Memory.{Stored, change_at, copy_of}
use Rattle.dav_tree.specs.Kept.{Kept, held_of, Has, IsAt}

-- the resources and the bodies are as before
abbrev pub IsUnchanged : Kept → Kept → Type 0
IsUnchanged old new = Has old.resources (held_of old) new

-- the resource with this number is changed, and nothing else
abbrev pub IsChangedAt : ℕ → (Stored → Stored) → Kept → Kept → Type 0
IsChangedAt number change old new =
    (key : Key) → get old.numbers key ≡ Some number → Has (change_at key change old.resources) (held_of old) new

module _ {A E : Type 0} (answer : Result A E) where
  -- the same after a success
  abbrev pub ChangesAt : ℕ → (Stored → Stored) → Kept → Kept → Type 0
  ChangesAt number change old new =
      (key : Key) → get old.numbers key ≡ Some number → OnOk answer (Has (change_at key change old.resources) (held_of old) new)

  -- after a success the second resource has been replaced by a copy of the first
  abbrev pub CopiesOver : ℕ → ℕ → ℕ → ℕ → Kept → Kept → Type 0
  CopiesOver from to version now old new =
      (k key : Key) (s t : Stored) → IsAt old k from s → IsAt old key to t → OnOk answer (Has (insert old.resources key (copy_of (Some t) version now s)) (held_of old) new)

  -- after a success there is a copy of the resource at a key
  abbrev pub CopiesTo : ℕ → Key → ℕ → ℕ → Kept → Kept → Type 0
  CopiesTo from to version now old new =
      (key : Key) (s : Stored) → IsAt old key from s → OnOk answer (Has (insert old.resources to (copy_of (get old.resources to) version now s)) (held_of old) new)

  -- the same, where there was no resource
  abbrev pub CopiesNew : ℕ → Key → ℕ → ℕ → Kept → Kept → Type 0
  CopiesNew from to version now old new =
      (key : Key) (s : Stored) → IsAt old key from s → OnOk answer (Has (insert old.resources to (copy_of None version now s)) (held_of old) new)

module _ {E : Type 0} (answer : Result (Vec ℕ Global) E) where
  -- what is said of the bytes that are read of the file with a number
  abbrev pub ReadsFrom : (Bool → Reading) → ℕ → ℕ → ℕ → Kept → Kept → Type 0
  ReadsFrom Says number place count old new =
      (key : Key) (s : Stored) → IsAt old key number s → IfOk answer (λ found. Says new.honest (bytes_at (Some s.node)) place count found.items)

  -- how many bytes are read
  abbrev pub ReadsCount : ℕ → ℕ → ℕ → Kept → Type 0
  ReadsCount number place count old =
      (key : Key) (s : Stored) → IsAt old key number s → IfOk answer (λ found. length found.items ≡ length (bytes_from place count (bytes_at (Some s.node))))
