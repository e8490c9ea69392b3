-- What the calls of a store make of what is kept, and what they answer.
use Rattle.std.proofs.Common.{◌≡◌, ◌∙◌, ℕ, ◌+◌, ◌<◌, ◌^◌, if◌then◌else◌, arith, Bool, true, false, Option, Some, None, Result, Ok, Err, refl, sym, ap, subst, inl, inr, ◌⊎◌}
use Rattle.std.specs.Prelude.{OnOk, OnErr, IfErr, IfOk}
use Rattle.std.specs.Result.{IsErrAnd}
use Rattle.std.proofs.lemmas.Result.{err_from_is_err_and}
use Rattle.dav_key.specs.Key.{Key}
use Rattle.dav_resource.specs.declared.error.FsError.{FsError}
use Rattle.dav_resource.specs.declared.error.FsError.TheVariants as errors
use Rattle.dav_tree.specs.Bodies.{FailsFor}
use Rattle.dav_tree.specs.Memory.{Resources, Held, Memory, IsSound}
use Rattle.dav_tree.specs.MemoryCalls.{IsDue, YieldsOver}
use Rattle.dav_key.specs.Below.{IsMoved}
use Rattle.dav_tree.specs.Kept.{Kept, held_of, Has, HasMoved}

-- ---- answers

due-any : (own : Bool) (error : Option FsError) (e : FsError) → error ≡ Some e → IsDue own error e
due-any true error e is = tt
due-any false error e is = is

due-own : (own : Bool) (error : Option FsError) (e : FsError) → own ≡ true → IsDue own error e
due-own true error e is = tt
due-own false error e is = absurd cc

own_or_memory : (refuses : FsError → Bool) (error : Option FsError) (e : FsError) → FailsFor refuses e → (e ≡ errors.Memory) ⊎ IsDue (refuses e) error e
own_or_memory refuses error e (inl memory) = inl memory
own_or_memory refuses error e (inr own) = inr (due-own (refuses e) error e own)

module _ {A : Type 0} (refuses : FsError → Bool) (error : Option FsError) (Becomes : Memory → Memory → Type 0) (old new : Memory) where
  pub over-ok : (a : A) → error ≡ None → Becomes old new → YieldsOver refuses error Becomes old (Ok a) new
  over-ok a none becomes = record { granted = (none, becomes); declined = tt }

  pub over-err : (e : FsError) → error ≡ Some e → new ≡ old → YieldsOver {A = A} refuses error Becomes old (Err e) new
  over-err e is same = record { granted = tt; declined = (same, inr (due-any (refuses e) error e is)) }

  pub over-fail : (e : FsError) → FailsFor refuses e → new ≡ old → YieldsOver {A = A} refuses error Becomes old (Err e) new
  over-fail e fails same = record { granted = tt; declined = (same, own_or_memory refuses error e fails) }

  pub over-memory : (e : FsError) → e ≡ errors.Memory → new ≡ old → YieldsOver {A = A} refuses error Becomes old (Err e) new
  over-memory e memory same = record { granted = tt; declined = (same, inl memory) }

  -- by the exit of a `?`
  pub over-exit : (e : FsError) (answer : Result A FsError) → IsErrAnd answer (λ d. d ≡ e) → error ≡ Some e → new ≡ old → YieldsOver refuses error Becomes old answer new
  over-exit e answer is due same = let p = err_from_is_err_and answer is in rw (p.1, p.2) (over-err e due same)

  pub over-fail-exit : (e : FsError) (answer : Result A FsError) → IsErrAnd answer (λ d. d ≡ e) → FailsFor refuses e → new ≡ old → YieldsOver refuses error Becomes old answer new
  over-fail-exit e answer is fails same = let p = err_from_is_err_and answer is in rw (p.1, p.2) (over-fail e fails same)

  pub over-memory-exit : (e : FsError) (answer : Result A FsError) → IsErrAnd answer (λ d. d ≡ e) → e ≡ errors.Memory → new ≡ old → YieldsOver refuses error Becomes old answer new
  over-memory-exit e answer is memory same = let p = err_from_is_err_and answer is in rw (p.1, p.2) (over-memory e memory same)

-- what becomes of what is held, if nothing is due
pub over-either : {A : Type 0} (refuses : FsError → Bool) (error : Option FsError) (Becomes : Memory → Memory → Type 0) (old new : Memory) (answer : Result A FsError) → error ≡ None
    → OnOk answer (Becomes old new) → OnErr answer (new ≡ old) → IfErr answer (FailsFor refuses) → YieldsOver refuses error Becomes old answer new
over-either refuses error Becomes old new (Ok a) none becomes same fails = over-ok refuses error Becomes old new a none becomes
over-either refuses error Becomes old new (Err e) none becomes same fails = over-fail refuses error Becomes old new e fails same

pub both-ways : {A : Type 0} {P : Type 0} (answer : Result A FsError) → P → OnOk answer P × OnErr answer P
both-ways (Ok a) p = (p, tt)
both-ways (Err e) p = (tt, p)

pub both_ok : {A : Type 0} (P Q : A → Type 0) (answer : Result A FsError) → IfOk answer P → IfOk answer Q → IfOk answer (λ a. P a × Q a)
both_ok P Q (Ok a) p q = (p, q)
both_ok P Q (Err e) p q = tt

-- a write that fits
pub fits : (append : Bool) (pos size place len : ℕ) → place ≡ (if append then size else pos) → (append ≡ true → place < 2 ^ 63) → (append ≡ false → pos + len < 2 ^ 64) → len < 2 ^ 63 → place + len < 2 ^ 64
fits true pos size place len is small room short = let below = small refl in omega arith
fits false pos size place len is small room short = let below = room refl in omega arith

-- ---- what is kept, in memory

abbrev pub memory_by : Kept → ℕ → ℕ → Option (Option ℕ) → Option ℕ → Bool → Memory
memory_by kept version moment limit part marks =
    record { resources = kept.resources; version = version; moment = moment; limit = limit; tag_part = part; marks = marks; held = held_of kept }

module _ (version moment : ℕ) (limit : Option (Option ℕ)) (part : Option ℕ) (marks : Bool) where
  -- nothing has changed
  pub memory-same : (e0 e1 : Kept) → e1 ≡ e0 → memory_by e1 version moment limit part marks ≡ memory_by e0 version moment limit part marks
  memory-same e0 e1 same = ap (λ (k : Kept). memory_by k version moment limit part marks) same

  pub memory-has : (e : Kept) (resources : Resources) (held : Held) → Has resources held e → memory_by e version moment limit part marks ≡ record { resources = resources; version = version; moment = moment; limit = limit; tag_part = part; marks = marks; held = held }
  memory-has e resources held has = λ i. record { resources = has.resources_are i; version = version; moment = moment; limit = limit; tag_part = part; marks = marks; held = has.held_are i }

  -- after a lookup, and a change of the resources
  pub memory-changed : (e0 e1 e2 : Kept) (change : Resources → Resources) → e1 ≡ e0 → Has (change e1.resources) (held_of e1) e2
      → memory_by e2 version moment limit part marks ≡ record { resources = change e0.resources; version = version; moment = moment; limit = limit; tag_part = part; marks = marks; held = held_of e0 }
  memory-changed e0 e1 e2 change same has = memory-has e2 (change e1.resources) (held_of e1) has
      ∙ ap (λ (k : Kept). record { resources = change k.resources; version = version; moment = moment; limit = limit; tag_part = part; marks = marks; held = held_of k }) same

  -- after a lookup, and a call that has changed nothing
  pub memory-unchanged : (e0 e1 e2 : Kept) → e1 ≡ e0 → Has e1.resources (held_of e1) e2 → memory_by e2 version moment limit part marks ≡ memory_by e0 version moment limit part marks
  memory-unchanged e0 e1 e2 same has = memory-changed e0 e1 e2 (λ resources. resources) same has

pub has-same : (e1 e2 : Kept) → e2 ≡ e1 → Has e1.resources (held_of e1) e2
has-same e1 e2 same = record { resources_are = ap (λ (k : Kept). k.resources) same; held_are = ap held_of same }

-- ---- what is kept stays sound

module _ (e0 e1 e2 : Kept) (same : e1 ≡ e0) (sound : IsSound e0.resources) where
  pub sound-unchanged : Has e1.resources (held_of e1) e2 → IsSound e2.resources
  sound-unchanged has = subst IsSound (sym (has.resources_are ∙ ap (λ (k : Kept). k.resources) same)) sound

  module _ (change : Resources → Resources) (make : (new : Resources) → new ≡ change e0.resources → IsSound new) where
    pub sound-changed : Has (change e1.resources) (held_of e1) e2 → IsSound e2.resources
    sound-changed has = make e2.resources (has.resources_are ∙ ap (λ (k : Kept). change k.resources) same)

    -- changed, or as before after an error
    pub sound-either-way : {A E : Type 0} (answer : Result A E) → OnOk answer (Has (change e1.resources) (held_of e1) e2) → OnErr answer (Has e1.resources (held_of e1) e2) → IsSound e2.resources
    sound-either-way (Ok a) ok err = sound-changed ok
    sound-either-way (Err e) ok err = sound-unchanged err

    pub sound-either-same : {A E : Type 0} (answer : Result A E) → OnOk answer (Has (change e1.resources) (held_of e1) e2) → OnErr answer (e2 ≡ e1) → IsSound e2.resources
    sound-either-same (Ok a) ok err = sound-changed ok
    sound-either-same (Err e) ok err = sound-unchanged (has-same e1 e2 err)

-- what is moved, or as before after an error
pub sound-moved : {A E : Type 0} (answer : Result A E) (from to : Key) (e0 e1 e2 : Kept) → e1 ≡ e0 → IsSound e0.resources → OnOk answer (HasMoved from to e1 e2) → OnErr answer (e2 ≡ e1)
    → (IsMoved from to e0.resources e2.resources → IsSound e2.resources) → IsSound e2.resources
sound-moved (Ok a) from to e0 e1 e2 same sound ok err make = make (subst (λ (k : Kept). IsMoved from to k.resources e2.resources) same ok.resources_are)
sound-moved (Err e) from to e0 e1 e2 same sound ok err make = sound-unchanged e0 e1 e2 same sound (has-same e1 e2 err)
