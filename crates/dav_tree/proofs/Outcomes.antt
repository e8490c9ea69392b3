-- From the outcome of one call to that of another.
use Rattle.std.specs.Prelude.{◌⊎◌, Option, Some, None, IfSome, Result, Ok, Err, IfOk, IfErr, OnOk, OnErr}
use Rattle.std.proofs.Common.{inl, inr}

pub ok_then : {A E : Type 0} {P Q : A → Type 0} (answer : Result A E) → ((a : A) → P a → Q a) → IfOk answer P → IfOk answer Q
ok_then (Ok a) f h = f a h
ok_then (Err e) f h = tt

pub err_then : {A E : Type 0} {P Q : E → Type 0} (answer : Result A E) → ((e : E) → P e → Q e) → IfErr answer P → IfErr answer Q
err_then (Ok a) f h = tt
err_then (Err e) f h = f e h

pub on_ok_then : {A E : Type 0} {P Q : Type 0} (answer : Result A E) → (P → Q) → OnOk answer P → OnOk answer Q
on_ok_then (Ok a) f h = f h
on_ok_then (Err e) f h = tt

pub on_err_then : {A E : Type 0} {P Q : Type 0} (answer : Result A E) → (P → Q) → OnErr answer P → OnErr answer Q
on_err_then (Ok a) f h = tt
on_err_then (Err e) f h = f h

-- what holds after a success and after an error
pub either_way : {A E : Type 0} {P Q R : Type 0} (answer : Result A E) → (P → R) → (Q → R) → OnOk answer P → OnErr answer Q → R
either_way (Ok a) f g p q = f p
either_way (Err e) f g p q = g q

pub on_ok : {A E : Type 0} {P : Type 0} (answer : Result A E) → P → OnOk answer P
on_ok (Ok a) p = p
on_ok (Err e) p = tt

pub on_err : {A E : Type 0} {P : Type 0} (answer : Result A E) → P → OnErr answer P
on_err (Ok a) p = tt
on_err (Err e) p = p

pub some_then : {A : Type 0} {P Q : A → Type 0} (found : Option A) → ((a : A) → P a → Q a) → IfSome found P → IfSome found Q
some_then None f h = tt
some_then (Some a) f h = f a h

-- one of three, the first or the last, from one of two
pub or_right : {A B C : Type 0} → A ⊎ C → A ⊎ (B ⊎ C)
or_right (inl a) = inl a
or_right (inr c) = inr (inr c)
