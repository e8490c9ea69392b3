-- Laws for other proofs: dialogues in another grouping.
use Rattle.std.proofs.Common.{◌≡◌, refl}
use Rattle.dav_messages.specs.Dialogue.{Dialogue, Asks, Refuses, Passed, ◌>>=◌}

pub bind_assoc : {A B C : Type 0} (first : Dialogue A) (then : A → Dialogue B) (last : B → Dialogue C) → first >>= then >>= last ≡ (first >>= λ a. then a >>= last)
unfolding ◌>>=◌
bind_assoc (Asks call next) then last = λ i. Asks call (λ outcome. bind_assoc (next outcome) then last i)
bind_assoc (Refuses answer) then last = refl
bind_assoc (Passed a) then last = refl

pub bind_same : {A B : Type 0} (first : Dialogue A) (then other : A → Dialogue B) → ((a : A) → then a ≡ other a) → (first >>= then) ≡ (first >>= other)
bind_same first then other same = λ i. first >>= λ a. same a i

pub bind_passed : {A B : Type 0} (first : Dialogue (A × B)) → (first >>= λ a. Passed (a.0, a.1)) ≡ first
unfolding ◌>>=◌
bind_passed (Asks call next) = λ i. Asks call (λ outcome. bind_passed (next outcome) i)
bind_passed (Refuses answer) = refl
bind_passed (Passed a) = refl
