-- How reads of parts make a read of the whole.
use Rattle.std.proofs.Common.{◌≡◌, ℕ, zero, suc, ◌<◌, ◌≤◌, Bool, true, false, refl, sym, subst, List, [], ◌∷◌, length, slice_index, None, arith, Result, Ok, Err, IsErrAnd}
use Rattle.std.specs.Str.{IsUtf8, is_utf8}
use Rattle.std.proofs.lemmas.Str.{IsUtf8-from_is_utf8}
use Rattle.std.proofs.lemmas.Bool.{and_right, lt-ltb}
use Rattle.dav_wire.specs.Codec.{Codec}
use Rattle.dav_wire.specs.Parts.{is_byte, starts_with_bytes}
use Rattle.dav_wire.specs.Reads.{Reads, ReadsAllocating, Fails, FailsAllocating}
use Rattle.dav_wire.specs.declared.error.WireError.{WireError}
use Rattle.dav_wire.specs.declared.error.WireError.TheVariants.{Malformed, Memory}

-- ---- failures

pub fails_because : {A B : Type 0} (a : Codec A) (b : Codec B) (old new : List ℕ) (e : WireError) → (a.parse old ≡ None → b.parse new ≡ None) → Fails a old e → Fails b new e
fails_because a b old new Malformed then_none h = then_none h
fails_because a b old new Memory then_none h = h

pub fails_allocating : {A B : Type 0} (a : Codec A) (b : Codec B) (old new : List ℕ) (e : WireError) → (a.parse old ≡ None → b.parse new ≡ None) → Fails a old e → FailsAllocating b new e
fails_allocating a b old new Malformed then_none h = then_none h
fails_allocating a b old new Memory then_none h = absurd h

pub fails_allocating_because : {A B : Type 0} (a : Codec A) (b : Codec B) (old new : List ℕ) (e : WireError) → (a.parse old ≡ None → b.parse new ≡ None) → FailsAllocating a old e → FailsAllocating b new e
fails_allocating_because a b old new Malformed then_none h = then_none h
fails_allocating_because a b old new Memory then_none h = tt

-- ---- numbers

pub starts_short : (n : ℕ) (bytes : List ℕ) → length bytes < n → starts_with_bytes n bytes ≡ false
starts_short zero bytes h = absurd (omega arith)
starts_short (suc n) [] h = refl
starts_short (suc n) (b ∷ bytes) h = and_right (is_byte b) (starts_with_bytes n bytes) (starts_short n bytes (omega arith))

-- ---- exits

pub exit : {A B : Type 0} (a : Codec A) (value : B → A) (old new : List ℕ) (r : Result B WireError) (e : WireError) → IsErrAnd r (λ y. y ≡ e) → Fails a old e → Reads a value old r new
exit a value old new (Ok x) e gives h = absurd gives
exit a value old new (Err y) e gives h = subst (λ z. Fails a old z) (sym gives) h

pub exit_allocating : {A B : Type 0} (a : Codec A) (value : B → A) (old new : List ℕ) (r : Result B WireError) (e : WireError) → IsErrAnd r (λ y. y ≡ e) → FailsAllocating a old e → ReadsAllocating a value old r new
exit_allocating a value old new (Ok x) e gives h = absurd gives
exit_allocating a value old new (Err y) e gives h = subst (λ z. FailsAllocating a old z) (sym gives) h

-- a failed read of a part fails the whole, if the whole cannot be parsed without the part
pub stops : {A B C : Type 0} (a : Codec A) (b : Codec C) (value : B → C) (old mid new : List ℕ) (r : Result B WireError) (e : WireError) → IsErrAnd r (λ y. y ≡ e) → (a.parse mid ≡ None → b.parse old ≡ None) → Fails a mid e → Reads b value old r new
stops a b value old mid new r e gives then_none h = exit b value old new r e gives (fails_because a b mid old e then_none h)

pub stops_allocating : {A B C : Type 0} (a : Codec A) (b : Codec C) (value : B → C) (old mid new : List ℕ) (r : Result B WireError) (e : WireError) → IsErrAnd r (λ y. y ≡ e) → (a.parse mid ≡ None → b.parse old ≡ None) → FailsAllocating a mid e → ReadsAllocating b value old r new
stops_allocating a b value old mid new r e gives then_none h =
    exit_allocating b value old new r e gives (fails_allocating_because a b mid old e then_none h)

pub may_allocate : {A : Type 0} (a : Codec A) (old : List ℕ) (e : WireError) → Fails a old e → FailsAllocating a old e
may_allocate a old e h = fails_allocating a a old old e (λ none. none) h

-- ---- strings

neither : (bs : List ℕ) (b : Bool) → is_utf8 bs ≡ b → (IsUtf8 bs → ⊥) → b ≡ false
neither bs true is not_text = absurd (not_text (IsUtf8-from_is_utf8 bs is))
neither bs false is not_text = refl

pub is_utf8-of_other : (bs : List ℕ) → (IsUtf8 bs → ⊥) → is_utf8 bs ≡ false
is_utf8-of_other bs not_text = neither bs (is_utf8 bs) refl not_text

-- ---- a number of 8 bytes

pub starts_eight : (bytes : List ℕ) → 8 ≤ length bytes → slice_index bytes 0 < 256 → slice_index bytes 1 < 256 → slice_index bytes 2 < 256 → slice_index bytes 3 < 256 → slice_index bytes 4 < 256 → slice_index bytes 5 < 256 → slice_index bytes 6 < 256 → slice_index bytes 7 < 256 → starts_with_bytes 8 bytes ≡ true
starts_eight (a ∷ b ∷ c ∷ d ∷ e ∷ f ∷ g ∷ h ∷ bytes) len b0 b1 b2 b3 b4 b5 b6 b7 =
    rw (lt-ltb a 256 b0, lt-ltb b 256 b1, lt-ltb c 256 b2, lt-ltb d 256 b3, lt-ltb e 256 b4, lt-ltb f 256 b5, lt-ltb g 256 b6, lt-ltb h 256 b7) refl
starts_eight bytes len b0 b1 b2 b3 b4 b5 b6 b7 = absurd (omega arith)
