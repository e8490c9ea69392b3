-- Why an encoding or a decoding fails.
use Rattle.std.proofs.Common.{◌≡◌, ℕ, List, [], ◌∷◌, None, Some, refl, Result, Ok, Err, IfErr, IsErrAnd, subst, sym}
use Rattle.dav_wire.specs.Codec.{Codec, decode, whole}
use Rattle.dav_wire.specs.Reads.{FailsAllocating}
use Rattle.dav_wire.specs.declared.error.WireError.{WireError}
use Rattle.dav_wire.specs.declared.error.WireError.TheVariants.{Malformed, Memory}
use Rattle.dav_cells.specs.declared.error.CellError.{CellError}
use Rattle.dav_cells.specs.Errors.{from_wire}
use Rattle.dav_cells.specs.Cells.{NotDecoded, Decodes}

-- a failed read of a part fails the cell, if the cell does not decode without the part
pub part_not_decoded :
    {A B : Type 0} (a : Codec A) (b : Codec B) (mid bytes : List ℕ) (e : WireError)
    → (a.parse mid ≡ None → decode b bytes ≡ None) → FailsAllocating a mid e → NotDecoded b bytes (from_wire e)
part_not_decoded a b mid bytes Malformed then_none h = then_none h
part_not_decoded a b mid bytes Memory then_none h = tt

pub stops_decoding :
    {A B U : Type 0} (a : Codec A) (b : Codec B) (mid bytes : List ℕ) (r : Result U CellError) (e : WireError)
    → IsErrAnd r (λ y. y ≡ from_wire e) → (a.parse mid ≡ None → decode b bytes ≡ None) → FailsAllocating a mid e → IfErr r (NotDecoded b bytes)
stops_decoding a b mid bytes (Ok u) e gives then_none h = absurd gives
stops_decoding a b mid bytes (Err y) e gives then_none h =
    subst (λ z. NotDecoded b bytes z) (sym gives) (part_not_decoded a b mid bytes e then_none h)

pub exit_decoding :
    {A B : Type 0} (a : Codec A) (b : Codec B) (mid bytes : List ℕ) (r : Result B CellError) (e : WireError)
    → IsErrAnd r (λ y. y ≡ from_wire e) → (a.parse mid ≡ None → decode b bytes ≡ None) → FailsAllocating a mid e → Decodes b bytes r
exit_decoding a b mid bytes (Ok x) e gives then_none h = absurd gives
exit_decoding a b mid bytes (Err y) e gives then_none h =
    subst (λ z. NotDecoded b bytes z) (sym gives) (part_not_decoded a b mid bytes e then_none h)

-- what bytes follow is no whole input
pub not_whole : {A : Type 0} (x : A) (rest : List ℕ) → (rest ≡ [] → ⊥) → whole (Some (x, rest)) ≡ None
not_whole x [] more = absurd (more refl)
not_whole x (b ∷ bs) more = refl
