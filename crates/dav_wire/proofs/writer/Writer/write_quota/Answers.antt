use Rattle.std.proofs.Common.{refl, Some, [], ◌∷◌, true, ℕ, Option}
use Rattle.std.proofs.lemmas.Bool.{and_from}
use Rattle.dav_wire.specs.Combine.{pair}
use Rattle.dav_wire.specs.Numbers.{number}
use Rattle.dav_wire.specs.Values.{optional}
use Rattle.dav_wire.specs.Replies.{quota}
use Rattle.dav_wire.proofs.WriteLemmas.{writes_after, writes_as, writes_pair}
use Rattle.dav_wire.proofs.writer.Writer.write_quota.Goals as goal

pub returns-in_ok-write_number-in-Some : goal.returns-in_ok-write_number-in-Some
unfolding quota
returns-in_ok-write_number-in-Some c =
    let v : ℕ × Option ℕ = (c.in-Some.used, c.in-Some.total) in
    let written = writes_as (pair number (optional number)) quota v v c.write_u8.new.self c.write_optional_number.new.self c.write_optional_number.result (λ ok. ok) refl
    (writes_pair number (optional number) c.in-Some.used c.in-Some.total c.write_u8.new.self c.write_number.new.self c.write_optional_number.new.self c.write_optional_number.result
    c.in_ok-write_number-in-Some.ensures c.write_optional_number.ensures) in
    rw c.in-Some.is
    (writes_after quota (optional quota) v (Some v) c.args.self.now c.write_u8.new.self c.write_optional_number.new.self (1 ∷ []) c.write_optional_number.result
    c.in_ok-write_u8-in-Some.ensures.is (λ ok. and_from (quota.is_valid v) true ok refl) refl written)
