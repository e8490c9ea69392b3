use Rattle.std.proofs.Common.{◌≡◌, ℕ, ◌<◌, List, [], ◌∷◌, ◌++◌, length, Some, None, refl, subst, append-nil, append_assoc, inr, arith}
use Rattle.std.proofs.lemmas.Grind.{common_steps}
use Rattle.dav_script.specs.Escape.{first_byte, StandsFor, IsFaulty}
use Rattle.dav_script.specs.Escape.StandsFor.{nothing, byte_then}
use Rattle.dav_script.specs.Escape.IsFaulty.{here, later}
use Rattle.dav_script.proofs.directive.unescape.Goals as goal

-- where what is not empty stands for no byte
faulty_here : (text : List ℕ) → 0 < length text → first_byte text ≡ None → IsFaulty text
faulty_here [] some e = absurd (omega arith)
faulty_here (letter ∷ rest) some e = here refl e

-- where nothing is left
stands_whole : (rest text bytes : List ℕ) → length rest ≡ 0 → ((more : List ℕ) → StandsFor rest more → StandsFor text (bytes ++ more)) → StandsFor text bytes
stands_whole [] text bytes e h = subst (StandsFor text) (append-nil bytes) (h [] nothing)
stands_whole (letter ∷ rest) text bytes e h = absurd (omega arith)

pub returns-in_default-clause-err : goal.returns-in_default-clause-err
returns-in_default-clause-err c =
    let e : first_byte c.loop-rest.rest.now ≡ None = grind (arith, common_steps) in
    let some : 0 < length c.loop-rest.rest.now = grind (arith, common_steps) in
    inr (refl, c.loop-rest.invariant.faulty (faulty_here c.loop-rest.rest.now some e))

pub loop-rest-preserved : goal.loop-rest-preserved
loop-rest-preserved c =
    let e : first_byte c.loop-rest.rest.now ≡ Some (c.in-Some.byte, c.in-Some.tail.now) = grind (arith, common_steps) in
    let pushed : c.push.new.self.items ≡ c.loop-rest.bytes.items ++ c.in-Some.byte ∷ [] = grind (arith, common_steps) in
    record {
      stands = λ more s. rw pushed (rw (append_assoc c.loop-rest.bytes.items (c.in-Some.byte ∷ []) more) (c.loop-rest.invariant.stands (c.in-Some.byte ∷ more) (byte_then e s)));
      faulty = λ f. c.loop-rest.invariant.faulty (later e f);
    }

pub returns-clause-ok : goal.returns-clause-ok
returns-clause-ok c = stands_whole c.loop-rest.rest.now c.args.text.now c.loop-rest.bytes.items (grind (arith, common_steps)) c.loop-rest.invariant.stands
