use Rattle.std.proofs.Common.{◌≡◌, ◌≢◌, ◌++◌, Some, None, option_and_then, arith}
use Rattle.std.proofs.lemmas.Grind.{common_steps}
use Rattle.std.specs.Prelude.{encode_utf8}
use Rattle.std.specs.Str.Iter.{chars_rest}
use Rattle.dav_script.specs.Outline.{escaped_letter, quoted}
use Rattle.dav_script.proofs.OutlineLines.{read_nothing, read_letter, read_escape, read_no_escape}
use Rattle.dav_script.proofs.outline_line.read_quoted.Goals as goal

pub loop-letter-init : goal.loop-letter-init
loop-letter-init c = record { can_next = tt; is_finite = tt; read = read_nothing _ _ _ c.new-value.ensures.bytes c.chars-letters.ensures.rest }

pub loop-letter-preserved-in_ok-push-in-92 : goal.loop-letter-preserved-in_ok-push-in-92
loop-letter-preserved-in_ok-push-in-92 c =
    let at : chars_rest c.loop-letter.letters ≡ encode_utf8 92 ++ chars_rest c.next.new.self = rw c.in-92.is at c.in-Some.ensures.steps.0 in
    let letter : option_and_then escaped_letter c.next-in-92.result ≡ Some c.in_ok-ok_or-in-92.field-0 = grind (arith, common_steps) in
    record {
      can_next = tt;
      is_finite = tt;
      read = read_escape (c.next-in-92.new.self ≡ c.next.new.self) _ _ _ _ _ _ c.next-in-92.result _ c.loop-letter.invariant.read at c.next-in-92.ensures.steps.0 letter c.in_ok-push-in-92.ensures.bytes;
    }

pub loop-letter-preserved : goal.loop-letter-preserved
loop-letter-preserved c =
    let no_quote : c.in-Some.letter ≢ 34 = grind (arith, common_steps) in
    let no_escape : c.in-Some.letter ≢ 92 = grind (arith, common_steps) in
    record {
      can_next = tt;
      is_finite = tt;
      read = read_letter _ _ _ _ _ _ c.loop-letter.invariant.read c.in-Some.ensures.steps.0 no_quote no_escape c.in_ok-push-in_default-letter.ensures.bytes;
    }

pub returns-in_err-ok_or-in-92-clause-found : goal.returns-in_err-ok_or-in-92-clause-found
returns-in_err-ok_or-in-92-clause-found c =
    let at : chars_rest c.loop-letter.letters ≡ encode_utf8 92 ++ chars_rest c.next.new.self = rw c.in-92.is at c.in-Some.ensures.steps.0 in
    let none : option_and_then escaped_letter c.next-in-92.result ≡ None = grind (arith, common_steps) in
    let is : quoted c.args.text.now ≡ None = read_no_escape (c.next-in-92.new.self ≡ c.next.new.self) _ _ _ _ _ c.next-in-92.result c.loop-letter.invariant.read at c.next-in-92.ensures.steps.0 none in
    grind (arith, common_steps)
