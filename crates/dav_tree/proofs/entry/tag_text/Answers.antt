use Rattle.std.proofs.Common.{◌≡◌, ◌∙◌, ◌/◌, ◌%◌, ◌^◌, ◌++◌, codes, string_bytes, IfOk}
use Rattle.dav_tree.specs.Memory.{hexadecimal}
use Rattle.dav_tree.proofs.Padding.{in_hole, tag_joined, then_ok}
use Rattle.dav_tree.proofs.entry.tag_text.Goals as goal

pub returns : goal.returns
returns c =
    let part = c.in-Some.part in
    let ok : IfOk c.format-2.result (λ text. string_bytes text ≡ in_hole (part / 2 ^ 64) ++ (in_hole (part % 2 ^ 64) ++ (codes "-" ++ hexadecimal c.args.version))) =
    rw (c.in_radix-2.ensures, c.in_radix-3.ensures, c.in_radix-4.ensures, c.laid_out.ensures, c.laid_out-2.ensures) at c.format-2.ensures.ok in
    then_ok c.format-2.result (λ text is. is ∙ tag_joined c.args.part part c.args.version c.in-Some.is) ok
