use Rattle.std.proofs.Common.{◌≡◌, true}
use Rattle.std.specs.Cow.{cow_str_bytes}
use Rattle.std.specs.List.{list_all}
use Rattle.std.specs.Str.{is_utf8}
use Rattle.std.proofs.lemmas.Bool.{and_from}
use Rattle.std.proofs.lemmas.Str.{is_utf8-from_IsUtf8}
use Rattle.percent_encoding.specs.Percent.{percent_decode}
use Rattle.dav_resource.specs.PathText.{is_plain_byte}
use Rattle.dav_resource.proofs.LiteralLemmas.{literal}
use Rattle.dav_resource.proofs.SegmentLemmas.{All-bytes}
use Rattle.dav_resource.proofs.Utf8Lemmas.{is_utf8-converted}
use Rattle.dav_resource.proofs.path.read.decode_part.Goals as goal

pub returns-clause-text : goal.returns-clause-text
returns-clause-text c =
    let text = cow_str_bytes c.in_ok-text.text in
    let plain : list_all is_plain_byte text ≡ true = cc in
    record { text = and_from _ _ (is_utf8-converted (percent_decode c.args.part.now) text _ c.in_ok-text.ensures.value) plain; bytes = c.in_ok-text.ensures.bytes }

pub returns-then-is_literal-clause-value : goal.returns-then-is_literal-clause-value
returns-then-is_literal-clause-value c =
    let it = literal c.args.part.now cc in
    let text : is_utf8 c.args.part.now ≡ true = is_utf8-from_IsUtf8 _ c.utf8.part in
    rw (it.decoded, it.whole, text, it.plain)

pub returns-then-is_literal-clause-text : goal.returns-then-is_literal-clause-text
returns-then-is_literal-clause-text c =
    let it = literal c.args.part.now cc in
    record { text = and_from _ _ (is_utf8-from_IsUtf8 _ c.utf8.part) it.plain; bytes = All-bytes _ c.type_inv.part }
