use Rattle.std.proofs.Common.{◌++◌, ap, lit<, string_bytes}
use Rattle.dav_resource.specs.Escapes.{key_text_with}
use Rattle.dav_resource.proofs.EscapeLemmas.{key_text-next}
use Rattle.dav_resource.proofs.path.write.key_text.Goals as goal

pub loop-segment-preserved : goal.loop-segment-preserved
loop-segment-preserved c =
    let text = string_bytes c.loop-segment.text in
    let rest = ap (λ key. text ++ key_text_with c.args.escaped key) c.in-Some.ensures.steps in
    let written = key_text-next c.args.escaped text c.in-Some.segment.now c.next.new.self in
    record {
      can_next = tt;
      is_finite = tt;
      whole = rw (c.in_ok-append_to.ensures.ok, c.utf8_percent_encode.ensures.text, c.in_ok-push.ensures.bytes, c.in_ok-push.ensures.ascii (lit< tt), written, ← rest) c.loop-segment.invariant.whole;
    }
