use Rattle.std.proofs.Common.{◌∙◌, sym, ap, subst, get_or}
use Rattle.dav_key.specs.Flat.{segments_of}
use Rattle.dav_memls.specs.KeyText.{IsTextAbove}
use Rattle.dav_memls.proofs.KeyTexts.{text_above, none_above}
use Rattle.dav_memls.proofs.memory_locks.key_text.above.Goals as goal

pub returns-then-as_bytes-end-ne0 : goal.returns-then-as_bytes-end-ne0
returns-then-as_bytes-end-ne0 c = none_above c.args.text.now c.args.end c.requires.flat c.requires.end (λ e. c.if-as_bytes-end-ne0.true (ap (λ t. get_or t c.args.end 0) c.as_bytes.ensures.value ∙ e))

pub returns : goal.returns
returns c =
    subst (IsTextAbove (segments_of c.args.text.now) c.args.end) (sym c.split_at.ensures.front)
    (text_above c.args.text.now c.args.end c.requires.flat c.requires.end (sym (ap (λ t. get_or t c.args.end 0) c.as_bytes.ensures.value) ∙ c.if-as_bytes-end-ne0.false))
