use Rattle.dav_memls.proofs.KeyTexts.{text_of}
use Rattle.dav_memls.proofs.memory_locks.key_text.of.Goals as goal

pub returns : goal.returns
returns c = text_of c.as_str.result.now c.key.result.now c.args.path.now.key c.as_str.ensures.text c.as_str.ensures.key c.key.ensures.value
