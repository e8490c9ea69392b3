use Rattle.std.specs.Rc.{rc_str_bytes}
use Rattle.dav_memls.proofs.KeyTexts.{text_of}
use Rattle.dav_memls.proofs.memory_locks.key_text.shared.Goals as goal

pub returns : goal.returns
returns c = text_of (rc_str_bytes c.shared_text.result.now) c.key.result.now c.args.path.now.key c.shared_text.ensures.text c.shared_text.ensures.key c.key.ensures.value
