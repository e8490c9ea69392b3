use Rattle.dav_script.proofs.OutlineLines.{IsCharBoundary-space}
use Rattle.dav_script.proofs.outline_line.split_word.Goals as goal

pub split_at-requires : goal.split_at-requires
split_at-requires c = rw (c.word_len.ensures.value, c.as_bytes.ensures.value) (IsCharBoundary-space c.args.text.now)
