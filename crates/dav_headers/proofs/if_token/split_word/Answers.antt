use Rattle.dav_headers.proofs.TextLemmas.{IsCharBoundary-word}
use Rattle.dav_headers.proofs.if_token.split_word.Goals as goal

pub split_at-requires : goal.split_at-requires
split_at-requires c = rw (c.word_len.ensures.value, c.as_bytes.ensures.value) (IsCharBoundary-word c.args.text.now)
