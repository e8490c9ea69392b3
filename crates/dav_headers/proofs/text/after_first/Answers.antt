use Rattle.std.proofs.lemmas.Str.{IsCharBoundary-after_ascii}
use Rattle.dav_headers.proofs.TextLemmas.{some_first}
use Rattle.dav_headers.proofs.text.after_first.Goals as goal

pub range_from-requires : goal.range_from-requires
range_from-requires c =
    λ _. IsCharBoundary-after_ascii c.args.text.now 0 c.utf8.text (some_first c.args.text.now c.requires.some) c.requires.ascii
