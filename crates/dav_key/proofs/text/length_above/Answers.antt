use Rattle.std.proofs.Common.{◌∙◌, arith}
use Rattle.std.proofs.lemmas.Str.Pattern.{rfind_char}
use Rattle.dav_key.proofs.FlatLemmas.{last_nul}
use Rattle.dav_key.proofs.text.length_above.Goals as goal

pub returns : goal.returns
returns c =
    c.unwrap_or.ensures ∙ last_nul c.args.text.now c.rfind.result c.requires (rfind_char 0 c.args.text.now c.rfind.result c.rfind.ensures.cases (omega arith))
