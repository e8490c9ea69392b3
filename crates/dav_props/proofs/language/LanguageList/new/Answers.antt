use Rattle.dav_props.proofs.LanguageLemmas.{accepts-new}
use Rattle.dav_props.proofs.language.LanguageList.new.Goals as goal

pub returns : goal.returns
returns c = accepts-new
