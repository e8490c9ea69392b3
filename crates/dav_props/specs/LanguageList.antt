-- The states of parsing a list of languages, and what each accepts next (RFC 9110, section 8.5).
use Rattle.std.specs.Prelude.{ℕ, Bool, List, ◌++◌, codes, replicate}
use Rattle.dav_props.specs.declared.language.LanguageList.{LanguageList}
use Rattle.dav_props.specs.declared.language.LanguageList.TheVariants.{Primary, Subtag, Behind, Unreadable}
use Rattle.dav_props.specs.Language.{is_language_list}

-- An example of an input that leads to this state. No list begins with a hyphen.
abbrev pub example : LanguageList → List ℕ
example (Primary count) = replicate count 97
example (Subtag count) = codes "a-" ++ replicate count 97
example Behind = codes "a "
example Unreadable = codes "-"

-- the input so far, followed by this text, is a list of languages
unfoldable pub accepts : LanguageList → List ℕ → Bool
accepts list text = is_language_list (example list ++ text)
