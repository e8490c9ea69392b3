-- Texts that a header field may show.
use Rattle.std.proofs.Common.{◌≡◌, ℕ, true, List, [], ◌∷◌, ◌++◌, codes, arith, refl}
use Rattle.std.specs.List.{list_all}
use Rattle.std.proofs.lemmas.Bool.Decides.{nat_tests}
use Rattle.std.proofs.lemmas.List.Folds.{list_all-append}
use Rattle.std.proofs.lemmas.List.Sums.{AllPass-from_list_all}
use Rattle.http_header.specs.FieldValue.{IsFieldValue}
use Rattle.http_header.specs.Token.{is_value_byte}
use Rattle.dav_store.specs.Store.{IsTagText}
use Rattle.dav_engine.specs.PutReply.{quoted}

-- the bytes of a field value, as a test
abbrev IsShown : List ℕ → Type 0
IsShown text = list_all is_value_byte text ≡ true

join : (a b : List ℕ) → IsShown a → IsShown b → IsShown (a ++ b)
join a b first second = rw (list_all-append is_value_byte a b, first, second)

tag_text : (tag : List ℕ) → IsTagText tag → IsShown tag
tag_text [] h = refl
tag_text (b ∷ tag) h = grind (arith, nat_tests, tag_text tag)

-- an entity tag in its quotes
pub IsFieldValue-quoted : (tag : List ℕ) → IsTagText tag → IsFieldValue (quoted tag)
IsFieldValue-quoted tag h =
    AllPass-from_list_all is_value_byte (quoted tag)
    (join (codes "\"" ++ tag) (codes "\"") (join (codes "\"") tag refl (tag_text tag h)) refl)
