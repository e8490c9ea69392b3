-- The header If as a grammar (RFC 4918, section 10.4.2), independent of its parser: which strings spell which lists of conditions.
use Rattle.std.specs.Prelude.{◌≡◌, ◌≢◌, ℕ, Bool, true, false, List, [], ◌∷◌, ◌++◌, codes, Option, Some, None}
use Rattle.http_header.specs.HeaderMap.{Entries}
use Rattle.http_header.specs.FieldValue.{FieldValue}
use Rattle.dav_resource.specs.declared.etag.ETag.{ETag}
use Rattle.dav_headers.specs.Values.{first_text, is_blank, is_word}
use Rattle.dav_headers.specs.IfToken.{is_word_byte}
use Rattle.dav_headers.specs.TagGrammar.{Lacks, Passes, TagAt}
use Rattle.dav_headers.specs.declared.if_token.IfToken.{IfToken}
use Rattle.dav_headers.specs.declared.if_token.IfToken.TheVariants.{Open, Close, Not, Angle, Bracket, Word}
use Rattle.dav_headers.specs.declared.if_header.IfItem.{IfItem}
use Rattle.dav_headers.specs.declared.if_header.IfItem.TheVariants as item
use Rattle.dav_headers.specs.declared.if_header.IfCondition.{IfCondition}
use Rattle.dav_headers.specs.declared.if_header.IfList.{IfList}

-- ---- tokens

-- the bytes are empty, or the first of them does not pass the test
abbrev pub StopsAt : (ℕ → Bool) → List ℕ → Type 0
StopsAt p [] = Unit {0}
StopsAt p (b ∷ bs) = p b ≡ false

-- the bytes are `text` followed by `rest`, and `text` is their longest run of word bytes, which is not empty
pub record IsRun (bytes text rest : List ℕ) : Type 0 where
  pub whole : bytes ≡ text ++ rest
  pub some : text ≢ []
  pub passes : Passes is_word_byte text
  pub stops : StopsAt is_word_byte rest

-- the bytes are this token, followed by these bytes
pub data TokenAt : List ℕ → IfToken → List ℕ → Type 0 where
  opens : (bytes rest : List ℕ) → bytes ≡ 40 ∷ rest → TokenAt bytes Open rest
  closes : (bytes rest : List ℕ) → bytes ≡ 41 ∷ rest → TokenAt bytes Close rest
  angles : (bytes text rest : List ℕ) → bytes ≡ 60 ∷ (text ++ 62 ∷ rest) → Lacks 62 text → TokenAt bytes (Angle text) rest
  brackets : (bytes inner : List ℕ) (tag : ETag) (rest : List ℕ) → bytes ≡ 91 ∷ inner → TagAt inner tag (93 ∷ rest) → TokenAt bytes (Bracket tag) rest
  nots : (bytes text rest : List ℕ) → IsRun bytes text rest → is_word text (codes "not") ≡ true → TokenAt bytes Not rest
  words : (bytes text rest : List ℕ) → IsRun bytes text rest → is_word text (codes "not") ≡ false → TokenAt bytes (Word text) rest

-- the bytes are these tokens, with any blanks before, between and after them
pub data Tokens : List ℕ → List IfToken → Type 0 where
  ended : Tokens [] []
  blank : (b : ℕ) (bytes : List ℕ) (tokens : List IfToken) → is_blank b ≡ true → Tokens bytes tokens → Tokens (b ∷ bytes) tokens
  token : (bytes rest : List ℕ) (t : IfToken) (tokens : List IfToken) → TokenAt bytes t rest → Tokens rest tokens → Tokens bytes (t ∷ tokens)

-- ---- lists

-- the token is a condition: `<text>` and a word are state tokens, `[tag]` is an entity tag
pub data IsItem : IfToken → IfItem → Type 0 where
  coded : (text : List ℕ) → IsItem (Angle text) (item.StateToken text)
  plain : (text : List ℕ) → IsItem (Word text) (item.StateToken text)
  tagged : (tag : ETag) → IsItem (Bracket tag) (item.ETag tag)

-- the tokens are these conditions, each with one `Not` before it or none
pub data Conditions : List IfToken → List IfCondition → Type 0 where
  no_condition : Conditions [] []
  condition : (t : IfToken) (it : IfItem) (tokens : List IfToken) (others : List IfCondition) → IsItem t it → Conditions tokens others → Conditions (t ∷ tokens) (record { not = false; item = it } ∷ others)
  negated : (t : IfToken) (it : IfItem) (tokens : List IfToken) (others : List IfCondition) → IsItem t it → Conditions tokens others → Conditions (Not ∷ t ∷ tokens) (record { not = true; item = it } ∷ others)

-- the tokens, with this tag before them if there is one
abbrev pub behind : Option (List ℕ) → List IfToken → List IfToken
behind None tokens = tokens
behind (Some text) tokens = Angle text ∷ tokens

-- the tokens are these lists, each with the tag right before it if there is one; a list follows every tag
pub data AreLists : List IfToken → List IfList → Type 0 where
  no_list : AreLists [] []
  list : (tag : Option (List ℕ)) (tokens inside rest : List IfToken) (conditions : List IfCondition) (others : List IfList) → tokens ≡ behind tag (Open ∷ (inside ++ Close ∷ rest)) → Conditions inside conditions → AreLists rest others → AreLists tokens (record { resource_tag = tag; conditions = conditions } ∷ others)

-- the string spells these lists, at least one
pub record SpellsIf (text : List ℕ) (lists : List IfList) : Type 0 where
  pub tokens : List IfToken
  pub spelled : Tokens text tokens
  pub listed : AreLists tokens lists
  pub some : lists ≢ []

-- the header's first value is readable, and spells these lists
pub record IfHeaderSpells (headers : Entries FieldValue) (lists : List IfList) : Type 0 where
  pub text : List ℕ
  pub first : first_text headers (codes "if") ≡ Some text
  pub spells : SpellsIf text lists
