-- Entity tags and lists of them as a grammar (RFC 7232, sections 2.3, 3.1 and 3.2). That empty list elements are ignored is RFC 9110, section 5.6.1.
use Rattle.std.specs.Prelude.{◌≡◌, ◌≢◌, ◌⊎◌, ℕ, Bool, true, false, List, [], ◌∷◌, ◌++◌, Some, codes}
use Rattle.http_header.specs.FieldValue.{FieldValue}
use Rattle.dav_resource.specs.declared.etag.ETag.{ETag}
use Rattle.dav_resource.specs.declared.etag.ETagList.{ETagList}
use Rattle.dav_resource.specs.declared.etag.ETagList.TheVariants.{Star, Tags}
use Rattle.dav_headers.specs.Values.{is_blank, readable_text}

-- no byte of the string is this one
abbrev pub Lacks : ℕ → List ℕ → Type 0
Lacks end [] = Unit {0}
Lacks end (b ∷ bs) = (b ≢ end) × Lacks end bs

-- every byte passes the test
abbrev pub Passes : (ℕ → Bool) → List ℕ → Type 0
Passes p [] = Unit {0}
Passes p (b ∷ bs) = (p b ≡ true) × Passes p bs

-- ---- one tag

-- the bytes are this tag, followed by these bytes: `"text"` or `W/"text"`, without a quote in the string
pub data TagAt : List ℕ → ETag → List ℕ → Type 0 where
  strong : (bytes text rest : List ℕ) → bytes ≡ 34 ∷ (text ++ 34 ∷ rest) → Lacks 34 text → TagAt bytes (record { weak = false; tag = text }) rest
  weakly : (bytes text rest : List ℕ) → bytes ≡ 87 ∷ 47 ∷ 34 ∷ (text ++ 34 ∷ rest) → Lacks 34 text → TagAt bytes (record { weak = true; tag = text }) rest

-- ---- one value

-- a list element: only blanks, or a tag with any blanks around it
pub data Place : List ℕ → List ETag → Type 0 where
  no_tag : (bytes : List ℕ) → Passes is_blank bytes → Place bytes []
  one_tag : (bytes before middle after : List ℕ) (tag : ETag) → bytes ≡ before ++ middle → Passes is_blank before → TagAt middle tag after → Passes is_blank after → Place bytes (tag ∷ [])

-- the tags of list elements, which commas separate
pub data Places : List ℕ → List ETag → Type 0 where
  last_place : (bytes : List ℕ) (tags : List ETag) → Place bytes tags → Places bytes tags
  more_places : (bytes front rest : List ℕ) (tags others : List ETag) → bytes ≡ front ++ 44 ∷ rest → Place front tags → Places rest others → Places bytes (tags ++ others)

-- the string spells these tags, at least one
pub record SpellsTags (text : List ℕ) (tags : List ETag) : Type 0 where
  pub places : Places text tags
  pub some : tags ≢ []

-- ---- all values

-- the value is `*`, except for blanks at its ends
abbrev pub IsStar : FieldValue → Type 0
IsStar value = readable_text value.bytes ≡ Some (codes "*")

-- one of the values is `*`
abbrev pub HasStar : List FieldValue → Type 0
HasStar [] = ⊥
HasStar (value ∷ values) = IsStar value ⊎ HasStar values

-- the value is readable, and spells these tags
pub record ValueSpells (value : FieldValue) (tags : List ETag) : Type 0 where
  pub text : List ℕ
  pub readable : readable_text value.bytes ≡ Some text
  pub spells : SpellsTags text tags

-- the tags that the values spell, in order; a value that spells none is ignored
pub data ValuesSpell : List FieldValue → List ETag → Type 0 where
  no_value : ValuesSpell [] []
  readable : (value : FieldValue) (values : List FieldValue) (tags others : List ETag) → ValueSpells value tags → ValuesSpell values others → ValuesSpell (value ∷ values) (tags ++ others)
  unreadable : (value : FieldValue) (values : List FieldValue) (others : List ETag) → ((tags : List ETag) → ¬ (ValueSpells value tags)) → ValuesSpell values others → ValuesSpell (value ∷ values) others

-- the values of the header spell this: `*` if one of them is `*`, otherwise the tags of all of them, at least one
pub data SpellsTagList (values : List FieldValue) : ETagList → Type 0 where
  star : HasStar values → SpellsTagList values Star
  tags : (tags : List ETag) → ¬ (HasStar values) → ValuesSpell values tags → tags ≢ [] → SpellsTagList values (Tags tags)
