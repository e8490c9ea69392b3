-- Texts that are UTF-8: names in keys, the texts of paths, and what codecs write.
use Rattle.std.proofs.Common.{◌≡◌, ◌<◌, ℕ, zero, suc, Bool, true, false, ◌&&◌, ◌||◌, ◌==◌, List, [], ◌∷◌, length, codes, if◌then◌else◌, arith}
use Rattle.std.specs.List.{slice_get}
use Rattle.std.specs.Option.{unwrap_or}
use Rattle.std.specs.Prelude.{Option, Some, None}
use Rattle.std.specs.Str.{IsUtf8, IsAscii}
use Rattle.std.proofs.lemmas.Bool.{and_parts}
use Rattle.std.proofs.lemmas.Bool.Decides.{nat_tests}
use Rattle.std.proofs.lemmas.Str.{IsUtf8-from_is_utf8, IsUtf8-from_ascii, IsUtf8-nil, IsAscii-append}
use Rattle.std.proofs.lemmas.Str.Ascii.{IsAscii-nil, IsAscii-cons, IsAscii-from_all}
use Rattle.dav_key.specs.Key.{Key}
use Rattle.dav_resource.proofs.EscapeLemmas.{All-escape}
use Rattle.dav_resource.proofs.KeyLemmas.{IsFlatSegment-text}
use Rattle.dav_resource.specs.PathText.{PathValue, IsKey, escape, key_text, url_text, is_unreserved}
use Rattle.dav_resource.specs.Tree.{Tag, Tree}
use Rattle.dav_wire.specs.Codec.{Codec}
use Rattle.dav_wire.specs.Numbers.{byte}
use Rattle.dav_wire.specs.PartLaws.{false_true}
use Rattle.dav_wire.specs.Trees.{tag, element_over, tree}
use Rattle.dav_wire.specs.Values.{utf8_text, optional}

-- ---- keys

-- each name in a key is UTF-8
pub name_utf8 : (key : Key) (index : ℕ) → IsKey key → IsUtf8 (unwrap_or (slice_get key index) [])
name_utf8 [] index is = IsUtf8-nil
name_utf8 (s ∷ key) zero is = (IsFlatSegment-text s is.0.written).utf8
name_utf8 (s ∷ key) (suc index) is = name_utf8 key index is.1

-- ---- paths

unreserved_ascii : (b : ℕ) → is_unreserved b ≡ true → b < 128
unreserved_ascii b unreserved = grind (arith, nat_tests)

escape_ascii : (s : List ℕ) → IsAscii (escape s)
escape_ascii s = IsAscii-from_all (escape s) (All-escape (λ b. b < 128) unreserved_ascii (λ b escaped. grind arith) s)

key_ascii : (key : Key) → IsAscii (key_text key)
key_ascii [] = IsAscii-nil
key_ascii (s ∷ key) = IsAscii-append (47 ∷ escape s) (key_text key) (IsAscii-cons 47 (escape s) (omega arith) (escape_ascii s)) (key_ascii key)

slash_ascii : (slash : Bool) → IsAscii (if slash then 47 ∷ [] else [])
slash_ascii true = IsAscii-cons 47 [] (omega arith) IsAscii-nil
slash_ascii false = IsAscii-nil

star_ascii : (star : Bool) (text : List ℕ) → IsAscii text → IsAscii (if star then codes "*" else text)
star_ascii true text is = IsAscii-cons 42 [] (omega arith) IsAscii-nil
star_ascii false text is = is

-- the text of a path is UTF-8, as it is ASCII
pub path_utf8 : (path : PathValue) → IsUtf8 (url_text path)
path_utf8 path =
    IsUtf8-from_ascii (url_text path)
    (star_ascii path.star _ (IsAscii-append (key_text path.key) _ (key_ascii path.key) (slash_ascii (path.slash || length path.key == 0))))

-- ---- codecs

-- a string that can be written is UTF-8
pub string_utf8 : (s : List ℕ) → utf8_text.is_valid s ≡ true → IsUtf8 s
unfolding utf8_text
string_utf8 s ok = IsUtf8-from_is_utf8 s (and_parts _ _ ok).1

-- a value that can be written where it is optional can be written
some_valid : {A : Type 0} (a : Codec A) (x : A) → (optional a).is_valid (Some x) ≡ true → a.is_valid x ≡ true
some_valid a x ok = (and_parts (a.is_valid x) true (and_parts (byte.is_valid 1) (a.is_valid x && true) ok).1).0

optional_utf8 : (o : Option (List ℕ)) → (optional utf8_text).is_valid o ≡ true → IsUtf8 (unwrap_or o [])
optional_utf8 None ok = IsUtf8-nil
optional_utf8 (Some s) ok = string_utf8 s (some_valid utf8_text s ok)

tag_utf8 : (t : Tag) → tag.is_valid t ≡ true → IsUtf8 (unwrap_or t.namespace []) × IsUtf8 t.name
unfolding tag
tag_utf8 t ok =
    let name = and_parts _ _ ok in
    let prefix = and_parts _ _ name.1 in
    let namespace = and_parts _ _ prefix.1 in
    (optional_utf8 t.namespace namespace.0, string_utf8 t.name name.0)

-- the name of an element that can be written is UTF-8
pub element_utf8 : (levels : ℕ) (x : Tree) → (tree levels).is_valid x ≡ true → IsUtf8 (unwrap_or x.tag.namespace []) × IsUtf8 x.tag.name
unfolding tree element_over
element_utf8 zero x ok = false_true ok
element_utf8 (suc levels) x ok = tag_utf8 x.tag (and_parts _ _ ok).0
