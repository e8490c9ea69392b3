-- Lists of entity tags.
use Rattle.std.proofs.Common.{◌≡◌, ◌<◌, ◌≤◌, ◌==◌, ◌||◌, ℕ, Bool, true, false, List, [], ◌∷◌, length, get_or, Some, None, if◌then◌else◌, slice_get, refl, ap, subst, arith}
use Rattle.http_header.specs.FieldValue.{FieldValue}
use Rattle.dav_resource.specs.declared.etag.ETag.{ETag}
use Rattle.dav_headers.specs.Values.{is_blank, drop_blanks}
use Rattle.dav_headers.specs.Tag.{first_tag}
use Rattle.dav_resource.specs.declared.etag.ETagList.TheVariants.{Tags}
use Rattle.dav_headers.specs.TagList.{drop_separators, listed, first_listed, some_tags, tag_list_of}
use Rattle.dav_headers.proofs.FirstLemmas.{none-from_first}
use Rattle.dav_headers.proofs.OptionLemmas.{by_test, option_and_then-some}
use Rattle.dav_headers.proofs.TextLemmas.{length-drop_blanks}
use Rattle.dav_headers.proofs.RepeatedLemmas.{IsShortening}
use Rattle.dav_headers.proofs.TagGrammarLemmas.{first_tag-found, TagAt-shorter}

length-drop_separators : (bs : List ℕ) → length (drop_separators bs) ≤ length bs
length-drop_separators [] = omega arith
length-drop_separators (b ∷ bs) = shorter (is_blank b || b == 44) (length-drop_separators bs)
  where
    shorter : (here : Bool) → length (drop_separators bs) ≤ length bs → length (if here then drop_separators bs else b ∷ bs) ≤ length (b ∷ bs)
    shorter true le = omega arith
    shorter false le = omega arith

-- the tag and what follows it, as one of a list
pub record IsListed (tag : ETag) (rest : List ℕ) (found : ETag × List ℕ) : Type 0 where
  pub ends : (length (drop_blanks rest) == 0 || get_or (drop_blanks rest) 0 0 == 44) ≡ true
  pub is : (tag, drop_separators (drop_blanks rest)) ≡ found

pub listed-found : (tag : ETag) (rest : List ℕ) (found : ETag × List ℕ) → listed (tag, rest) ≡ Some found → IsListed tag rest found
listed-found tag rest found e =
    by_test (length (drop_blanks rest) == 0 || get_or (drop_blanks rest) 0 0 == 44) (IsListed tag rest found)
    (λ ends. record { ends = ends; is = (let f = rw ends at e in cc) })
    (λ no. absurd (let f = rw no at e in cc))

pub first_listed-shortens : IsShortening first_listed
first_listed-shortens =
    record {
      shorter = λ bytes found e.
          let chained = option_and_then-some listed (first_tag bytes) found e in
          let inner = listed-found chained.from.0 chained.from.1 found chained.is in
          let lt = TagAt-shorter bytes chained.from.0 chained.from.1 (first_tag-found bytes chained.from chained.was) in
          let one = length-drop_blanks chained.from.1 in
          let two = length-drop_separators (drop_blanks chained.from.1) in
          let is : drop_separators (drop_blanks chained.from.1) ≡ found.1 = ap (λ f. f.1) inner.is in
          subst (λ rest. length rest < length bytes) is (omega arith);
    }

-- ---- all values

pub some_tags-found : (tags : List ETag) → 0 < length tags → some_tags tags ≡ Some (Tags tags)
some_tags-found [] some = absurd (omega arith)
some_tags-found (tag ∷ tags) some = refl

pub some_tags-none : (tags : List ETag) → length tags ≡ 0 → some_tags tags ≡ None
some_tags-none [] none = refl
some_tags-none (tag ∷ tags) none = absurd (omega arith)

pub ruleset some_tags_cases = (some_tags-found, some_tags-none)

-- a header without a first value has no tags
pub tag_list_of-none : (values : List FieldValue) → slice_get values 0 ≡ None → tag_list_of values ≡ None
tag_list_of-none values none = rw (none-from_first values none) refl
