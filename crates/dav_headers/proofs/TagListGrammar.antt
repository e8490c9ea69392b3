-- Lists of entity tags are read as the grammar says.
use Rattle.std.proofs.Common.{◌≡◌, ◌≢◌, ◌∙◌, ◌==◌, ◌||◌, inl, inr, ℕ, true, false, List, [], ◌∷◌, ◌++◌, length, get_or, Option, Some, None, Result, Ok, Err, IfOk, IfSome, option_and_then, unwrap_or, flat_map, codes, bytes_eq, refl, ap, sym, subst, arith, append_assoc}
use Rattle.std.proofs.lemmas.List.{append-nil}
use Rattle.std.proofs.lemmas.Bool.Decides.{nat_tests}
use Rattle.std.proofs.lemmas.Slice.Eq.{bytes_eq-Decides}
use Rattle.std.specs.Option.{option_map_or}
use Rattle.std.specs.List.{list_any}
use Rattle.http_header.specs.FieldValue.{FieldValue}
use Rattle.dav_resource.specs.Gives.{GivesBy}
use Rattle.dav_resource.specs.declared.error.DavError.{DavError}
use Rattle.dav_resource.specs.declared.etag.ETag.{ETag}
use Rattle.dav_resource.specs.declared.etag.ETagList.{ETagList}
use Rattle.dav_resource.specs.declared.etag.ETagList.TheVariants.{Star, Tags}
use Rattle.dav_headers.specs.Values.{is_blank, drop_blanks, readable_text}
use Rattle.dav_headers.specs.Tag.{first_tag}
use Rattle.dav_headers.specs.TagList.{drop_separators, listed, first_listed, tags_of, is_star, value_tags, some_tags, tag_list_of}
use Rattle.dav_headers.specs.TagGrammar.{Passes, TagAt, strong, weakly, Place, no_tag, one_tag, Places, last_place, more_places, IsStar, HasStar, ValueSpells, ValuesSpell, no_value, readable, unreadable, SpellsTagList, star, tags}
use Rattle.dav_headers.proofs.OptionLemmas.{by_test, option_and_then-some}
use Rattle.dav_headers.proofs.RepeatedLemmas.{Repeats, done, more, all_of-repeats, repeats-all_of}
use Rattle.dav_headers.proofs.TagGrammarLemmas.{first_tag-found, first_tag-tag, TagAt-shorter}
use Rattle.dav_headers.proofs.TagListLemmas.{listed-found, first_listed-shortens}

-- ---- blanks

-- blanks, and then what is left
record AreBlanksBefore (bs rest : List ℕ) : Type 0 where
  pub blanks : List ℕ
  pub whole : bs ≡ blanks ++ rest
  pub passes : Passes is_blank blanks

blanks_before : (bs : List ℕ) → AreBlanksBefore bs (drop_blanks bs)
blanks_before [] = record { blanks = []; whole = refl; passes = tt }
blanks_before (b ∷ bs) =
    by_test (is_blank b) (AreBlanksBefore (b ∷ bs) (drop_blanks (b ∷ bs)))
    (λ is. let inner = blanks_before bs in rw is (record { blanks = b ∷ inner.blanks; whole = ap (λ cs. b ∷ cs) inner.whole; passes = (is, inner.passes) }))
    (λ no. rw no (record { blanks = []; whole = refl; passes = tt }))

drop_blanks-blanks : (blanks rest : List ℕ) → Passes is_blank blanks → drop_blanks (blanks ++ rest) ≡ drop_blanks rest
drop_blanks-blanks [] rest passes = refl
drop_blanks-blanks (b ∷ blanks) rest passes = rw passes.0 (drop_blanks-blanks blanks rest passes.1)

drop_separators-blanks : (blanks rest : List ℕ) → Passes is_blank blanks → drop_separators (blanks ++ rest) ≡ drop_separators rest
drop_separators-blanks [] rest passes = refl
drop_separators-blanks (b ∷ blanks) rest passes = rw passes.0 (drop_separators-blanks blanks rest passes.1)

-- ---- separators before places

blank_place : (b : ℕ) (bs : List ℕ) (ts : List ETag) → is_blank b ≡ true → Place bs ts → Place (b ∷ bs) ts
blank_place b _ _ is (no_tag bs passes) = no_tag (b ∷ bs) (is, passes)
blank_place b _ _ is (one_tag bs before middle after tag whole passes at ends) = one_tag (b ∷ bs) (b ∷ before) middle after tag (ap (λ cs. b ∷ cs) whole) (is, passes) at ends

blank_places : (b : ℕ) (bs : List ℕ) (ts : List ETag) → is_blank b ≡ true → Places bs ts → Places (b ∷ bs) ts
blank_places b _ _ is (last_place bs ts place) = last_place (b ∷ bs) ts (blank_place b bs ts is place)
blank_places b _ _ is (more_places bs front rest ts others whole place inner) = more_places (b ∷ bs) (b ∷ front) rest ts others (ap (λ cs. b ∷ cs) whole) (blank_place b front ts is place) inner

comma_places : (bs : List ℕ) (ts : List ETag) → Places bs ts → Places (44 ∷ bs) ts
comma_places bs ts inner = more_places (44 ∷ bs) [] bs [] ts refl (no_tag [] tt) inner

separated : (bs : List ℕ) (ts : List ETag) → Places (drop_separators bs) ts → Places bs ts
separated [] ts places = places
separated (b ∷ bs) ts places =
    by_test (is_blank b) (Places (b ∷ bs) ts)
    (λ is. blank_places b bs ts is (separated bs ts (rw is at places)))
    (λ no. by_test (b == 44) (Places (b ∷ bs) ts)
    (λ comma.
    let same : b ≡ 44 = grind (arith, nat_tests) in
    subst (λ c. Places (c ∷ bs) ts) (sym same) (comma_places bs ts (separated bs ts (rw (no, comma) at places))))
    (λ other. rw (no, other) at places))

-- ---- what is read is in the grammar

-- a tag before more bytes is a tag before some of them
record IsTagFront (bytes : List ℕ) (tag : ETag) (after rest : List ℕ) : Type 0 where
  pub front : List ℕ
  pub whole : bytes ≡ front ++ rest
  pub at : TagAt front tag after

tag_front : (bytes : List ℕ) (tag : ETag) (after rest : List ℕ) → TagAt bytes tag (after ++ rest) → IsTagFront bytes tag after rest
tag_front bytes _ after rest (strong _ text _ e lacks) =
    record {
      front = 34 ∷ (text ++ 34 ∷ after);
      whole = e ∙ ap (λ cs. 34 ∷ cs) (sym (append_assoc text (34 ∷ after) rest));
      at = strong (34 ∷ (text ++ 34 ∷ after)) text after refl lacks;
    }
tag_front bytes _ after rest (weakly _ text _ e lacks) =
    record {
      front = 87 ∷ 47 ∷ 34 ∷ (text ++ 34 ∷ after);
      whole = e ∙ ap (λ cs. 87 ∷ 47 ∷ 34 ∷ cs) (sym (append_assoc text (34 ∷ after) rest));
      at = weakly (87 ∷ 47 ∷ 34 ∷ (text ++ 34 ∷ after)) text after refl lacks;
    }

-- the tag, its blanks, and then the end
last_read : (bytes : List ℕ) (tag : ETag) (after : List ℕ) → TagAt bytes tag after → drop_blanks after ≡ [] → Places bytes (tag ∷ [])
last_read bytes tag after at none =
    let split = blanks_before after in
    let passes : Passes is_blank after = subst (Passes is_blank) (sym (split.whole ∙ ap (λ cs. split.blanks ++ cs) none ∙ append-nil split.blanks)) split.passes in
    last_place bytes (tag ∷ []) (one_tag bytes [] bytes after tag refl tt at passes)

-- the tag, its blanks, and then a comma
next_read : (bytes : List ℕ) (tag : ETag) (after rest : List ℕ) (others : List ETag) → TagAt bytes tag after → drop_blanks after ≡ 44 ∷ rest → Places rest others → Places bytes (tag ∷ others)
next_read bytes tag after rest others at comma inner =
    let split = blanks_before after in
    let whole : after ≡ split.blanks ++ 44 ∷ rest = split.whole ∙ ap (λ cs. split.blanks ++ cs) comma in
    let front = tag_front bytes tag split.blanks (44 ∷ rest) (subst (TagAt bytes tag) whole at) in
    more_places bytes front.front rest (tag ∷ []) others front.whole (one_tag front.front [] front.front split.blanks tag refl tt front.at split.passes) inner

none_left : (ts : List ETag) → Repeats first_listed [] ts → ts ≡ []
none_left _ done = refl
none_left _ (more _ found ts e some others) = absurd (omega arith)

listed_read : (bytes : List ℕ) (tag : ETag) (after rest : List ℕ) (others : List ETag) → TagAt bytes tag after → drop_blanks after ≡ rest → (length rest == 0 || get_or rest 0 0 == 44) ≡ true
    → Repeats first_listed (drop_separators rest) others → Places (drop_separators rest) others → Places bytes (tag ∷ others)
listed_read bytes tag after [] others at left ends repeats inner =
    subst (λ ts. Places bytes (tag ∷ ts)) (sym (none_left others repeats)) (last_read bytes tag after at left)
listed_read bytes tag after (b ∷ rest) others at left ends repeats inner =
    let same : b ≡ 44 = grind (arith, nat_tests) in
    let places : Places (drop_separators (44 ∷ rest)) others = subst (λ c. Places (drop_separators (c ∷ rest)) others) same inner in
    next_read bytes tag after rest others at (left ∙ ap (λ c. c ∷ rest) same) (separated rest others places)

tags_read : (bytes : List ℕ) (ts : List ETag) → Repeats first_listed bytes ts → Places bytes ts
tags_read _ _ done = last_place [] [] (no_tag [] tt)
tags_read bytes _ (more _ found ts e some others) =
    let chained = option_and_then-some listed (first_tag bytes) found e in
    let one = listed-found chained.from.0 chained.from.1 found chained.is in
    let at = first_tag-found bytes chained.from chained.was in
    let rest : drop_separators (drop_blanks chained.from.1) ≡ found.1 = ap (λ f. f.1) one.is in
    let same : chained.from.0 ≡ found.0 = ap (λ f. f.0) one.is in
    subst (λ tag. Places bytes (tag ∷ ts)) same
    (listed_read bytes chained.from.0 chained.from.1 (drop_blanks chained.from.1) ts at refl one.ends
    (subst (λ r. Repeats first_listed r ts) (sym rest) others)
    (subst (λ r. Places r ts) (sym rest) (tags_read found.1 ts others)))

pub tags_of-found : (text : List ℕ) (ts : List ETag) → tags_of text ≡ Some ts → Places text ts
tags_of-found text ts e = separated text ts (tags_read (drop_separators text) ts (all_of-repeats first_listed (drop_separators text) ts e))

-- ---- what is in the grammar is read

tag_more : (bytes : List ℕ) (tag : ETag) (after more : List ℕ) → TagAt bytes tag after → TagAt (bytes ++ more) tag (after ++ more)
tag_more bytes _ after rest (strong _ text _ e lacks) =
    strong (bytes ++ rest) text (after ++ rest) (ap (λ cs. cs ++ rest) e ∙ ap (λ cs. 34 ∷ cs) (append_assoc text (34 ∷ after) rest)) lacks
tag_more bytes _ after rest (weakly _ text _ e lacks) =
    weakly (bytes ++ rest) text (after ++ rest) (ap (λ cs. cs ++ rest) e ∙ ap (λ cs. 87 ∷ 47 ∷ 34 ∷ cs) (append_assoc text (34 ∷ after) rest)) lacks

-- no separator stands before a tag
tag_first : (bytes : List ℕ) (tag : ETag) (after : List ℕ) → TagAt bytes tag after → drop_separators bytes ≡ bytes
tag_first bytes _ after (strong _ text _ e lacks) = rw e refl
tag_first bytes _ after (weakly _ text _ e lacks) = rw e refl

-- a tag with a comma or the end behind it
tag_repeated : (bytes : List ℕ) (tag : ETag) (after rest : List ℕ) (others : List ETag) → TagAt bytes tag after → drop_blanks after ≡ rest → (length rest == 0 || get_or rest 0 0 == 44) ≡ true
    → Repeats first_listed (drop_separators rest) others → Repeats first_listed (drop_separators bytes) (tag ∷ others)
tag_repeated bytes tag after rest others at left ends inner =
    let lt = TagAt-shorter bytes tag after at in
    let found : first_listed bytes ≡ Some (tag, drop_separators rest) = rw (first_tag-tag bytes tag after at, left, ends) refl in
    subst (λ bs. Repeats first_listed bs (tag ∷ others)) (sym (tag_first bytes tag after at)) (more bytes (tag, drop_separators rest) others found (omega arith) inner)

blanks_end : (bs : List ℕ) → Passes is_blank bs → (drop_blanks bs ≡ []) × (drop_separators bs ≡ [])
blanks_end bs passes =
    (ap drop_blanks (sym (append-nil bs)) ∙ drop_blanks-blanks bs [] passes, ap drop_separators (sym (append-nil bs)) ∙ drop_separators-blanks bs [] passes)

last_repeated : (bytes : List ℕ) (ts : List ETag) → Place bytes ts → Repeats first_listed (drop_separators bytes) ts
last_repeated _ _ (no_tag bytes passes) = subst (λ bs. Repeats first_listed bs []) (sym (blanks_end bytes passes).1) done
last_repeated _ _ (one_tag bytes before middle after tag whole passes at ends) =
    subst (λ bs. Repeats first_listed bs (tag ∷ [])) (sym (ap drop_separators whole ∙ drop_separators-blanks before middle passes))
    (tag_repeated middle tag after [] [] at (blanks_end after ends).0 refl done)

place_repeated : (front rest : List ℕ) (ts others : List ETag) → Place front ts → Repeats first_listed (drop_separators rest) others → Repeats first_listed (drop_separators (front ++ 44 ∷ rest)) (ts ++ others)
place_repeated _ rest _ others (no_tag front passes) inner =
    subst (λ bs. Repeats first_listed bs others) (sym (drop_separators-blanks front (44 ∷ rest) passes)) inner
place_repeated _ rest _ others (one_tag front before middle after tag whole passes at ends) inner =
    let start : drop_separators (front ++ 44 ∷ rest) ≡ drop_separators (middle ++ 44 ∷ rest) =
    ap (λ bs. drop_separators (bs ++ 44 ∷ rest)) whole ∙ ap drop_separators (append_assoc before middle (44 ∷ rest)) ∙ drop_separators-blanks before (middle ++ 44 ∷ rest) passes in
    subst (λ bs. Repeats first_listed bs (tag ∷ others)) (sym start)
    (tag_repeated (middle ++ 44 ∷ rest) tag (after ++ 44 ∷ rest) (44 ∷ rest) others (tag_more middle tag after (44 ∷ rest) at) (drop_blanks-blanks after (44 ∷ rest) ends) (grind (arith, nat_tests)) inner)

places_repeated : (bytes : List ℕ) (ts : List ETag) → Places bytes ts → Repeats first_listed (drop_separators bytes) ts
places_repeated _ _ (last_place bytes ts place) = last_repeated bytes ts place
places_repeated _ _ (more_places bytes front rest ts others whole place inner) =
    subst (λ bs. Repeats first_listed (drop_separators bs) (ts ++ others)) (sym whole) (place_repeated front rest ts others place (places_repeated rest others inner))

pub tags_of-spelled : (text : List ℕ) (ts : List ETag) → Places text ts → tags_of text ≡ Some ts
tags_of-spelled text ts places = repeats-all_of first_listed first_listed-shortens (drop_separators text) ts (places_repeated text ts places)

-- ---- one value

-- what a value's tags are
data ValueReads (value : FieldValue) : List ETag → Type 0 where
  reads_some : (ts : List ETag) → ValueSpells value ts → ValueReads value ts
  reads_none : ((ts : List ETag) → ValueSpells value ts → ⊥) → ValueReads value []

text_reads : (value : FieldValue) (text : List ℕ) (r : Option (List ETag)) → readable_text value.bytes ≡ Some text → tags_of text ≡ r → ValueReads value (unwrap_or r [])
text_reads value text None is e =
    reads_none (λ ts spells.
    let same : spells.text ≡ text = (let f = sym spells.readable ∙ is in cc) in
    let found = tags_of-spelled text ts (subst (λ t. Places t ts) same spells.spells.places) in
    cc)
text_reads value text (Some []) is e =
    reads_none (λ ts spells.
    let same : spells.text ≡ text = (let f = sym spells.readable ∙ is in cc) in
    let found = tags_of-spelled text ts (subst (λ t. Places t ts) same spells.spells.places) in
    spells.spells.some (let f = sym found ∙ e in cc))
text_reads value text (Some (t ∷ ts)) is e =
    reads_some (t ∷ ts) (record { text = text; readable = is; spells = record { places = tags_of-found text (t ∷ ts) e; some = λ none. cc } })

value_reads : (value : FieldValue) (r : Option (List ℕ)) → readable_text value.bytes ≡ r → ValueReads value (unwrap_or (option_and_then tags_of r) [])
value_reads value None is = reads_none (λ ts spells. let f = sym spells.readable ∙ is in cc)
value_reads value (Some text) is = text_reads value text (tags_of text) is refl

value_tags-spelled : (value : FieldValue) (ts : List ETag) → ValueSpells value ts → value_tags value ≡ ts
value_tags-spelled value ts spells = rw (spells.readable, tags_of-spelled spells.text ts spells.spells.places) refl

value_tags-unread : (value : FieldValue) (ts : List ETag) → ValueReads value ts → ((us : List ETag) → ValueSpells value us → ⊥) → ts ≡ []
value_tags-unread value _ (reads_some ts spells) none = absurd (none ts spells)
value_tags-unread value _ (reads_none unread) none = refl

-- ---- all values

value_spells : (value : FieldValue) (values : List FieldValue) (ts others : List ETag) → ValueReads value ts → ValuesSpell values others → ValuesSpell (value ∷ values) (ts ++ others)
value_spells value values _ others (reads_some ts spells) inner = readable value values ts others spells inner
value_spells value values _ others (reads_none none) inner = unreadable value values others none inner

values_spell : (values : List FieldValue) → ValuesSpell values (flat_map value_tags values)
values_spell [] = no_value
values_spell (value ∷ values) = value_spells value values (value_tags value) (flat_map value_tags values) (value_reads value (readable_text value.bytes) refl) (values_spell values)

values_spelled : (values : List FieldValue) (ts : List ETag) → ValuesSpell values ts → flat_map value_tags values ≡ ts
values_spelled _ _ no_value = refl
values_spelled _ _ (readable value values ts others spells inner) =
    ap (λ us. us ++ flat_map value_tags values) (value_tags-spelled value ts spells) ∙ ap (λ us. ts ++ us) (values_spelled values others inner)
values_spelled _ _ (unreadable value values others none inner) =
    ap (λ us. us ++ flat_map value_tags values) (value_tags-unread value (value_tags value) (value_reads value (readable_text value.bytes) refl) none) ∙ values_spelled values others inner

-- ---- `*`

star_is : (value : FieldValue) (r : Option (List ℕ)) → readable_text value.bytes ≡ r → option_map_or (λ text. bytes_eq text (codes "*")) r false ≡ true → IsStar value
star_is value None is e = absurd cc
star_is value (Some text) is e = is ∙ ap Some ((bytes_eq-Decides text (codes "*")).0 e)

is_star-star : (value : FieldValue) → IsStar value → is_star value ≡ true
is_star-star value is = rw is refl

has_star : (values : List FieldValue) → list_any is_star values ≡ true → HasStar values
has_star [] e = absurd cc
has_star (value ∷ values) e =
    by_test (is_star value) (HasStar (value ∷ values))
    (λ is. inl (star_is value (readable_text value.bytes) refl is))
    (λ no. inr (has_star values (rw no at e)))

list_any-star : (values : List FieldValue) → HasStar values → list_any is_star values ≡ true
list_any-star [] has = absurd has
list_any-star (value ∷ values) (inl is) = rw (is_star-star value is) refl
list_any-star (value ∷ values) (inr has) = by_test (is_star value) (list_any is_star (value ∷ values) ≡ true) (λ is. rw is refl) (λ no. rw no (list_any-star values has))

-- ---- the header

tags_spell : (values : List FieldValue) (ts : List ETag) (list : ETagList) → (HasStar values → ⊥) → ValuesSpell values ts → some_tags ts ≡ Some list → SpellsTagList values list
tags_spell values [] list none spells e = absurd cc
tags_spell values (t ∷ ts) list none spells e =
    let same : Tags (t ∷ ts) ≡ list = cc in
    subst (SpellsTagList values) same (tags (t ∷ ts) none spells (λ empty. cc))

tag_list_of-found : (values : List FieldValue) (list : ETagList) → tag_list_of values ≡ Some list → SpellsTagList values list
tag_list_of-found values list e =
    by_test (list_any is_star values) (SpellsTagList values list)
    (λ any. let same : Star ≡ list = (let f = rw any at e in cc) in subst (SpellsTagList values) same (star (has_star values any)))
    (λ none. tags_spell values (flat_map value_tags values) list (λ has. let any = list_any-star values has in cc) (values_spell values) (rw none at e))

some_tags-some : (ts : List ETag) → ts ≢ [] → some_tags ts ≡ Some (Tags ts)
some_tags-some [] some = absurd (some refl)
some_tags-some (t ∷ ts) some = refl

tag_list_of-spelled : (values : List FieldValue) (list : ETagList) → SpellsTagList values list → tag_list_of values ≡ Some list
tag_list_of-spelled values _ (star has) = rw (list_any-star values has) refl
tag_list_of-spelled values _ (tags ts none spells some) =
    by_test (list_any is_star values) (tag_list_of values ≡ Some (Tags ts))
    (λ any. absurd (none (has_star values any)))
    (λ no. rw (no, values_spelled values ts spells) (some_tags-some ts some))

-- ---- what the readers answer

read_found : (values : List FieldValue) (found : Option ETagList) → tag_list_of values ≡ found → IfSome found (SpellsTagList values)
read_found values None e = tt
read_found values (Some list) e = tag_list_of-found values list e

pub tags-found : (values : List FieldValue) (r : Result (Option ETagList) DavError) → GivesBy (λ list. list) r (Ok (tag_list_of values)) → IfOk r (λ found. IfSome found (SpellsTagList values))
tags-found values (Ok found) gives = read_found values found (cc)
tags-found values (Err e) gives = tt

pub tags-complete : (values : List FieldValue) (r : Result (Option ETagList) DavError) → GivesBy (λ list. list) r (Ok (tag_list_of values)) → (list : ETagList) → SpellsTagList values list → IfOk r (λ found. found ≡ Some list)
tags-complete values (Ok found) gives list is = let e : tag_list_of values ≡ found = cc in sym e ∙ tag_list_of-spelled values list is
tags-complete values (Err e) gives list is = tt
