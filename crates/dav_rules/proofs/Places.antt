-- A path that means what is written is read as the path of a request.
use Rattle.std.proofs.Common.{◌≡◌, ◌∙◌, ◌⊎◌, inl, inr, ◌<◌, ◌≤◌, ◌-◌, ◌+◌, ℕ, zero, suc, List, [], ◌∷◌, ◌++◌, Bool, true, false, not, ◌==◌, ◌&&◌, ◌||◌, if◌then◌else◌, cond, refl, ap, sym, subst, arith, Result, Ok, Err, Some, None, All, length, take, drop, map, slice_index, count_by, get_or, append_assoc, length-append}
use Rattle.std.proofs.Math.Seq.{take-length}
use Rattle.std.proofs.lemmas.List.{append-nil, length-map, length-take, length-drop}
use Rattle.std.proofs.lemmas.List.Splits.{length-slice_split}
use Rattle.std.proofs.lemmas.List.Sums.{position_or_len_is, AllPass-from_list_all}
use Rattle.std.proofs.lemmas.Bool.{and_parts, and_from}
use Rattle.std.proofs.lemmas.Bool.Decides.{nat_tests}
use Rattle.std.specs.List.{list_all, slice_split, onto_first, before_first}
use Rattle.std.specs.Str.{is_utf8}
use Rattle.percent_encoding.specs.Percent.{percent_decode}
use Rattle.dav_key.specs.Key.{Key}
use Rattle.dav_resource.specs.declared.error.DavError.{DavError}
use Rattle.dav_resource.specs.declared.error.DavError.TheVariants.{ForbiddenPath}
use Rattle.dav_resource.specs.PathText.{PathValue, is_slash, is_readable, is_segment, is_dropped, is_parent, is_plain_byte, is_segment_text, has_whole_escapes, path_part, ends_in_slash, on_ok, enter_part, enter_parts, read_key, read_prefix, read_path, below_prefix}
use Rattle.dav_resource.specs.PathLaws.{read_part_nil}
use Rattle.dav_rules.specs.Rules.{is_path_byte, without_last_slash, parts_of, names_segment, key_of}

not_true : (b : Bool) → not b ≡ true → b ≡ false
not_true true e = cc
not_true false e = refl

-- ---- one part

enter_part-empty : (key : Key) → enter_part key [] ≡ Ok key
enter_part-empty key = rw read_part_nil refl

enter_part-named : (key : Key) (part : List ℕ) → names_segment part ≡ true → enter_part key part ≡ Ok (key ++ percent_decode part ∷ [])
enter_part-named key part is =
    let s = percent_decode part in
    let both = and_parts (is_readable part) (is_segment s) is in
    let kept = and_parts (not (is_dropped s) && not (is_parent s)) (list_all is_plain_byte s) both.1 in
    let each = and_parts (not (is_dropped s)) (not (is_parent s)) kept.0 in
    rw (both.0, not_true (is_dropped s) each.0, each.1) refl

-- what a part does to the key: it appends the segment that it names, or it names none and the key becomes no longer
abbrev Enters : Key → List ℕ → Key → Type 0
Enters key part next = (names_segment part ≡ true) × (length next ≡ length key + 1) ⊎ (length next ≤ length key)

enters-by : (key : Key) (part : List ℕ) (next : Key) (dropped parent root : Bool) → let s = percent_decode part in
    is_readable part ≡ true → is_dropped s ≡ dropped → is_parent s ≡ parent
    → (if dropped then Ok key else (if not parent then Ok (key ++ s ∷ []) else (if root then Err ForbiddenPath else Ok (take (length key - 1) key)))) ≡ Ok next
    → Enters key part next
enters-by key part next true parent root whole d p e = let same : key ≡ next = cc in inr (omega (arith, ap length same))
enters-by key part next false false root whole d p e =
    let s = percent_decode part in
    let same : key ++ s ∷ [] ≡ next = cc in
    let text = and_parts (has_whole_escapes part) (is_segment_text s) whole in
    let plain = and_parts (is_utf8 s) (list_all is_plain_byte s) text.1 in
    inl (rw (whole, d, p, plain.1) refl, omega (arith, ap length same, length-append key (s ∷ [])))
enters-by key part next false true true whole d p e = absurd (cc)
enters-by key part next false true false whole d p e =
    let same : take (length key - 1) key ≡ next = cc in
    inr (omega (arith, ap length same, length-take (length key - 1) key))

enters : (key : Key) (part : List ℕ) (next : Key) → enter_part key part ≡ Ok next → Enters key part next
enters key part next e = by_readable (is_readable part) refl
  where
    by_readable : (whole : Bool) → is_readable part ≡ whole → Enters key part next
    by_readable true here =
        enters-by key part next (is_dropped (percent_decode part)) (is_parent (percent_decode part)) (length key == 0) here refl refl (rw here at e)
    by_readable false here = let fails = rw here at e in absurd (cc)

-- ---- parts

-- an empty part at the end changes nothing
enter_parts-ended : (key : Key) (parts : Key) → enter_parts key (parts ++ [] ∷ []) ≡ enter_parts key parts
enter_parts-ended key [] = ap (λ r. on_ok r (λ next. enter_parts next [])) (enter_part-empty key)
enter_parts-ended key (part ∷ parts) = by_step (enter_part key part) (λ next. enter_parts-ended next parts)
  where
    by_step : (r : Result Key DavError) → ((next : Key) → enter_parts next (parts ++ [] ∷ []) ≡ enter_parts next parts) → on_ok r (λ next. enter_parts next (parts ++ [] ∷ [])) ≡ on_ok r (λ next. enter_parts next parts)
    by_step (Ok next) others = others next
    by_step (Err e) others = refl

enter_parts-named : (key : Key) (parts : Key) → list_all names_segment parts ≡ true → enter_parts key parts ≡ Ok (key ++ map percent_decode parts)
enter_parts-named key [] all = ap Ok (sym (append-nil key))
enter_parts-named key (part ∷ parts) all =
    let both = and_parts (names_segment part) (list_all names_segment parts) all in
    ap (λ r. on_ok r (λ next. enter_parts next parts)) (enter_part-named key part both.0)
    ∙ enter_parts-named (key ++ percent_decode part ∷ []) parts both.1
    ∙ ap Ok (append_assoc key (percent_decode part ∷ []) (map percent_decode parts))

-- each part appends one segment at most
enter_parts-longest : (key : Key) (parts : Key) (last : Key) → enter_parts key parts ≡ Ok last → length last ≤ length key + length parts
enter_parts-longest key [] last e = let same : key ≡ last = cc in omega (arith, ap length same)
enter_parts-longest key (part ∷ parts) last e = by_step (enter_part key part) refl e (λ next rest. enter_parts-longest next parts last rest)
  where
    by_part : (next : Key) → Enters key part next → length last ≤ length next + length parts → length last ≤ length key + length (part ∷ parts)
    by_part next (inl named) longest = omega (arith, named.1, longest)
    by_part next (inr shorter) longest = omega (arith, shorter, longest)

    by_step : (r : Result Key DavError) → enter_part key part ≡ r → on_ok r (λ next. enter_parts next parts) ≡ Ok last
        → ((next : Key) → enter_parts next parts ≡ Ok last → length last ≤ length next + length parts) → length last ≤ length key + length (part ∷ parts)
    by_step (Ok next) here rest others = by_part next (enters key part next here) (others next rest)
    by_step (Err e) here rest others = absurd (cc)

-- where as many segments are appended as there are parts, each part names one
enter_parts-exact : (key : Key) (parts : Key) (last : Key) → enter_parts key parts ≡ Ok last → length last ≡ length key + length parts → list_all names_segment parts ≡ true
enter_parts-exact key [] last e longest = refl
enter_parts-exact key (part ∷ parts) last e longest = by_step (enter_part key part) refl e (λ next rest whole. enter_parts-exact next parts last rest whole)
  where
    by_part : (next : Key) → Enters key part next → enter_parts next parts ≡ Ok last → (enter_parts next parts ≡ Ok last → length last ≡ length next + length parts → list_all names_segment parts ≡ true) → list_all names_segment (part ∷ parts) ≡ true
    by_part next (inl named) rest others = and_from (names_segment part) (list_all names_segment parts) named.0 (others rest (omega (arith, longest, named.1)))
    by_part next (inr shorter) rest others = absurd (omega (arith, longest, shorter, enter_parts-longest next parts last rest))

    by_step : (r : Result Key DavError) → enter_part key part ≡ r → on_ok r (λ next. enter_parts next parts) ≡ Ok last → ((next : Key) → enter_parts next parts ≡ Ok last → length last ≡ length next + length parts → list_all names_segment parts ≡ true) → list_all names_segment (part ∷ parts) ≡ true
    by_step (Ok next) here rest others = by_part next (enters key part next here) rest (others next)
    by_step (Err e) here rest others = absurd (cc)

-- ---- the parts of a text

onto_first-append : (x : ℕ) (parts more : Key) → 0 < length parts → onto_first x (parts ++ more) ≡ onto_first x parts ++ more
onto_first-append x [] more some = absurd (omega arith)
onto_first-append x (part ∷ parts) more some = refl

-- a slash at the end begins an empty part
slice_split-ended : (xs : List ℕ) → slice_split is_slash (xs ++ 47 ∷ []) ≡ slice_split is_slash xs ++ [] ∷ []
slice_split-ended [] = refl
slice_split-ended (x ∷ xs) = by_slash (is_slash x) (slice_split-ended xs)
  where
    by_slash : (b : Bool) → slice_split is_slash (xs ++ 47 ∷ []) ≡ slice_split is_slash xs ++ [] ∷ [] → cond b ([] ∷ slice_split is_slash (xs ++ 47 ∷ [])) (onto_first x (slice_split is_slash (xs ++ 47 ∷ []))) ≡ cond b ([] ∷ slice_split is_slash xs) (onto_first x (slice_split is_slash xs)) ++ [] ∷ []
    by_slash true others = ap (λ parts. [] ∷ parts) others
    by_slash false others =
        ap (onto_first x) others
        ∙ onto_first-append x (slice_split is_slash xs) ([] ∷ []) (omega (arith, length-slice_split is_slash xs))

-- a text that ends in a slash is the text without it, and the slash
text-ended_at : (text : List ℕ) (n : ℕ) → length text ≡ suc n → get_or text n 0 ≡ 47 → text ≡ take n text ++ 47 ∷ []
text-ended_at [] n len ends = absurd (omega (arith, len))
text-ended_at (b ∷ []) zero len ends = ap (λ b. b ∷ []) ends
text-ended_at (b ∷ []) (suc n) len ends = absurd (omega (arith, len))
text-ended_at (b ∷ c ∷ bs) zero len ends = absurd (omega (arith, len))
text-ended_at (b ∷ c ∷ bs) (suc n) len ends = ap (λ rest. b ∷ rest) (text-ended_at (c ∷ bs) n (omega (arith, len)) ends)

text-ended : (text : List ℕ) → ends_in_slash text ≡ true → text ≡ take (length text - 1) text ++ 47 ∷ []
text-ended [] ends = absurd (cc)
text-ended (b ∷ bs) ends =
    text-ended_at (b ∷ bs) (length (b ∷ bs) - 1) (omega arith) (let last = get_or (b ∷ bs) (length (b ∷ bs) - 1) 0 in slash last ends)
  where
    slash : (last : ℕ) → (last == 47) ≡ true → last ≡ 47
    slash last is = grind (arith, nat_tests)

pub length-parts_of : (text : List ℕ) → count_by is_slash (without_last_slash text) ≡ length (parts_of text)
length-parts_of text =
    let parts = slice_split is_slash (without_last_slash text) in
    omega (arith, length-drop 1 parts, length-slice_split is_slash (without_last_slash text))

-- the empty part before the first slash changes nothing
first_part : (rest : List ℕ) → enter_parts [] (slice_split is_slash (47 ∷ rest)) ≡ enter_parts [] (drop 1 (slice_split is_slash (47 ∷ rest)))
first_part rest = ap (λ r. on_ok r (λ next. enter_parts next (slice_split is_slash rest))) (enter_part-empty [])

no_part : enter_parts [] (slice_split is_slash []) ≡ enter_parts [] (drop 1 (slice_split is_slash []))
no_part = ap (λ r. on_ok r (λ next. enter_parts next [])) (enter_part-empty [])

-- a text that begins with a slash is parsed by its parts
enter_parts-of : (rest : List ℕ) → enter_parts [] (slice_split is_slash (47 ∷ rest)) ≡ enter_parts [] (parts_of (47 ∷ rest))
enter_parts-of rest = by_end (ends_in_slash (47 ∷ rest)) refl
  where
    inside : (n : ℕ) → enter_parts [] (slice_split is_slash (take n (47 ∷ rest))) ≡ enter_parts [] (drop 1 (slice_split is_slash (take n (47 ∷ rest))))
    inside zero = no_part
    inside (suc n) = first_part (take n rest)

    by_end : (ends : Bool) → ends_in_slash (47 ∷ rest) ≡ ends → enter_parts [] (slice_split is_slash (47 ∷ rest)) ≡ enter_parts [] (drop 1 (slice_split is_slash (if ends then take (length (47 ∷ rest) - 1) (47 ∷ rest) else 47 ∷ rest)))
    by_end true here =
        ap (λ text. enter_parts [] (slice_split is_slash text)) (text-ended (47 ∷ rest) here)
        ∙ ap (enter_parts []) (slice_split-ended (take (length (47 ∷ rest) - 1) (47 ∷ rest)))
        ∙ enter_parts-ended [] (slice_split is_slash (take (length (47 ∷ rest) - 1) (47 ∷ rest)))
        ∙ inside (length (47 ∷ rest) - 1)
    by_end false here = first_part rest

-- ---- the path

before_first-none : (p : ℕ → Bool) (xs : List ℕ) → All (λ b. p b ≡ false) xs → before_first p xs ≡ xs
before_first-none p xs none =
    let whole = position_or_len_is p xs (length xs) 0 (omega arith) (λ k inside. none k 0 inside) (λ past. absurd (omega arith)) in
    rw whole (take-length xs)

not_query : (b : ℕ) → is_path_byte b ≡ true → (b == 63) ≡ false
not_query b plain = grind (arith, nat_tests)

not_fragment : (b : ℕ) → is_path_byte b ≡ true → (b == 35) ≡ false
not_fragment b plain = grind (arith, nat_tests)

-- nothing is cut off
path_part-whole : (text : List ℕ) → list_all is_path_byte text ≡ true → path_part text ≡ text
path_part-whole text plain =
    let all = AllPass-from_list_all is_path_byte text plain in
    let query = before_first-none (λ b. b == 63) text (λ k d inside. not_query (get_or text k d) (all k d inside)) in
    let fragment = before_first-none (λ b. b == 35) text (λ k d inside. not_fragment (get_or text k d) (all k d inside)) in
    ap (before_first (λ b. b == 35)) query ∙ fragment

-- the path with this key of a request
abbrev pub path_at : List ℕ → Key → PathValue
path_at text key = record { star = false; slash = ends_in_slash text || length key == 0; prefix = []; key = key }

-- the path of a request with this text is what its parts lead to
abbrev IsRead : List ℕ → Type 0
IsRead text = list_all is_path_byte text ≡ true → read_path text [] ≡ on_ok (enter_parts [] (parts_of text)) (λ key. Ok (path_at text key))

is_read-slashed : (rest : List ℕ) → IsRead (47 ∷ rest)
is_read-slashed rest plain =
    ap (λ t. on_ok (read_key t) (λ key. on_ok (read_prefix []) (below_prefix (ends_in_slash t) key))) (path_part-whole (47 ∷ rest) plain)
    ∙ ap (λ r. on_ok r (λ key. Ok (path_at (47 ∷ rest) key))) (enter_parts-of rest)

is_read : (text : List ℕ) → (slice_index text 0 == 47) ≡ true → IsRead text
is_read [] begins = absurd (cc)
is_read (b ∷ rest) begins =
    let slash : 47 ≡ b = grind (arith, nat_tests) in
    subst (λ b. IsRead (b ∷ rest)) slash (is_read-slashed rest)

-- ---- what is written

module _ (text : List ℕ) (begins : (slice_index text 0 == 47) ≡ true) (plain : list_all is_path_byte text ≡ true) where
  -- a request with this text has the path with the segments that are written
  reads_named : list_all names_segment (parts_of text) ≡ true → read_path text [] ≡ Ok (path_at text (map percent_decode (parts_of text)))
  reads_named all =
      is_read text begins plain ∙ ap (λ r. on_ok r (λ key. Ok (path_at text key))) (enter_parts-named [] (parts_of text) all)

  key_of-named : (b : Bool) → list_all names_segment (parts_of text) ≡ b → key_of text ≡ (if b then Some (map percent_decode (parts_of text)) else None)
  key_of-named b here = rw (begins, plain, here) refl

  -- as many segments as parts are all that is written
  pub key_of-exact : (path : PathValue) → read_path text [] ≡ Ok path → length path.key ≡ length (parts_of text) → key_of text ≡ Some path.key
  key_of-exact path reads longest = by_parts (enter_parts [] (parts_of text)) refl
    where
      by_parts : (r : Result Key DavError) → enter_parts [] (parts_of text) ≡ r → key_of text ≡ Some path.key
      by_parts (Ok key) here =
          let read : ◌≡◌ {A = Result PathValue DavError} (Ok (path_at text key)) (Ok path) = sym (ap (λ r. on_ok r (λ key. Ok (path_at text key))) here) ∙ sym (is_read text begins plain) ∙ reads in
          let same : path_at text key ≡ path = cc in
          let keys : key ≡ path.key = ap (λ (p : PathValue). p.key) same in
          let all = enter_parts-exact [] (parts_of text) key here (omega (arith, ap length keys, longest)) in
          let named : ◌≡◌ {A = Result Key DavError} (Ok (map percent_decode (parts_of text))) (Ok key) = sym (enter_parts-named [] (parts_of text) all) ∙ here in
          let written : map percent_decode (parts_of text) ≡ key = cc in
          key_of-named true all ∙ ap Some (written ∙ keys)
      by_parts (Err e) here =
          let read : ◌≡◌ {A = Result PathValue DavError} (Err e) (Ok path) = sym (ap (λ r. on_ok r (λ key. Ok (path_at text key))) here) ∙ sym (is_read text begins plain) ∙ reads in
          absurd (cc)

  -- fewer segments than parts are not what is written
  pub key_of-fewer : (path : PathValue) → read_path text [] ≡ Ok path → (length path.key ≡ length (parts_of text) → ⊥) → key_of text ≡ None
  key_of-fewer path reads fewer = by_all (list_all names_segment (parts_of text)) refl
    where
      by_all : (b : Bool) → list_all names_segment (parts_of text) ≡ b → key_of text ≡ None
      by_all true here =
          let read : ◌≡◌ {A = Result PathValue DavError} (Ok (path_at text (map percent_decode (parts_of text)))) (Ok path) = sym (reads_named here) ∙ reads in
          let same : path_at text (map percent_decode (parts_of text)) ≡ path = cc in
          absurd (fewer (sym (ap (λ (p : PathValue). length p.key) same) ∙ length-map (parts_of text) percent_decode))
      by_all false here = key_of-named false here

  -- what is no path is not written
  pub key_of-failed : (e : DavError) → read_path text [] ≡ Err e → key_of text ≡ None
  key_of-failed e fails = by_all (list_all names_segment (parts_of text)) refl
    where
      by_all : (b : Bool) → list_all names_segment (parts_of text) ≡ b → key_of text ≡ None
      by_all true here =
          let read : ◌≡◌ {A = Result PathValue DavError} (Ok (path_at text (map percent_decode (parts_of text)))) (Err e) = sym (reads_named here) ∙ fails in
          absurd (cc)
      by_all false here = key_of-named false here

pub key_of-cut : (text : List ℕ) → (slice_index text 0 == 47 && list_all is_path_byte text) ≡ false → key_of text ≡ None
key_of-cut text cut = rw cut refl
