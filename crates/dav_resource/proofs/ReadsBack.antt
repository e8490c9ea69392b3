-- The text of a path: it reads back as the path, and is a header's value.
use Rattle.std.proofs.Common.{◌≡◌, ◌∙◌, ◌<◌, ◌-◌, ◌+◌, ℕ, List, [], ◌∷◌, ◌++◌, Bool, true, false, ◌==◌, ◌||◌, if◌then◌else◌, refl, ap, sym, subst, arith, rules, Ok, All, length, bytes_eq, codes, IsTrue, get_or, length-append}
use Rattle.std.proofs.Math.Seq.{take-length}
use Rattle.std.proofs.lemmas.List.{append-nil, get_or-append-add}
use Rattle.std.proofs.lemmas.Bool.Decides.{nat_tests}
use Rattle.std.proofs.lemmas.List.Elements.{All-append, All-nil, All-cons}
use Rattle.std.proofs.lemmas.List.Sums.{position_or_len_is}
use Rattle.std.specs.List.{before_first}
use Rattle.http_header.specs.FieldValue.{IsFieldValue}
use Rattle.http_header.specs.Token.{is_value_byte}
use Rattle.percent_encoding.proofs.PercentLemmas.{IsEscapeByte, percent_encode_nonempty}
use Rattle.percent_encoding.specs.declared.ascii_set.AsciiSet.{AsciiSet}
use Rattle.dav_key.specs.Key.{Key}
use Rattle.dav_resource.specs.declared.path.write.TheConstants.{ESCAPED, ESCAPED_IN_HREF}
use Rattle.dav_resource.specs.declared.profile.Profile.{Profile}
use Rattle.dav_resource.specs.declared.profile.Profile.TheVariants.{Crate, Standard}
use Rattle.dav_resource.specs.PathText.{PathValue, IsPathValue, IsSegment, IsKey, star_path, is_slash, is_unreserved, escape_but, key_text_but, last_slash, url_text, url_text_but, path_part, ends_in_slash, read_key, read_prefix, below_prefix, read_path, on_ok, is_dropped}
use Rattle.dav_resource.specs.PathForms.{is_collection}
use Rattle.dav_resource.specs.Profile.{is_kept_in_href, href_text}
use Rattle.dav_resource.proofs.EscapeLemmas.{All-escape_but, percent_encode-escape}
use Rattle.dav_resource.proofs.RoundTrip.{AreKept, unreserved, in_standard, Begins, ended, slashed, begins-key, begins-last, not_empty, read_key-text, escape-unslashed}

-- ---- bytes

value_byte : (b : ℕ) → is_kept_in_href Standard b ≡ true → IsTrue (is_value_byte b)
value_byte b kept = grind (arith, nat_tests)

value_escape : (b : ℕ) → IsEscapeByte b → IsTrue (is_value_byte b)
value_escape b escaped = grind (arith, nat_tests)

before_first-none : (p : ℕ → Bool) (xs : List ℕ) → All (λ b. p b ≡ false) xs → before_first p xs ≡ xs
before_first-none p xs none =
    let whole = position_or_len_is p xs (length xs) 0 (omega arith) (λ k inside. none k 0 inside) (λ past. absurd (omega arith)) in
    rw whole (take-length xs)

All-last_slash : (P : ℕ → Type 0) → P 47 → (slash : Bool) (key : Key) → All P (last_slash slash key)
All-last_slash P slash true key = All-cons P 47 [] slash (All-nil P)
All-last_slash P slash false [] = All-cons P 47 [] slash (All-nil P)
All-last_slash P slash false (s ∷ key) = rw (not_empty (length key)) (All-nil P)

ends-append : (xs ys : List ℕ) → 0 < length ys → ends_in_slash (xs ++ ys) ≡ ends_in_slash ys
ends-append xs ys some =
    let at : length (xs ++ ys) - 1 ≡ length xs + (length ys - 1) = omega (arith, length-append xs ys) in
    ap (λ n. get_or (xs ++ ys) n 0 == 47) at ∙ ap (λ b. b == 47) (get_or-append-add xs ys (length ys - 1) 0)

ends-plain : (xs : List ℕ) → 0 < length xs → All (λ b. is_slash b ≡ false) xs → ends_in_slash xs ≡ false
ends-plain xs some none = none (length xs - 1) 0 (omega arith)

some-segment : (s : List ℕ) → is_dropped s ≡ false → 0 < length s
some-segment [] kept = absurd (cc)
some-segment (b ∷ bs) kept = omega arith

not_star : (text : List ℕ) → Begins text → bytes_eq text (codes "*") ≡ false
not_star _ ended = refl
not_star _ (slashed rest) = refl

read_path-at : (text : List ℕ) (key : Key) (slash : Bool) → bytes_eq text (codes "*") ≡ false → path_part text ≡ text → read_key text ≡ Ok key → (ends_in_slash text || length key == 0) ≡ slash → read_path text [] ≡ Ok (record { star = false; slash = slash; prefix = []; key = key })
read_path-at text key slash other whole reads ends =
    ap (λ b. if b then Ok star_path else on_ok (read_key (path_part text)) (λ key. on_ok (read_prefix []) (below_prefix (ends_in_slash (path_part text)) key))) other
    ∙ ap (λ t. on_ok (read_key t) (λ key. on_ok (read_prefix []) (below_prefix (ends_in_slash t) key))) whole
    ∙ ap (λ r. on_ok r (λ key. on_ok (read_prefix []) (below_prefix (ends_in_slash text) key))) reads
    ∙ ap (λ slash. Ok (record { star = false; slash = slash; prefix = []; key = key })) ends

-- ---- a path as a string

module _ (keeps : ℕ → Bool) (set : AsciiSet) (are : AreKept keeps set) where
  All-key_text : (P : ℕ → Type 0) → P 47 → ((s : List ℕ) → All P (escape_but keeps s)) → (key : Key) → All P (key_text_but keeps key)
  All-key_text P slash segment [] = All-nil P
  All-key_text P slash segment (s ∷ key) =
      All-append P (47 ∷ escape_but keeps s) (key_text_but keeps key) (All-cons P 47 (escape_but keeps s) slash (segment s)) (All-key_text P slash segment key)

  -- what holds of `/`, of each byte that may be kept and of each byte of an escape
  All-text : (P : ℕ → Type 0) → P 47 → ((b : ℕ) → is_kept_in_href Standard b ≡ true → P b) → ((b : ℕ) → IsEscapeByte b → P b) → (slash : Bool) (key : Key) → All P (key_text_but keeps key ++ last_slash slash key)
  All-text P here plain escaped slash key =
      All-append P (key_text_but keeps key) (last_slash slash key)
      (All-key_text P here (All-escape_but keeps set are.set_but P (λ b kept. plain b (are.allowed b kept)) escaped) key)
      (All-last_slash P here slash key)

  value-go : (path : PathValue) (star : Bool) → path.star ≡ star → IsFieldValue (url_text_but keeps path)
  value-go path true here = rw here (All-cons (λ b. IsTrue (is_value_byte b)) 42 [] (search rules) (All-nil (λ b. IsTrue (is_value_byte b))))
  value-go path false here = rw here (All-text (λ b. IsTrue (is_value_byte b)) (search rules) value_byte value_escape path.slash path.key)

  pub IsFieldValue-text : (path : PathValue) → IsFieldValue (url_text_but keeps path)
  IsFieldValue-text path = value-go path path.star refl

  -- nothing is cut off
  no_cut : (mark : ℕ) → (47 == mark) ≡ false → ((b : ℕ) → is_kept_in_href Standard b ≡ true → (b == mark) ≡ false) → ((b : ℕ) → IsEscapeByte b → (b == mark) ≡ false) → (slash : Bool) (key : Key)
      → before_first (λ b. b == mark) (key_text_but keeps key ++ last_slash slash key) ≡ key_text_but keeps key ++ last_slash slash key
  no_cut mark here plain escaped slash key =
      before_first-none (λ b. b == mark) (key_text_but keeps key ++ last_slash slash key) (All-text (λ b. (b == mark) ≡ false) here plain escaped slash key)

  path_part-text : (slash : Bool) (key : Key) → path_part (key_text_but keeps key ++ last_slash slash key) ≡ key_text_but keeps key ++ last_slash slash key
  path_part-text slash key =
      let query = no_cut 63 refl (λ b kept. grind (arith, nat_tests)) (λ b escaped. grind (arith, nat_tests)) slash key in
      let fragment = no_cut 35 refl (λ b kept. grind (arith, nat_tests)) (λ b escaped. grind (arith, nat_tests)) slash key in
      ap (before_first (λ b. b == 35)) query ∙ fragment

  -- the last slash
  some-escape : (s : List ℕ) → IsSegment s → 0 < length (escape_but keeps s)
  some-escape s is = rw (← percent_encode-escape keeps set are.set_but s) (percent_encode_nonempty set s (some-segment s is.kept))

  ends-key : (s : List ℕ) (key : Key) → IsKey (s ∷ key) → ends_in_slash (key_text_but keeps (s ∷ key)) ≡ false
  ends-key s [] is =
      ap ends_in_slash (append-nil (47 ∷ escape_but keeps s)) ∙ ends-append (47 ∷ []) (escape_but keeps s) (some-escape s is.0)
      ∙ ends-plain (escape_but keeps s) (some-escape s is.0) (escape-unslashed keeps set are s)
  ends-key s (t ∷ key) is =
      ends-append (47 ∷ escape_but keeps s) (key_text_but keeps (t ∷ key)) (omega arith) ∙ ends-key t key is.1

  ends-text : (slash : Bool) (key : Key) → IsKey key → (ends_in_slash (key_text_but keeps key ++ last_slash slash key) || length key == 0) ≡ (slash || length key == 0)
  ends-text true key is = rw (ends-append (key_text_but keeps key) (47 ∷ []) (omega arith)) refl
  ends-text false [] is = refl
  ends-text false (s ∷ key) is =
      let bare : last_slash false (s ∷ key) ≡ [] = rw (not_empty (length key)) refl in
      ap (λ tail. ends_in_slash (key_text_but keeps (s ∷ key) ++ tail) || length (s ∷ key) == 0) bare
      ∙ ap (λ text. ends_in_slash text || length (s ∷ key) == 0) (append-nil (key_text_but keeps (s ∷ key)))
      ∙ ap (λ ends. ends || length (s ∷ key) == 0) (ends-key s key is)

  reads-go : (path : PathValue) (star : Bool) → path.star ≡ star → IsPathValue path → read_path (url_text_but keeps path) [] ≡ Ok (record path { slash = is_collection path; prefix = [] })
  reads-go path true here is =
      subst (λ p. read_path (url_text_but keeps p) [] ≡ Ok (record p { slash = is_collection p; prefix = [] })) (sym (is.star here)) refl
  reads-go path false here is =
      let text = key_text_but keeps path.key ++ last_slash path.slash path.key in
      let written : url_text_but keeps path ≡ text = rw here refl in
      let reads = sym (ap read_key written) ∙ read_key-text keeps set are path is.key here in
      let begins = begins-key keeps path.key (last_slash path.slash path.key) (begins-last path.slash path.key) in
      ap (λ t. read_path t []) written
      ∙ read_path-at text path.key (is_collection path) (not_star text begins) (path_part-text path.slash path.key) reads (ends-text path.slash path.key is.key)
      ∙ ap (λ star. Ok (record { star = star; slash = is_collection path; prefix = []; key = path.key })) (sym here)

  pub read_path-text : (path : PathValue) → IsPathValue path → read_path (url_text_but keeps path) [] ≡ Ok (record path { slash = is_collection path; prefix = [] })
  read_path-text path is = reads-go path path.star refl is

pub IsFieldValue-url_text : (path : PathValue) → IsFieldValue (url_text path)
IsFieldValue-url_text = IsFieldValue-text is_unreserved ESCAPED unreserved

pub read_path-url_text : (path : PathValue) → IsPathValue path → read_path (url_text path) [] ≡ Ok (record path { slash = is_collection path; prefix = [] })
read_path-url_text = read_path-text is_unreserved ESCAPED unreserved

pub read_path-href_text : (profile : Profile) (path : PathValue) → IsPathValue path → read_path (href_text profile path) [] ≡ Ok (record path { slash = is_collection path; prefix = [] })
read_path-href_text Crate = read_path-url_text
read_path-href_text Standard = read_path-text (is_kept_in_href Standard) ESCAPED_IN_HREF in_standard
