-- Reading what was written gives the same key.
use Rattle.std.proofs.Common.{◌≡◌, ◌∙◌, ◌<◌, ◌%◌, ◌/◌, ℕ, List, [], ◌∷◌, ◌++◌, Bool, true, false, ◌==◌, ◌||◌, if◌then◌else◌, refl, ap, sym, arith, map, Ok, append_assoc, All, suc, length}
use Rattle.std.proofs.lemmas.List.{append-nil}
use Rattle.std.proofs.lemmas.Bool.{agree_below_at}
use Rattle.std.proofs.lemmas.Bool.Decides.{nat_tests}
use Rattle.std.proofs.lemmas.List.Splits.{slice_split_at, slice_split_none}
use Rattle.std.specs.List.{slice_split}
use Rattle.std.specs.Char.{is_ascii_hexdigit}
use Rattle.std.specs.Fmt.{digit_glyph}
use Rattle.percent_encoding.specs.AsciiSet.{contains}
use Rattle.percent_encoding.specs.Percent.{percent_decode, percent_encode_byte}
use Rattle.percent_encoding.specs.declared.ascii_set.AsciiSet.{AsciiSet}
use Rattle.percent_encoding.proofs.PercentLemmas.{round_trip}
use Rattle.dav_key.specs.Key.{Key}
use Rattle.dav_resource.specs.declared.path.write.TheConstants.{ESCAPED, ESCAPED_IN_HREF}
use Rattle.dav_resource.specs.declared.profile.Profile.TheVariants.{Standard}
use Rattle.dav_resource.specs.PathText.{PathValue, is_slash, is_unreserved, has_whole_escapes, escape_but, key_text_but, last_slash, url_text, url_text_but, read_part, enter_part, enter_parts, read_key, IsSegment, IsKey}
use Rattle.dav_resource.specs.PathLaws.{read_part_nil}
use Rattle.dav_resource.specs.Escapes.{IsSetBut}
use Rattle.dav_resource.specs.Profile.{is_kept_in_href}
use Rattle.dav_resource.proofs.EscapeLemmas.{percent_encode-escape, All-escape_but, escaped_set, escaped_in_standard}

-- ---- what is kept

-- bytes that a set has not, each of which may stand in a segment
pub record AreKept (keeps : ℕ → Bool) (set : AsciiSet) : Type 0 where
  pub set_but : IsSetBut set keeps
  pub allowed : (b : ℕ) → keeps b ≡ true → is_kept_in_href Standard b ≡ true
  pub percent : contains set 37 ≡ true

first : (b c : Bool) → b ≡ true → (b || c) ≡ true
first b c is = rw is

pub unreserved : AreKept is_unreserved ESCAPED
unreserved = record { set_but = escaped_set; allowed = λ b is. first (is_unreserved b) _ is; percent = refl }

pub in_standard : AreKept (is_kept_in_href Standard) ESCAPED_IN_HREF
in_standard = record { set_but = escaped_in_standard; allowed = λ b is. is; percent = refl }

-- ---- one segment

hex_glyph : (d : ℕ) → d < 16 → is_ascii_hexdigit (digit_glyph true d) ≡ true
hex_glyph d small = agree_below_at (λ d. is_ascii_hexdigit (digit_glyph true d)) (λ _. true) 16 d refl small

other_glyph : (d : ℕ) → d < 16 → (digit_glyph true d == 37) ≡ false
other_glyph d small = agree_below_at (λ d. digit_glyph true d == 37) (λ _. false) 16 d refl small

not_percent : (b : ℕ) → is_kept_in_href Standard b ≡ true → (b == 37) ≡ false
not_percent b kept = grind (arith, nat_tests)

not_slash : (b : ℕ) → is_kept_in_href Standard b ≡ true → (b == 47) ≡ false
not_slash b kept = grind (arith, nat_tests)

module _ (keeps : ℕ → Bool) (set : AsciiSet) (are : AreKept keeps set) where
  whole_step : (b : ℕ) (kept : Bool) → keeps b ≡ kept → (bs : List ℕ) → has_whole_escapes ((if kept then b ∷ [] else percent_encode_byte b) ++ bs) ≡ has_whole_escapes bs
  unfolding percent_encode_byte
  whole_step b true is bs = rw (not_percent b (are.allowed b is))
  whole_step b false is bs =
      let high = hex_glyph (b / 16 % 16) (omega arith) in
      let low = hex_glyph (b % 16) (omega arith) in
      let high_other = other_glyph (b / 16 % 16) (omega arith) in
      let low_other = other_glyph (b % 16) (omega arith) in
      rw (high, low, high_other, low_other)

  has_whole_escapes-escape : (s : List ℕ) → has_whole_escapes (escape_but keeps s) ≡ true
  has_whole_escapes-escape [] = refl
  has_whole_escapes-escape (b ∷ bs) = whole_step b (keeps b) refl (escape_but keeps bs) ∙ has_whole_escapes-escape bs

  percent_decode-escape : (s : List ℕ) → All (λ b. b < 256) s → percent_decode (escape_but keeps s) ≡ s
  percent_decode-escape s bytes = rw (← percent_encode-escape keeps set are.set_but s) (round_trip set s are.percent bytes)

  read_part-escape : (s : List ℕ) → IsSegment s → read_part (escape_but keeps s) ≡ Ok s
  read_part-escape s is = rw (has_whole_escapes-escape s, percent_decode-escape s is.written.bytes, is.written.text)

  pub escape-unslashed : (s : List ℕ) → All (λ b. is_slash b ≡ false) (escape_but keeps s)
  escape-unslashed s = All-escape_but keeps set are.set_but (λ b. is_slash b ≡ false) (λ b kept. not_slash b (are.allowed b kept)) (λ b escaped. grind (arith, nat_tests)) s

-- ---- the parts

-- nothing, or a text that begins with a slash
pub data Begins : List ℕ → Type 0 where
  ended : Begins []
  slashed : (rest : List ℕ) → Begins (47 ∷ rest)

-- the parts after the first slash
abbrev later : List ℕ → Key
later [] = []
later (b ∷ bs) = slice_split is_slash bs

split-begins : (e text : List ℕ) → All (λ b. is_slash b ≡ false) e → Begins text → slice_split is_slash (e ++ text) ≡ e ∷ later text
split-begins e _ plain ended = ap (slice_split is_slash) (append-nil e) ∙ slice_split_none is_slash e plain
split-begins e _ plain (slashed rest) = slice_split_at is_slash e 47 rest plain refl

pub not_empty : (n : ℕ) → (suc n == 0) ≡ false
not_empty n = grind (arith, nat_tests)

pub begins-last : (slash : Bool) (key : Key) → Begins (last_slash slash key)
begins-last true key = slashed []
begins-last false [] = slashed []
begins-last false (s ∷ key) = rw (not_empty (length key)) ended

module _ (keeps : ℕ → Bool) where
  pub begins-key : (key : Key) (tail : List ℕ) → Begins tail → Begins (key_text_but keeps key ++ tail)
  begins-key [] tail begins = begins
  begins-key (s ∷ key) tail begins = slashed ((escape_but keeps s ++ key_text_but keeps key) ++ tail)

module _ (keeps : ℕ → Bool) (set : AsciiSet) (are : AreKept keeps set) where
  later-key : (key : Key) (tail : List ℕ) → Begins tail → later (key_text_but keeps key ++ tail) ≡ map (escape_but keeps) key ++ later tail
  later-key [] tail begins = refl
  later-key (s ∷ key) tail begins =
      ap (slice_split is_slash) (append_assoc (escape_but keeps s) (key_text_but keeps key) tail)
      ∙ split-begins (escape_but keeps s) (key_text_but keeps key ++ tail) (escape-unslashed keeps set are s) (begins-key keeps key tail begins)
      ∙ ap (λ parts. escape_but keeps s ∷ parts) (later-key key tail begins)

  -- ---- the key of the parts

  enter-segment : (key : Key) (s : List ℕ) → IsSegment s → enter_part key (escape_but keeps s) ≡ Ok (key ++ s ∷ [])
  enter-segment key s is = rw (read_part-escape keeps set are s is, is.kept, is.child)

  enter-nil : (key : Key) → enter_part key [] ≡ Ok key
  enter-nil key = rw read_part_nil

  enter-key : (before key : Key) (rest : Key) → IsKey key → enter_parts before (map (escape_but keeps) key ++ rest) ≡ enter_parts (before ++ key) rest
  enter-key before [] rest is = ap (λ k. enter_parts k rest) (sym (append-nil before))
  enter-key before (s ∷ key) rest is =
      rw (enter-segment before s is.0) (enter-key (before ++ s ∷ []) key rest is.1 ∙ ap (λ k. enter_parts k rest) (append_assoc before (s ∷ []) key))

  enter-last : (key : Key) (slash : Bool) (of : Key) → enter_parts key (later (last_slash slash of)) ≡ Ok key
  enter-last key true of = rw (enter-nil key)
  enter-last key false [] = rw (enter-nil key)
  enter-last key false (s ∷ of) = rw (not_empty (length of))

  -- a text that begins with a slash is read part by part
  read_key-begins : (text : List ℕ) → Begins text → (text ≡ [] → ⊥) → read_key text ≡ enter_parts [] ([] ∷ later text)
  read_key-begins _ ended none = absurd (none refl)
  read_key-begins _ (slashed rest) some = refl

  nonempty : (slash : Bool) (key : Key) → key_text_but keeps key ++ last_slash slash key ≡ [] → ⊥
  nonempty true [] e = cc
  nonempty false [] e = cc
  nonempty slash (s ∷ key) e = cc

  pub read_key-text : (path : PathValue) → IsKey path.key → path.star ≡ false → read_key (url_text_but keeps path) ≡ Ok path.key
  read_key-text path is here =
      let tail = last_slash path.slash path.key in
      let begins = begins-key keeps path.key tail (begins-last path.slash path.key) in
      rw here (
      read_key-begins (key_text_but keeps path.key ++ tail) begins (nonempty path.slash path.key)
      ∙ ap (enter_parts []) (ap (λ parts. [] ∷ parts) (later-key path.key tail (begins-last path.slash path.key)))
      ∙ rw (enter-nil []) (enter-key [] path.key (later tail) is ∙ enter-last path.key path.slash path.key))

pub read_key-url_text : (path : PathValue) → IsKey path.key → path.star ≡ false → read_key (url_text path) ≡ Ok path.key
read_key-url_text = read_key-text is_unreserved ESCAPED unreserved
