-- How a key's text is written.
use Rattle.std.proofs.Common.{◌≡◌, ◌∙◌, ◌<◌, ◌≤◌, ℕ, List, [], ◌∷◌, ◌++◌, Bool, true, false, not, ◌||◌, if◌then◌else◌, refl, sym, ap, arith, All, append_assoc}
use Rattle.std.proofs.lemmas.Bool.{agree_below, agree_below_at}
use Rattle.std.proofs.lemmas.Bool.Decides.{nat_tests}
use Rattle.std.specs.Char.{is_ascii}
use Rattle.percent_encoding.specs.AsciiSet.{contains, should_percent_encode}
use Rattle.percent_encoding.specs.declared.ascii_set.AsciiSet.{AsciiSet}
use Rattle.percent_encoding.specs.Percent.{percent_encode, percent_encode_byte}
use Rattle.dav_key.specs.Key.{Key}
use Rattle.percent_encoding.proofs.PercentLemmas.{IsEscapeByte, All-percent_encode}
use Rattle.dav_resource.specs.declared.path.write.TheConstants.{ESCAPED, ESCAPED_IN_HREF}
use Rattle.dav_resource.specs.declared.profile.Profile.{Profile}
use Rattle.dav_resource.specs.declared.profile.Profile.TheVariants.{Crate, Standard}
use Rattle.dav_resource.specs.PathText.{PathValue, is_unreserved, escape, escape_but, key_text_but, last_slash, url_text_but}
use Rattle.dav_resource.specs.Escapes.{IsSetBut, key_text_with, url_text_with}
use Rattle.dav_resource.specs.Profile.{is_kept_in_href}

flip : (kept : Bool) → not kept ≡ false → kept ≡ true
flip true e = refl
flip false e = cc

choose : {X : Type 0} (b c : Bool) (x y : X) → b ≡ not c → (if b then x else y) ≡ (if c then y else x)
choose b true x y e = rw e
choose b false x y e = rw e

-- ---- any set

module _ (keeps : ℕ → Bool) (set : AsciiSet) where
  -- a set that agrees in ASCII, where nothing else is kept
  pub escapes : agree_below (contains set) (λ b. not (keeps b)) 128 ≡ true → ((b : ℕ) → 128 ≤ b → keeps b ≡ false) → IsSetBut set keeps
  unfolding should_percent_encode
  escapes agrees above b = go (is_ascii b) refl
    where
      go : (ascii : Bool) → is_ascii b ≡ ascii → should_percent_encode set b ≡ not (keeps b)
      go true is =
          let low : b < 128 = grind (arith, nat_tests) in
          rw is (agree_below_at (contains set) (λ b. not (keeps b)) 128 b agrees low)
      go false is =
          let high : 128 ≤ b = grind (arith, nat_tests) in
          rw (is, above b high)

  module _ (is : IsSetBut set keeps) where
    -- what is kept as it is
    pub kept : (b : ℕ) → should_percent_encode set b ≡ false → keeps b ≡ true
    kept b plain = flip (keeps b) (sym (is b) ∙ plain)

    pub percent_encode-escape : (bs : List ℕ) → percent_encode set bs ≡ escape_but keeps bs
    unfolding percent_encode
    percent_encode-escape [] = refl
    percent_encode-escape (b ∷ bs) =
        λ i. choose (should_percent_encode set b) (keeps b) (percent_encode_byte b) (b ∷ []) (is b) i ++ percent_encode-escape bs i

    -- what holds of each byte that is kept and of each byte of an escape holds of each byte of the text
    pub All-escape_but : (P : ℕ → Type 0) → ((b : ℕ) → keeps b ≡ true → P b) → ((b : ℕ) → IsEscapeByte b → P b) → (bs : List ℕ) → All P (escape_but keeps bs)
    All-escape_but P plain escaped bs =
        rw (← percent_encode-escape bs) (All-percent_encode P set bs (λ b unescaped. plain b (kept b unescaped)) escaped)

    pub key_text_is : (key : Key) → key_text_with set key ≡ key_text_but keeps key
    key_text_is [] = refl
    key_text_is (s ∷ key) = λ i. 47 ∷ (percent_encode-escape s i ++ key_text_is key i)

    pub url_text_is : (path : PathValue) → url_text_with set path ≡ url_text_but keeps path
    url_text_is path = ap (λ text. if path.star then 42 ∷ [] else text ++ last_slash path.slash path.key) (key_text_is path.key)

-- the text so far, and one more segment
pub key_text-next : (set : AsciiSet) (text s : List ℕ) (rest : Key) → ((text ++ 47 ∷ []) ++ percent_encode set s) ++ key_text_with set rest ≡ text ++ key_text_with set (s ∷ rest)
key_text-next set text s rest = simp append_assoc

-- ---- the sets of this crate

no_unreserved : (b : ℕ) → 128 ≤ b → is_unreserved b ≡ false
no_unreserved b high = grind (arith, nat_tests)

none_kept : (b : ℕ) → 128 ≤ b → is_kept_in_href Standard b ≡ false
none_kept b high = grind (arith, nat_tests)

pub escaped_set : IsSetBut ESCAPED is_unreserved
escaped_set = escapes is_unreserved ESCAPED refl no_unreserved

pub escaped_in_standard : IsSetBut ESCAPED_IN_HREF (is_kept_in_href Standard)
escaped_in_standard = escapes (is_kept_in_href Standard) ESCAPED_IN_HREF refl none_kept

pub All-escape : (P : ℕ → Type 0) → ((b : ℕ) → is_unreserved b ≡ true → P b) → ((b : ℕ) → IsEscapeByte b → P b) → (bs : List ℕ) → All P (escape bs)
All-escape = All-escape_but is_unreserved ESCAPED escaped_set
