-- Byte strings, strings, options, lists and tagged values.
use Rattle.std.specs.Prelude.{◌≡◌, ℕ, zero, suc, Bool, true, false, ◌==◌, List, [], ◌∷◌, length, Option, Some, None, refl}
use Rattle.std.specs.Str.{is_utf8}
use Rattle.std.proofs.Common.{sym}
use Rattle.std.proofs.lemmas.Bool.{and_parts, eqb-true}
use Rattle.dav_wire.specs.Codec.{Codec}
use Rattle.dav_wire.specs.Parts.{parse_items}
use Rattle.dav_wire.specs.NumberLaws.{items-reads_back, items-exact}
use Rattle.dav_wire.specs.Combine.{never, nothing, prefixed, variant, only, repeated}
use Rattle.dav_wire.specs.Numbers.{byte, number}

-- ---- byte strings

-- n bytes as they are
abbrev pub items : ℕ → Codec (List ℕ)
items n =
    record {
      encode = λ xs. xs;
      parse = parse_items n;
      is_valid = λ xs. length xs == n;
      reads_back = items-reads_back n;
      is_exact = items-exact n;
    }

-- a byte string of less than 2 ^ 64 bytes: its length as a number, then its bytes
unfoldable pub text : Codec (List ℕ)
text = prefixed number length items (λ n xs ok. eqb-true (length xs) n ok)

-- a string: a byte string that is UTF-8
unfoldable pub utf8_text : Codec (List ℕ)
utf8_text = only is_utf8 text

-- ---- lists

pub is_repeated : {A : Type 0} (a : Codec A) (n : ℕ) (xs : List A) → (repeated a n).is_valid xs ≡ true → length xs ≡ n
is_repeated a n xs ok = eqb-true (length xs) n (and_parts (length xs == n) _ ok).0

-- less than 2 ^ 64 values: how many as a number, then the values
abbrev pub list : {A : Type 0} → Codec A → Codec (List A)
list a = prefixed number length (repeated a) (λ n xs ok. is_repeated a n xs ok)

-- ---- enums

-- only the values with this tag
abbrev pub with_tag : {A : Type 0} → (A → ℕ) → ℕ → Codec A → Codec A
with_tag tag n a = only (λ x. tag x == n) a

pub has_tag : {A : Type 0} (tag : A → ℕ) (n : ℕ) (a : Codec A) (x : A) → (with_tag tag n a).is_valid x ≡ true → tag x ≡ n
has_tag tag n a x ok = eqb-true (tag x) n (and_parts (a.is_valid x) (tag x == n) ok).1

-- a byte says which variant follows
abbrev pub tagged : {A : Type 0} → (tag : A → ℕ) (variant_of : ℕ → Codec A) → Codec A
tagged tag variant_of =
    prefixed byte tag (λ n. with_tag tag n (variant_of n)) (λ n x ok. has_tag tag n (variant_of n) x ok)

-- the codec at this position
abbrev pub variant_at : {A : Type 0} → List (Codec A) → ℕ → Codec A
variant_at [] n = never
variant_at (a ∷ others) zero = a
variant_at (a ∷ others) (suc n) = variant_at others n

-- a byte says which of these variants follows, by its position
abbrev pub one_of : {A : Type 0} → (position : A → ℕ) (variants : List (Codec A)) → Codec A
one_of position variants = tagged position (variant_at variants)

-- ---- flags

abbrev pub flag_byte : Bool → ℕ
flag_byte false = 0
flag_byte true = 1

abbrev pub from_no : Bool → Option (Unit {0})
from_no false = Some tt
from_no true = None

abbrev pub from_yes : Bool → Option (Unit {0})
from_yes false = None
from_yes true = Some tt

pub no_exact : (b : Bool) (u : Unit {0}) → from_no b ≡ Some u → false ≡ b
no_exact false u e = refl
no_exact true u e = cc

pub yes_exact : (b : Bool) (u : Unit {0}) → from_yes b ≡ Some u → true ≡ b
yes_exact false u e = cc
yes_exact true u e = refl

abbrev pub no : Codec Bool
no = variant nothing (λ u. false) from_no (λ u. refl) (λ b u e. no_exact b u e)

abbrev pub yes : Codec Bool
yes = variant nothing (λ u. true) from_yes (λ u. refl) (λ b u e. yes_exact b u e)

-- byte 0 for no, and byte 1 for yes
unfoldable pub flag : Codec Bool
flag = one_of flag_byte (no ∷ yes ∷ [])

-- ---- options

abbrev pub option_tag : {A : Type 0} → Option A → ℕ
option_tag None = 0
option_tag (Some x) = 1

abbrev pub from_none : {A : Type 0} → Option A → Option (Unit {0})
from_none None = Some tt
from_none (Some x) = None

pub none_exact : {A : Type 0} (o : Option A) (u : Unit {0}) → from_none o ≡ Some u → ◌≡◌ {A = Option A} None o
none_exact None u e = refl
none_exact (Some x) u e = cc

pub some_exact : {A : Type 0} (o : Option A) (x : A) → o ≡ Some x → Some x ≡ o
some_exact o x e = sym e

-- `None`, and `Some` of a value
abbrev pub none_variant : {A : Type 0} → Codec (Option A)
none_variant = variant nothing (λ u. None) from_none (λ u. refl) (λ o u e. none_exact o u e)

abbrev pub some_variant : {A : Type 0} → Codec A → Codec (Option A)
some_variant a = variant a Some (λ o. o) (λ x. refl) (λ o x e. some_exact o x e)

abbrev pub option_variant : {A : Type 0} → Codec A → ℕ → Codec (Option A)
option_variant a zero = none_variant
option_variant a (suc zero) = some_variant a
option_variant a (suc (suc n)) = never

-- byte 0, or byte 1 and the value
abbrev pub optional : {A : Type 0} → Codec A → Codec (Option A)
optional a = tagged option_tag (option_variant a)
