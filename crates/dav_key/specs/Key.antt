-- Keys: a resource's name as a list of segments (RFC 3986, section 3.3), each a list of bytes. Their order is this project's own choice.
use Rattle.std.specs.Prelude.{◌≡◌, ℕ, Bool, true, ◌-◌, List, length, take, drop, bytes_eq, Option, Some, None, if◌then◌else◌, refl}
use Rattle.std.specs.List.{starts_with}
use Rattle.std.specs.Bool.{Decides}
use Rattle.std.specs.declared.cmp.Ordering.{Ordering}
use Rattle.std.specs.declared.cmp.Ordering.TheVariants.{Less, Equal, Greater}
use Rattle.std.specs.Ordering.{nat_cmp, eq_by_cmp, is_eq}
use Rattle.std.specs.Cmp.{IsTotalOrder, tied_itself}
use Rattle.std.specs.Cmp.Lexicographic.{pointwise, slice_cmp, lists_total, nat_list_cmp_total}
use Rattle.std.specs.FinMap.{IsAntisymmetric, slice_cmp-IsAntisymmetric, nat_cmp-IsAntisymmetric}
use Rattle.std.proofs.Common.{ap}
use Rattle.std.proofs.lemmas.Slice.Eq.{bytes_eq-Decides, slice_eq-Decides}

abbrev pub Key : Type 0
Key = List (List ℕ)

-- both keys have the same number of segments, and each segment has the same bytes as its counterpart
abbrev pub is_same_key : Key → Key → Bool
is_same_key = pointwise bytes_eq

-- the order of keys: lexicographic by segments, and each segment lexicographic by bytes
abbrev pub key_cmp : Key → Key → Ordering
key_cmp = slice_cmp (slice_cmp nat_cmp)

-- the key without its last segment; the parent of the root is the root
abbrev pub parent : Key → Key
parent key = take (length key - 1) key

-- the key below a prefix, if it begins with the prefix
abbrev pub stripped : Key → Key → Option Key
stripped key prefix = if starts_with bytes_eq key prefix then Some (drop (length prefix) key) else None

-- `is_same_key` is true exactly when the keys are equal.

pub same_key_decides : (a b : Key) → Decides (is_same_key a b) (a ≡ b)
same_key_decides a b = slice_eq-Decides bytes_eq-Decides a b (is_same_key a b) refl

-- Laws of the order of keys.

pub key_cmp_total : IsTotalOrder key_cmp
key_cmp_total = lists_total nat_list_cmp_total

-- keys that tie are equal
pub key_cmp_exact : IsAntisymmetric key_cmp
key_cmp_exact = slice_cmp-IsAntisymmetric (slice_cmp-IsAntisymmetric nat_cmp-IsAntisymmetric)

tied : (order : Ordering) → is_eq order ≡ true → order ≡ Equal
tied Less e = absurd cc
tied Equal e = refl
tied Greater e = absurd cc

pub tied_decides : (a b : Key) → Decides (eq_by_cmp key_cmp a b) (a ≡ b)
tied_decides a b = (λ e. key_cmp_exact a b (tied (key_cmp a b) e), λ e. rw e (ap is_eq (tied_itself key_cmp_total b)))
