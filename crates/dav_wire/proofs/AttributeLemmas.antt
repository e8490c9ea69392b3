-- Attributes, read one after the other.
use Rattle.std.proofs.Common.{◌≡◌, ◌∙◌, ℕ, ◌-◌, ◌<◌, true, false, refl, ap, sym, subst, List, [], ◌∷◌, ◌++◌, Some, None, Option, append-nil, append_assoc}
use Rattle.std.specs.Ordering.{nat_cmp, is_lt, ordering_reverse}
use Rattle.std.specs.declared.cmp.Ordering.{Ordering}
use Rattle.std.specs.declared.cmp.Ordering.TheVariants.{Less, Equal, Greater}
use Rattle.std.specs.Cmp.Lexicographic.{slice_cmp}
use Rattle.std.proofs.lemmas.Cmp.{nat_list_cmp_total}
use Rattle.std.proofs.lemmas.Bool.{and_parts, and_from, and_left, and_right}
use Rattle.dav_resource.specs.Tree.{put_attribute}
use Rattle.dav_wire.specs.Codec.{and_then}
use Rattle.dav_wire.specs.Parts.{if_passes, parse_times}
use Rattle.dav_wire.specs.Numbers.{number}
use Rattle.dav_wire.specs.Values.{list}
use Rattle.dav_wire.proofs.ListLemmas.{put_front, put_front-more, put_front-none, times_step}
use Rattle.dav_wire.specs.Trees.{attribute, attributes, is_ascending, is_key_before, may_follow}

abbrev Pair : Type 0
Pair = List ℕ × List ℕ

-- ---- order

abbrev pub last_key : List (List ℕ × List ℕ) → Option (List ℕ)
last_key [] = None
last_key (e ∷ []) = Some e.0
last_key (e ∷ f ∷ es) = last_key (f ∷ es)

less : (o : Ordering) → is_lt o ≡ true → o ≡ Less
less Less e = refl
less Equal e = cc
less Greater e = cc

after : (key next : List ℕ) → is_key_before key next ≡ true → slice_cmp nat_cmp next key ≡ Greater
after key next e =
    nat_list_cmp_total.antisymm next key ∙ ap ordering_reverse (less (slice_cmp nat_cmp key next) e)

before_trans : (a b c : List ℕ) → is_key_before a b ≡ true → is_key_before b c ≡ true → is_key_before a c ≡ true
before_trans a b c e f =
    ap is_lt (nat_list_cmp_total.trans a b c (less (slice_cmp nat_cmp a b) e) (less (slice_cmp nat_cmp b c) f))

-- every key is less than one that may follow the last
first_before : (e : Pair) (es : List Pair) (k : List ℕ) → is_ascending (e ∷ es) ≡ true → may_follow (last_key (e ∷ es)) k ≡ true → is_key_before e.0 k ≡ true
first_before e [] k up next = next
first_before e (f ∷ es) k up next =
    let parts = and_parts (is_key_before e.0 f.0) (is_ascending (f ∷ es)) up in
    before_trans e.0 f.0 k parts.0 (first_before f es k parts.1 next)

pub put_last : (es : List Pair) (k v : List ℕ) → is_ascending es ≡ true → may_follow (last_key es) k ≡ true → put_attribute es k v ≡ es ++ (k, v) ∷ []
put_last [] k v up next = refl
put_last (e ∷ []) k v up next = rw (after e.0 k next) refl
put_last (e ∷ f ∷ es) k v up next =
    let parts = and_parts (is_key_before e.0 f.0) (is_ascending (f ∷ es)) up in
    rw (after e.0 k (first_before e (f ∷ es) k up next)) (ap (λ xs. e ∷ xs) (put_last (f ∷ es) k v parts.1 next))

ascending_more : (es : List Pair) (k v : List ℕ) → is_ascending es ≡ true → may_follow (last_key es) k ≡ true → is_ascending (es ++ (k, v) ∷ []) ≡ true
ascending_more [] k v up next = refl
ascending_more (e ∷ []) k v up next = and_from (is_key_before e.0 k) true next refl
ascending_more (e ∷ f ∷ es) k v up next =
    let parts = and_parts (is_key_before e.0 f.0) (is_ascending (f ∷ es)) up in
    and_from (is_key_before e.0 f.0) (is_ascending (f ∷ es ++ (k, v) ∷ [])) parts.0 (ascending_more (f ∷ es) k v parts.1 next)

last_key-more : (es : List Pair) (k v : List ℕ) → last_key (es ++ (k, v) ∷ []) ≡ Some k
last_key-more [] k v = refl
last_key-more (e ∷ []) k v = refl
last_key-more (e ∷ f ∷ es) k v = last_key-more (f ∷ es) k v

not_ascending : (es : List Pair) (k v : List ℕ) (ys : List Pair) → may_follow (last_key es) k ≡ false → is_ascending (es ++ (k, v) ∷ ys) ≡ false
not_ascending [] k v ys next = cc
not_ascending (e ∷ []) k v ys next = and_left (is_key_before e.0 k) (is_ascending ((k, v) ∷ ys)) next
not_ascending (e ∷ f ∷ es) k v ys next =
    and_right (is_key_before e.0 f.0) (is_ascending (f ∷ es ++ (k, v) ∷ ys)) (not_ascending (f ∷ es) k v ys next)

-- ---- parses

-- what is read so far: `left` attributes are still in `bytes`
pub record AttributesSoFar (old : List ℕ) (done : List (List ℕ × List ℕ)) (last : Option (List ℕ)) (left : ℕ) (bytes : List ℕ) : Type 0 where
  pub so_far : (list attribute).parse old ≡ put_front done (parse_times attribute left bytes)
  pub up : is_ascending done ≡ true
  pub same_last : last ≡ last_key done

pub attributes_begin : (old : List ℕ) (n : ℕ) (bytes : List ℕ) → number.parse old ≡ Some (n, bytes) → AttributesSoFar old [] None n bytes
attributes_begin old n bytes e =
    record {
      so_far = rw e (sym (put_front-none (parse_times attribute n bytes)));
      up = refl;
      same_last = refl;
    }

pub attributes_begin-fails : (old : List ℕ) → number.parse old ≡ None → attributes.parse old ≡ None
unfolding attributes
attributes_begin-fails old none = rw none refl

-- one more attribute is read
parsed_more : (old : List ℕ) (done : List Pair) (last : Option (List ℕ)) (left : ℕ) (bytes rest : List ℕ) (k v : List ℕ) → AttributesSoFar old done last left bytes → 0 < left → attribute.parse bytes ≡ Some ((k, v), rest) → (list attribute).parse old ≡ put_front (done ++ (k, v) ∷ []) (parse_times attribute (left - 1) rest)
parsed_more old done last left bytes rest k v h more e =
    h.so_far ∙ ap (put_front done) (times_step attribute left bytes more)
    ∙ ap (λ (o : Option (Pair × List ℕ)). put_front done (and_then o (λ x after. and_then (parse_times attribute (left - 1) after) (λ xs end. Some (x ∷ xs, end))))) e
    ∙ put_front-more done (k, v) (parse_times attribute (left - 1) rest)

pub attributes_more : (old : List ℕ) (done : List (List ℕ × List ℕ)) (last : Option (List ℕ)) (left : ℕ) (bytes rest : List ℕ) (k v : List ℕ) → AttributesSoFar old done last left bytes → 0 < left → attribute.parse bytes ≡ Some ((k, v), rest) → may_follow last k ≡ true → AttributesSoFar old (put_attribute done k v) (Some k) (left - 1) rest
attributes_more old done last left bytes rest k v h more e next =
    let next' : may_follow (last_key done) k ≡ true = subst (λ (o : Option (List ℕ)). may_follow o k ≡ true) h.same_last next in
    let found : AttributesSoFar old (done ++ (k, v) ∷ []) (Some k) (left - 1) rest =
    record {
      so_far = parsed_more old done last left bytes rest k v h more e;
      up = ascending_more done k v h.up next';
      same_last = sym (last_key-more done k v);
    } in
    subst (λ (es : List Pair). AttributesSoFar old es (Some k) (left - 1) rest) (sym (put_last done k v h.up next')) found

pub attributes_fail : (old : List ℕ) (done : List (List ℕ × List ℕ)) (last : Option (List ℕ)) (left : ℕ) (bytes : List ℕ) → AttributesSoFar old done last left bytes → 0 < left → attribute.parse bytes ≡ None → attributes.parse old ≡ None
unfolding attributes
attributes_fail old done last left bytes h more none =
    rw (h.so_far, times_step attribute left bytes more, none) refl

none_follows : (done : List Pair) (k v : List ℕ) (o : Option (List Pair × List ℕ)) → may_follow (last_key done) k ≡ false → and_then (put_front (done ++ (k, v) ∷ []) o) (if_passes is_ascending) ≡ None
none_follows done k v None next = refl
none_follows done k v (Some p) next =
    rw (append_assoc done ((k, v) ∷ []) p.0, not_ascending done k v p.0 next) refl

pub attributes_unordered : (old : List ℕ) (done : List (List ℕ × List ℕ)) (last : Option (List ℕ)) (left : ℕ) (bytes rest : List ℕ) (k v : List ℕ) → AttributesSoFar old done last left bytes → 0 < left → attribute.parse bytes ≡ Some ((k, v), rest) → may_follow last k ≡ false → attributes.parse old ≡ None
unfolding attributes
attributes_unordered old done last left bytes rest k v h more e next =
    let next' : may_follow (last_key done) k ≡ false = subst (λ (o : Option (List ℕ)). may_follow o k ≡ false) h.same_last next in
    ap (λ (o : Option (List Pair × List ℕ)). and_then o (if_passes is_ascending)) (parsed_more old done last left bytes rest k v h more e)
    ∙ none_follows done k v (parse_times attribute (left - 1) rest) next'

pub attributes_end : (old : List ℕ) (done : List (List ℕ × List ℕ)) (last : Option (List ℕ)) (left : ℕ) (bytes : List ℕ) → AttributesSoFar old done last left bytes → left ≡ 0 → attributes.parse old ≡ Some (done, bytes)
unfolding attributes
attributes_end old done last left bytes h none_left =
    rw (h.so_far, none_left, append-nil, h.up) refl
