-- Changes that put parts, one after another.
use Rattle.std.proofs.Common.{◌≡◌, ◌<◌, ◌≤◌, ◌+◌, true, ℕ, zero, suc, List, [], ◌∷◌, ◌++◌, length, take, map, get_or, Option, Some, refl, sym, ap, ◌∙◌, subst, arith, add-one, append_assoc, append-nil, length-append, length-take}
use Rattle.std.specs.Bool.{◌==◌}
use Rattle.std.proofs.lemmas.Bool.{eqb-true}
use Rattle.std.specs.List.{slice_get, AllByRecursion}
use Rattle.std.specs.Option.{IfSome}
use Rattle.std.specs.FinMap.{insert, entries}
use Rattle.dav_key.specs.Key.{Key}
use Rattle.dav_resource.specs.Tree.{Tree}
use Rattle.dav_resource.specs.declared.property.DavProp.{DavProp}
use Rattle.dav_store.specs.Store.{PropertyMap}
use Rattle.dav_store.specs.PropertyCalls.{named_element}
use Rattle.dav_pieces.specs.declared.piece.Piece.{Piece}
use Rattle.dav_pieces.specs.Pieces.{size_of}
use Rattle.dav_pieces.proofs.PieceLaws.{size_of-append}
use Rattle.dav_rows.specs.Stored.{Numbered}
use Rattle.dav_rows.specs.Contents.{Contents}
use Rattle.dav_rows.specs.declared.change.Change.{Change}
use Rattle.dav_store_rows.specs.Parts.{MOST, part_key}
use Rattle.dav_store_rows.specs.Resources.{extent_values, extents_from, joined, property_values, properties_of}
use Rattle.dav_cells.specs.Pieces.{pieces_codec}
use Rattle.dav_cells.specs.Elements.{element_codec}
use Rattle.dav_store_rows.specs.Stands.{AreValid}
use Rattle.dav_store_rows.specs.Changed.{Appends, with_parts, with_extents, with_properties}
use Rattle.dav_store_rows.specs.Puts.{PutsExtents}
use Rattle.dav_store_rows.specs.SaveErrors.{IsFlat, AreFlatProps}
use Rattle.dav_store_rows.proofs.Appending.{appends_none, appends_then, appends_same}

-- one more item
pub all-push : {A : Type 0} (P : A → Type 0) (xs : List A) (x : A) → AllByRecursion P xs → P x → AllByRecursion P (xs ++ x ∷ [])
all-push P [] x all is = (is, tt)
all-push P (y ∷ xs) x all is = (all.0, all-push P xs x all.1 is)

-- one more part is put after the others
pub with_parts-append : {V : Type 0} (number index : ℕ) (parts : List V) (part : V) (m : Numbered V)
    → with_parts number index (parts ++ part ∷ []) m ≡ insert (with_parts number index parts m) (part_key number (index + length parts)) part
with_parts-append number index [] part m = ap (λ k. insert m (part_key number k) part) (omega arith)
with_parts-append number index (first ∷ parts) part m =
    with_parts-append number (index + 1) parts part (insert m (part_key number index) first)
    ∙ ap (λ k. insert (with_parts number (index + 1) parts (insert m (part_key number index) first)) (part_key number k) part) (omega arith)

-- ---- extents

length-extents_from : (number place : ℕ) (groups : List (List Piece)) → length (extents_from number place groups) ≡ length groups
length-extents_from number place [] = refl
length-extents_from number place (group ∷ groups) = ap suc (length-extents_from number (place + size_of group) groups)

joined-append : (groups : List (List Piece)) (group : List Piece) → joined (groups ++ group ∷ []) ≡ joined groups ++ group
joined-append [] group = append-nil group
joined-append (first ∷ groups) group = ap (λ xs. first ++ xs) (joined-append groups group) ∙ sym (append_assoc first (joined groups) group)

extents_from-append : (number place : ℕ) (groups : List (List Piece)) (group : List Piece)
    → extents_from number place (groups ++ group ∷ []) ≡ extents_from number place groups ++ extent_values number (place + size_of (joined groups)) group ∷ []
extents_from-append number place [] group = ap (λ n. extent_values number n group ∷ []) (omega arith)
extents_from-append number place (first ∷ groups) group =
    ap (λ xs. extent_values number place first ∷ xs)
    (extents_from-append number (place + size_of first) groups group
    ∙ ap (λ n. extents_from number (place + size_of first) groups ++ extent_values number n group ∷ [])
    (let sizes = size_of-append first (joined groups) in omega arith))

-- the first groups of the pieces are put
pub record PutsSome (number : ℕ) (pieces rest : List Piece) (place count : ℕ) (before now : List Change) : Type 0 where
  pub groups : List (List Piece)
  pub joined_is : joined groups ++ rest ≡ pieces
  pub place_is : place ≡ size_of (joined groups)
  pub valid : AreValid groups
  pub count_is : length groups ≡ count
  pub few : count ≤ MOST
  pub appends : Appends (with_extents number (extents_from number 0 groups)) before now

pub puts_none : (number : ℕ) (pieces : List Piece) (before : List Change) → PutsSome number pieces pieces 0 0 before before
puts_none number pieces before = record { groups = []; joined_is = refl; place_is = refl; valid = tt; count_is = refl; few = omega arith; appends = appends_none before }

pub puts_next : (number : ℕ) (pieces rest group later : List Piece) (place count end : ℕ) (before mid now : List Change) → PutsSome number pieces rest place count before mid
    → rest ≡ group ++ later → end ≡ place + size_of group → pieces_codec.is_valid group ≡ true → count < MOST
    → Appends (λ m. record m { extents = insert m.extents (part_key number count) (extent_values number place group) }) mid now
    → PutsSome number pieces later end (count + 1) before now
puts_next number pieces rest group later place count end before mid now p split end_is decodes small next =
    let more = p.groups ++ group ∷ [] in
    let put = with_extents number (extents_from number 0 p.groups) in
    let put_one : Contents → Contents = λ m. record m { extents = insert m.extents (part_key number count) (extent_values number place group) } in
    let place_is = p.place_is in
    let count_is = p.count_is in
    record {
      groups = more;
      joined_is =
          ap (λ xs. xs ++ later) (joined-append p.groups group) ∙ append_assoc (joined p.groups) group later
          ∙ ap (λ xs. joined p.groups ++ xs) (sym split) ∙ p.joined_is;
      place_is = let sizes = size_of-append (joined p.groups) group in let whole = ap size_of (joined-append p.groups group) in omega arith;
      valid = all-push (λ g. pieces_codec.is_valid g ≡ true) p.groups group p.valid decodes;
      count_is = let long = length-append p.groups (group ∷ []) in omega arith;
      few = omega arith;
      appends = appends_same (λ m. put_one (put m)) (with_extents number (extents_from number 0 more)) before now
          (λ m. ap (λ k. record m { extents = insert (with_parts number 0 (extents_from number 0 p.groups) m.extents) (part_key number k) (extent_values number place group) })
          (let long = length-extents_from number 0 p.groups in let c : count ≡ 0 + length (extents_from number 0 p.groups) = omega arith in c)
          ∙ ap (λ n. record m { extents = insert (with_parts number 0 (extents_from number 0 p.groups) m.extents) (part_key number (0 + length (extents_from number 0 p.groups))) (extent_values number n group) })
          (let n : place ≡ 0 + size_of (joined p.groups) = omega arith in n)
          ∙ ap (λ t. record m { extents = t })
          (sym (ap (λ xs. with_parts number 0 xs m.extents) (extents_from-append number 0 p.groups group)
          ∙ with_parts-append number 0 (extents_from number 0 p.groups) (extent_values number (0 + size_of (joined p.groups)) group) m.extents)))
          (appends_then put put_one before mid now p.appends next);
    }

pub puts_all : (number : ℕ) (pieces rest : List Piece) (place count : ℕ) (before now : List Change) → PutsSome number pieces rest place count before now → rest ≡ []
    → PutsExtents number pieces count before now
puts_all number pieces rest place count before now p none = record {
  extents = extents_from number 0 p.groups;
  are = record { groups = p.groups; joined_are = sym (append-nil (joined p.groups)) ∙ ap (λ xs. joined p.groups ++ xs) (sym none) ∙ p.joined_is; valid = p.valid; rows = refl };
  count_is = length-extents_from number 0 p.groups ∙ p.count_is;
  few = p.few;
  appends = p.appends;
}

-- the place and the size of the pieces that are left
pub place_within : (number : ℕ) (pieces rest : List Piece) (place count : ℕ) (before now : List Change) → PutsSome number pieces rest place count before now
    → place + size_of rest ≡ size_of pieces
place_within number pieces rest place count before now p =
    let sizes = size_of-append (joined p.groups) rest in let place_is = p.place_is in let whole = ap size_of p.joined_is in omega arith

-- each group has a piece, so there are no more groups than pieces
pub few_next : (count len : ℕ) (pieces rest group later : List Piece) → count + length rest ≤ length pieces → rest ≡ group ++ later → group ≡ take len rest
    → 0 < len → len ≤ length rest → count + 1 + length later ≤ length pieces
few_next count len pieces rest group later few split front some within =
    let long = length-append group later in let whole = ap length split in let own = ap length front in let cut = length-take len rest in omega arith

-- ---- properties

-- the property at a place has the element of the entry there
pub element_at : (props : List DavProp) (all : List (Key × Tree)) (i : ℕ) (prop : DavProp) → map named_element props ≡ map (λ e. (e.0, Some e.1)) all
    → i < length props → prop ≡ get_or props i prop → (e : Key × Tree) × (slice_get all i ≡ Some e) × (prop.element ≡ Some e.1)
element_at [] all i prop same low is = absurd (omega arith)
element_at (first ∷ props) [] i prop same low is = cc
element_at (first ∷ props) (e ∷ all) zero prop same low is =
    (e, refl, ap (λ (p : DavProp). p.element) is ∙ (let head : named_element first ≡ (e.0, Some e.1) = cc in ap (λ (x : Key × Option Tree). x.1) head))
element_at (first ∷ props) (e ∷ all) (suc i) prop same low is =
    element_at props all i prop (let tail : map named_element props ≡ map (λ e. (e.0, Some e.1)) all = cc in tail) (omega arith) is

take-suc_at : {A : Type 0} (xs : List A) (i : ℕ) (x : A) → slice_get xs i ≡ Some x → (take (suc i) xs ≡ take i xs ++ x ∷ []) × (length (take i xs) ≡ i)
take-suc_at [] i x is = cc
take-suc_at (y ∷ xs) zero x is = (let same : y ≡ x = cc in ap (λ z. z ∷ []) same, refl)
take-suc_at (y ∷ xs) (suc i) x is = let rest = take-suc_at xs i x is in (ap (λ zs. y ∷ zs) rest.0, ap suc rest.1)

slice_get-properties_of : (number : ℕ) (all : List (Key × Tree)) (i : ℕ) (e : Key × Tree) → slice_get all i ≡ Some e → slice_get (map (property_values number) all) i ≡ Some (property_values number e)
slice_get-properties_of number [] i e is = cc
slice_get-properties_of number (x ∷ all) zero e is = ap (λ y. Some (property_values number y)) (let same : x ≡ e = cc in same)
slice_get-properties_of number (x ∷ all) (suc i) e is = slice_get-properties_of number all i e is

abbrev IsDecoded : Key × Tree → Type 0
IsDecoded property = element_codec.is_valid property.1 ≡ true

-- the first properties are put, which are decoded again
pub record PutsFirst (number : ℕ) (all : PropertyMap) (count : ℕ) (before now : List Change) : Type 0 where
  pub decoded : AllByRecursion IsDecoded (take count (entries all))
  pub few : count ≤ MOST
  pub appends : Appends (with_properties number (take count (properties_of number all))) before now

pub puts_first_next : (number : ℕ) (all : PropertyMap) (count : ℕ) (e : Key × Tree) (before mid now : List Change) → PutsFirst number all count before mid
    → slice_get (entries all) count ≡ Some e → IsDecoded e → count < MOST
    → Appends (λ m. record m { properties = insert m.properties (part_key number count) (property_values number e) }) mid now
    → PutsFirst number all (count + 1) before now
puts_first_next number all count e before mid now p there decodes small next =
    let put = with_properties number (take count (properties_of number all)) in
    let put_one : Contents → Contents = λ m. record m { properties = insert m.properties (part_key number count) (property_values number e) } in
    let at = take-suc_at (properties_of number all) count (property_values number e) (slice_get-properties_of number (entries all) count e there) in
    record {
      decoded = subst (AllByRecursion IsDecoded) (sym (ap (λ n. take n (entries all)) (add-one count) ∙ (take-suc_at (entries all) count e there).0))
          (all-push IsDecoded (take count (entries all)) e p.decoded decodes);
      few = omega arith;
      appends = appends_same (λ m. put_one (put m)) (with_properties number (take (count + 1) (properties_of number all))) before now
          (λ m. ap (λ t. record m { properties = t })
          (sym (ap (λ n. with_parts number 0 (take n (properties_of number all)) m.properties) (add-one count)
          ∙ ap (λ xs. with_parts number 0 xs m.properties) at.0
          ∙ with_parts-append number 0 (take count (properties_of number all)) (property_values number e) m.properties
          ∙ ap (λ k. insert (with_parts number 0 (take count (properties_of number all)) m.properties) (part_key number k) (property_values number e)) (let long = at.1 in omega arith))))
          (appends_then put put_one before mid now p.appends next);
    }

-- the property at a place is put
pub property_next : (number : ℕ) (all : PropertyMap) (props : List DavProp) (i count : ℕ) (prop : DavProp) (element : Tree) (before mid now : List Change)
    → map named_element props ≡ map (λ e. (e.0, Some e.1)) (entries all) → i < length props → prop ≡ get_or props i prop → prop.element ≡ Some element
    → (count ≡ i) × PutsFirst number all count before mid → element_codec.is_valid element ≡ true → count < MOST
    → Appends (λ m. record m { properties = insert m.properties (part_key number count) (property_values number ([], element)) }) mid now
    → (count + 1 ≡ i + 1) × PutsFirst number all (count + 1) before now
property_next number all props i count prop element before mid now same low is there (at, p) decodes small next =
    let e = element_at props (entries all) i prop same low is in
    let found : slice_get (entries all) count ≡ Some e.0 = ap (slice_get (entries all)) at ∙ e.1 in
    let has = e.2 in
    let tree : element ≡ e.0.1 = cc in
    let put : Tree → Contents → Contents = λ t m. record m { properties = insert m.properties (part_key number count) (property_values number ([], t)) } in
    (ap (λ n. n + 1) at, puts_first_next number all count e.0 before mid now p found (subst (λ t. element_codec.is_valid t ≡ true) tree decodes) small (subst (λ t. Appends (put t) mid now) tree next))

-- a list of no items
pub none_left : {A : Type 0} (xs : List A) → true ≡ (length xs == 0) → xs ≡ []
none_left [] e = refl
none_left (x ∷ xs) e = absurd (let no : suc (length xs) ≡ 0 = eqb-true (suc (length xs)) 0 (sym e) in omega arith)

-- ---- levels

-- the listed properties are as many as those of the map
pub length_listed : (props : List DavProp) (all : List (Key × Tree)) → map named_element props ≡ map (λ e. (e.0, Some e.1)) all → length props ≡ length all
length_listed [] [] same = refl
length_listed [] (e ∷ all) same = cc
length_listed (first ∷ props) [] same = cc
length_listed (first ∷ props) (e ∷ all) same =
    ap suc (length_listed props all (let tail : map named_element props ≡ map (λ e. (e.0, Some e.1)) all = cc in tail))

-- and no deeper
pub flat_listed : (props : List DavProp) (all : List (Key × Tree)) → map named_element props ≡ map (λ e. (e.0, Some e.1)) all
    → AllByRecursion (λ property. IsFlat property.1) all → AreFlatProps props
flat_listed [] all same flat = tt
flat_listed (first ∷ props) [] same flat = cc
flat_listed (first ∷ props) (e ∷ all) same flat =
    let head : named_element first ≡ (e.0, Some e.1) = cc in
    let tail : map named_element props ≡ map (λ e. (e.0, Some e.1)) all = cc in
    (subst (λ o. IfSome o IsFlat) (sym (ap (λ (x : Key × Option Tree). x.1) head)) flat.0, flat_listed props all tail flat.1)
