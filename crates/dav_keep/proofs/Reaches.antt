-- The first place below which all are.
use Rattle.std.proofs.Common.{◌≡◌, ◌∙◌, ℕ, ◌+◌, ◌<◌, ◌≤◌, ◌^◌, max, Bool, true, nat_le, ltb, List, [], ◌∷◌, length, get_or, take, Option, Some, None, refl, sym, subst, arith}
use Rattle.std.specs.List.{list_all}
use Rattle.std.proofs.lemmas.Bool.{and_parts, and_from, le-leb, leb-true, lt-ltb, ltb-true}
use Rattle.std.proofs.lemmas.List.{take_all}
use Rattle.std.proofs.lemmas.List.Folds.{list_all_more}
use Rattle.std.proofs.lemmas.List.Sums.{AllPass-from_list_all, list_all-from_AllPass}
use Rattle.dav_data.specs.Data.{is_below}
use Rattle.dav_data.specs.Runs.{piece_passes}
use Rattle.dav_nodes.specs.declared.nodes.loading.NumberedValue.{NumberedValue}
use Rattle.dav_pieces.specs.Pieces.{size_of}
use Rattle.dav_pieces.specs.declared.piece.Piece.{Piece}
use Rattle.dav_pieces.specs.declared.piece.Piece.TheVariants.{Part, Zeros}
use Rattle.dav_store_rows.specs.Resources.{Kept}
use Rattle.dav_tree.specs.Entry.{is_held}
use Rattle.dav_tree.specs.declared.entry.Content.TheVariants.{File, Directory}
use Rattle.dav_tree.specs.declared.entry.Content.{Content}
use Rattle.dav_keep.specs.Ends.{IsEnd, ArePiecesBelow, AreBelow, FindsEnd}

module _ {X : Type 0} (test : ℕ → X → Bool) (higher : (a b : ℕ) → a ≤ b → (x : X) → test a x ≡ true → test b x ≡ true) (xs : List X) where
  -- so many of the list are below a place, the first such place
  abbrev pub IsEndOf : ℕ → ℕ → Type 0
  IsEndOf i end = IsEnd (λ e. list_all (test e) (take i xs) ≡ true) end

  all_higher : (a b : ℕ) → a ≤ b → (ys : List X) → list_all (test a) ys ≡ true → list_all (test b) ys ≡ true
  all_higher a b less [] all = refl
  all_higher a b less (y ∷ ys) all =
      let parts = and_parts (test a y) (list_all (test a) ys) all in
      and_from (test b y) (list_all (test b) ys) (higher a b less y parts.0) (all_higher a b less ys parts.1)

  pub end_first : IsEndOf 0 0
  end_first = record { reached = refl; least = λ other _. omega arith; small = omega arith }

  pub end_next : (i a b c : ℕ) (d : X) → i < length xs → IsEndOf i a → IsEnd (λ e. test e (get_or xs i d) ≡ true) b → c ≡ max a b → IsEndOf (i + 1) c
  end_next i a b c d low before one is =
      record {
        reached =
            list_all_more (test c) xs i d low
            ∙ and_from _ _ (all_higher a c (omega (arith, is)) (take i xs) before.reached) (higher b c (omega (arith, is)) (get_or xs i d) one.reached);
        least = λ other all.
            let parts = and_parts (list_all (test other) (take i xs)) (test other (get_or xs i d)) (sym (list_all_more (test other) xs i d low) ∙ all) in
            let first = before.least other parts.0 in
            let second = one.least other parts.1 in
            omega (arith, is, first, second);
        small = let first = before.small in let second = one.small in omega (arith, is, first, second);
      }

  pub end_none : (i : ℕ) (d : X) → i < length xs → ((e : ℕ) → e < 2 ^ 63 → test e (get_or xs i d) ≡ true → ⊥) → (e : ℕ) → e < 2 ^ 63 → list_all (test e) xs ≡ true → ⊥
  end_none i d low none e small all = none e small (AllPass-from_list_all (test e) xs all i d low)

  pub end_all : (i a : ℕ) → length xs ≤ i → IsEndOf i a → IsEnd (λ e. list_all (test e) xs ≡ true) a
  end_all i a past before = subst (λ ys. IsEnd (λ e. list_all (test e) ys ≡ true) a) (take_all i xs past) before

-- ---- pieces

abbrev pub piece_below : ℕ → Piece → Bool
piece_below end piece = piece_passes (λ at n. nat_le (at + n) end) piece

pub piece_higher : (a b : ℕ) → a ≤ b → (piece : Piece) → piece_below a piece ≡ true → piece_below b piece ≡ true
piece_higher a b less (Part block from len) below =
    let parts = and_parts (nat_le (from + len) block.size) (nat_le (block.at + block.size) a) below in
    let within : block.at + block.size ≤ a = leb-true _ _ parts.1 in
    and_from (nat_le (from + len) block.size) (nat_le (block.at + block.size) b) parts.0 (le-leb _ _ (omega (arith, within, less)))
piece_higher a b less (Zeros len) below = refl

pub pieces_higher : (a b : ℕ) → a ≤ b → (pieces : List Piece) → list_all (piece_below a) pieces ≡ true → list_all (piece_below b) pieces ≡ true
pieces_higher a b less pieces below = all_higher piece_below piece_higher pieces a b less pieces below

-- ---- files

module _ (pieces : List Piece) where
  body_end : (end : ℕ) → size_of pieces < 2 ^ 63 → IsEnd (ArePiecesBelow pieces) end → IsEnd (λ e. is_below e pieces ≡ true) end
  body_end end short at = record {
    reached = and_from _ _ (lt-ltb (size_of pieces) (2 ^ 63) short) at.reached;
    least = λ other below. at.least other (and_parts (ltb (size_of pieces) (2 ^ 63)) _ below).1;
    small = at.small;
  }

  body_none : ((e : ℕ) → e < 2 ^ 63 → ArePiecesBelow pieces e → ⊥) → (e : ℕ) → e < 2 ^ 63 → is_below e pieces ≡ true → ⊥
  body_none none e small below = none e small (and_parts (ltb (size_of pieces) (2 ^ 63)) _ below).1

  pub body_long : 2 ^ 63 ≤ size_of pieces → (e : ℕ) → is_below e pieces ≡ true → ⊥
  body_long long e below = let short = ltb-true (size_of pieces) (2 ^ 63) (and_parts (ltb (size_of pieces) (2 ^ 63)) _ below).0 in omega (arith, long, short)

  pub body_found : (found : Option ℕ) → size_of pieces < 2 ^ 63 → FindsEnd (ArePiecesBelow pieces) found → FindsEnd (λ e. is_below e pieces ≡ true) found
  body_found (Some end) short at = body_end end short at
  body_found None short none = body_none none

-- ---- resources

abbrev pub value_below : ℕ → NumberedValue Kept → Bool
value_below end value = is_held (is_below end) value.value.content

content_higher : (a b : ℕ) → a ≤ b → (content : Content (List Piece)) → is_held (is_below a) content ≡ true → is_held (is_below b) content ≡ true
content_higher a b less (File pieces) below =
    let parts = and_parts (ltb (size_of pieces) (2 ^ 63)) _ below in
    and_from _ _ parts.0 (pieces_higher a b less pieces parts.1)
content_higher a b less Directory below = refl

pub value_higher : (a b : ℕ) → a ≤ b → (value : NumberedValue Kept) → value_below a value ≡ true → value_below b value ≡ true
value_higher a b less value below = content_higher a b less value.value.content below

pub file_end : (value : NumberedValue Kept) (pieces : List Piece) (end : ℕ) → value.value.content ≡ File pieces → IsEnd (λ e. is_below e pieces ≡ true) end
    → IsEnd (λ e. value_below e value ≡ true) end
file_end value pieces end is at = subst (λ content. IsEnd (λ e. is_held (is_below e) content ≡ true) end) (sym is) at

pub file_none : (value : NumberedValue Kept) (pieces : List Piece) → value.value.content ≡ File pieces → ((e : ℕ) → e < 2 ^ 63 → is_below e pieces ≡ true → ⊥)
    → (e : ℕ) → e < 2 ^ 63 → value_below e value ≡ true → ⊥
file_none value pieces is none = subst (λ content. (e : ℕ) → e < 2 ^ 63 → is_held (is_below e) content ≡ true → ⊥) (sym is) none

pub directory_end : (value : NumberedValue Kept) → value.value.content ≡ Directory → IsEnd (λ e. value_below e value ≡ true) 0
directory_end value is =
    subst (λ content. IsEnd (λ e. is_held (is_below e) content ≡ true) 0) (sym is) (record { reached = refl; least = λ other _. omega arith; small = omega arith })

module _ (values : List (NumberedValue Kept)) where
  pub values_end : (end : ℕ) → IsEnd (λ e. list_all (value_below e) values ≡ true) end → IsEnd (AreBelow values) end
  values_end end at = record {
    reached = AllPass-from_list_all (value_below end) values at.reached;
    least = λ other all. at.least other (list_all-from_AllPass (value_below other) values all);
    small = at.small;
  }

  pub values_none : ((e : ℕ) → e < 2 ^ 63 → list_all (value_below e) values ≡ true → ⊥) → (e : ℕ) → e < 2 ^ 63 → AreBelow values e → ⊥
  values_none none e small all = none e small (list_all-from_AllPass (value_below e) values all)
