-- How many names and values a map has after fields are appended, and why a field is refused.
use Rattle.std.proofs.Common.{◌≡◌, ℕ, suc, ◌+◌, ◌<◌, ◌≤◌, ◌⊎◌, inl, inr, true, false, cond, List, [], ◌∷◌, ◌++◌, length, get_or, map, take, bytes_eq, refl, ap, subst, arith, length-append, All}
use Rattle.std.proofs.lemmas.List.{get_or-map, length-map, length-take-le}
use Rattle.std.proofs.lemmas.List.Elements.{All-get_or}
use Rattle.std.proofs.lemmas.List.Sums.{sum_by-cons}
use denote.Ref.{Bor}
use Rattle.http_header.specs.FieldValue.{FieldValue}
use Rattle.http_header.specs.HeaderMap.{Entries, value_count, append, append_all, IsFullOfValues, IsFullOfNames, RefusesAppend}
use Rattle.http_header.specs.Token.{lowercase}
use Rattle.dav_resource.specs.declared.error.DavError.{DavError}
use Rattle.dav_resource.specs.declared.error.DavError.TheVariants.{Memory, Status}
use Rattle.dav_wire.specs.Views.{field_of}
use Rattle.dav_server.specs.Requests.{IsField, headers_of, header_of, most_names}

module _ {X : Type 0} where
  count_cons : (e : List ℕ × List X) (m : Entries X) → value_count (e ∷ m) ≡ length e.1 + value_count m
  count_cons e m = sum_by-cons (λ (x : List ℕ × List X). length x.1) e m

  names_append : (m : Entries X) (name : List ℕ) (value : X) → length (append m name value) ≤ length m + 1
  names_append [] name value = omega arith
  names_append (e ∷ m) name value =
      let later = names_append m name value in
      elim (bytes_eq e.0 name) as (λ t. length (cond t ((e.0, e.1 ++ value ∷ []) ∷ m) (e ∷ append m name value)) ≤ suc (length m) + 1) [ true ↦ omega arith | false ↦ omega arith ]

  values_append : (m : Entries X) (name : List ℕ) (value : X) → value_count (append m name value) ≡ value_count m + 1
  values_append [] name value = refl
  values_append (e ∷ m) name value =
      let later = values_append m name value in
      let before = count_cons e m in
      let here = count_cons (e.0, e.1 ++ value ∷ []) m in
      let there = count_cons e (append m name value) in
      let longer = length-append e.1 (value ∷ []) in
      elim (bytes_eq e.0 name) as (λ t. value_count (cond t ((e.0, e.1 ++ value ∷ []) ∷ m) (e ∷ append m name value)) ≡ value_count (e ∷ m) + 1) [ true ↦ omega arith | false ↦ omega arith ]

  names_append_all : (m : Entries X) (items : List (List ℕ × X)) → length (append_all m items) ≤ length m + length items
  names_append_all m [] = omega arith
  names_append_all m (item ∷ items) =
      let first = names_append m item.0 item.1 in
      let others = names_append_all (append m item.0 item.1) items in
      omega arith

  values_append_all : (m : Entries X) (items : List (List ℕ × X)) → value_count (append_all m items) ≡ value_count m + length items
  values_append_all m [] = omega arith
  values_append_all m (item ∷ items) =
      let first = values_append m item.0 item.1 in
      let others = values_append_all (append m item.0 item.1) items in
      omega arith

-- a map of header fields that has no place for one more has many fields
many_values : (fields : List (List ℕ × List ℕ)) (m : Entries FieldValue) → m ≡ headers_of fields → IsFullOfValues m → most_names ≤ length fields
many_values fields m is full =
    let e = ap value_count is in
    let values = values_append_all [] (map header_of fields) in
    let count = length-map fields header_of in
    omega arith

many_names : (fields : List (List ℕ × List ℕ)) (m : Entries FieldValue) → m ≡ headers_of fields → IsFullOfNames m → most_names ≤ length fields
many_names fields m is (inl full) =
    let e = ap length is in
    let names = names_append_all [] (map header_of fields) in
    let count = length-map fields header_of in
    omega arith
many_names fields m is (inr full) = many_values fields m is full

many_fields : (fields : List (List ℕ × List ℕ)) (m : Entries FieldValue) (name : List ℕ) → m ≡ headers_of fields → RefusesAppend m name → most_names ≤ length fields
many_fields fields m name is (inl full) = many_values fields m is full
many_fields fields m name is (inr (new, full)) = many_names fields m is full

-- if one more field is refused behind the first ones, all the fields are, for the same reason
pub refused :
    (fields : List (Bor (List ℕ) × Bor (List ℕ))) (i : ℕ) (d : Bor (List ℕ) × Bor (List ℕ)) (m : Entries FieldValue) (e : DavError) → i < length fields
    → m ≡ headers_of (map field_of (take i fields))
    → (e ≡ Memory) ⊎ ((e ≡ Status 400) × ¬ (IsField (field_of (get_or fields i d)))) ⊎ ((e ≡ Status 431) × RefusesAppend m (lowercase (get_or fields i d).0.now))
    → (e ≡ Memory) ⊎ ((e ≡ Status 400) × ¬ (All IsField (map field_of fields))) ⊎ ((e ≡ Status 431) × (most_names ≤ length fields))
refused fields i d m e within is (inl memory) = inl memory
refused fields i d m e within is (inr (inl (status, unfit))) =
    let count = length-map fields field_of in
    inr (inl (status, λ fit. unfit (subst IsField (get_or-map field_of fields i d (field_of d) within) (All-get_or IsField (map field_of fields) i (field_of d) (omega arith) fit))))
refused fields i d m e within is (inr (inr (status, full))) =
    let count = length-map (take i fields) field_of in
    let part = length-take-le i fields in
    let many = many_fields (map field_of (take i fields)) m _ is full in
    inr (inr (status, omega arith))
