-- What is reported of one more property.
use Rattle.std.specs.Prelude.{◌≡◌, ◌+◌, ◌<◌, ◌++◌, ◌∷◌, ℕ, Bool, true, false, List, [], Result, Ok, Err, Some, None, filter, get_or, length, map, take}
use Rattle.std.proofs.Common.{refl, ap, ◌∙◌}
use Rattle.std.specs.List.{flat_map}
use Rattle.std.specs.Result.{is_ok}
use Rattle.std.proofs.lemmas.List.{append-nil, map-append, take_more}
use Rattle.std.proofs.lemmas.List.Concat.{flat_map-append}
use Rattle.std.proofs.lemmas.List.Elements.{filter-append, filter_map-append}
use Rattle.dav_resource.specs.Tree.{Tree}
use Rattle.dav_find.specs.Finding.{Finding, finding_of}
use Rattle.dav_find.specs.Reporting.{given_by, given_in, report_one}
use Rattle.dav_find.specs.declared.finding.Found.{Found}
use Rattle.dav_find.specs.Asked.{AskedProperty}

-- ---- the properties that were found

found_more : (found : List Found) (i : ℕ) (one : Found) → i < length found → one ≡ get_or found i one → map finding_of (take (i + 1) found) ≡ map finding_of (take i found) ++ finding_of one ∷ []
found_more found i one within is = rw (take_more found i one within, ← is) (map-append finding_of (take i found) (one ∷ []))

given_where : (asked : AskedProperty) (value : Result Tree ℕ) → is_ok value ≡ true → given_by asked value ≡ Some asked.element
given_where asked (Ok element) is = refl
given_where asked (Err status) is = absurd (let no_value : false ≡ true = is in cc)

not_given : (asked : AskedProperty) (value : Result Tree ℕ) → is_ok value ≡ false → given_by asked value ≡ None
not_given asked (Ok element) is = absurd (let no_status : true ≡ false = is in cc)
not_given asked (Err status) is = refl

module _ (found : List Found) (i : ℕ) (one : Found) (within : i < length found) (is : one ≡ get_or found i one) where
  abbrev earlier : List Finding
  earlier = map finding_of (take i found)

  abbrev later : List Finding
  later = map finding_of (take (i + 1) found)

  given_more : given_in later ≡ given_in earlier ++ given_in (finding_of one ∷ [])
  given_more = rw (found_more found i one within is) (filter_map-append (λ (f : Finding). given_by f.asked f.value) earlier (finding_of one ∷ []))

  pub one_given : is_ok one.value ≡ true → given_in later ≡ given_in earlier ++ one.asked.now.element ∷ []
  one_given reported = given_more ∙ ap (λ elements. given_in earlier ++ elements) (rw (given_where one.asked.now one.value reported) refl)

  pub none_given : is_ok one.value ≡ false → given_in later ≡ given_in earlier
  none_given reported = given_more ∙ ap (λ elements. given_in earlier ++ elements) (rw (not_given one.asked.now one.value reported) refl) ∙ append-nil (given_in earlier)

pub one_reported : (earlier : List Found) (one : Found) (stored : Result (List Tree) ℕ) → flat_map (report_one stored) (map finding_of (earlier ++ one ∷ [])) ≡ flat_map (report_one stored) (map finding_of earlier) ++ report_one stored (finding_of one)
one_reported earlier one stored =
    rw (map-append finding_of earlier (one ∷ [])) (flat_map-append (report_one stored) (map finding_of earlier) (finding_of one ∷ []))
    ∙ ap (λ reported. flat_map (report_one stored) (map finding_of earlier) ++ reported) (append-nil (report_one stored (finding_of one)))

-- ---- what the store keeps

module _ {T : Type 0} (report : Tree → T) (test : Tree → Bool) (kept : List Tree) (i : ℕ) (element : Tree) (within : i < length kept) (is : element ≡ get_or kept i element) (now : List T) (so_far : now ≡ map report (filter test (take i kept))) where
  one_more : filter test (take (i + 1) kept) ≡ filter test (take i kept) ++ filter test (element ∷ [])
  one_more = rw (take_more kept i element within, ← is) (filter-append test (take i kept) (element ∷ []))

  pub is_reported : test element ≡ true → now ++ report element ∷ [] ≡ map report (filter test (take (i + 1) kept))
  is_reported passes = rw (one_more, passes, map-append report (filter test (take i kept)) (element ∷ []), so_far) refl

  pub is_passed_over : test element ≡ false → now ≡ map report (filter test (take (i + 1) kept))
  is_passed_over fails = rw (one_more, fails, append-nil (filter test (take i kept))) so_far
