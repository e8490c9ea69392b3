-- What the statuses in the reply to a PROPPATCH tell.
use Rattle.std.proofs.Common.{◌≡◌, ◌∙◌, ◌++◌, ℕ, zero, suc, Bool, true, false, not, ◌&&◌, ◌||◌, nat_eq, if◌then◌else◌, Option, Some, None, Ok, List, [], ◌∷◌, map, filter, length, replicate, inl, inr, refl, sym, ap, arith, append-nil}
use Rattle.std.specs.List.{list_any, list_all, zip}
use Rattle.std.proofs.lemmas.Bool.Decides.{nat_tests}
use Rattle.std.proofs.lemmas.Grind.{flat_map-append}
use Rattle.std.proofs.lemmas.List.{map-append, length-map}
use Rattle.std.proofs.lemmas.List.Folds.{list_all-append}
use Rattle.dav_key.specs.Key.{Key, same_key_decides}
use Rattle.dav_resource.specs.Tree.{Tree, Tag, Nodes}
use Rattle.dav_resource.specs.declared.error.FsError.TheVariants.{GeneralFailure}
use Rattle.dav_resource.specs.declared.record.Outcome.{Outcome}
use Rattle.dav_resource.specs.declared.record.Outcome.TheVariants.{Granted, Refused}
use Rattle.dav_store.specs.Logged.{Logged}
use Rattle.dav_store.specs.PropertyCalls.{Patch, patch_record}
use Rattle.dav_store.specs.Store.{Contents, property_key}
use Rattle.dav_messages.specs.Dialogue.{Dialogue, Asks, Refuses, Passed, LeadsTo}
use Rattle.dav_props.specs.Property.{bare}
use Rattle.dav_props.specs.Propstat.{PropertyStatus}
use Rattle.dav_props.specs.Update.{Change, is_dead, is_refused, live_first, failed, failed_report, patch_of, patches_of, made, live_made, made_report}
use Rattle.dav_engine.specs.Laws.{is_passed_over, status_beside_refused, is_patch, returned, all_ok, property_of, ReportsEach}
use Rattle.dav_engine.specs.Proppatch.{MakesChanges}

abbrev live : Change → Bool
live change = not (is_dead change)

abbrev pub all_200 : List ℕ → Bool
all_200 statuses = list_all (λ status. nat_eq status 200) statuses

both : (a b : Bool) → (a && b) ≡ true → (a ≡ true) × (b ≡ true)
both true b is = (refl, is)
both false b is = absurd cc

neither : (a b : Bool) → (a || b) ≡ false → (a ≡ false) × (b ≡ false)
neither false b is = (refl, is)
neither true b is = absurd cc

all_both : (statuses more : List ℕ) → all_200 (statuses ++ more) ≡ true → (all_200 statuses ≡ true) × (all_200 more ≡ true)
all_both statuses more is = both (all_200 statuses) (all_200 more) (sym (list_all-append (λ status. nat_eq status 200) statuses more) ∙ is)

-- ---- a change was refused

-- 200 is reported of none that is
ok_unrefused : (status : ℕ) (dead ok : Bool) → nat_eq status 200 ≡ ok → nat_eq (if not (dead || ok) then status else 424) 200 ≡ true → not (dead || ok) ≡ false
ok_unrefused status true ok is recorded = refl
ok_unrefused status false true is recorded = refl
ok_unrefused status false false is recorded = let no : false ≡ true = sym is ∙ recorded in absurd cc

beside_unrefused : (change : Change) → nat_eq (status_beside_refused change) 200 ≡ true → is_refused change ≡ false
beside_unrefused change = ok_unrefused change.status (nat_eq change.status 100) (nat_eq change.status 200) refl

beside_each : (changes : List Change) → all_200 (map status_beside_refused (filter live changes)) ≡ true → all_200 (map status_beside_refused (filter is_dead changes)) ≡ true → list_any is_refused changes ≡ false
beside_each [] recorded more = refl
beside_each (change ∷ changes) recorded more =
    elim (is_dead change) as
    (λ b. all_200 (map status_beside_refused (if not b then change ∷ filter live changes else filter live changes)) ≡ true → all_200 (map status_beside_refused (if b then change ∷ filter is_dead changes else filter is_dead changes)) ≡ true
    → list_any is_refused (change ∷ changes) ≡ false) [
      | true ↦ λ recorded more. let first = both _ _ more in rw (beside_unrefused change first.0) (beside_each changes recorded first.1)
      | false ↦ λ recorded more. let first = both _ _ recorded in rw (beside_unrefused change first.0) (beside_each changes first.1 more)
    ] recorded more

-- where one is refused, not all are reported with 200
pub beside_not_ok : (changes : List Change) → list_any is_refused changes ≡ true → all_200 (map status_beside_refused (live_first changes)) ≡ true → ⊥
beside_not_ok changes refused ok =
    let parts = all_both (map status_beside_refused (filter live changes)) (map status_beside_refused (filter is_dead changes)) (ap all_200 (sym (map-append status_beside_refused (filter live changes) (filter is_dead changes))) ∙ ok) in
    let no : true ≡ false = sym refused ∙ beside_each changes parts.0 parts.1 in cc

-- ---- none was refused

abbrev pub passed : List Change → List ℕ
passed changes = map (λ change. 200) (filter is_passed_over changes)

passed_ok : (changes : List Change) → all_200 (map (λ change. 200) changes) ≡ true
passed_ok [] = refl
passed_ok (change ∷ changes) = passed_ok changes

-- all are reported with 200 where the store returned nothing else
pub ok_returned : (changes : List Change) (statuses : List ℕ) → all_200 (passed changes ++ statuses) ≡ all_200 statuses
ok_returned changes statuses = list_all-append (λ status. nat_eq status 200) (passed changes) statuses ∙ (rw (passed_ok (filter is_passed_over changes)) refl)

pub ok_each : (count : ℕ) → all_200 (replicate count 200) ≡ true
ok_each zero = refl
ok_each (suc count) = ok_each count

pub each_ok : (statuses : List ℕ) → all_200 statuses ≡ true → statuses ≡ replicate (length statuses) 200
each_ok [] ok = refl
each_ok (status ∷ statuses) ok =
    let first = both (nat_eq status 200) _ ok in
    let is : status ≡ 200 = grind (arith, nat_tests) in
    rw is (ap (λ rest. 200 ∷ rest) (each_ok statuses first.1))

-- ---- each change is reported once

abbrev named : PropertyStatus → Key
named recorded = property_of recorded.1

abbrev asked : Change → Key
asked change = property_of change.element

bare_tag : (tag : Tag) (namespace : Option (List ℕ)) (children : Nodes) → property_of (bare (record { tag = record tag { namespace = namespace }; children = children })) ≡ property_key namespace tag.name
bare_tag tag None children = refl
bare_tag tag (Some namespace) children = refl

bare_named : (element : Tree) → property_of (bare element) ≡ property_of element
bare_named element = bare_tag element.tag element.tag.namespace element.children

-- as it is reported where it is refused itself, or not
abbrev told_if : Change → Bool → PropertyStatus
told_if change refused = if refused then (change.status, bare change.element) else (424, if change.set && is_dead change then change.element else bare change.element)

failed_named : (change : Change) → named (failed change) ≡ asked change
failed_named change =
    elim (is_refused change) as (λ b. named (told_if change b) ≡ asked change) [
      | true ↦ bare_named change.element
      | false ↦ elim (change.set && is_dead change) as (λ b. property_of (if b then change.element else bare change.element) ≡ asked change) [ true ↦ refl | false ↦ bare_named change.element ]
    ]

-- what is reported of each change, if it is `of` for one
each_of : {X : Type 0} (say : PropertyStatus → X) (tell : Change → PropertyStatus) (of : Change → X) → ((change : Change) → say (tell change) ≡ of change) → (changes : List Change) → map say (map tell changes) ≡ map of changes
each_of say tell of each [] = refl
each_of say tell of each (change ∷ changes) = λ i. each change i ∷ each_of say tell of each changes i

-- a status for each
zip_names : (statuses : List ℕ) (changes : List Change) → length statuses ≡ length changes → map named (zip statuses (map (λ change. bare change.element) changes)) ≡ map asked changes
zip_names [] [] same = refl
zip_names [] (change ∷ changes) same = absurd cc
zip_names (status ∷ statuses) [] same = absurd cc
zip_names (status ∷ statuses) (change ∷ changes) same = rw (bare_named change.element) (ap (λ names. asked change ∷ names) (zip_names statuses changes (omega (arith, same))))

-- where one is refused
pub failed_names : (changes : List Change) → ReportsEach changes (failed_report changes)
failed_names changes = each_of named failed asked failed_named (live_first changes)

-- where none is
pub made_names : (changes : List Change) (statuses : List ℕ) → length statuses ≡ length (patches_of changes) → ReportsEach changes (made_report changes statuses)
made_names changes statuses count =
    map-append named (live_made changes) (zip statuses (map (λ change. bare change.element) (filter is_dead changes)))
    ∙ (rw (each_of named made asked (λ change. bare_named change.element) (filter live changes), zip_names statuses (filter is_dead changes) (count ∙ length-map (filter is_dead changes) patch_of))
    (sym (map-append asked (filter live changes) (filter is_dead changes))))

-- ---- each change has its own status

abbrev pub status_of : PropertyStatus → ℕ
status_of recorded = recorded.0

pub ok_statuses : (recorded : List PropertyStatus) → all_ok recorded ≡ all_200 (map status_of recorded)
ok_statuses [] = refl
ok_statuses (t ∷ recorded) = ap (λ rest. nat_eq t.0 200 && rest) (ok_statuses recorded)

failed_status : (change : Change) → status_of (failed change) ≡ status_beside_refused change
failed_status change = elim (is_refused change) as (λ b. status_of (told_if change b) ≡ (if b then change.status else 424)) [ true ↦ refl | false ↦ refl ]

-- where one is refused
pub failed_statuses : (changes : List Change) → map status_of (failed_report changes) ≡ map status_beside_refused (live_first changes)
failed_statuses changes = each_of status_of failed status_beside_refused failed_status (live_first changes)

-- a live one that isn't refused is passed over
pub passed_statuses : (changes : List Change) → list_any is_refused changes ≡ false → map status_of (live_made changes) ≡ passed changes
passed_statuses [] none = refl
passed_statuses (change ∷ changes) none = by_kind (is_dead change) (is_passed_over change) refl refl (passed_statuses changes (neither (is_refused change) (list_any is_refused changes) none).1)
  where
    by_kind : (dead over : Bool) → is_dead change ≡ dead → is_passed_over change ≡ over → map status_of (live_made changes) ≡ passed changes → map status_of (map made (if not dead then change ∷ filter live changes else filter live changes)) ≡ map (λ change. 200) (if over then change ∷ filter is_passed_over changes else filter is_passed_over changes)
    by_kind true true dead over rest = let hundred : change.status ≡ 100 = grind (arith, nat_tests) in let two : change.status ≡ 200 = grind (arith, nat_tests) in absurd (omega (arith, hundred, two))
    by_kind true false dead over rest = rest
    by_kind false true dead over rest = let is : change.status ≡ 200 = grind (arith, nat_tests) in λ i. is i ∷ rest i
    by_kind false false dead over rest =
        let no : true ≡ false = sym (ap (λ d. not (d || is_passed_over change)) dead ∙ ap (λ o. not (false || o)) over) ∙ (neither (is_refused change) (list_any is_refused changes) none).0 in absurd cc

zip_statuses : (statuses : List ℕ) (elements : List Tree) → length statuses ≡ length elements → map status_of (zip statuses elements) ≡ statuses
zip_statuses [] [] same = refl
zip_statuses [] (element ∷ elements) same = absurd cc
zip_statuses (status ∷ statuses) [] same = absurd cc
zip_statuses (status ∷ statuses) (element ∷ elements) same = ap (λ rest. status ∷ rest) (zip_statuses statuses elements (omega (arith, same)))

-- where none is refused
pub made_statuses : (changes : List Change) (statuses : List ℕ) → list_any is_refused changes ≡ false → length statuses ≡ length (patches_of changes) → map status_of (made_report changes statuses) ≡ passed changes ++ statuses
made_statuses changes statuses none count =
    map-append status_of (live_made changes) (zip statuses (map (λ change. bare change.element) (filter is_dead changes)))
    ∙ (λ i. passed_statuses changes none i ++ zip_statuses statuses (map (λ change. bare change.element) (filter is_dead changes)) elements i)
  where
    elements : length statuses ≡ length (map (λ change. bare change.element) (filter is_dead changes))
    elements = count ∙ length-map (filter is_dead changes) patch_of ∙ sym (length-map (filter is_dead changes) (λ change. bare change.element))

-- ---- what the store returned

abbrev pub returned_by : Key → Logged → List ℕ
returned_by key call = if is_patch key call.op call.keys then call.statuses else []

-- a record without statuses returns none
no_statuses : (b : Bool) → (if◌then◌else◌ {A = List ℕ} b [] []) ≡ []
no_statuses true = refl
no_statuses false = refl

-- the rules' calls return none
pub none_returned : {A : Type 0} (key : Key) (dialogue : Dialogue A) (records : List Logged) (left : Dialogue A) → LeadsTo dialogue records left → returned key records ≡ []
none_returned key dialogue [] left led = refl
none_returned key (Asks call next) (logged ∷ records) left led =
    ap (λ (r : Logged). returned_by key r ++ returned key records) led.0 ∙ ap (λ statuses. statuses ++ returned key records) (no_statuses (is_patch key call.op call.keys)) ∙ none_returned key (next logged.outcome) records left led.2
none_returned key (Refuses answer) (logged ∷ records) left led = absurd led
none_returned key (Passed a) (logged ∷ records) left led = absurd led

-- a call at the key
one_returned : (key : Key) (outcome : Outcome) (statuses : List ℕ) → returned key (patch_record key outcome statuses ∷ []) ≡ statuses
one_returned key outcome statuses = ap (λ b. (if b then statuses else []) ++ []) ((same_key_decides key key).1 refl) ∙ append-nil statuses

-- the work's call returns those that are reported
pub work_returned : (keeps : Bool) (key : Key) (patches : List Patch) (old : Contents) (records : List Logged) (statuses : List ℕ) (new : Contents) → MakesChanges keeps key patches old records (Ok statuses) new → returned key records ≡ statuses
work_returned keeps key [] old records statuses new asks =
    let recorded : statuses ≡ [] = let h = asks.returns_none in cc in
    ap (returned key) asks.none ∙ sym recorded
work_returned keeps key (patch ∷ patches) old records statuses new (inl all) =
    let recorded : statuses ≡ replicate (length (patch ∷ patches)) 200 = let h = all.returns_all in cc in
    ap (returned key) all.called ∙ one_returned key Granted (replicate (length (patch ∷ patches)) 200) ∙ sym recorded
work_returned keeps key (patch ∷ patches) old records statuses new (inr (inl none)) =
    let recorded : statuses ≡ none.statuses = let h = none.returns_each in cc in
    ap (returned key) none.called ∙ one_returned key (Refused GeneralFailure) none.statuses ∙ sym recorded
work_returned keeps key (patch ∷ patches) old records statuses new (inr (inr refused)) = let no = refused.returns_error in absurd cc

-- of both
pub both_returned : (key : Key) (records head rest : List Logged) → records ≡ head ++ rest → returned key head ≡ [] → returned key records ≡ returned key rest
both_returned key records head rest cut none =
    ap (returned key) cut ∙ flat_map-append (returned_by key) head rest ∙ ap (λ statuses. statuses ++ returned key rest) none
