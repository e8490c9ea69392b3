-- Where a PUT or a PATCH writes, and the rules of both.
use Rattle.std.proofs.Common.{◌≡◌, ◌<◌, ◌+◌, ◌^◌, ℕ, Bool, true, false, ◌&&◌, if◌then◌else◌, nat_eq, nat_lt, nat_le, ◌-◌, ◌∙◌, arith, length, Option, Some, None, is_some, unwrap_or, IfOk, Result, Ok, Err, refl, sym, ap, subst}
use Rattle.std.specs.Option.{option_map_or}
use Rattle.std.specs.Result.{IsErrAnd, result_ok}
use Rattle.std.proofs.lemmas.Bool.{ltb-true, eqb-true}
use Rattle.std.proofs.lemmas.Result.{err_from_is_err_and}
use Rattle.http_header.specs.HeaderMap.{Entries}
use Rattle.http_header.specs.FieldValue.{FieldValue}
use Rattle.dav_resource.specs.declared.meta.Meta.{Meta}
use Rattle.dav_resource.specs.declared.error.FsError.{FsError}
use Rattle.dav_resource.specs.declared.error.FsError.TheVariants as fs_errors
use Rattle.dav_resource.specs.declared.error.DavError.{DavError}
use Rattle.dav_resource.specs.declared.error.DavError.TheVariants.{StatusClose}
use Rattle.dav_resource.specs.declared.request.ReqBody.{ReqBody}
use Rattle.dav_resource.specs.declared.request.DavRequest.{DavRequest}
use Rattle.dav_headers.specs.Body.{content_type_of}
use Rattle.dav_headers.specs.Range.{update_range_of, content_range_of}
use Rattle.dav_headers.specs.declared.range.UpdateRange.{UpdateRange}
use Rattle.dav_headers.specs.declared.range.UpdateRange.TheVariants.{FromTo, AllFrom, Last, Append}
use Rattle.dav_headers.specs.declared.range.ContentRange.{ContentRange}
use Rattle.dav_store.specs.Store.{Store, Bodies, Facts}
use Rattle.dav_messages.specs.Dialogue.{Judges, refusing, map_error, ◌>>=◌}
use Rattle.dav_messages.specs.Dialogues.{judges_exit, judges_then}
use Rattle.dav_engine.proofs.Deleting.{judges_known}
use Rattle.dav_engine.specs.State.{State}
use Rattle.dav_engine.specs.Rules.{look_up_result, path_rules, judged, closing}
use Rattle.dav_engine.specs.Target.{stated_length, spans, from_to, last_bytes, named_part, update_target, is_update, whole, in_range, within_reach, and_then, first_target, target_of}
use Rattle.dav_messages.specs.RequestBody.{body_bytes}
use Rattle.dav_engine.specs.Put.{new_bytes, has_length, body_verdict, as_looked, put_rules}
use Rattle.dav_engine.specs.declared.target.Target.{Target}

-- ---- what is known of a target

-- the verdict that a test lets pass
passed_if : {A : Type 0} (b : Bool) (a t : A) (e : DavError) → (if b then Ok a else Err e) ≡ Ok t → (b ≡ true) × (a ≡ t)
passed_if true a t e is = (refl, cc)
passed_if false a t e is = absurd cc

then_ok : {A B : Type 0} (verdict : Result A DavError) (next : A → Result B DavError) (b : B) → and_then verdict next ≡ Ok b → (a : A) × (verdict ≡ Ok a) × (next a ≡ Ok b)
then_ok (Ok a) next b is = (a, refl, is)
then_ok (Err e) next b is = absurd cc

-- a part has a stated length
abbrev IsMeasured : Target → Type 0
IsMeasured target = target.part ≡ true → (n : ℕ) × (target.length ≡ Some n)

from_to_measured : (target : Target) (first last : ℕ) (t : Target) → from_to target first last ≡ Ok t → IsMeasured t
from_to_measured target first last t is =
    let same = (passed_if (spans target.length first last) (record target { start = first; part = true; length = Some (last - first + 1) }) t (StatusClose 416) is).1 in
    λ _. (last - first + 1, sym (ap (λ (x : Target). x.length) same))

last_bytes_measured : (target : Target) (count : ℕ) (found : Result Meta FsError) (t : Target) → IsMeasured target → last_bytes target count found ≡ Ok t → IsMeasured t
last_bytes_measured target count (Ok meta) t measured is =
    let same = (passed_if (nat_le count meta.len) (record target { start = meta.len - count }) t (StatusClose 416) is).1 in
    subst IsMeasured same measured
last_bytes_measured target count (Err fs_errors.NotFound) t measured is = let same : target ≡ t = cc in subst IsMeasured same measured
last_bytes_measured target count (Err e) t measured is = absurd cc

named_part_measured : (target : Target) (range : UpdateRange) (found : Result Meta FsError) (t : Target) → IsMeasured target → named_part target range found ≡ Ok t → IsMeasured t
named_part_measured target (FromTo first last) found t measured is = from_to_measured target first last t is
named_part_measured target (AllFrom first) found t measured is = let same : record target { start = first } ≡ t = cc in subst IsMeasured same measured
named_part_measured target (Last count) found t measured is = last_bytes_measured target count found t measured is
named_part_measured target Append found t measured is = let same : record target { append = true } ≡ t = cc in subst IsMeasured same measured

update_measured : (stated : Option ℕ) (range : Option UpdateRange) (found : Result Meta FsError) (t : Target) → update_target stated range found ≡ Ok t → IsMeasured t
update_measured None range found t is = absurd cc
update_measured (Some n) None found t is = absurd cc
update_measured (Some n) (Some range) found t is = named_part_measured (record { start = 0; append = false; part = true; length = Some n; stated = Some n }) range found t (λ _. (n, refl)) is

first_measured : (partial : Bool) (headers : Entries FieldValue) (found : Result Meta FsError) (t : Target) → first_target partial headers found ≡ Ok t → IsMeasured t
first_measured true headers found t is = go (is_update (content_type_of headers)) is
  where
    go : (b : Bool) → (if b then update_target (stated_length headers) (update_range_of headers) found else Err (StatusClose 415)) ≡ Ok t → IsMeasured t
    go true is = update_measured (stated_length headers) (update_range_of headers) found t is
    go false is = absurd cc
first_measured false headers found t is = let same : whole headers ≡ t = cc in subst IsMeasured same (λ part. absurd cc)

in_range_measured : (target : Target) (range : Result (Option ContentRange) DavError) (t : Target) → IsMeasured target → in_range target range ≡ Ok t → IsMeasured t
in_range_measured target (Err e) t measured is = absurd cc
in_range_measured target (Ok None) t measured is = let same : target ≡ t = cc in subst IsMeasured same measured
in_range_measured target (Ok (Some range)) t measured is = from_to_measured target range.first range.last t is

-- a body of the stated length ends within reach, where a part is written
part_reaches : (held : Bodies) (partial : Bool) (headers : Entries FieldValue) (found : Result Meta FsError) (t : Target) (body : ReqBody) → target_of partial headers found ≡ Ok t → has_length held t body ≡ true
    → t.part ≡ true → t.start + length (new_bytes held body) < 2 ^ 64
part_reaches held partial headers found t body aimed fits part =
    let first = then_ok (first_target partial headers found) _ t aimed in
    let ranged = then_ok (in_range first.0 (content_range_of headers)) within_reach t first.2 in
    let within = passed_if (nat_lt (ranged.0.start + unwrap_or ranged.0.length 0) (2 ^ 64)) ranged.0 t (StatusClose 416) ranged.2 in
    let measured = subst IsMeasured within.1 (in_range_measured first.0 (content_range_of headers) ranged.0 (first_measured partial headers found first.0 first.1) ranged.1) part in
    let reach : nat_lt (t.start + unwrap_or t.length 0) (2 ^ 64) ≡ true = subst (λ (x : Target). nat_lt (x.start + unwrap_or x.length 0) (2 ^ 64) ≡ true) within.1 within.0 in
    let reach_of : nat_lt (t.start + measured.0) (2 ^ 64) ≡ true = subst (λ stated. nat_lt (t.start + unwrap_or stated 0) (2 ^ 64) ≡ true) measured.1 reach in
    let long : nat_eq (length (new_bytes held body)) measured.0 ≡ true = subst (λ stated. option_map_or (nat_eq (length (new_bytes held body))) stated true ≡ true) measured.1 fits in
    let same : length (new_bytes held body) ≡ measured.0 = eqb-true _ _ long in
    subst (λ n. t.start + n < 2 ^ 64) (sym same) (ltb-true (t.start + measured.0) (2 ^ 64) reach_of)

-- and so does one whose length fits, where the whole file is written
pub reaches_end : (held : Bodies) (partial : Bool) (headers : Entries FieldValue) (found : Result Meta FsError) (t : Target) (body : ReqBody) → target_of partial headers found ≡ Ok t → has_length held t body ≡ true
    → length (new_bytes held body) < 2 ^ 64 → (if t.part then t.start else 0) + length (new_bytes held body) < 2 ^ 64
reaches_end held partial headers found t body aimed fits short = by_part t.part (part_reaches held partial headers found t body aimed fits)
  where
    by_part : (part : Bool) → (part ≡ true → t.start + length (new_bytes held body) < 2 ^ 64) → (if part then t.start else 0) + length (new_bytes held body) < 2 ^ 64
    by_part true reaches = reaches refl
    by_part false reaches = omega (arith, short)

-- ---- a lookup that was passed over

last_bytes_looked : (target : Target) (count : ℕ) (e : FsError) (t : Target) → last_bytes target count (Err e) ≡ Ok t → target ≡ t
last_bytes_looked target count fs_errors.NotFound t is = cc
last_bytes_looked target count e t is = absurd cc

first_looked : (partial : Bool) (headers : Entries FieldValue) (e : FsError) (t : Target) → first_target partial headers (Err e) ≡ Ok t → first_target partial headers (Err fs_errors.NotFound) ≡ Ok t
first_looked false headers e t is = is
first_looked true headers e t is = by_type (is_update (content_type_of headers)) is
  where
    by_range : (stated : Option ℕ) (range : Option UpdateRange) → update_target stated range (Err e) ≡ Ok t → update_target stated range (Err fs_errors.NotFound) ≡ Ok t
    by_range None range is = absurd cc
    by_range (Some n) None is = absurd cc
    by_range (Some n) (Some (FromTo first last)) is = is
    by_range (Some n) (Some (AllFrom first)) is = is
    by_range (Some n) (Some (Last count)) is = ap Ok (last_bytes_looked (record { start = 0; append = false; part = true; length = Some n; stated = Some n }) count e t is)
    by_range (Some n) (Some Append) is = is

    by_type : (b : Bool) → (if b then update_target (stated_length headers) (update_range_of headers) (Err e) else Err (StatusClose 415)) ≡ Ok t
        → (if b then update_target (stated_length headers) (update_range_of headers) (Err fs_errors.NotFound) else Err (StatusClose 415)) ≡ Ok t
    by_type true is = by_range (stated_length headers) (update_range_of headers) is
    by_type false is = absurd cc

-- what was found aims as the lookup did
pub aims_as_looked : (partial : Bool) (headers : Entries FieldValue) (looked : Result Meta FsError) (t : Target) → target_of partial headers looked ≡ Ok t → target_of partial headers (as_looked (result_ok looked)) ≡ Ok t
aims_as_looked partial headers (Ok meta) t is = is
aims_as_looked partial headers (Err e) t is =
    let first = then_ok (first_target partial headers (Err e)) _ t is in
    rw (first_looked partial headers e first.0 first.1) first.2

-- ---- the body

-- a body that passes has the stated length, and what was found passes
pub body_passed : (held : Bodies) (target : Target) (body : ReqBody) (found passed : Option Meta) → body_verdict held target body found ≡ Ok passed → (has_length held target body ≡ true) × (found ≡ passed)
body_passed held target body found passed is =
    let p = passed_if (is_some (body_bytes held body) && has_length held target body) found passed (StatusClose 400) is in
    (both (is_some (body_bytes held body)) (has_length held target body) p.0, p.1)
  where
    both : (a b : Bool) → (a && b) ≡ true → b ≡ true
    both true b h = h
    both false b h = absurd cc

-- the verdict is the same while the facts of the store are
pub same_verdict : (target : Target) (body : ReqBody) (found : Option Meta) (old now : Facts) → now ≡ old → body_verdict now.bodies target body found ≡ body_verdict old.bodies target body found
same_verdict target body found old now fixed = ap (λ (f : Facts). body_verdict f.bodies target body found) fixed

-- ---- the rules together

module _ (held : Bodies) (partial : Bool) (request : DavRequest) (state : State) (old mid new : Store) (looked : Result Meta FsError) (looks : Judges (look_up_result state.contents request.path.key) old (Ok looked) mid) where
  -- the headers refuse it, by the exit of a `?`
  pub put_unaimed : (e : DavError) (verdict : Result (Option Meta) DavError) → IsErrAnd verdict (λ d. d ≡ e) → Err e ≡ target_of partial request.headers looked → Judges (put_rules held partial request state) old verdict mid
  put_unaimed e verdict exit is =
      judges_then _ (look_up_result state.contents request.path.key) old mid mid looked verdict looks
      (judges_exit _ (judged (target_of partial request.headers looked)) mid mid e verdict exit (judges_known _ (Err e) mid (sym is)))

  module _ (target : Target) (aimed : Ok target ≡ target_of partial request.headers looked) where
    after_aim : (verdict : Result (Option Meta) DavError)
        → Judges (refusing closing (path_rules request state (result_ok looked)) >>= (λ found. judged (body_verdict held target request.body found))) mid verdict new → Judges (put_rules held partial request state) old verdict new
    after_aim verdict rest =
        judges_then _ (look_up_result state.contents request.path.key) old mid new looked verdict looks
        (judges_then _ (judged (target_of partial request.headers looked)) mid mid new target verdict (judges_known _ (Ok target) mid (sym aimed)) rest)

    -- a condition or a lock refuses it
    pub put_unheld : (e : DavError) (verdict : Result (Option Meta) DavError) → IsErrAnd verdict (λ d. d ≡ e) → Judges (refusing closing (path_rules request state (result_ok looked))) mid (Err e) new
        → Judges (put_rules held partial request state) old verdict new
    put_unheld e verdict exit rules = after_aim verdict (judges_exit _ (refusing closing (path_rules request state (result_ok looked))) mid new e verdict exit rules)

    -- the body decides
    pub put_held : (found : Option Meta) (verdict : Result (Option Meta) DavError) → Judges (refusing closing (path_rules request state (result_ok looked))) mid (Ok found) new
        → verdict ≡ body_verdict held target request.body found → Judges (put_rules held partial request state) old verdict new
    put_held found verdict rules is =
        after_aim verdict
        (judges_then _ (refusing closing (path_rules request state (result_ok looked))) mid new new found verdict rules
        (judges_known _ verdict new (sym is)))

-- what passes, put in another way, is what passed
pub closed_found : (change : DavError → DavError) (verdict : Result (Option Meta) DavError) (found looked : Option Meta) → map_error change verdict ≡ Ok found → IfOk verdict (λ passed. passed ≡ looked) → found ≡ looked
closed_found change (Ok passed) found looked is same = let p : passed ≡ found = cc in sym p ∙ same
closed_found change (Err e) found looked is same = absurd cc

-- the verdict of the exit of a `?`
pub exit_is : {A : Type 0} (verdict : Result A DavError) (e : DavError) → IsErrAnd verdict (λ d. d ≡ e) → verdict ≡ Err e
exit_is verdict e exit = let p = err_from_is_err_and verdict exit in p.1 ∙ ap Err p.2
