-- Laws: no rule that is for a caller with a name drops out, and a caller that is barred may do nothing.
use Rattle.std.proofs.Common.{◌≡◌, ℕ, Bool, true, false, not, ◌&&◌, ◌||◌, List, [], ◌∷◌, bytes_eq, codes, if◌then◌else◌, Option, Some, None, is_some, refl}
use Rattle.std.specs.List.{list_all, list_any}
use Rattle.std.proofs.lemmas.Bool.{and_from}
use Rattle.dav_key.specs.Key.{Key}
use Rattle.dav_resource.specs.PathText.{is_segment}
use Rattle.dav_rights.specs.Rights.{nothing, explanation}
use Rattle.dav_rights.specs.Rules.{Caller, is_for, own_segment, joined, key_for, has_user_segment, is_by_name, is_barred, rules_for}
use Rattle.dav_rights.specs.declared.rules.WrittenRule.{WrittenRule}

-- a caller that is barred may do nothing anywhere, and no rule decides
pub barred_may_nothing : (caller : Caller) (rules : List WrittenRule) (key : Key) → is_barred caller rules ≡ true → explanation key (rules_for caller rules) ≡ record { rule = None; allowed = nothing }
barred_may_nothing caller rules key barred = rw barred refl

-- if the rule is for the caller, it has a path for it, and so it applies
abbrev pub applies_if_for : Caller → WrittenRule → Bool
applies_if_for caller written = not (is_for caller written.who) || is_some (key_for caller written.key)

neither : (a b : Bool) → (a || b) ≡ false → (a ≡ false) × (b ≡ false)
neither true b none = absurd (cc)
neither false b none = (refl, none)

joined-some : (segment : Option (List ℕ)) (rest : Option Key) → is_some segment ≡ true → is_some rest ≡ true → is_some (joined segment rest) ≡ true
joined-some None rest first others = absurd (cc)
joined-some (Some segment) None first others = absurd (cc)
joined-some (Some segment) (Some rest) first others = refl

-- a name that may be a segment gives each path a key
key_for-named : (name : List ℕ) → is_segment name ≡ true → (key : Key) → is_some (key_for (Some name) key) ≡ true
key_for-named name may [] = refl
key_for-named name may (segment ∷ rest) =
    joined-some (if bytes_eq segment (codes "{user}") then own_segment (Some name) else Some segment) (key_for (Some name) rest) (by_user (bytes_eq segment (codes "{user}"))) (key_for-named name may rest)
  where
    by_user : (b : Bool) → is_some (if b then own_segment (Some name) else Some segment) ≡ true
    by_user true = rw may refl
    by_user false = refl

-- a path without `{user}` is a key for everyone
key_for-plain : (caller : Caller) (key : Key) → has_user_segment key ≡ false → is_some (key_for caller key) ≡ true
key_for-plain caller [] plain = refl
key_for-plain caller (segment ∷ rest) plain =
    let both = neither (bytes_eq segment (codes "{user}")) (has_user_segment rest) plain in
    joined-some (if bytes_eq segment (codes "{user}") then own_segment caller else Some segment) (key_for caller rest) (rw both.0 refl) (key_for-plain caller rest both.1)

or-right : (a b : Bool) → b ≡ true → (a || b) ≡ true
or-right true b is = refl
or-right false b is = is

applies-named : (name : List ℕ) → is_segment name ≡ true → (rules : List WrittenRule) → list_all (applies_if_for (Some name)) rules ≡ true
applies-named name may [] = refl
applies-named name may (written ∷ rest) =
    let here = or-right (not (is_for (Some name) written.who)) (is_some (key_for (Some name) written.key)) (key_for-named name may written.key) in
    and_from (applies_if_for (Some name) written) (list_all (applies_if_for (Some name)) rest) here (applies-named name may rest)

applies-plain : (caller : Caller) (rules : List WrittenRule) → list_any (is_by_name caller) rules ≡ false → list_all (applies_if_for caller) rules ≡ true
applies-plain caller [] none = refl
applies-plain caller (written ∷ rest) none =
    let both = neither (is_by_name caller written) (list_any (is_by_name caller) rest) none in
    and_from (applies_if_for caller written) (list_all (applies_if_for caller) rest) (by_who (is_for caller written.who) both.0) (applies-plain caller rest both.1)
  where
    by_who : (b : Bool) → (b && has_user_segment written.key) ≡ false → (not b || is_some (key_for caller written.key)) ≡ true
    by_who true plain = key_for-plain caller written.key plain
    by_who false plain = refl

-- a caller with a name is barred, or each rule that is for it applies to it
pub each_applies : (name : List ℕ) (rules : List WrittenRule) → is_barred (Some name) rules ≡ false → list_all (applies_if_for (Some name)) rules ≡ true
each_applies name rules free = by_name (is_segment name) refl
  where
    by_name : (b : Bool) → is_segment name ≡ b → list_all (applies_if_for (Some name)) rules ≡ true
    by_name true may = applies-named name may rules
    by_name false may = applies-plain (Some name) rules (rw may at free)
