-- The lists of the header If are read as the grammar says.
use Rattle.std.proofs.Common.{◌≡◌, ◌≢◌, ◌∙◌, ◌<◌, ℕ, Bool, true, false, List, [], ◌∷◌, ◌++◌, length, Option, Some, None, option_map, option_and_then, refl, ap, subst, arith, length-append}
use Rattle.dav_headers.specs.Repeated.{all_of}
use Rattle.dav_headers.specs.IfHeader.{item_of, with_condition, conditions_of, enclosed, with_tag, first_list, some_lists, lists_of}
use Rattle.dav_headers.specs.IfGrammar.{IsItem, coded, plain, tagged, Conditions, no_condition, condition, negated, behind, AreLists, no_list, list}
use Rattle.dav_headers.specs.declared.if_token.IfToken.{IfToken}
use Rattle.dav_headers.specs.declared.if_token.IfToken.TheVariants.{Open, Close, Not, Angle, Bracket, Word}
use Rattle.dav_headers.specs.declared.if_header.IfItem.{IfItem}
use Rattle.dav_headers.specs.declared.if_header.IfCondition.{IfCondition}
use Rattle.dav_headers.specs.declared.if_header.IfList.{IfList}
use Rattle.dav_headers.proofs.OptionLemmas.{option_map-some, option_and_then-some}
use Rattle.dav_headers.proofs.RepeatedLemmas.{IsShortening, Repeats, done, more, all_of-repeats, repeats-all_of}

-- ---- conditions

-- the tokens with a `Not` before them, where one stands there
abbrev marked : Bool → List IfToken → List IfToken
marked true tokens = Not ∷ tokens
marked false tokens = tokens

-- these conditions stand up to a `)`, and then this rest
record IsEnclosed (after_not : Bool) (tokens : List IfToken) (conditions : List IfCondition) (rest : List IfToken) : Type 0 where
  pub inside : List IfToken
  pub whole : tokens ≡ inside ++ Close ∷ rest
  pub spelled : Conditions (marked after_not inside) conditions

item_found : (t : IfToken) (it : IfItem) → item_of t ≡ Some it → IsItem t it
item_found (Angle text) it e = subst (IsItem (Angle text)) (let f = e in cc) (coded text)
item_found (Word text) it e = subst (IsItem (Word text)) (let f = e in cc) (plain text)
item_found (Bracket tag) it e = subst (IsItem (Bracket tag)) (let f = e in cc) (tagged tag)
item_found Open it e = absurd cc
item_found Close it e = absurd cc
item_found Not it e = absurd cc

spelled_next : (after_not : Bool) (t : IfToken) (it : IfItem) (inside : List IfToken) (others : List IfCondition) → IsItem t it → Conditions inside others → Conditions (marked after_not (t ∷ inside)) (record { not = after_not; item = it } ∷ others)
spelled_next true t it inside others is inner = negated t it inside others is inner
spelled_next false t it inside others is inner = condition t it inside others is inner

one_found : (after_not : Bool) (t : IfToken) (tokens : List IfToken) (found : List IfCondition × List IfToken) → with_condition after_not (item_of t) (conditions_of false tokens) ≡ Some found
    → ((f : List IfCondition × List IfToken) → conditions_of false tokens ≡ Some f → IsEnclosed false tokens f.0 f.1) → IsEnclosed after_not (t ∷ tokens) found.0 found.1
one_found after_not t tokens found e inner =
    let chained = option_and_then-some (λ it. option_map (λ f. (record { not = after_not; item = it } ∷ f.0, f.1)) (conditions_of false tokens)) (item_of t) found e in
    let mapped = option_map-some (λ f. (record { not = after_not; item = chained.from } ∷ f.0, f.1)) (conditions_of false tokens) found chained.is in
    let others = inner mapped.from mapped.was in
    subst (λ f. IsEnclosed after_not (t ∷ tokens) f.0 f.1) mapped.is
    (record {
      inside = t ∷ others.inside;
      whole = ap (λ ts. t ∷ ts) others.whole;
      spelled = spelled_next after_not t chained.from others.inside mapped.from.0 (item_found t chained.from chained.was) others.spelled;
    })

conditions_found : (after_not : Bool) (tokens : List IfToken) (found : List IfCondition × List IfToken) → conditions_of after_not tokens ≡ Some found → IsEnclosed after_not tokens found.0 found.1
conditions_found after_not [] found e = absurd cc
conditions_found false (Close ∷ tokens) found e =
    let same : ([], tokens) ≡ found = (let f = e in cc) in
    subst (λ f. IsEnclosed false (Close ∷ tokens) f.0 f.1) same (record { inside = []; whole = refl; spelled = no_condition })
conditions_found false (Not ∷ tokens) found e =
    let inner = conditions_found true tokens found e in
    record { inside = Not ∷ inner.inside; whole = ap (λ ts. Not ∷ ts) inner.whole; spelled = inner.spelled }
conditions_found after_not (t ∷ tokens) found e = one_found after_not t tokens found e (λ f g. conditions_found false tokens f g)

conditions_spelled : (inside : List IfToken) (conditions : List IfCondition) (rest : List IfToken) → Conditions inside conditions → conditions_of false (inside ++ Close ∷ rest) ≡ Some (conditions, rest)
conditions_spelled _ _ rest no_condition = refl
conditions_spelled _ _ rest (condition _ _ inside others (coded text) inner) = rw (conditions_spelled inside others rest inner) refl
conditions_spelled _ _ rest (condition _ _ inside others (plain text) inner) = rw (conditions_spelled inside others rest inner) refl
conditions_spelled _ _ rest (condition _ _ inside others (tagged tag) inner) = rw (conditions_spelled inside others rest inner) refl
conditions_spelled _ _ rest (negated _ _ inside others (coded text) inner) = rw (conditions_spelled inside others rest inner) refl
conditions_spelled _ _ rest (negated _ _ inside others (plain text) inner) = rw (conditions_spelled inside others rest inner) refl
conditions_spelled _ _ rest (negated _ _ inside others (tagged tag) inner) = rw (conditions_spelled inside others rest inner) refl

-- ---- a list

-- the tokens are `(`, these conditions, `)` and this rest, behind this tag where there is one
record IsListed (tag : Option (List ℕ)) (tokens : List IfToken) (conditions : List IfCondition) (rest : List IfToken) : Type 0 where
  pub inside : List IfToken
  pub whole : tokens ≡ behind tag (Open ∷ (inside ++ Close ∷ rest))
  pub spelled : Conditions inside conditions

enclosed-found : (tokens : List IfToken) (found : List IfCondition × List IfToken) → enclosed tokens ≡ Some found → IsListed None tokens found.0 found.1
enclosed-found [] found e = absurd cc
enclosed-found (Open ∷ tokens) found e =
    let inner = conditions_found false tokens found e in
    record { inside = inner.inside; whole = ap (λ ts. Open ∷ ts) inner.whole; spelled = inner.spelled }
enclosed-found (t ∷ tokens) found e = absurd cc

bare_found : (tokens : List IfToken) (found : IfList × List IfToken) → option_map (with_tag None) (enclosed tokens) ≡ Some found → IsListed found.0.resource_tag tokens found.0.conditions found.1
bare_found tokens found e =
    let mapped = option_map-some (with_tag None) (enclosed tokens) found e in
    subst (λ f. IsListed f.0.resource_tag tokens f.0.conditions f.1) mapped.is (enclosed-found tokens mapped.from mapped.was)

first_list-found : (tokens : List IfToken) (found : IfList × List IfToken) → first_list tokens ≡ Some found → IsListed found.0.resource_tag tokens found.0.conditions found.1
first_list-found [] found e = absurd cc
first_list-found (Angle text ∷ tokens) found e =
    let mapped = option_map-some (with_tag (Some text)) (enclosed tokens) found e in
    let inner = enclosed-found tokens mapped.from mapped.was in
    subst (λ f. IsListed f.0.resource_tag (Angle text ∷ tokens) f.0.conditions f.1) mapped.is
    (record { inside = inner.inside; whole = ap (λ ts. Angle text ∷ ts) inner.whole; spelled = inner.spelled })
first_list-found (t ∷ tokens) found e = bare_found (t ∷ tokens) found e

listed_shorter : (tag : Option (List ℕ)) (tokens inside rest : List IfToken) → tokens ≡ behind tag (Open ∷ (inside ++ Close ∷ rest)) → length rest < length tokens
listed_shorter None tokens inside rest whole = rw whole (omega (arith, length-append inside (Close ∷ rest)))
listed_shorter (Some text) tokens inside rest whole = rw whole (omega (arith, length-append inside (Close ∷ rest)))

pub first_list-shortens : IsShortening first_list
first_list-shortens =
    record {
      shorter = λ tokens found e.
          let is = first_list-found tokens found e in
          listed_shorter found.0.resource_tag tokens is.inside found.1 is.whole;
    }

-- ---- where there is one at all

pub some_lists-found : (lists : List IfList) → 0 < length lists → some_lists lists ≡ Some lists
some_lists-found [] some = absurd (omega arith)
some_lists-found (l ∷ lists) some = refl

pub some_lists-none : (lists : List IfList) → length lists ≡ 0 → some_lists lists ≡ None
some_lists-none [] none = refl
some_lists-none (l ∷ lists) none = absurd (omega arith)

-- lists, of which there is one at least
record IsSome (xs lists : List IfList) : Type 0 where
  pub is : xs ≡ lists
  pub some : lists ≢ []

some_lists-is : (xs lists : List IfList) → some_lists xs ≡ Some lists → IsSome xs lists
some_lists-is [] lists e = absurd cc
some_lists-is (x ∷ xs) lists e = record { is = cc; some = λ none. cc }

some_lists-some : (lists : List IfList) → lists ≢ [] → some_lists lists ≡ Some lists
some_lists-some [] some = absurd (some refl)
some_lists-some (l ∷ lists) some = refl

-- ---- what is read is in the grammar

lists_read : (tokens : List IfToken) (lists : List IfList) → Repeats first_list tokens lists → AreLists tokens lists
lists_read _ _ done = no_list
lists_read tokens _ (more _ found lists e some others) =
    let is = first_list-found tokens found e in
    list found.0.resource_tag tokens is.inside found.1 found.0.conditions lists is.whole is.spelled (lists_read found.1 lists others)

pub record IsRead (tokens : List IfToken) (lists : List IfList) : Type 0 where
  pub listed : AreLists tokens lists
  pub some : lists ≢ []

pub lists_of-found : (tokens : List IfToken) (lists : List IfList) → lists_of tokens ≡ Some lists → IsRead tokens lists
lists_of-found tokens lists e =
    let chained = option_and_then-some some_lists (all_of first_list tokens) lists e in
    let one = some_lists-is chained.from lists chained.is in
    record {
      listed = subst (AreLists tokens) one.is (lists_read tokens chained.from (all_of-repeats first_list tokens chained.from chained.was));
      some = one.some;
    }

-- ---- what is in the grammar is read

first_list-spelled : (tag : Option (List ℕ)) (inside rest : List IfToken) (conditions : List IfCondition) → Conditions inside conditions
    → first_list (behind tag (Open ∷ (inside ++ Close ∷ rest))) ≡ Some (record { resource_tag = tag; conditions = conditions }, rest)
first_list-spelled None inside rest conditions spelled = rw (conditions_spelled inside conditions rest spelled) refl
first_list-spelled (Some text) inside rest conditions spelled = rw (conditions_spelled inside conditions rest spelled) refl

lists_spelled : (tokens : List IfToken) (lists : List IfList) → AreLists tokens lists → Repeats first_list tokens lists
lists_spelled _ _ no_list = done
lists_spelled _ _ (list tag tokens inside rest conditions others whole spelled inner) =
    let lt = listed_shorter tag tokens inside rest whole in
    more tokens (record { resource_tag = tag; conditions = conditions }, rest) others (rw whole (first_list-spelled tag inside rest conditions spelled)) (omega arith)
    (lists_spelled rest others inner)

pub lists_of-listed : (tokens : List IfToken) (lists : List IfList) → AreLists tokens lists → lists ≢ [] → lists_of tokens ≡ Some lists
lists_of-listed tokens lists listed some =
    ap (option_and_then some_lists) (repeats-all_of first_list first_list-shortens tokens lists (lists_spelled tokens lists listed)) ∙ some_lists-some lists some
