-- What a move asks of a resource holds of all below it.
use Rattle.std.proofs.Common.{◌≡◌, ◌∙◌, ◌≤◌, Bool, true, false, not, ◌&&◌, ◌||◌, List, [], length, append-nil, Option, Some, None, refl, sym, subst, arith}
use Rattle.std.proofs.lemmas.Bool.Decides.{nat_tests}
use Rattle.std.specs.Prelude.{nat_lt}
use Rattle.std.specs.List.{list_all}
use Rattle.std.proofs.lemmas.Bool.{and_parts, and_from}
use Rattle.dav_key.specs.Key.{Key}
use Rattle.dav_key.specs.Below.{is_at_or_below}
use Rattle.dav_key.specs.Flat.{flat}
use Rattle.dav_rights.specs.declared.rule.Rule.{Rule}
use Rattle.dav_resource.specs.declared.record.Op.TheVariants.{Rename}
use Rattle.dav_rights.specs.declared.rights.Need.{Need}
use Rattle.dav_rights.specs.declared.rights.Need.TheVariants.{Take, Make}
use Rattle.dav_rights.specs.Rights.{covers, deciding, decide, allowed_by, may_read, may_write, lets, lets_at, lets_if_below, lets_below, permits_between}
use Rattle.dav_rights.specs.Prefixes.{Begins, begins, below_of, begins-trans, longer_begins, flat_le, not_longer}
use Rattle.dav_rights.specs.Decisions.{IsAmong, all_at, agree, DecidesAs, decides}

same_bool : (a b : Bool) → (a ≡ true → b ≡ true) → (b ≡ true → a ≡ true) → a ≡ b
same_bool true true f g = refl
same_bool true false f g = sym (f refl)
same_bool false true f g = g refl
same_bool false false f g = refl

or_none : (a b : Bool) → (a || b) ≡ true → b ≡ false → a ≡ true
or_none true b is bare = refl
or_none false b is bare = absurd (let e : true ≡ false = sym is ∙ bare in cc)

or_first : (a b : Bool) → a ≡ true → (a || b) ≡ true
or_first true b is = refl
or_first false b is = absurd (cc)

false_of : (b : Bool) → (b ≡ true → ⊥) → b ≡ false
false_of true never = absurd (never refl)
false_of false never = refl

module _ (rules : List Rule) (k : Key) where
  -- the rules below a place that cover a key below it: those that cover the key and have no longer path than the place
  module _ (p : Key) (below : Begins k p) (apart : is_at_or_below p k ≡ false) (short : (rule : Rule) → IsAmong rule rules → covers false k rule ≡ true → length (flat rule.key) ≤ length (flat p)) where
    up : (rule : Rule) → covers true p rule ≡ true → covers false k rule ≡ true
    up rule is =
        let parts = and_parts (is_at_or_below p rule.key) (rule.below || false) is in
        let whole = begins-trans k p rule.key below (begins p rule.key parts.0) in
        and_from _ _ (below_of k rule.key whole) (or_first rule.below (true && is_at_or_below rule.key k) (or_none rule.below false parts.1 refl))

    down : (rule : Rule) → IsAmong rule rules → covers false k rule ≡ true → covers true p rule ≡ true
    down rule within is =
        let parts = and_parts (is_at_or_below k rule.key) (rule.below || true && is_at_or_below rule.key k) is in
        let at = longer_begins k rule.key p (begins k rule.key parts.0) below (short rule within is) in
        let other : is_at_or_below rule.key k ≡ false = false_of (is_at_or_below rule.key k) (λ yes.
        let same : k ≡ p = not_longer k p below (let le = flat_le rule.key k (begins rule.key k yes) in let most = short rule within is in omega (arith, le, most)) in
        let none : is_at_or_below p k ≡ true = subst (λ q. is_at_or_below q k ≡ true) same (below_of k k (record { rest = []; is = sym (append-nil k) })) in
        absurd (let e : true ≡ false = sym none ∙ apart in cc)) in
        and_from _ _ (below_of p rule.key at) (or_first rule.below false (or_none rule.below (true && is_at_or_below rule.key k) parts.1 other))

    same_rule : deciding true p rules ≡ deciding false k rules
    same_rule = agree true false p k rules (λ rule within. same_bool (covers true p rule) (covers false k rule) (up rule) (down rule within))

module _ (need : Need) (rules : List Rule) (k : Key) where
  -- what is asked at a place holds of the key, if no rule that covers the key has a longer path than the place
  at_place : (p : Key) → Begins k p → ((rule : Rule) → IsAmong rule rules → covers false k rule ≡ true → length (flat rule.key) ≤ length (flat p))
      → lets need (decide false p rules) ≡ true → lets need (decide true p rules) ≡ true → lets need (decide false k rules) ≡ true
  at_place p below short own under = by_test (is_at_or_below p k) refl
    where
      by_test : (b : Bool) → is_at_or_below p k ≡ b → lets need (decide false k rules) ≡ true
      by_test true is = subst (λ q. lets need (decide false q rules) ≡ true) (not_longer p k (begins p k is) (flat_le k p below)) own
      by_test false is = subst (λ o. lets need (allowed_by o) ≡ true) (same_rule rules k p below is short) under

  -- a move that is allowed at a resource is allowed at each one below it
  pub lets_below-each : (key : Key) → lets_below need rules key ≡ true → is_at_or_below k key ≡ true → lets need (decide false k rules) ≡ true
  lets_below-each key ok below = by_deciding (deciding false k rules) (decides false k rules)
    where
      parts : (lets_at need rules key ≡ true) × (list_all (lets_if_below need rules key) rules ≡ true)
      parts = and_parts (lets_at need rules key) (list_all (lets_if_below need rules key) rules) ok

      both : (p : Key) → lets_at need rules p ≡ true → (lets need (decide false p rules) ≡ true) × (lets need (decide true p rules) ≡ true)
      both p is = and_parts (lets need (decide false p rules)) (lets need (decide true p rules)) is

      at_key : ((rule : Rule) → IsAmong rule rules → covers false k rule ≡ true → length (flat rule.key) ≤ length (flat key)) → lets need (decide false k rules) ≡ true
      at_key short = at_place key (begins k key below) short (both key parts.0).0 (both key parts.0).1

      by_deciding : (o : Option Rule) → DecidesAs false k rules o → lets need (decide false k rules) ≡ true
      by_deciding None none = at_key (λ rule within yes. absurd (let no : true ≡ false = sym yes ∙ none rule within in cc))
      by_deciding (Some r) d = by_place (is_at_or_below r.key key) refl
        where
          above : Begins k r.key
          above = begins k r.key (and_parts (is_at_or_below k r.key) (r.below || true && is_at_or_below r.key k) d.covers_it).0

          by_length : (b : Bool) → nat_lt (length (flat key)) (length (flat r.key)) ≡ b → is_at_or_below r.key key ≡ false → length (flat r.key) ≤ length (flat key)
          by_length true less bare =
              let at : is_at_or_below r.key key ≡ true = below_of r.key key (longer_begins k key r.key (begins k key below) above (grind (arith, nat_tests))) in
              absurd (let e : true ≡ false = sym at ∙ bare in cc)
          by_length false less bare = grind (arith, nat_tests)

          by_place : (b : Bool) → is_at_or_below r.key key ≡ b → lets need (decide false k rules) ≡ true
          by_place true is =
              let asked : (not (is_at_or_below r.key key) || lets_at need rules r.key) ≡ true = all_at (lets_if_below need rules key) rules r parts.1 d.among in
              let here : lets_at need rules r.key ≡ true = subst (λ b. (not b || lets_at need rules r.key) ≡ true) is asked in
              at_place r.key above d.longest (both r.key here).0 (both r.key here).1
          by_place false bare = at_key (λ rule within yes. let most = d.longest rule within yes in let less = by_length (nat_lt (length (flat key)) (length (flat r.key))) refl bare in omega (arith, most, less))

-- ---- renames

module _ (rules : List Rule) (from to key : Key) (ok : permits_between rules Rename from to ≡ true) where
  sides : (lets_below Take rules from ≡ true) × (lets_below Make rules to ≡ true)
  sides = and_parts (lets_below Take rules from) (lets_below Make rules to) ok

  moved : is_at_or_below key from ≡ true → (may_read key rules ≡ true) × (may_write key rules ≡ true)
  moved below = and_parts (may_read key rules) (may_write key rules) (lets_below-each Take rules key from sides.0 below)

  -- a caller may read all that it moves away
  pub renames-read : is_at_or_below key from ≡ true → may_read key rules ≡ true
  renames-read below = (moved below).0

  -- a caller may write at all that it moves away, and at all that it makes
  pub renames-write : (is_at_or_below key from || is_at_or_below key to) ≡ true → may_write key rules ≡ true
  renames-write is = by_side (is_at_or_below key from) refl is
    where
      by_side : (b : Bool) → is_at_or_below key from ≡ b → (b || is_at_or_below key to) ≡ true → may_write key rules ≡ true
      by_side true below is = (moved below).1
      by_side false below is = lets_below-each Make rules key to sides.1 is
