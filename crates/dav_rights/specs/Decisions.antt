-- The rule that decides.
use Rattle.std.proofs.Common.{◌≡◌, ◌∙◌, ◌≤◌, Bool, true, false, List, [], ◌∷◌, length, Option, Some, None, ◌⊎◌, inl, inr, refl, sym, ap, subst, arith, if◌then◌else◌}
use Rattle.std.specs.List.{list_all}
use Rattle.std.proofs.lemmas.Bool.{and_parts}
use Rattle.std.proofs.lemmas.Bool.Decides.{nat_tests}
use Rattle.dav_key.specs.Key.{Key}
use Rattle.dav_key.specs.Flat.{flat}
use Rattle.dav_rights.specs.declared.rule.Rule.{Rule}
use Rattle.dav_rights.specs.Rights.{covers, gives_way, longer_of, deciding}

-- the rule is one of these
abbrev pub IsAmong : Rule → List Rule → Type 0
IsAmong rule [] = ⊥
IsAmong rule (first ∷ rules) = (rule ≡ first) ⊎ IsAmong rule rules

pub all_at : (q : Rule → Bool) (rules : List Rule) (rule : Rule) → list_all q rules ≡ true → IsAmong rule rules → q rule ≡ true
all_at q [] rule all within = absurd within
all_at q (first ∷ rules) rule all (inl same) = ap q same ∙ (and_parts (q first) (list_all q rules) all).0
all_at q (first ∷ rules) rule all (inr within) = all_at q rules rule (and_parts (q first) (list_all q rules) all).1 within

-- where two questions have the same answer for each rule, the same rule decides
pub agree : (s t : Bool) (k l : Key) (rules : List Rule) → ((rule : Rule) → IsAmong rule rules → covers s k rule ≡ covers t l rule) → deciding s k rules ≡ deciding t l rules
agree s t k l [] same = refl
agree s t k l (rule ∷ rules) same =
    λ i. longer_of (if same rule (inl refl) i then Some rule else None) (agree s t k l rules (λ r within. same r (inr within)) i)

-- the rule covers the key, is one of these, and has the longest key of those that cover it
pub record Decides (strict : Bool) (key : Key) (rules : List Rule) (rule : Rule) : Type 0 where
  pub covers_it : covers strict key rule ≡ true
  pub among : IsAmong rule rules
  pub longest : (other : Rule) → IsAmong other rules → covers strict key other ≡ true → length (flat other.key) ≤ length (flat rule.key)

-- no rule covers the key, or the deciding one does
abbrev pub DecidesAs : Bool → Key → List Rule → Option Rule → Type 0
DecidesAs strict key rules None = (other : Rule) → IsAmong other rules → covers strict key other ≡ false
DecidesAs strict key rules (Some rule) = Decides strict key rules rule

module _ (strict : Bool) (key : Key) where
  neither : (first : Rule) (rules : List Rule) → covers strict key first ≡ false → DecidesAs strict key rules None → DecidesAs strict key (first ∷ rules) None
  neither first rules bare none other (inl same) = ap (covers strict key) same ∙ bare
  neither first rules bare none other (inr within) = none other within

  later : (first : Rule) (rules : List Rule) (rule : Rule) → (covers strict key first ≡ true → length (flat first.key) ≤ length (flat rule.key)) → Decides strict key rules rule → Decides strict key (first ∷ rules) rule
  later first rules rule short d = record { covers_it = d.covers_it; among = inr d.among; longest = longest }
    where
      longest : (other : Rule) → IsAmong other (first ∷ rules) → covers strict key other ≡ true → length (flat other.key) ≤ length (flat rule.key)
      longest other (inl same) is = subst (λ r. length (flat r.key) ≤ length (flat rule.key)) (sym same) (short (ap (covers strict key) (sym same) ∙ is))
      longest other (inr within) is = d.longest other within is

  at_first : (first : Rule) (rules : List Rule) → covers strict key first ≡ true → ((other : Rule) → IsAmong other rules → covers strict key other ≡ true → length (flat other.key) ≤ length (flat first.key)) → Decides strict key (first ∷ rules) first
  at_first first rules is short = record { covers_it = is; among = inl refl; longest = longest }
    where
      longest : (other : Rule) → IsAmong other (first ∷ rules) → covers strict key other ≡ true → length (flat other.key) ≤ length (flat first.key)
      longest other (inl same) is = subst (λ r. length (flat r.key) ≤ length (flat first.key)) (sym same) (omega arith)
      longest other (inr within) is = short other within is

  by_tests : (first : Rule) (rules : List Rule) (b : Bool) (o : Option Rule) → covers strict key first ≡ b → DecidesAs strict key rules o → DecidesAs strict key (first ∷ rules) (longer_of (if b then Some first else None) o)
  by_tests first rules false None is d = neither first rules is d
  by_tests first rules false (Some rule) is d = later first rules rule (λ yes. absurd (let no : true ≡ false = sym yes ∙ is in cc)) d
  by_tests first rules true None is d = at_first first rules is (λ other within yes. absurd (let no : true ≡ false = sym yes ∙ d other within in cc))
  by_tests first rules true (Some rule) is d = by_length (gives_way first rule) refl
    where
      by_length : (g : Bool) → gives_way first rule ≡ g → DecidesAs strict key (first ∷ rules) (if g then Some rule else Some first)
      by_length true less = later first rules rule (λ yes. grind (arith, nat_tests)) d
      by_length false less = at_first first rules is (λ other within yes. let most = d.longest other within yes in grind (arith, nat_tests))

  pub decides : (rules : List Rule) → DecidesAs strict key rules (deciding strict key rules)
  decides [] = λ other within. absurd within
  decides (first ∷ rules) = by_tests first rules (covers strict key first) (deciding strict key rules) refl (decides rules)
